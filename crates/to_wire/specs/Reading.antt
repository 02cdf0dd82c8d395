-- How questions, records and elements are read, judged and written.
use Rattle.std.specs.Prelude.{◌≡◌, refl, Bool, true, false, cond, ◌&&◌, List, [], ◌++◌, ℕ, ◌+◌, ◌-◌, ◌≤◌}
use Rattle.std.specs.Prelude.{◌<◌, T, eqb, length, take, drop, Result, Ok, Err, IfOk, Option, Some, None}
use Rattle.std.specs.Int.{bytes_high_first}
use Rattle.std.specs.Option.{option_map}
use Rattle.std.proofs.Common.{sym, ◌∙◌, ap, subst, append_assoc, arith, lt→ltb}
use Rattle.std.proofs.Math.Bool.{and-true, and_assoc}
use Rattle.octets.specs.Lists.{ascii, all, none?, Octets, u8?, u16?, u32?, paired}
use Rattle.octets.specs.Bits.{is_true, and_left, and_right, octets_test}
use Rattle.octets.specs.Fields.{be16, be32}
use Rattle.octets.specs.Parsed.{Parsed, parsed, failed, and_then, strip}
use Rattle.octets.specs.Codec.{◌▷◌, ◌⊗◌, ◌◁◌}
use Rattle.octets.specs.Decimal.{natural, number, number_then}
use Rattle.octets.specs.Hexadecimal.{hex}
use Rattle.names.specs.Name.{Name, name?, name_form}
use Rattle.records.specs.Layout.{laid, laid?, rdata_at, rdata_fits?}
use Rattle.records.proofs.Pieces.{layout_beyond}
use Rattle.records.specs.Message.{record?, question?, question_form, record_form, opt?}
use Rattle.spelling.specs.Spelling.{Signed}
use Rattle.edns.specs.Element.{shows_edns, shows_edns_lem}
use Rattle.hex_or_octets.specs.declared.HexDigits.{HexDigits}
use Rattle.json_text.specs.Document.{RecordItem}
use Rattle.strict.specs.Grammar.{SignedNumber}
use Rattle.strict.specs.Spelt.{name, signed_number}
use Rattle.strict.specs.Parser.{question_from, RecordParts, record_from, question_codec, record_codec}
use Rattle.strict.specs.Meaning.{item_record, ttl?, unsigned}
use Rattle.strict.proofs.MeaningLaws.{unsigned_back}
use Rattle.parse_tokens.specs.declared.Cursor.{Cursor}
use Rattle.parse_tokens.specs.Cursor.{Reached, Between, between_as, Alike, Passed, passed_stays, keeps_then}
use Rattle.parse_tokens.specs.Step.{Found, found_as, found_stays, found_sound, found_lit, found_map}
use Rattle.parse_tokens.specs.Step.{found_behind, found_pair, found_at, Put, put_then, put_from, put_to, put_as}
use Rattle.parse_tokens.specs.Step.{put_nothing, put_judged, put_emit, Puts, Step, step_lit, step_pair, step_behind}
use Rattle.parse_tokens.specs.Step.{step_on, Judged, Emits}
use Rattle.parse_tokens.specs.Value.{reached}
use Rattle.parse_tokens.specs.Number.{capped, capped_is, NumberRead}
use Rattle.parse_tokens.specs.Signed.{ttl_bits, SignedRead}
use Rattle.parse_tokens.specs.Hex.{HexRead}
use Rattle.parse_tokens.specs.Fields.{Done, number_octets, FieldPut, word_done, ttl_done}
use Rattle.to_wire.specs.Kept.{Told, told_stop, told_from, Kept, kept_stop, kept_stays, puts_from, puts_to}
use Rattle.to_wire.specs.Kept.{puts_then}
use Rattle.to_wire.specs.Name.{NameRead}
use Rattle.to_wire.specs.Meant.{record_meant?, record_octets, hides?}
use Rattle.to_wire.specs.declared.entries.Entry.{Entry}

-- ---- a number of two octets
abbrev pub WordRead : List ℕ → Reached → List ℕ → Result (Cursor × ℕ) ℕ → List ℕ → Type 0
WordRead t c b r b' = Kept natural (λ c x n. Put u16? be16 c b x.0 b' n × (x.1 ≡ capped n)) t c r

pub word_read : {t : List ℕ} {c d r : Cursor} {v : ℕ} {b b' : List ℕ} → NumberRead t c (Ok (d, v))
    → FieldPut (number_octets 2 v) d b r b' → WordRead t (Ok c) b (Ok (r, v)) b'
word_read x w =
    let d = word_done x.keeps.moves.within.0.room w in
    record {
      found = found_at x.found d.at d.room λ m e.
          record { holds = (put_from x.keeps.alike.holds (d.put m e), e) };
    }

pub word_stop : {t : List ℕ} {c : Cursor} {n : ℕ} {b b' : List ℕ} → NumberRead t c (Err n)
    → WordRead t (Ok c) b (Err n) b'
word_stop x = kept_stop x.found

pub word_stays : (t b : List ℕ) {n : ℕ} → WordRead t (Err n) b (Err n) b
word_stays t b = kept_stays

-- ---- TYPE and CLASS, which a question and a record have after the owner, part by part
pub record TypeClassRead (t : List ℕ) (c : Reached) (b : List ℕ) (r : Result (Cursor × ℕ) ℕ) (b' : List ℕ) : Type 0
  where
    pub d : Reached
    pub e : Reached
    pub f : Reached
    pub b₁ : List ℕ
    pub title_type : Passed (ascii ",\"TYPE\":") t c d
    pub type : Found natural (λ n. Puts u16? be16 d b e b₁ n × IfOk r (λ x. x.1 ≡ capped n)) t d e
    pub title_class : Passed (ascii ",\"CLASS\":") t e f
    pub class : Step u16? be16 natural t f b₁ (reached r) b'

-- what was written of a number
word_puts : {c : Reached} {r : Result (Cursor × ℕ) ℕ} {b b' : List ℕ} {n : ℕ}
    → Told (λ c x. Put u16? be16 c b x.0 b' n × (x.1 ≡ capped n)) c r → Puts u16? be16 c b (reached r) b' n
word_puts {c = Ok c} {r = Ok x} h = record { holds = h.holds.0 }
word_puts {c = Err n} {r = Ok x} h = absurd h.holds
word_puts {c = Ok c} {r = Err n} h = record { holds = tt }
word_puts {c = Err m} {r = Err n} h = record { holds = tt }

pub type_class_read : {t b b₁ b₂ : List ℕ} {c : Reached} {d e f g : Cursor} {v w : ℕ}
    → Passed (ascii ",\"TYPE\":") t c (Ok d) → WordRead t (Ok d) b (Ok (e, v)) b₁
    → Passed (ascii ",\"CLASS\":") t (Ok e) (Ok f) → WordRead t (Ok f) b₁ (Ok (g, w)) b₂
    → TypeClassRead t c b (Ok (g, v)) b₂
type_class_read {b₁ = b₁} {d = d} {e = e} {f = f} p x q y = record {
  d = Ok d;
  e = Ok e;
  f = Ok f;
  b₁ = b₁;
  title_type = p;
  type = found_as x.found λ n h. (word_puts h, h.holds.1);
  title_class = q;
  class = found_as y.found λ n h. word_puts h;
}

pub type_class_stop : {t b b₁ b₂ : List ℕ} {c d f : Reached} {v : Result (Cursor × ℕ) ℕ} {n : ℕ}
    → Passed (ascii ",\"TYPE\":") t c d → WordRead t d b v b₁ → Passed (ascii ",\"CLASS\":") t (reached v) f
    → WordRead t f b₁ (Err n) b₂ → TypeClassRead t c b (Err n) b₂
type_class_stop {b₁ = b₁} {d = d} {f = f} {v = v} p x q y = record {
  d = d;
  e = reached v;
  f = f;
  b₁ = b₁;
  title_type = p;
  type = found_as x.found λ n h. (word_puts h, tt);
  title_class = q;
  class = found_as y.found λ n h. word_puts h;
}

pub type_class_stays : {t b : List ℕ} {n : ℕ} → TypeClassRead t (Err n) b (Err n) b
type_class_stays {t} {b} = type_class_stop passed_stays (word_stays t b) passed_stays (word_stays t b)

-- ---- questions
pub question_read_lem : {t b b₁ b₂ : List ℕ} {c d e r : Reached} {k : Result (Cursor × ℕ) ℕ}
    → Passed (ascii "{\"NAME\":") t c d → NameRead t d b e b₁ → TypeClassRead t e b₁ k b₂
    → Passed (ascii "}") t (reached k) r
    → Step question? question_form question_codec.parse t c b r b₂
unfolding question_codec question? question_form
question_read_lem p n x z =
    step_on {ok = λ u. name? u.0 && (u16? u.1.0 && u16? u.1.1)} {wire = λ u. name_form u.0
    ++ (be16 u.1.0 ++ be16 u.1.1)}
    question_from
    (λ (n, (t, c)). and_assoc (name? n) (u16? t) (u16? c)) (λ (n, (t, c)). append_assoc (name_form n) (be16 t) (be16 c))
    (step_pair (step_lit p (found_as n λ a h. between_as h λ c r z. z.0))
    (step_pair (step_lit x.title_type (step_behind (found_as x.type λ a h. h.0) x.title_class))
    (step_behind x.class z)))

-- ---- RDATA
abbrev pub RdataRead : ℕ → List ℕ → Reached → List ℕ → Result (Cursor × HexDigits) ℕ → List ℕ → Type 0
RdataRead rtype t c b r b' = Kept hex.parse (λ c x l. ((n : ℕ) → rtype ≡ capped n
    → Put (rdata_fits? n) (λ l. be16 (length l) ++ l) c b x.0 b' l) × (l ≡ paired x.1.digits.now)) t c r

-- whether RDATA has the layout of its TYPE
pub record RdataFits (l : List ℕ) (rtype : ℕ) (ok : Bool) : Type 0 where
  pub fits : (n : ℕ) → rtype ≡ capped n → rdata_fits? n l ≡ ok

-- a TYPE that is out of range is not listed, so any RDATA fits
any_fits : (n : ℕ) (l : List ℕ) → 65535 < n → rdata_fits? n l ≡ true
unfolding rdata_fits? rdata_at
any_fits n l h = rw (layout_beyond n (omega arith)) (go (eqb (length l) 0) _)
  where
    go : (b : Bool) (u : List ℕ) → laid? (cond b (laid []) (laid u)) ≡ true
    go true u = refl
    go false u = refl

module _ {l : List ℕ} {rtype : ℕ} where
  pub fits_any : 65535 < rtype → RdataFits l rtype true
  fits_any h = record { fits = λ n e. any_fits n l (omega (arith, e)) }

  pub fits_layout_lem : {ok : Bool} → rtype ≤ 65535 → ok ≡ rdata_fits? rtype l → RdataFits l rtype ok
  fits_layout_lem h o = record { fits = λ n e. let z : n ≡ rtype = omega (arith, e) in rw z (sym o) }

-- the two low octets of a number of eight
two_low : (n : ℕ) {xs : List ℕ} → xs ≡ bytes_high_first 8 n → take (8 - 6) (drop 6 xs) ≡ be16 n
two_low n e = rw e refl

pub rdata_read : {rtype n : ℕ} {t b b₁ b₂ xs : List ℕ} {c d e f r : Cursor} {h : HexDigits} {ok : Bool}
    → HexRead t c (Ok (d, h)) → RdataFits (paired h.digits.now) rtype ok
    → Judged ok d e → n ≡ length (paired h.digits.now)
    → xs ≡ bytes_high_first 8 n → Emits (take (8 - 6) (drop 6 xs)) e b f b₁
    → Done (λ l. l ≡ paired h.digits.now) (λ l. true) (λ l. l) f b₁ r b₂
    → RdataRead rtype t (Ok c) b (Ok (r, h)) b₂
rdata_read {rtype} {n} {t} {b} {b₁} {b₂} {xs} {c} {d} {e} {f} {r} {h} {ok} x fits j i o y z = record {
  found = found_at x.found (z.at ∙ y.at ∙ j.at) z.room λ l v. record { holds = (put l v, v) };
}
  where
    put : (l : List ℕ) → l ≡ paired h.digits.now → (m : ℕ) → rtype ≡ capped m
        → Put (rdata_fits? m) (λ l. be16 (length l) ++ l) c b r b₂ l
    put l v m q =
        put_as (sym (and-true (rdata_fits? m l)))
        (ap (λ (w : List ℕ). w ++ l) {x = be16 (length l)} {y = take (8 - 6) (drop 6 xs)}
        (ap (λ (w : List ℕ). be16 (length w)) v ∙ ap be16 (sym i) ∙ sym (two_low n o)))
        (put_then (put_emit {wire = λ l. []}
        (put_judged {wire = λ l. []} {ok = λ l. true} {ok' = rdata_fits? m}
        (put_nothing b {a = l} x.keeps refl refl) j (rw v (fits.fits m q))) y) (z.put l v))

pub rdata_stays : (rtype : ℕ) (t b : List ℕ) {n : ℕ} → RdataRead rtype t (Err n) b (Err n) b
rdata_stays rtype t b = kept_stays

pub rdata_stop : {rtype n : ℕ} {t b b' : List ℕ} {c : Cursor} → HexRead t c (Err n)
    → RdataRead rtype t (Ok c) b (Err n) b'
rdata_stop x = kept_stop x.found

-- ---- records
-- TTL, and the title of RDATA
abbrev pub ttl_parse : List ℕ → Parsed Signed
ttl_parse = (number_then ",\"RDATAHEX\":" tt signed_number).parse

abbrev pub TtlRead : List ℕ → Reached → List ℕ → Result (Cursor × Option ℕ) ℕ → List ℕ → Type 0
TtlRead t c b r b' = Kept ttl_parse (λ c x s. SignedNumber s
    × (Put ttl? (λ s. be32 (unsigned s)) c b x.0 b' s × (x.1 ≡ ttl_bits s))) t c r

pub ttl_read : {t b b' : List ℕ} {c d e r : Cursor} {bits : Option ℕ} → SignedRead t c (Ok (d, bits))
    → Passed (ascii ",\"RDATAHEX\":") t (Ok d) (Ok e) → FieldPut (option_map be32 bits) e b r b'
    → TtlRead t (Ok c) b (Ok (r, bits)) b'
ttl_read x q w =
    let k = keeps_then x.keeps q.keeps in
    let d = ttl_done q.keeps.moves.within.0.room w in
    record {
      found = found_at (found_behind (found_sound signed_number x.found) q) d.at d.room λ s h.
          record { holds = (h.0, (put_from k.alike.holds (d.put s h.1), h.1)) };
    }

pub ttl_stop : {t b b' : List ℕ} {c : Cursor} {r : Result (Cursor × Option ℕ) ℕ} {n : ℕ} → SignedRead t c r
    → Passed (ascii ",\"RDATAHEX\":") t (reached r) (Err n) → TtlRead t (Ok c) b (Err n) b'
ttl_stop x q = kept_stop (found_behind x.found q)

abbrev pub tail_parse : List ℕ → Parsed (Signed × List ℕ)
tail_parse = (number_then ",\"RDATAHEX\":" tt signed_number ⊗ hex ◁ "}").parse

-- TTL and RDATA were read, of a record of a TYPE whose owner is the root or not
pub record Tail (rtype : ℕ) (root : Bool) (rcode : ℕ) (b : List ℕ) (b' : List ℕ) (c : Cursor) (r : Cursor × Entry)
    (u : Signed × List ℕ) : Type 0 where
  pub put : (n : ℕ) → rtype ≡ capped n
      → Put (λ u. ttl? u.0 && rdata_fits? n u.1) (λ u. be32 (unsigned u.0)
      ++ (be16 (length u.1) ++ u.1)) c b
      r.0 b' u
  pub signed : SignedNumber u.0
  pub octets : Octets u.1
  pub opt : r.1.opt ≡ eqb rtype 41
  pub shown : r.1.shown ≡ false
  pub eligible : (n : ℕ) → rtype ≡ capped n → T r.0.meaningful
      → r.1.eligible ≡ (eqb rtype 41 && shows_edns root (unsigned u.0) rcode u.1)

abbrev pub TailRead : ℕ → Bool → ℕ → List ℕ → Reached → List ℕ → Result (Cursor × Entry) ℕ → List ℕ → Type 0
TailRead rtype root rcode t c b r b' = Kept tail_parse (Tail rtype root rcode b b') t c r

-- whether RDATA, of a record with this TYPE and TTL, is an EDNS element; a TTL that is out of range has none
abbrev pub could_be : ℕ → Bool → Option ℕ → ℕ → List ℕ → Bool
could_be rtype root (Some bits) rcode l = eqb rtype 41 && shows_edns root bits rcode l
could_be rtype root None rcode l = false

pub tail_read : {rtype rcode : ℕ} {root g : Bool} {t b b₁ b₂ : List ℕ} {c d e r : Cursor} {bits : Option ℕ}
    {h : HexDigits} → TtlRead t (Ok c) b (Ok (d, bits)) b₁ → RdataRead rtype t (Ok d) b₁ (Ok (e, h)) b₂
    → Passed (ascii "}") t (Ok e) (Ok r) → g ≡ could_be rtype root bits rcode (paired h.digits.now)
    → TailRead rtype root rcode t (Ok c) b (Ok (r, record { opt = eqb rtype 41; shown = false; eligible = g })) b₂
tail_read {rtype} {rcode} {root} {g} {t} {b} {b₁} {b₂} {c} {d} {e} {r} {bits} {h} x y z q = record {
  found = found_as (found_pair x.found (found_behind (found_sound hex y.found) z)) λ u k.
      record { holds = told u k.0.holds k.1.0 k.1.1.holds };
}
  where
    told : (u : Signed × List ℕ)
        → SignedNumber u.0 × (Put ttl? (λ s. be32 (unsigned s)) c b d b₁ u.0 × (bits ≡ ttl_bits u.0)) → Octets u.1
        → ((n : ℕ) → rtype ≡ capped n → Put (rdata_fits? n) (λ l. be16 (length l) ++ l) d b₁ e b₂ u.1)
        × (u.1 ≡ paired h.digits.now)
        → Tail rtype root rcode b b₂ c (r, record { opt = eqb rtype 41; shown = false; eligible = g }) u
    told u k o m = record {
      put = put;
      signed = k.0;
      octets = o;
      opt = refl;
      shown = refl;
      eligible = λ n i y. q ∙ rw (k.1.1, in_range n i y, ← m.1);
    }
      where
        put : (n : ℕ) → rtype ≡ capped n
            → Put {A = Signed × List ℕ} (λ u. ttl? u.0 && rdata_fits? n u.1) (λ u. be32 (unsigned u.0)
            ++ (be16 (length u.1) ++ u.1)) c b r b₂ u
        put n i = put_to (put_then k.1.0 (m.0 n i)) z.keeps.alike.holds

        in_range : (n : ℕ) → rtype ≡ capped n → T r.meaningful → ttl? u.0 ≡ true
        in_range n i y = is_true (ttl? u.0)
            (and_left (ttl? u.0) (rdata_fits? n u.1) (and_right c.meaningful _ (subst T (put n i).meaningful y)))

pub tail_stop : {rtype rcode : ℕ} {root : Bool} {t b b₁ b₂ b' : List ℕ} {c : Cursor} {v : Result (Cursor × Option ℕ) ℕ}
    {s : Result (Cursor × HexDigits) ℕ} {n : ℕ} → TtlRead t (Ok c) b v b₁ → RdataRead rtype t (reached v) b₁ s b₂
    → Passed (ascii "}") t (reached s) (Err n) → TailRead rtype root rcode t (Ok c) b (Err n) b'
tail_stop x y z = kept_stop (found_pair x.found (found_behind y.found z))

-- a record from its owner on
abbrev fields_parse : List ℕ → Parsed RecordParts
fields_parse = (name ⊗ ",\"TYPE\":" ▷ number_then ",\"CLASS\":" tt number ⊗ number_then ",\"TTL\":" tt number ⊗ number_then
    ",\"RDATAHEX\":"
    tt signed_number ⊗ hex ◁ "}").parse

unfoldable pub record_rest : List ℕ → Parsed RecordItem
record_rest w = and_then (fields_parse w) λ u r. parsed (record_from u) r

pub entry_parse : (w : List ℕ) → record_codec.parse w ≡ and_then (strip (ascii "{\"NAME\":") w) (λ u r. record_rest r)
unfolding record_codec record_rest
entry_parse w = go (strip (ascii "{\"NAME\":") w)
  where
    go : (o : Parsed (Unit {0})) → and_then (and_then (and_then o (λ u r. name.parse r))
        (λ a w. and_then ((",\"TYPE\":" ▷ number_then ",\"CLASS\":" tt number ⊗ number_then ",\"TTL\":" tt number ⊗
        number_then
        ",\"RDATAHEX\":" tt signed_number ⊗ hex ◁ "}").parse w) λ b r. parsed (a, b) r))
        (λ u r. parsed (record_from u) r)
        ≡ and_then o (λ u r. and_then (fields_parse r) λ u r. parsed (record_from u) r)
    go (parsed u r) = refl
    go (failed r) = refl

-- what is reported of an entry
pub record Facts {A : Type 0} (ok : A → Bool) (wire : A → List ℕ) (opt shown hides : A
    → Bool) (b : List ℕ) (b' : List ℕ) (c : Cursor) (r : Cursor × Entry) (a : A) : Type 0 where
  pub put : Put ok wire c b r.0 b' a
  pub is_opt : r.1.opt ≡ opt a
  pub is_shown : r.1.shown ≡ shown a
  pub is_hidden : T r.0.meaningful → r.1.eligible ≡ hides a

module _ {A : Type 0} {ok : A → Bool} {wire : A → List ℕ} {opt shown hides : A → Bool} {b b' : List ℕ} where
  -- with nothing written before it
  pub facts_from : (c d : Cursor) (x : Cursor × Entry) (a : A) → Alike c d → Facts ok wire opt shown hides b b' d x a
      → Facts ok wire opt shown hides b b' c x a
  facts_from c d x a k h = record {
    put = put_from k h.put;
    is_opt = h.is_opt;
    is_shown = h.is_shown;
    is_hidden = h.is_hidden;
  }

abbrev pub RecordFacts : ℕ → List ℕ → List ℕ → Cursor → Cursor × Entry → RecordItem → Type 0
RecordFacts rcode = Facts record_meant? record_octets (λ r. opt? (item_record r)) (λ r. false) (hides? rcode)

abbrev pub RecordRead : ℕ → List ℕ → Reached → List ℕ → Result (Cursor × Entry) ℕ → List ℕ → Type 0
RecordRead rcode t c b r b' = Kept record_rest (RecordFacts rcode b b') t c r

-- a record in the grammar, judged part by part
record_judged : (u : RecordParts) → SignedNumber u.1.1.1.0 → Octets u.1.1.1.1
    → record_meant? (record_from u) ≡ (name? u.0
    && (u16? u.1.0 && (u16? u.1.1.0 && (ttl? u.1.1.1.0 && rdata_fits? u.1.0 u.1.1.1.1))))
unfolding record_meant? record? item_record
record_judged (n, (t, (c, (s, l)))) i o =
    rw (is_true (all u8? l) (octets_test l o))
    (go (name? n) (u16? t) (u16? c) (ttl? s) (rdata_fits? t l)
    (λ h. is_true (u32? (unsigned s)) (lt→ltb (unsigned s) 4294967296 (unsigned_back s i h).1)))
  where
    go : (a b c d e : Bool) → (T d → u32? (unsigned s) ≡ true)
        → d && (a && b && c && u32? (unsigned s) && true && e) ≡ (a && (b && (c && (d && e))))
    go a b c true e h = rw (h tt) (all a b c)
      where
        all : (a b c : Bool) → (a && b && c && true && true && e) ≡ (a && (b && (c && e)))
        all true true true = refl
        all true true false = refl
        all true false c = refl
        all false b c = refl
    go true true true false e h = refl
    go true true false false e h = refl
    go true false c false e h = refl
    go false b c false e h = refl

-- the parts of a record, one after another
parts_read : {t b₁ b₂ : List ℕ} {c d h r : Reached} {k : Result (Cursor × ℕ) ℕ}
    {P : Name → Type 0} {Q : Signed × List ℕ → Type 0}
    → Found name.parse P t c d → (x : TypeClassRead t d b₁ k b₂) → Passed (ascii ",\"TTL\":") t (reached k) h
    → Found tail_parse Q t h r
    → Found fields_parse (λ u. P u.0
    × ((Puts u16? be16 x.d b₁ x.e x.b₁ u.1.0 × IfOk k (λ y. y.1 ≡ capped u.1.0))
    × (Puts u16? be16 x.f x.b₁ (reached k) b₂ u.1.1.0 × Q u.1.1.1))) t c r
parts_read n x s z = found_pair n (found_pair (found_lit x.title_type (found_behind x.type x.title_class))
    (found_pair (found_behind x.class s) z))

pub record_stop : (rcode : ℕ) {t b b₁ b₂ b' : List ℕ} {c : Cursor} {d : Reached} {k : Result (Cursor × ℕ) ℕ} {n : ℕ}
    → NameRead t (Ok c) b d b₁ → TypeClassRead t d b₁ k b₂ → Passed (ascii ",\"TTL\":") t (reached k) (Err n)
    → RecordRead rcode t (Ok c) b (Err n) b'
unfolding record_rest
record_stop rcode n x s = record {
  found = found_map record_from (λ u v. told_stop) (parts_read n x s (found_stays {P = λ u. Unit {0}}));
}

-- what was written of owner, TYPE and CLASS
abbrev Front : List ℕ → List ℕ → RecordParts → Cursor → Cursor → Type 0
Front b b' u c h = Put {A = Name × (ℕ × ℕ)} (λ u. name? u.0 && (u16? u.1.0 && u16? u.1.1))
    (λ u. name_form u.0 ++ (be16 u.1.0 ++ be16 u.1.1)) c b h b' (u.0, (u.1.0, u.1.1.0))

pub record_read_lem : {rcode k : ℕ} {root : Bool} {t b b₁ b₂ b₃ : List ℕ} {c d e h : Cursor}
    {r : Result (Cursor × Entry) ℕ}
    → NameRead t (Ok c) b (Ok d) b₁ → TypeClassRead t (Ok d) b₁ (Ok (e, k)) b₂
    → Passed (ascii ",\"TTL\":") t (Ok e) (Ok h) → TailRead k root rcode t (Ok h) b₂ r b₃
    → root ≡ eqb d.at (c.at + 3) → RecordRead rcode t (Ok c) b r b₃
unfolding record_rest record_octets record_form item_record hides?
record_read_lem {rcode} {k} {root} {t} {b} {b₁} {b₂} {b₃} {c} {d} {e} {h} {r} n x s z i = record {
  found = found_map record_from told (parts_read n x s z.found);
}
  where
    wire : (u : RecordParts) → record_octets (record_from u) ≡ (name_form u.0 ++ (be16 u.1.0 ++ be16 u.1.1.0))
        ++ (be32 (unsigned u.1.1.1.0) ++ (be16 (length u.1.1.1.1) ++ u.1.1.1.1))
    wire u = chain (name_form u.0) (be16 u.1.0) (be16 u.1.1.0) (be32 (unsigned u.1.1.1.0))
        (be16 (length u.1.1.1.1)) u.1.1.1.1
      where
        chain : (a b c d e f : List ℕ) → a ++ b ++ c ++ d ++ e ++ f ≡ (a ++ (b ++ c)) ++ (d ++ (e ++ f))
        chain a b c d e f = simp append_assoc

    grouped : (a b c d : Bool) → (a && (b && (c && d))) ≡ ((a && (b && c)) && d)
    grouped true true c d = refl
    grouped true false c d = refl
    grouped false b c d = refl

    hides : (u : RecordParts) → none? u.0 ≡ root → k ≡ capped u.1.0
        → (eqb k 41 && shows_edns root (unsigned u.1.1.1.0) rcode u.1.1.1.1) ≡ hides? rcode (record_from u)
    hides u e d = rw (d, capped_is u.1.0 41 (omega arith), ← e)
        (ap (λ x. eqb u.1.0 41 && x) (shows_edns_lem rcode (item_record (record_from u))))

    told : (u : RecordParts)
        → Between (λ c r. Put name? name_form c b r b₁ u.0 × (none? u.0 ≡ eqb r.at (c.at + 3))) (Ok c) (Ok d)
        × ((Puts u16? be16 x.d b₁ x.e x.b₁ u.1.0 × (k ≡ capped u.1.0))
        × (Puts u16? be16 x.f x.b₁ (Ok e) b₂ u.1.1.0 × Told (λ c y. Tail k root rcode b₂ b₃ c y u.1.1.1) (Ok h) r))
        → Told (λ c y. RecordFacts rcode b b₃ c y (record_from u)) (Ok c) r
    told u v = told_from {P = Front b b₂ u} (record { holds = front }) v.1.1.1 λ c h y p q. record {
      put = put c h y p q;
      is_opt = q.opt ∙ rw v.1.0.1 (capped_is u.1.0 41 (omega arith));
      is_shown = q.shown;
      is_hidden = λ m. q.eligible u.1.0 v.1.0.1 m ∙ hides u (v.0.holds.1 ∙ sym i) v.1.0.1;
    }
      where
        both : Puts {A = ℕ × ℕ} (λ u. u16? u.0 && u16? u.1) (λ u. be16 u.0 ++ be16 u.1) (Ok d) b₁ (Ok e) b₂
            (u.1.0, u.1.1.0)
        both = puts_then (puts_to (puts_from x.title_type.keeps.alike v.1.0.0) x.title_class.keeps.alike) v.1.1.0

        put : (c h : Cursor) (y : Cursor × Entry) → Front b b₂ u c h → Tail k root rcode b₂ b₃ h y u.1.1.1
            → Put record_meant? record_octets c b y.0 b₃ (record_from u)
        put c h y p q = put_as
            (record_judged u q.signed q.octets
            ∙ grouped (name? u.0) (u16? u.1.0) (u16? u.1.1.0) (ttl? u.1.1.1.0 && rdata_fits? u.1.0 u.1.1.1.1))
            (wire u) (put_then p (q.put u.1.0 v.1.0.1))

        front : Front b b₂ u c h
        front = put_to (put_then v.0.holds.0 both.holds) s.keeps.alike.holds
