-- Arrays of entries: how a loop reads them, and what it reports of them.
use Rattle.std.specs.Prelude.{◌≡◌, refl, Bool, true, false, cond, ◌||◌, List, [], ◌∷◌, ◌++◌, ℕ, ◌+◌, ◌-◌, ◌≤◌, ◌<◌, min}
use Rattle.std.specs.Prelude.{T, length, Result, Ok, Err}
use Rattle.std.proofs.Common.{sym, ◌∙◌, ap, subst, arith, length-append}
use Rattle.std.proofs.Math.Bool.{or-false, or_assoc}
use Rattle.octets.specs.Lists.{ascii, all, count, each}
use Rattle.octets.specs.Bits.{and_left}
use Rattle.octets.specs.Parsed.{Parsed, and_then, strip}
use Rattle.octets.specs.Codec.{Any, Codec, Avoids, fronts}
use Rattle.records.specs.Message.{Question, question?, question_form, opt?}
use Rattle.json_text.specs.Document.{RecordItem, Item, question_text, record_text, item_text}
use Rattle.strict.specs.Grammar.{QuestionIn, RecordIn, ItemIn}
use Rattle.strict.specs.Parser.{question_codec, record_codec, item_codec, question_avoids, entry_avoids, item_avoids}
use Rattle.strict.specs.Meaning.{item_record}
use Rattle.parse_tokens.specs.declared.Cursor.{Cursor}
use Rattle.parse_tokens.specs.Cursor.{Reached, Safe, keeps_same, Passed, Advanced}
use Rattle.parse_tokens.specs.Step.{found_as, Put, put_from, put_to, put_nothing, put_last, all_last, Step}
use Rattle.parse_tokens.specs.Leaf.{found_equal}
use Rattle.parse_tokens.specs.Place.{At}
use Rattle.parse_tokens.specs.Items.{comma_of, part_of, item_of, Items, items_start, items_end, items_stop, items_less}
use Rattle.parse_tokens.specs.Items.{items_more}
use Rattle.to_wire.specs.Kept.{Kept, kept_stop, kept_stays, kept_lit}
use Rattle.to_wire.specs.Meant.{any, record_meant?, record_octets, hides?, item_meant?, item_octets, item_opt?}
use Rattle.to_wire.specs.Meant.{item_shown?, item_hides?}
use Rattle.to_wire.specs.Reading.{entry_parse, Facts, facts_from, RecordRead}
use Rattle.to_wire.specs.Items.{TitledRead, ItemRead}
use Rattle.to_wire.specs.declared.entries.Entry.{Entry}
use Rattle.to_wire.specs.declared.entries.Section.{Section}
use Rattle.to_wire.specs.declared.entries.Element.{Element}
use Rattle.to_wire.specs.declared.entries.Element.TheVariants.{Question as Questions, Record as Records}
use Rattle.to_wire.specs.declared.entries.Element.TheVariants.{Additional as Additionals}

-- ---- what an array holds
abbrev pub Thing : Element → Type 0
Thing Questions = Question
Thing Records = RecordItem
Thing Additionals = Item

abbrev pub In : (e : Element) → Thing e → Type 0
In Questions = QuestionIn
In Records = RecordIn
In Additionals = ItemIn

abbrev pub thing_text : (e : Element) → Thing e → List ℕ
thing_text Questions = question_text
thing_text Records = record_text
thing_text Additionals = item_text

abbrev pub codec_of : (e : Element) → Codec (In e) (thing_text e) Any
codec_of Questions = question_codec
codec_of Records = record_codec
codec_of Additionals = item_codec

-- what is judged and written of an entry, and what is reported of it
abbrev pub meant_of : ℕ → (e : Element) → Thing e → Bool
meant_of rcode Questions = question?
meant_of rcode Records = record_meant?
meant_of rcode Additionals = item_meant? rcode

abbrev pub thing_form : (e : Element) → Thing e → List ℕ
thing_form Questions = question_form
thing_form Records = record_octets
thing_form Additionals = item_octets

abbrev pub thing_opt : (e : Element) → Thing e → Bool
thing_opt Questions q = false
thing_opt Records r = opt? (item_record r)
thing_opt Additionals i = item_opt? i

abbrev pub shown_of : (e : Element) → Thing e → Bool
shown_of Questions q = false
shown_of Records r = false
shown_of Additionals i = item_shown? i

abbrev pub hides_of : ℕ → (e : Element) → Thing e → Bool
hides_of rcode Questions q = false
hides_of rcode Records r = hides? rcode r
hides_of rcode Additionals i = item_hides? rcode i

abbrev pub OneFacts : (e : Element) → ℕ → List ℕ → List ℕ → Cursor → Cursor × Entry → Thing e → Type 0
OneFacts e rcode = Facts (meant_of rcode e) (thing_form e) (thing_opt e) (shown_of e) (hides_of rcode e)

abbrev pub OneRead : Element → ℕ → List ℕ → Reached → List ℕ → Result (Cursor × Entry) ℕ → List ℕ → Type 0
OneRead e rcode t c b r b' = Kept (codec_of e).parse (OneFacts e rcode b b') t c r

-- ---- one entry
abbrev pub QuestionEntryRead : List ℕ → Reached → List ℕ → Result (Cursor × Entry) ℕ → List ℕ → Type 0
QuestionEntryRead = OneRead Questions 0

pub asked_read : {t b b' : List ℕ} {c r : Cursor}
    → Step question? question_form question_codec.parse t (Ok c) b (Ok r) b'
    → QuestionEntryRead t (Ok c) b (Ok (r, record { opt = false; shown = false; eligible = false })) b'
asked_read x = record {
  found = found_as x λ a h.
      record { holds = record { put = h.holds; is_opt = refl; is_shown = refl; is_hidden = λ k. refl } };
}

pub asked_stop : {t b b' : List ℕ} {c : Cursor} {n : ℕ}
    → Step question? question_form question_codec.parse t (Ok c) b (Err n) b'
    → QuestionEntryRead t (Ok c) b (Err n) b'
asked_stop x = kept_stop x

pub titled_read : (rcode : ℕ) {t b b' : List ℕ} {c d : Reached} {r : Result (Cursor × Entry) ℕ}
    → Passed (ascii "{\"NAME\":") t c d → RecordRead rcode t d b r b' → TitledRead rcode t c b r b'
titled_read rcode q x = let k = kept_lit q x facts_from in
    record { found = found_equal record_codec.parse (λ w. sym (entry_parse w)) k.found }

pub titled_stays : (rcode : ℕ) (t b : List ℕ) {n : ℕ} → RecordRead rcode t (Err n) b (Err n) b
titled_stays rcode t b = kept_stays

module _ {e : Element} (rcode : ℕ) {t b b' : List ℕ} {c : Reached} {r : Result (Cursor × Entry) ℕ} where
  pub one_asked : e ≡ Questions → QuestionEntryRead t c b r b' → OneRead e rcode t c b r b'
  one_asked h x = subst (λ e. OneRead e rcode t c b r b') (sym h) x

  pub one_titled : e ≡ Records → TitledRead rcode t c b r b' → OneRead e rcode t c b r b'
  one_titled h x = subst (λ e. OneRead e rcode t c b r b') (sym h) x

  pub one_item : e ≡ Additionals → ItemRead rcode t c b r b' → OneRead e rcode t c b r b'
  one_item h x = subst (λ e. OneRead e rcode t c b r b') (sym h) x

-- ---- an entry and the comma before it
abbrev pub NextRead : Element → Bool → ℕ → List ℕ → Reached → List ℕ → Result (Cursor × Entry) ℕ → List ℕ → Type 0
NextRead e first rcode t c b r b' = Kept (item_of (codec_of e) 93 first) (OneFacts e rcode b b') t c r

pub next_read : (e : Element) (first : Bool) (rcode : ℕ) {t b b' : List ℕ} {c d : Reached}
    {r : Result (Cursor × Entry) ℕ} → Passed (comma_of first) t c d → OneRead e rcode t d b r b'
    → NextRead e first rcode t c b r b'
next_read e first rcode q x = kept_lit q x facts_from

pub one_stays : (e : Element) (rcode : ℕ) (t b : List ℕ) {n : ℕ} → OneRead e rcode t (Err n) b (Err n) b
one_stays e rcode t b = kept_stays

-- ---- counting
-- 65,536 counts for every number above
abbrev pub at_most_65536 : ℕ → ℕ
at_most_65536 n = min n 65536

abbrev pub bit : Bool → ℕ
bit b = cond b 1 0

-- with one entry more
abbrev pub one_more : Section → Entry → Section
one_more s e = record {
  count = at_most_65536 (s.count + 1);
  opts = at_most_65536 (s.opts + bit e.opt);
  shown = s.shown || e.shown;
  eligible = s.eligible || e.eligible;
}

count_snoc : {A : Type 0} (p : A → Bool) (l : List A) (a : A) → count p (l ++ (a ∷ [])) ≡ count p l + bit (p a)
count_snoc p [] a = go (p a)
  where
    go : (b : Bool) → cond b (1 + 0) 0 ≡ 0 + bit b
    go true = refl
    go false = refl
count_snoc p (x ∷ l) a = rw (count_snoc p l a) (go (p x) (count p l) (bit (p a)))
  where
    go : (b : Bool) (m n : ℕ) → cond b (1 + (m + n)) (m + n) ≡ cond b (1 + m) m + n
    go true m n = omega arith
    go false m n = refl

any_snoc : {A : Type 0} (p : A → Bool) (l : List A) (a : A) → any p (l ++ (a ∷ [])) ≡ (any p l || p a)
any_snoc p [] a = or-false (p a)
any_snoc p (x ∷ l) a = rw (any_snoc p l a) (sym (or_assoc (p x) (any p l) (p a)))

-- ---- the array
abbrev pub inside_parse : (e : Element) → List ℕ → Parsed (List (Thing e))
inside_parse e = part_of (codec_of e) 93 true

abbrev pub array_parse : (e : Element) → List ℕ → Parsed (List (Thing e))
array_parse e w = and_then (strip (91 ∷ []) w) λ u r. inside_parse e r

-- what is reported of its entries
pub record SectionFacts (e : Element) (rcode : ℕ) (b : List ℕ) (b' : List ℕ) (c : Cursor) (r : Cursor × Section)
    (l : List (Thing e)) : Type 0 where
  pub put : Put (all (meant_of rcode e)) (each (thing_form e)) c b r.0 b' l
  pub counted : r.1.count ≡ at_most_65536 (length l)
  pub opts : r.1.opts ≡ at_most_65536 (count (thing_opt e) l)
  pub shown : r.1.shown ≡ any (shown_of e) l
  pub eligible : T r.0.meaningful → r.1.eligible ≡ any (hides_of rcode e) l

abbrev pub InsideRead : Element → ℕ → List ℕ → Reached → List ℕ → Result (Cursor × Section) ℕ → List ℕ → Type 0
InsideRead e rcode t c b r b' = Kept (inside_parse e) (SectionFacts e rcode b b') t c r

abbrev pub SectionRead : Element → ℕ → List ℕ → Reached → List ℕ → Result (Cursor × Section) ℕ → List ℕ → Type 0
SectionRead e rcode t c b r b' = Kept (array_parse e) (SectionFacts e rcode b b') t c r

-- the loop: entries were read from c to d and counted
pub record Gathered (e : Element) (rcode : ℕ) (t : List ℕ) (c : Cursor) (b : List ℕ) (d : Cursor) (first : Bool)
    (s : Section) (b' : List ℕ) : Type 0 where
  pub items : Items (codec_of e) 93 (SectionFacts e rcode b b' c (d, s)) t c true d first
  pub few : s.count ≤ 65536
  pub few_opts : s.opts ≤ 65536
  pub long : length b' ≡ length b

-- no entry begins with the bracket, nor does a comma
avoids : (e : Element) → Avoids (In e) (thing_text e) 93
avoids Questions = question_avoids
avoids Records = entry_avoids
avoids Additionals = item_avoids

apart : (e : Element) → Avoids (In e) (λ a. 44 ∷ thing_text e a) 93
apart e a r s h q = fronts tt q

-- before the first turn
pub gathered_start : {e : Element} (rcode : ℕ) {t b : List ℕ} {c : Cursor} → Safe t c
    → Gathered e rcode t c b c true (record { count = 0; opts = 0; shown = false; eligible = false }) b
unfolding each
gathered_start {e} rcode {t} {b} f = record {
  items = items_start (codec_of e) 93 (avoids e) (apart e) t f record {
    put = put_nothing b (keeps_same f) refl refl;
    counted = omega arith;
    opts = omega arith;
    shown = refl;
    eligible = λ m. refl;
  };
  few = omega arith;
  few_opts = omega arith;
  long = refl;
}

module _ {e : Element} {rcode : ℕ} {t b : List ℕ} {c d : Cursor} {first : Bool} {s : Section} {b' : List ℕ}
    (w : Gathered e rcode t c b d first s b') where
  -- the bracket
  pub inside_end : {r : Cursor} → At t d.at 93 → Advanced d (d.at + 1) r
      → InsideRead e rcode t (Ok c) b (Ok (r, s)) b'
  inside_end k m = record {
    found = items_end (codec_of e) 93 (avoids e) (apart e) t w.items k m
        λ z l x. record {
          holds = record {
            put = put_to x.put z;
            counted = x.counted;
            opts = x.opts;
            shown = x.shown;
            eligible = λ y. x.eligible (subst T z.meaningful y);
          };
        };
  }

  -- neither an entry nor the bracket
  pub inside_stop : {n : ℕ} {b'' : List ℕ} → (At t d.at 93 → ⊥) → NextRead e first rcode t (Ok d) b' (Err n) b''
      → InsideRead e rcode t (Ok c) b (Err n) b''
  inside_stop k z = record { found = items_stop (codec_of e) 93 (avoids e) (apart e) t w.items k z.found }

  module _ {r : Cursor} {y : Entry} {b'' : List ℕ} (z : NextRead e first rcode t (Ok d) b' (Ok (r, y)) b'') where
    pub gathered_less : length t - r.at < length t - d.at
    gathered_less = items_less (codec_of e) 93 (avoids e) (apart e) t w.items z.found

    -- one more
    pub gathered_more : length b'' ≡ length b' → Gathered e rcode t c b r false (one_more s y) b''
    gathered_more same = record {
      items = items_more (codec_of e) 93 (avoids e) (apart e) t w.items z.found λ l a x f. more l a x f.holds;
      few = omega arith;
      few_opts = omega arith;
      long = same ∙ w.long;
    }
      where
        more : (l : List (Thing e)) (a : Thing e) → SectionFacts e rcode b b' c (d, s) l
            → OneFacts e rcode b' b'' d (r, y) a → SectionFacts e rcode b b'' c (r, one_more s y) (l ++ (a ∷ []))
        more l a x f = record {
          put = put_last l a (all_last (meant_of rcode e) l a) x.put f.put;
          counted = omega (arith, x.counted, length-append l (a ∷ []));
          opts = ap (λ v. at_most_65536 (s.opts + bit v)) f.is_opt
              ∙ tallied (bit (thing_opt e a)) (count_snoc (thing_opt e) l a);
          shown = rw (x.shown, f.is_shown) (sym (any_snoc (shown_of e) l a));
          eligible = λ m. rw (
            x.eligible (and_left d.meaningful _ (subst T f.put.meaningful m)),
            f.is_hidden m,
          )
              (sym (any_snoc (hides_of rcode e) l a));
        }
          where
            tallied : (m : ℕ) → count (thing_opt e) (l ++ (a ∷ [])) ≡ count (thing_opt e) l + m
                → at_most_65536 (s.opts + m) ≡ at_most_65536 (count (thing_opt e) (l ++ (a ∷ [])))
            tallied m q = omega (arith, q, x.opts)

pub section_read : (e : Element) (rcode : ℕ) {t b b' : List ℕ} {c d : Reached} {r : Result (Cursor × Section) ℕ}
    → Passed (ascii "[") t c d → InsideRead e rcode t d b r b' → SectionRead e rcode t c b r b'
section_read e rcode q x = kept_lit q x λ c d y l k h. record {
  put = put_from k h.put;
  counted = h.counted;
  opts = h.opts;
  shown = h.shown;
  eligible = h.eligible;
}

pub inside_stays : (e : Element) (rcode : ℕ) (t b : List ℕ) {n : ℕ} → InsideRead e rcode t (Err n) b (Err n) b
inside_stays e rcode t b = kept_stays
