-- The head of a text: how its numbers are read, judged and written.
use Rattle.std.specs.Prelude.{◌≡◌, refl, Bool, true, false, cond, ◌&&◌, List, [], ◌∷◌, ◌++◌, ℕ, ◌%◌, ◌≤◌, T, Option, Some, None, Result, Ok, Err, IfOk}
use Rattle.std.proofs.Common.{◌∙◌, ap, subst, arith, ltb→lt}
use Prim.Native.String.{String}
use Rattle.octets.specs.Lists.{ascii, u16?}
use Rattle.octets.specs.Fields.{be16}
use Rattle.octets.specs.Bits.{is_true, and_left, and_right}
use Rattle.octets.specs.Parsed.{Parsed, parsed, and_then, strip}
use Rattle.octets.specs.Codec.{table_parser, ◌⊗◌}
use Rattle.octets.specs.Decimal.{natural, number, number_then, number_row}
use Rattle.records.specs.Message.{bit?, four_bits?}
use Rattle.parse_tokens.specs.declared.Cursor.{Cursor}
use Rattle.parse_tokens.specs.Cursor.{Reached, keeps_then, Passed}
use Rattle.parse_tokens.specs.Step.{Found, found_as, found_lit, found_map, found_pair, found_at, Put, put_from, put_as}
use Rattle.parse_tokens.specs.Value.{reached, ValueRead, value_stop}
use Rattle.parse_tokens.specs.Number.{capped, capped_below, NumberRead, till_parse, TillRead}
use Rattle.parse_tokens.specs.Fields.{Done, done_then, field_done, Says, FieldPut, number_octets, word_done}
use Rattle.parse_tables.specs.Rows.{RowRead}
use Rattle.json_text.specs.Document.{ad_titles}
use Rattle.strict.specs.Parser.{Head, titles_distinct, titles_end, head_from, head}
use Rattle.to_wire.specs.Meant.{high_meant?, high_octet, low_meant?, low_octet, head_meant?, head_octets}
use Rattle.to_wire.specs.Kept.{Kept, kept_stop}
use Rattle.to_wire.specs.declared.head.Counts.{Counts}
use Rattle.to_wire.specs.declared.head.HeadNumbers.{HeadNumbers}
use Rattle.to_wire.specs.declared.head.Header.{Header}

-- ---- the flags
abbrev pub Five : Type 0
Five = ℕ × (ℕ × (ℕ × (ℕ × ℕ)))

-- RA and Z; AD, CD, RCODE
abbrev pub Low : Type 0
Low = (ℕ × ℕ) × (ℕ × (ℕ × ℕ))

abbrev pub Four : Type 0
Four = ℕ × (ℕ × (ℕ × ℕ))

-- the octet of numbers that are all in range
abbrev pub octet_of : {A : Type 0} → (A → Bool) → (A → ℕ) → A → Option ℕ
octet_of meant? octet u = cond (meant? u) (Some (octet u)) None

abbrev pub high : Five → Option ℕ
high = octet_of high_meant? high_octet

abbrev pub low : Low → Option ℕ
low = octet_of low_meant? low_octet

abbrev pub high_parse : List ℕ → Parsed Five
high_parse = (number_then ",\"Opcode\":" tt number ⊗ number_then ",\"AA\":" tt number ⊗ number_then ",\"TC\":" tt number ⊗
    number_then ",\"RD\":" tt
    number ⊗ number_then ",\"RA\":" tt number).parse

abbrev pub low_parse : List ℕ → Parsed Low
low_parse = (number_row ad_titles titles_distinct titles_end ⊗ number_then ",\"CD\":" tt number ⊗ number_then ",\"RCODE\":"
    tt number ⊗ number_then ",\"QDCOUNT\":" tt number).parse

abbrev pub counts_parse : List ℕ → Parsed Four
counts_parse = (number_then ",\"ANCOUNT\":" tt number ⊗ number_then ",\"NSCOUNT\":" tt number ⊗ number_then ",\"ARCOUNT\":"
    tt number ⊗
    number).parse

abbrev pub HighRead : List ℕ → Cursor → Result (Cursor × Option ℕ) ℕ → Type 0
HighRead t c r = ValueRead high_parse (λ o u. o ≡ high u) t (Ok c) r

abbrev pub LowRead : List ℕ → Cursor → Result (Cursor × Option ℕ) ℕ → Type 0
LowRead t c r = ValueRead low_parse (λ o u. o ≡ low u) t (Ok c) r

-- what was kept of the numbers
bit_kept : (n : ℕ) → bit? (capped n) ≡ bit? n
bit_kept n = capped_below n 2 (omega arith)

four_bits_kept : (n : ℕ) → four_bits? (capped n) ≡ four_bits? n
four_bits_kept n = capped_below n 16 (omega arith)

-- numbers of which the tests, and so the octets, are the same
octet_same : {A : Type 0} (m : A → Bool) (o : A → ℕ) (u v : A) → m u ≡ m v → (T (m v) → o u ≡ o v)
    → octet_of m o u ≡ octet_of m o v
octet_same m o u v e f = rw e (go (m v) f)
  where
    go : (b : Bool) → (T b → o u ≡ o v) → cond b (Some (o u)) None ≡ cond b (Some (o v)) None
    go true f = ap (λ n. Some n) (f tt)
    go false f = refl

bit_in : (n : ℕ) → T (bit? n) → capped n ≡ n
bit_in n h = omega (arith, ltb→lt n 2 h)

four_bits_in : (n : ℕ) → T (four_bits? n) → capped n ≡ n
four_bits_in n h = omega (arith, ltb→lt n 16 h)

high_kept : (a b d e f : ℕ) → high (capped a, (capped b, (capped d, (capped e, capped f)))) ≡ high (a, (b, (d, (e, f))))
high_kept a b d e f =
    octet_same high_meant? high_octet (capped a, (capped b, (capped d, (capped e, capped f))))
    (a, (b, (d, (e, f)))) (rw (bit_kept a, four_bits_kept b, bit_kept d, bit_kept e, bit_kept f)) octet
  where
    octet : T (high_meant? (a, (b, (d, (e, f)))))
        → high_octet (capped a, (capped b, (capped d, (capped e, capped f)))) ≡ high_octet (a, (b, (d, (e, f))))
    octet h =
        let h2 = and_right (bit? a) _ h in
        let h3 = and_right (four_bits? b) _ h2 in
        let h4 = and_right (bit? d) _ h3 in
        rw (
          bit_in a (and_left (bit? a) _ h),
          four_bits_in b (and_left (four_bits? b) _ h2),
          bit_in d (and_left (bit? d) _ h3),
          bit_in e (and_left (bit? e) _ h4),
          bit_in f (and_right (bit? e) _ h4),
        )

low_kept : (a z b d e : ℕ) → low ((capped a, z), (capped b, (capped d, capped e))) ≡ low ((a, z), (b, (d, e)))
low_kept a z b d e =
    octet_same low_meant? low_octet ((capped a, z), (capped b, (capped d, capped e)))
    ((a, z), (b, (d, e))) (rw (bit_kept a, bit_kept b, bit_kept d, four_bits_kept e)) octet
  where
    octet : T (low_meant? ((a, z), (b, (d, e))))
        → low_octet ((capped a, z), (capped b, (capped d, capped e))) ≡ low_octet ((a, z), (b, (d, e)))
    octet h =
        let h2 = and_right (bit? z) _ (and_right (bit? a) _ h) in
        let h3 = and_right (bit? b) _ h2 in
        rw (
          bit_in a (and_left (bit? a) _ h),
          bit_in b (and_left (bit? b) _ h2),
          bit_in d (and_left (bit? d) _ h3),
          four_bits_in e (and_right (bit? d) _ h3),
        )

-- the numbers that they are read of, one after another
abbrev Till : String → List ℕ → Reached → Result (Cursor × ℕ) ℕ → Type 0
Till title t c r = ValueRead (till_parse (ascii title)) (λ v n. v ≡ capped n) t c r

abbrev Is : Result (Cursor × ℕ) ℕ → ℕ → Type 0
Is r n = IfOk r (λ x. x.1 ≡ capped n)

module _ {t : List ℕ} {c : Reached} where
  five : {a b d e f : Result (Cursor × ℕ) ℕ} → Till ",\"Opcode\":" t c a → Till ",\"AA\":" t (reached a) b
      → Till ",\"TC\":" t (reached b) d → Till ",\"RD\":" t (reached d) e → Till ",\"RA\":" t (reached e) f
      → Found high_parse (λ u. Is a u.0 × (Is b u.1.0 × (Is d u.1.1.0 × (Is e u.1.1.1.0 × Is f u.1.1.1.1)))) t c
      (reached f)
  five v w x y z = found_pair v.found (found_pair w.found (found_pair x.found (found_pair y.found z.found)))

  low_five : {a b d e : Result (Cursor × ℕ) ℕ} {z : Result (Cursor × ℕ) ℕ}
      → ValueRead natural (λ v n. v ≡ capped n) t c a
      → ValueRead (table_parser ad_titles) (λ v n. v ≡ n) t (reached a) z
      → Till ",\"CD\":" t (reached z) b → Till ",\"RCODE\":" t (reached b) d → Till ",\"QDCOUNT\":" t (reached d) e
      → Found low_parse (λ u. (Is a u.0.0 × IfOk z (λ x. x.1 ≡ u.0.1)) × (Is b u.1.0 × (Is d u.1.1.0 × Is e u.1.1.1))) t c
      (reached e)
  low_five v f w x y = found_pair (found_pair v.found f.found) (found_pair w.found (found_pair x.found y.found))

  four : {a b d e : Result (Cursor × ℕ) ℕ} → Till ",\"ANCOUNT\":" t c a → Till ",\"NSCOUNT\":" t (reached a) b
      → Till ",\"ARCOUNT\":" t (reached b) d → ValueRead natural (λ v n. v ≡ capped n) t (reached d) e
      → Found counts_parse (λ u. Is a u.0 × (Is b u.1.0 × (Is d u.1.1.0 × Is e u.1.1.1))) t c (reached e)
  four v w x y = found_pair v.found (found_pair w.found (found_pair x.found y.found))

module _ {t : List ℕ} {c : Cursor} where
  pub high_read : {d e f g h : Cursor} {i j k l m : ℕ} {o : Option ℕ} → TillRead (ascii ",\"Opcode\":") t c (Ok (d, i))
      → TillRead (ascii ",\"AA\":") t d (Ok (e, j)) → TillRead (ascii ",\"TC\":") t e (Ok (f, k))
      → TillRead (ascii ",\"RD\":") t f (Ok (g, l)) → TillRead (ascii ",\"RA\":") t g (Ok (h, m))
      → o ≡ high (i, (j, (k, (l, m)))) → HighRead t c (Ok (h, o))
  high_read {o = o} v w x y z q = record {
    found = found_as (five v w x y z) λ u r.
        q ∙ rw (r.0, r.1.0, r.1.1.0, r.1.1.1.0, r.1.1.1.1) (high_kept u.0 u.1.0 u.1.1.0 u.1.1.1.0 u.1.1.1.1);
    keeps = keeps_then v.keeps (keeps_then w.keeps (keeps_then x.keeps (keeps_then y.keeps z.keeps)));
  }

  pub high_stop : {a b d e : Result (Cursor × ℕ) ℕ} {n : ℕ} → TillRead (ascii ",\"Opcode\":") t c a
      → Till ",\"AA\":" t (reached a) b → Till ",\"TC\":" t (reached b) d → Till ",\"RD\":" t (reached d) e
      → Till ",\"RA\":" t (reached e) (Err n) → HighRead t c (Err n)
  high_stop v w x y z = value_stop (five v w x y z)

  pub low_read : {d e f g h : Cursor} {i j k l m : ℕ} {o : Option ℕ} → NumberRead t c (Ok (d, i))
      → RowRead (table_parser ad_titles) t d (Ok (e, j)) → TillRead (ascii ",\"CD\":") t e (Ok (f, k))
      → TillRead (ascii ",\"RCODE\":") t f (Ok (g, l)) → TillRead (ascii ",\"QDCOUNT\":") t g (Ok (h, m))
      → o ≡ low ((i, j), (k, (l, m))) → LowRead t c (Ok (h, o))
  low_read {o = o} v f w x y q = record {
    found = found_as (low_five v f w x y) λ u r.
        q ∙ rw (r.0.0, r.0.1, r.1.0, r.1.1.0, r.1.1.1) (low_kept u.0.0 u.0.1 u.1.0 u.1.1.0 u.1.1.1);
    keeps = keeps_then v.keeps (keeps_then f.keeps (keeps_then w.keeps (keeps_then x.keeps y.keeps)));
  }

  pub low_stop : {a z b d : Result (Cursor × ℕ) ℕ} {n : ℕ} → NumberRead t c a
      → ValueRead (table_parser ad_titles) (λ v n. v ≡ n) t (reached a) z
      → Till ",\"CD\":" t (reached z) b → Till ",\"RCODE\":" t (reached b) d
      → Till ",\"QDCOUNT\":" t (reached d) (Err n) → LowRead t c (Err n)
  low_stop v f w x y = value_stop (low_five v f w x y)

-- ---- the counts
abbrev pub Counted : Counts → Four → Type 0
Counted r u = (r.questions ≡ capped u.0)
    × ((r.answers ≡ capped u.1.0) × ((r.authority ≡ capped u.1.1.0) × (r.additional ≡ capped u.1.1.1)))

abbrev pub CountsRead : List ℕ → Cursor → Result (Cursor × Counts) ℕ → Type 0
CountsRead t c r = ValueRead counts_parse Counted t (Ok c) r

module _ {t : List ℕ} {c : Cursor} where
  pub counts_read : {d e f g : Cursor} {i j k l : ℕ} → TillRead (ascii ",\"ANCOUNT\":") t c (Ok (d, i))
      → TillRead (ascii ",\"NSCOUNT\":") t d (Ok (e, j)) → TillRead (ascii ",\"ARCOUNT\":") t e (Ok (f, k))
      → NumberRead t f (Ok (g, l))
      → CountsRead t c (Ok (g, record { questions = i; answers = j; authority = k; additional = l }))
  counts_read v w x y = record {
    found = four v w x y;
    keeps = keeps_then v.keeps (keeps_then w.keeps (keeps_then x.keeps y.keeps));
  }

  pub counts_stop : {a b d : Result (Cursor × ℕ) ℕ} {n : ℕ} → TillRead (ascii ",\"ANCOUNT\":") t c a
      → Till ",\"NSCOUNT\":" t (reached a) b → Till ",\"ARCOUNT\":" t (reached b) d
      → ValueRead natural (λ v n. v ≡ capped n) t (reached d) (Err n) → CountsRead t c (Err n)
  counts_stop v w x y = value_stop (four v w x y)

-- ---- what is written
-- two octets, if there are both
abbrev pub two_of : Option ℕ → Option ℕ → Option (List ℕ)
two_of (Some x) (Some y) = Some (x ∷ y ∷ [])
two_of (Some x) None = None
two_of None y = None

pub flags_done : {h l : Option ℕ} {c r : Cursor} {b b' : List ℕ} → c.to ≤ 65535 → FieldPut (two_of h l) c b r b'
    → Done {A = Five × Low} (λ u. (h ≡ high u.0) × (l ≡ low u.1)) (λ u. high_meant? u.0 && low_meant? u.1)
    (λ u. high_octet u.0 ∷ low_octet u.1 ∷ []) c b r b'
flags_done {h} {l} k = field_done (two_of h l) k λ u p. rw (p.0, p.1)
    (says (high_meant? u.0) (low_meant? u.1) (high_octet u.0) (low_octet u.1))
  where
    says : (x y : Bool) (m n : ℕ)
        → Says (two_of (cond x (Some m) None) (cond y (Some n) None)) (x && y) (m ∷ n ∷ [])
    says true true m n = (refl, refl)
    says true false m n = refl
    says false y m n = refl

abbrev pub words? : Four → Bool
words? u = u16? u.0 && (u16? u.1.0 && (u16? u.1.1.0 && u16? u.1.1.1))

abbrev pub four_words : Four → List ℕ
four_words u = be16 u.0 ++ (be16 u.1.0 ++ (be16 u.1.1.0 ++ be16 u.1.1.1))

abbrev pub PutCounts : Counts → Cursor → List ℕ → Cursor → List ℕ → Type 0
PutCounts counts = Done (Counted counts) words? four_words

abbrev Words : ℕ → Cursor → List ℕ → Cursor → List ℕ → Type 0
Words value = FieldPut (number_octets 2 value)

pub put_counts_lem : (n : Counts) {c d e f g : Cursor} {b b₁ b₂ b₃ b₄ : List ℕ} → c.to ≤ 65535
    → Words n.questions c b d b₁ → Words n.answers d b₁ e b₂ → Words n.authority e b₂ f b₃
    → Words n.additional f b₃ g b₄ → PutCounts n c b g b₄
put_counts_lem n k w x y z =
    let q = word_done k w in
    let a = word_done q.room x in
    let u = word_done a.room y in
    done_then q (done_then a (done_then u (word_done u.room z)))

-- ---- the head
-- what the head gives: RCODE, if all is meant, and the counts
pub record Told (c : Cursor) (r : Header) (h : Head) : Type 0 where
  pub rcode : T c.meaningful → r.rcode ≡ h.0.rcode
  pub counts : Counted r.counts h.1

abbrev pub HeadFacts : List ℕ → List ℕ → Cursor → Cursor × Header → Head → Type 0
HeadFacts b b' c x h = Put head_meant? head_octets c b x.0 b' h × Told x.0 x.1 h

abbrev pub HeadRead : List ℕ → Cursor → List ℕ → Result (Cursor × Header) ℕ → List ℕ → Type 0
HeadRead t c b r b' = Kept head.parse (HeadFacts b b') t (Ok c) r

abbrev pub Numbers : Type 0
Numbers = ℕ × (Five × (Low × Four))

abbrev pub numbers_parse : List ℕ → Parsed Numbers
numbers_parse w = and_then (and_then (strip (ascii "{\"ID\":") w) λ u r. till_parse (ascii ",\"QR\":") r) λ i w.
    and_then (and_then (high_parse w) λ h w.
    and_then (and_then (low_parse w) λ l w. and_then (counts_parse w) λ n r. parsed (l, n) r) λ u r. parsed (h, u) r)
    λ u r. parsed (i, u) r

-- what is known of the numbers that were read
abbrev pub NumbersKept : HeadNumbers → Numbers → Type 0
NumbersKept r u = (r.id ≡ capped u.0)
    × ((r.high ≡ high u.1.0) × ((r.low ≡ low u.1.1.0) × Counted r.counts u.1.1.1))

abbrev pub NumbersRead : List ℕ → Cursor → Result (Cursor × HeadNumbers) ℕ → Type 0
NumbersRead t c r = ValueRead numbers_parse NumbersKept t (Ok c) r

numbers_found : {t : List ℕ} {c start : Reached} {id : Result (Cursor × ℕ) ℕ} {h l : Result (Cursor × Option ℕ) ℕ}
    {n : Result (Cursor × Counts) ℕ} → Passed (ascii "{\"ID\":") t c start → Till ",\"QR\":" t start id
    → ValueRead high_parse (λ o u. o ≡ high u) t (reached id) h → ValueRead low_parse (λ o u. o ≡ low u) t (reached h) l
    → ValueRead counts_parse Counted t (reached l) n
    → Found numbers_parse (λ u. Is id u.0 × (IfOk h (λ x. x.1 ≡ high u.1.0)
    × (IfOk l (λ x. x.1 ≡ low u.1.1.0) × IfOk n (λ x. Counted x.1 u.1.1.1)))) t c (reached n)
numbers_found q i h l n = found_pair (found_lit q i.found) (found_pair h.found (found_pair l.found n.found))

module _ {t : List ℕ} {c : Cursor} where
  pub numbers_read : {d e f g j : Cursor} {id : ℕ} {h l : Option ℕ} {counts : Counts}
      → Passed (ascii "{\"ID\":") t (Ok c) (Ok d) → TillRead (ascii ",\"QR\":") t d (Ok (e, id))
      → HighRead t e (Ok (f, h)) → LowRead t f (Ok (g, l)) → CountsRead t g (Ok (j, counts))
      → NumbersRead t c (Ok (j, record { id = id; high = h; low = l; counts = counts }))
  numbers_read q i h l n = record {
    found = numbers_found q i h l n;
    keeps = keeps_then q.keeps (keeps_then i.keeps (keeps_then h.keeps (keeps_then l.keeps n.keeps)));
  }

  pub numbers_stop : {start : Reached} {id : Result (Cursor × ℕ) ℕ} {h l : Result (Cursor × Option ℕ) ℕ} {n : ℕ}
      → Passed (ascii "{\"ID\":") t (Ok c) start → Till ",\"QR\":" t start id
      → ValueRead high_parse (λ o u. o ≡ high u) t (reached id) h
      → ValueRead low_parse (λ o u. o ≡ low u) t (reached h) l
      → ValueRead counts_parse Counted t (reached l) (Err n) → NumbersRead t c (Err n)
  numbers_stop q i h l n = value_stop (numbers_found q i h l n)

-- the header was written
abbrev pub PutHeader : HeadNumbers → Cursor → List ℕ → Cursor → List ℕ → Type 0
PutHeader m c b d b' = Done (NumbersKept m) (λ u. head_meant? (head_from u)) (λ u. head_octets (head_from u)) c b d b'

pub put_header_lem : (m : HeadNumbers) {b b₁ b₂ b₃ : List ℕ} {c d e r : Cursor} → c.to ≤ 65535 → Words m.id c b d b₁
    → FieldPut (two_of m.high m.low) d b₁ e b₂ → PutCounts m.counts e b₂ r b₃ → PutHeader m c b r b₃
unfolding head_meant? head_octets
put_header_lem m k w f g =
    let i = word_done k w in
    let all = done_then i (done_then (flags_done i.room f) g) in
    record {
      at = all.at;
      room = all.room;
      put = λ u k.
          put_as (inner (u16? u.0) (high_meant? u.1.0) (low_meant? u.1.1.0) (words? u.1.1.1)) refl
          (all.put (u.0, ((u.1.0, u.1.1.0), u.1.1.1)) (k.0, ((k.1.0, k.1.1.0), k.1.1.1)));
    }
  where
    inner : (a x y v : Bool) → a && (x && (y && v)) ≡ a && ((x && y) && v)
    inner true true y v = refl
    inner true false y v = refl
    inner false x y v = refl

-- RCODE by the octet that it is in
abbrev pub rcode_in : Option ℕ → ℕ
rcode_in (Some x) = x % 16
rcode_in None = 0

pub head_stop : {t b b' : List ℕ} {c : Cursor} {n : ℕ} → NumbersRead t c (Err n) → HeadRead t c b (Err n) b'
unfolding head
head_stop x = kept_stop (found_map {Q = λ h. Unit {0}} head_from (λ u k. tt) x.found)

pub head_read_lem : {t b b' : List ℕ} {c d r : Cursor} {m : HeadNumbers} {rcode : ℕ} → NumbersRead t c (Ok (d, m))
    → PutHeader m d b r b' → rcode ≡ rcode_in m.low
    → HeadRead t c b (Ok (r, record { rcode = rcode; counts = m.counts })) b'
unfolding head head_meant?
head_read_lem {c = c} {r = r} {m = m} {rcode = rcode} x w z = record {
  found = found_map head_from (λ u k. k) (found_at x.found w.at w.room λ u k.
      let p = put_from x.keeps.alike.holds (w.put u k) in
      record { holds = (put_as refl refl p, record { rcode = code u k p.meaningful; counts = k.1.1.1 }) });
}
  where
    code : (u : Numbers) → NumbersKept m u → r.meaningful ≡ (c.meaningful && head_meant? (head_from u))
        → T r.meaningful → rcode ≡ u.1.1.0.1.1.1
    code u k e y =
        let t0 = and_right c.meaningful _ (subst T e y) in
        let t1 = and_right (high_meant? u.1.0) _ (and_right (u16? u.0) _ t0) in
        let t2 = and_left (low_meant? u.1.1.0) _ t1 in
        let t3 = and_right (bit? u.1.1.0.0.1) _ (and_right (bit? u.1.1.0.0.0) _ t2) in
        let t4 = and_right (bit? u.1.1.0.1.1.0) _ (and_right (bit? u.1.1.0.1.0) _ t3) in
        let h = ltb→lt u.1.1.0.1.1.1 16 t4 in
        z ∙ rw (k.1.1.0, is_true (low_meant? u.1.1.0) t2) (omega arith)
