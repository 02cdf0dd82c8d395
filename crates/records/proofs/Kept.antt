-- What the uncompressed form keeps: the header, and of every entry all but names and RDLENGTH. Where no name in an
-- entry meets a pointer, its form is its own octets.
use mathlib.Core.Path.{◌≡◌, refl, sym, ap, ap₂, ◌∙◌, subst}
use mathlib.Core.Bool.{true, false}
use mathlib.Core.List.{List, [], ◌∷◌, ◌++◌, append_assoc}
use Prim.Native.Nat.{ℕ, ◌+◌, ◌-◌, ◌*◌, ◌/◌, ◌%◌, ◌≤◌, ◌<◌}
use native.Mathlib.Omega.{arith}
use lib.ListN.{length, get_or, take, drop, length-append, length-drop}
use lib.Seq.{take-suc}
use Rattle.octets.specs.Lists.{Octets}
use Rattle.octets.specs.Fields.{be16, be32, be16_at, be32_at, drop_one, two_same, get_d_octet, two_at_word}
use Rattle.names.specs.Name.{Name, name_form}
use Rattle.names.specs.Walk.{message, named, name_from, name_at}
use Rattle.names.specs.NameLaws.{named-name, named_next, read_sized, read_form, read_plain}
use Rattle.records.specs.Layout.{laid, rdata_at}
use Rattle.records.specs.Message.{Message, Question, Record, question_form, record_form, header_form, form}
use Rattle.records.specs.Read.{entry, first_cut, question_at, record_at, reached, section_at, section_from}
use Rattle.records.specs.Decode.{header_of, sections_of, message_read, accepted, decode}
use Rattle.records.specs.RecordLaws.{laid_octets, pieces_fill, pieces_same, pieces_whole, fields-room}
use Rattle.records.specs.RecordLaws.{entry_value, entry_next, with_name_back, with_fields_back, filled_back}
use Rattle.records.specs.RecordLaws.{room_back}
use Rattle.records.proofs.MessageLaws.{section_count, from_count, from_reached, decode_back}
use Rattle.records.specs.Parts.{layout_in, rdata_pieces}

-- ---- the header
first_twelve : (s : List ℕ) → 12 ≤ length s
    → take 12 s ≡ get_or s 0 0 ∷ get_or s 1 0 ∷ get_or s 2 0 ∷ get_or s 3 0 ∷ get_or s 4 0 ∷ get_or s 5 0 ∷ get_or s 6 0 ∷ get_or s 7
    0 ∷ get_or s 8 0 ∷ get_or s 9 0 ∷ get_or s 10 0 ∷ get_or s 11 0 ∷ []
first_twelve s h =
    rw (
      take-suc s 11 0 (omega arith),
      take-suc s 10 0 (omega arith),
      take-suc s 9 0 (omega arith),
      take-suc s 8 0 (omega arith),
      take-suc s 7 0 (omega arith),
      take-suc s 6 0 (omega arith),
      take-suc s 5 0 (omega arith),
      take-suc s 4 0 (omega arith),
      take-suc s 3 0 (omega arith),
      take-suc s 2 0 (omega arith),
      take-suc s 1 0 (omega arith),
      take-suc s 0 0 (omega arith),
    )

-- in sections that are read to their end the counts are the header's
sections_count : (s : List ℕ) (i : ℕ) → (sections_of s).additional.end ≡ reached i
    → (length (sections_of s).questions.entries ≡ be16_at s 4) × (length (sections_of s).answers.entries ≡ be16_at s 6)
    × (length (sections_of s).authority.entries ≡ be16_at s 8)
    × (length (sections_of s).additional.entries ≡ be16_at s 10)
unfolding sections_of
sections_count s i e =
    let f₁ = section_at question_at s (be16_at s 4) 12 in
    let f₂ = section_from record_at s (be16_at s 6) f₁.end in
    let f₃ = section_from record_at s (be16_at s 8) f₂.end in
    let (i₃, p₃, g₄) = from_reached record_at s (be16_at s 10) f₃.end i e in
    let (i₂, p₂, g₃) = from_reached record_at s (be16_at s 8) f₂.end i₃ p₃ in
    let (i₁, p₁, g₂) = from_reached record_at s (be16_at s 6) f₁.end i₂ p₂ in (
      section_count question_at s (be16_at s 4) 12 i₁ p₁,
      from_count record_at s (be16_at s 6) f₁.end i₂ p₂,
      from_count record_at s (be16_at s 8) f₂.end i₃ p₃,
      from_count record_at s (be16_at s 10) f₃.end i e,
    )

-- the flags' octets from their bits
high_bits : (x : ℕ) → x / 128 * 128 + x / 8 % 16 * 8 + x / 4 % 2 * 4 + x / 2 % 2 * 2 + x % 2 ≡ x
high_bits x =
    let a : x / 4 ≡ x / 2 / 2 = omega arith in
    let b : x / 8 ≡ x / 4 / 2 = omega arith in
    let c : x / 128 ≡ x / 8 / 16 = omega arith in
    let p : x / 8 % 16 * 8 + x / 128 * 128 ≡ x / 8 * 8 = omega arith in
    let q : x / 4 % 2 * 4 + x / 8 * 8 ≡ x / 4 * 4 = omega arith in
    let r : x / 2 % 2 * 2 + x / 4 * 4 ≡ x / 2 * 2 = omega arith in
    omega arith

low_bits : (x : ℕ) → x / 128 * 128 + x / 64 % 2 * 64 + x / 32 % 2 * 32 + x / 16 % 2 * 16 + x % 16 ≡ x
low_bits x =
    let a : x / 32 ≡ x / 16 / 2 = omega arith in
    let b : x / 64 ≡ x / 32 / 2 = omega arith in
    let c : x / 128 ≡ x / 64 / 2 = omega arith in
    let p : x / 64 % 2 * 64 + x / 128 * 128 ≡ x / 64 * 64 = omega arith in
    let q : x / 32 % 2 * 32 + x / 64 * 64 ≡ x / 32 * 32 = omega arith in
    let r : x / 16 % 2 * 16 + x / 32 * 32 ≡ x / 16 * 16 = omega arith in
    omega arith

-- the first 12 octets of the form are the message's: the counts are those of the sections
pub header_same : (s : List ℕ) (i : ℕ) → ((j : ℕ) → get_or s j 0 < 256) → 12 ≤ length s
    → (sections_of s).additional.end ≡ reached i → header_form (message_read s) ≡ take 12 s
unfolding header_form message_read header_of
header_same s i o h e =
    let c = sections_count s i e in
    ap₂ (λ (x y : List ℕ). x ++ y)
    (ap₂ (λ (x y : List ℕ). x ++ y)
    (ap₂ (λ (x y : List ℕ). x ++ y) (ap₂ (λ (x y : List ℕ). x ++ y) (ap₂ (λ (x y : List ℕ). x ++ y)
    (two_same (get_or s 0 0) (get_or s 1 0) (o 0) (o 1))
    (ap₂ (λ (x y : ℕ). x ∷ y ∷ []) (high_bits (get_or s 2 0)) (low_bits (get_or s 3 0))))
    (ap be16 c.0 ∙ two_same (get_or s 4 0) (get_or s 5 0) (o 4) (o 5)))
    (ap be16 c.1 ∙ two_same (get_or s 6 0) (get_or s 7 0) (o 6) (o 7)))
    (ap be16 c.2 ∙ two_same (get_or s 8 0) (get_or s 9 0) (o 8) (o 9)))
    (ap be16 c.3 ∙ two_same (get_or s 10 0) (get_or s 11 0) (o 10) (o 11))
    ∙ sym (first_twelve s h)

-- a form begins with its header
header_first : (m : Message) → take 12 (form m) ≡ header_form m
unfolding form header_form
header_first m = refl

-- the form of an accepted message begins with the message's own 12 octets
pub header_kept : (s : List ℕ) (m : Message) → Octets s → decode s ≡ accepted m → take 12 (form m) ≡ take 12 s
header_kept s m o e =
    let k = decode_back s m e in
    let same = header_same s k.last (get_d_octet s o) k.room k.came in
    ap (λ m. take 12 (form m)) (sym k.same) ∙ header_first (message_read s) ∙ same

-- ---- fields
-- a number of 16 bits is its own octets, and so is one of 32
two_kept : (s : List ℕ) (at : ℕ) → Octets s → at + 2 ≤ length s → drop at s ≡ be16 (be16_at s at) ++ drop (at + 2) s
two_kept s at o h =
    let place : at + 1 + 1 ≡ at + 2 = omega arith in
    let same = two_same (get_or s at 0) (get_or s (at + 1) 0) (get_d_octet s o at) (get_d_octet s o (at + 1)) in
    drop_one s at (omega arith)
    ∙ ap (λ l. get_or s at 0 ∷ l) (drop_one s (at + 1) (omega arith) ∙ ap (λ i. get_or s (at + 1) 0 ∷ drop i s) place)
    ∙ ap (λ l. l ++ drop (at + 2) s) (sym same)

four_kept : (s : List ℕ) (at : ℕ) → Octets s → at + 4 ≤ length s → drop at s ≡ be32 (be32_at s at) ++ drop (at + 4) s
four_kept s at o h =
    let a = be16_at s at in
    let b = be16_at s (at + 2) in
    let small = two_at_word s o (at + 2) in
    let high : (a * 65536 + b) / 65536 ≡ a = omega arith in
    let low : (a * 65536 + b) % 65536 ≡ b = omega arith in
    let place : at + 2 + 2 ≡ at + 4 = omega arith in
    two_kept s at o (omega arith)
    ∙ ap (λ l. be16 a ++ l) (two_kept s (at + 2) o (omega arith) ∙ ap (λ i. be16 b ++ drop i s) place)
    ∙ ap₂ (λ x y. be16 x ++ be16 y ++ drop (at + 4) s) (sym high) (sym low)

-- TYPE and CLASS
question_fields_lem : (s : List ℕ) (at : ℕ) → Octets s → at + 4 ≤ length s
    → drop at s ≡ be16 (be16_at s at) ++ be16 (be16_at s (at + 2)) ++ drop (at + 4) s
question_fields_lem s at o h =
    let place : at + 2 + 2 ≡ at + 4 = omega arith in
    two_kept s at o (omega arith)
    ∙ ap (λ l. be16 (be16_at s at) ++ l) (two_kept s (at + 2) o (omega arith)
    ∙ ap (λ i. be16 (be16_at s (at + 2)) ++ drop i s) place)

-- TTL and RDLENGTH after them
record_fields : (s : List ℕ) (at : ℕ) → Octets s → at + 10 ≤ length s
    → drop at s ≡ be16 (be16_at s at) ++ be16 (be16_at s (at + 2)) ++ be32 (be32_at s (at + 4)) ++ be16 (be16_at s (at + 8))
    ++ drop (at + 10) s
record_fields s at o h =
    let ttl : at + 4 + 4 ≡ at + 8 = omega arith in
    let rdata : at + 8 + 2 ≡ at + 10 = omega arith in
    let last = two_kept s (at + 8) o (omega arith) ∙ ap (λ i. be16 (be16_at s (at + 8)) ++ drop i s) rdata in
    question_fields_lem s at o (omega arith)
    ∙ ap (λ l. be16 (be16_at s at) ++ be16 (be16_at s (at + 2)) ++ l) (four_kept s (at + 4) o (omega arith)
    ∙ ap (λ l. be32 (be32_at s (at + 4)) ++ l) (ap (λ i. drop i s) ttl ∙ last))

-- ---- entries
-- a question: after its name, TYPE and CLASS
pub record QuestionKept (s : List ℕ) (at : ℕ) (q : Question) (next : ℕ) : Type 0 where
  pub after : ℕ
  pub name : name_at s message at ≡ named q.name after
  pub fields : drop after s ≡ be16 q.type ++ be16 q.class ++ drop next s

pub question_kept : (s : List ℕ) (at : ℕ) (q : Question) (next : ℕ) → Octets s → question_at s at ≡ entry q next
    → QuestionKept s at q next
unfolding question_at
question_kept s at q next o e =
    let (n, i, p, f) = with_name_back (name_at s message at) _ q next e in
    let (u, g) = with_fields_back (first_cut s i (2 ∷ 2 ∷ [])) _ q next f in
    let over = (read_sized s message at at n i (omega arith) p).3 in
    let room = fields-room s i (2 ∷ 2 ∷ []) over u in
    let made : Question = record { name = n; type = be16_at s i; class = be16_at s (i + 2) } in
    let kept : QuestionKept s at made (i + 4) =
    record { after = i; name = p; fields = question_fields_lem s i o (omega arith) } in
    subst (λ q. QuestionKept s at q next) (entry_value g) (subst (QuestionKept s at made) (entry_next g) kept)

-- a record: after its owner, TYPE, CLASS and TTL, then RDLENGTH, which is `size` here, and RDATA
pub record RecordKept (s : List ℕ) (at : ℕ) (r : Record) (next : ℕ) : Type 0 where
  pub after : ℕ
  pub size : ℕ
  pub name : name_at s message at ≡ named r.name after
  pub fields : drop after s ≡ be16 r.type ++ be16 r.class ++ be32 r.ttl ++ be16 size ++ drop (after + 10) s
  pub rdata : rdata_at true s r.type (after + 10) size ≡ laid r.rdata
  pub ends : next ≡ after + 10 + size
  pub within : next ≤ length s

pub record_kept : (s : List ℕ) (at : ℕ) (r : Record) (next : ℕ) → Octets s → record_at s at ≡ entry r next
    → RecordKept s at r next
unfolding record_at
record_kept s at r next o e =
    let (n, i, p, f) = with_name_back (name_at s message at) _ r next e in
    let (u, g) = with_fields_back (first_cut s i (2 ∷ 2 ∷ 4 ∷ 2 ∷ [])) _ r next f in
    let over = (read_sized s message at at n i (omega arith) p).3 in
    let space = fields-room s i (2 ∷ 2 ∷ 4 ∷ 2 ∷ []) over u in
    let size = be16_at s (i + 8) in
    let made : List ℕ → Record =
    λ d. record { name = n; type = be16_at s i; class = be16_at s (i + 2); ttl = be32_at s (i + 4); rdata = d } in
    let (room, k) = room_back s (i + 10 + size) _ _ r next g in
    let w = rdata_at true s (be16_at s i) (i + 10) size in
    let (d, l, same, place) = filled_back made (i + 10 + size) w r next k in
    let kept : RecordKept s at (made d) next = record {
      after = i;
      size = size;
      name = p;
      fields = record_fields s i o (omega arith);
      rdata = l;
      ends = sym place;
      within = omega arith;
    } in
    subst (λ r. RecordKept s at r next) same kept

-- ---- entries without pointers
-- a name that is read without meeting a pointer is its own form
name_own : (s : List ℕ) (at : ℕ) {m n : Name} {j i : ℕ} → name_at s message at ≡ named m j
    → name_from s message 0 at ≡ named n i
    → (drop at s ≡ name_form m ++ drop j s) × (i ≡ j)
name_own s at {m} {n} {j} {i} p q =
    let same = sym (read_plain s message at at n i (omega arith) q) ∙ p in
    let own = (read_form s message at n i (omega arith) q).0 in
    (own ∙ ap₂ (λ n i. name_form n ++ drop i s) (named-name same) (named_next same), named_next same)

-- and so is RDATA
rdata_own : (s : List ℕ) (type at size : ℕ) {d e : List ℕ} → at + size ≤ length s → rdata_at true s type at size ≡ laid e
    → rdata_at false s type at size ≡ laid d → (drop at s ≡ e ++ drop (at + size) s) × (length e ≡ size)
rdata_own s type at size {d} {e} h p q =
    let layout = layout_in type size in
    let end = at + size in
    let f = sym (rdata_pieces false s type at size) ∙ q in
    let own = pieces_whole layout s at end at d h (omega arith) f in
    let long : length s - at ≡ length d + (length s - end) =
    sym (length-drop at s) ∙ ap length own ∙ length-append d (drop end s)
    ∙ ap (λ n. length d + n) (length-drop end s) in
    let fills = pieces_fill false layout s at end at d h f in
    let back = rdata_pieces true s type at size ∙ pieces_same true layout s (drop end s) at end at d fills own
    (omega arith) in
    let same : d ≡ e = laid_octets (sym back ∙ p) in
    (own ∙ ap (λ l. l ++ drop end s) same, ap length (sym same) ∙ omega arith)

-- where no pointer is met in its name, a question's form is its own octets
pub question_own : (s : List ℕ) (at : ℕ) (q : Question) (next : ℕ) → Octets s → question_at s at ≡ entry q next
    → (n : Name) (i : ℕ) → name_from s message 0 at ≡ named n i → drop at s ≡ question_form q ++ drop next s
unfolding question_form
question_own s at q next o e n i p =
    let k = question_kept s at q next o e in
    (name_own s at k.name p).0 ∙ ap (λ l. name_form q.name ++ l) k.fields ∙ sym (simp append_assoc)

-- where none is met in its owner and in its RDATA, a record's form is its own octets
pub record_own : (s : List ℕ) (at : ℕ) (r : Record) (next : ℕ) → Octets s → record_at s at ≡ entry r next
    → (n : Name) (i size : ℕ) (d : List ℕ) → name_from s message 0 at ≡ named n i → next ≡ i + 10 + size
    → rdata_at false s r.type (i + 10) size ≡ laid d → drop at s ≡ record_form r ++ drop next s
unfolding record_form
record_own s at r next o e n i size d p h q =
    let k = record_kept s at r next o e in
    let (own, place) = name_own s at k.name p in
    let same : size ≡ k.size = omega (arith, k.ends) in
    let inside : rdata_at false s r.type (k.after + 10) k.size ≡ laid d =
    ap₂ (λ i n. rdata_at false s r.type (i + 10) n) (sym place) (sym same) ∙ q in
    let (whole, long) = rdata_own s r.type (k.after + 10) k.size (omega (arith, k.ends, k.within))
    k.rdata inside in
    let head = be16 r.type ++ be16 r.class ++ be32 r.ttl in
    own
    ∙ ap (λ l. name_form r.name ++ l) (k.fields
    ∙ ap₂ (λ n l. head ++ be16 n ++ l) (sym long) (whole ∙ ap (λ i. r.rdata ++ drop i s) (sym k.ends)))
    ∙ sym (simp append_assoc)
