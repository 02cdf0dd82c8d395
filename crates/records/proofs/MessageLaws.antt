-- Laws of reading a whole message.
use mathlib.Core.Path.{◌≡◌, refl, sym, ◌∙◌, ap, subst}
use mathlib.Core.Logic.{◌↔◌}
use mathlib.Core.Bool.{Bool, true, false, ◌&&◌, cond}
use mathlib.Core.List.{List, [], ◌∷◌, ◌++◌, append_assoc, append-nil}
use Prim.Native.Nat.{ℕ, zero, suc, ◌+◌, ◌*◌, ◌/◌, ◌%◌, ◌<◌, ◌≤◌}
use native.Mathlib.Nat.{add-zero}
use native.Mathlib.Omega.{arith}
use borrow.Author.Tests.{le-ltb, ltb-false}
use lib.Dec.{T, ltb, ltb→lt, lt→ltb}
use lib.ListN.{length, drop, length-append}
use Rattle.octets.specs.Lists.{all, All, Octets, u16?, each}
use Rattle.octets.specs.Bits.{both, and_left, and_right, each_holds, all_hold, All-append}
use Rattle.octets.specs.Fields.{be16, be32, be16_at, drop_past, two_back, get_d_octet, two_at_word, two_octets}
use Rattle.octets.specs.Fields.{four_octets}
use Rattle.names.specs.Name.{name_form, Fault}
use Rattle.names.specs.NameLaws as N
use Rattle.records.specs.Message.{Header, Question, Record, Message, flags_high, flags_low, question_form}
use Rattle.records.specs.Message.{record_form, header_form, form, bit?, four_bits?, header?, question?, record?}
use Rattle.records.specs.Message.{section?, valid?}
use Rattle.records.specs.Read.{Entry, entry, bad, question_at, record_at, Reached, reached, stopped, add, section_at}
use Rattle.records.specs.Read.{section_from}
use Rattle.records.specs.Decode.{header_of, sections_of, message_read, Decoded, accepted, refused, after_reading}
use Rattle.records.specs.Decode.{decode}
use Rattle.records.specs.RecordLaws.{question_parts, record_parts, record_long, question_back, question_read_lem}
use Rattle.records.specs.RecordLaws.{record_back, record_read_lem}

-- ---- sections
-- the offset that was reached
abbrev reached_of : Reached → ℕ
reached_of (reached at) = at
reached_of (stopped at fault) = 0

-- reading met no fault
abbrev Came : Reached → Type 0
Came (reached at) = Unit {0}
Came (stopped at fault) = ⊥

-- to stop at a fault is not to reach an offset
pub stopped≢reached : {i : ℕ} {fault : Fault} {j : ℕ} → stopped i fault ≡ reached j → ⊥
stopped≢reached e = subst Came (sym e) tt

module _ {A : Type 0} (read : List ℕ → ℕ → Entry A) (s : List ℕ) where
  -- an entry that is read, and the entries after it
  pub section_step : (n at : ℕ) (a : A) (next : ℕ) → read s at ≡ entry a next
      → section_at read s (suc n) at ≡ add a (section_at read s n next)
  unfolding section_at
  section_step n at a next e = rw (e, section_at)

  -- a fault ends the section
  pub section_stop : (n at : ℕ) (fault : Fault) → read s at ≡ bad fault
      → section_at read s (suc n) at ≡ record { entries = []; end = stopped at fault }
  unfolding section_at
  section_stop n at fault e = rw (e, section_at)

  -- the section before has come to its end
  pub from_reached : (n : ℕ) (w : Reached) (i : ℕ) → (section_from read s n w).end ≡ reached i
      → (at : ℕ) × (w ≡ reached at) × ((section_at read s n at).end ≡ reached i)
  unfolding section_from
  from_reached n (reached at) i e = (at, refl, e)
  from_reached n (stopped at fault) i e = absurd (stopped≢reached e)

  module _ (entry? : A → Bool) where
    -- the entries that are read are valid if each that is read is
    module _ (valid : (at : ℕ) (a : A) (next : ℕ) → read s at ≡ entry a next → T (entry? a)) where
      -- a section from an offset on
      pub section_valid : (n at : ℕ) → T (all entry? (section_at read s n at).entries)
      unfolding section_at
      section_valid zero at = tt
      section_valid (suc n) at = go (read s at) refl (section_valid n)
        where
          go : (w : Entry A) → read s at ≡ w → ((i : ℕ) → T (all entry? (section_at read s n i).entries))
              → T (all entry? (section_at read s (suc n) at).entries)
          go (entry a next) p f = rw (section_step n at a next p) (both (entry? a) _ (valid at a next p) (f next))
          go (bad fault) p f = rw (section_stop n at fault p) tt

      -- a section after another
      pub from_valid : (n : ℕ) (w : Reached) → T (all entry? (section_from read s n w).entries)
      unfolding section_from
      from_valid n (reached at) = section_valid n at
      from_valid n (stopped at fault) = tt

    -- where a section's form is, the section is read, if each entry is
    pub section_back : (form : A → List ℕ) → ((a : A) (r : List ℕ) (at : ℕ) → T (entry? a) → length (form a) ≤ 65535
        → drop at s ≡ form a ++ r → read s at ≡ entry a (at + length (form a)))
        → (l : List A) (r : List ℕ) (at : ℕ) → T (all entry? l) → length (each form l) ≤ 65535
        → drop at s ≡ each form l ++ r
        → section_at read s (length l) at ≡ record { entries = l; end = reached (at + length (each form l)) }
    unfolding section_at each
    section_back form back [] r at v h e = ap (λ (i : ℕ). record { entries = []; end = reached i }) (sym (add-zero at))
    section_back form back (a ∷ l) r at v h e =
        let long = length-append (form a) (each form l) in
        let here : drop at s ≡ form a ++ (each form l ++ r) = e ∙ append_assoc (form a) (each form l) r in
        let next = at + length (form a) in
        let place : next + length (each form l) ≡ at + length (form a ++ each form l) = omega arith in
        section_step (length l) at a next
        (back a (each form l ++ r) at (and_left (entry? a) (all entry? l) v) (omega arith) here)
        ∙ ap (add a) (section_back form back l r next (and_right (entry? a) (all entry? l) v) (omega arith)
        (drop_past s (form a) (each form l ++ r) at here))
        ∙ ap (λ (i : ℕ). record { entries = a ∷ l; end = reached i }) place

  -- a section that is read to its end has as many entries as were asked for
  pub section_count : (n at i : ℕ) → (section_at read s n at).end ≡ reached i
      → length (section_at read s n at).entries ≡ n
  unfolding section_at
  section_count zero at i e = refl
  section_count (suc n) at i e = go (read s at) refl (section_count n)
    where
      go : (w : Entry A) → read s at ≡ w
          → ((j k : ℕ) → (section_at read s n j).end ≡ reached k → length (section_at read s n j).entries ≡ n)
          → length (section_at read s (suc n) at).entries ≡ suc n
      go (entry a next) p f = rw (section_step n at a next p) (ap suc (f next i (rw (section_step n at a next p) at e)))
      go (bad fault) p f = absurd (stopped≢reached (rw (section_stop n at fault p) at e))

  -- the same of a section after another
  pub from_count : (n : ℕ) (w : Reached) (i : ℕ) → (section_from read s n w).end ≡ reached i
      → length (section_from read s n w).entries ≡ n
  unfolding section_from
  from_count n (reached at) i e = section_count n at i e
  from_count n (stopped at fault) i e = absurd (stopped≢reached e)

-- ---- the header
-- the bounds of a header's fields
pub record Bounds (h : Header) : Type 0 where
  pub id : h.id < 65536
  pub qr : h.qr < 2
  pub opcode : h.opcode < 16
  pub aa : h.aa < 2
  pub tc : h.tc < 2
  pub rd : h.rd < 2
  pub ra : h.ra < 2
  pub z : h.z < 2
  pub ad : h.ad < 2
  pub cd : h.cd < 2
  pub rcode : h.rcode < 16

-- the tests of a header after that of ID; those of its fourth octet
abbrev low_tests : Header → List Bool
low_tests h = bit? h.ra ∷ bit? h.z ∷ bit? h.ad ∷ bit? h.cd ∷ four_bits? h.rcode ∷ []

abbrev tests : Header → List Bool
tests h = bit? h.qr ∷ four_bits? h.opcode ∷ bit? h.aa ∷ bit? h.tc ∷ bit? h.rd ∷ low_tests h

-- a valid header has these bounds
pub header_parts : (h : Header) → T (header? h) → Bounds h
unfolding header?
header_parts h t =
    let (id, (qr, (opcode, (aa, (tc, (rd, (ra, (z, (ad, (cd, (rcode, none))))))))))) =
    each_holds (u16? h.id) (tests h) t in
    record {
      id = ltb→lt h.id 65536 id;
      qr = ltb→lt h.qr 2 qr;
      opcode = ltb→lt h.opcode 16 opcode;
      aa = ltb→lt h.aa 2 aa;
      tc = ltb→lt h.tc 2 tc;
      rd = ltb→lt h.rd 2 rd;
      ra = ltb→lt h.ra 2 ra;
      z = ltb→lt h.z 2 z;
      ad = ltb→lt h.ad 2 ad;
      cd = ltb→lt h.cd 2 cd;
      rcode = ltb→lt h.rcode 16 rcode;
    }

-- a header with these bounds is valid
pub header_made : (h : Header) → Bounds h → T (header? h)
unfolding header?
header_made h k =
    let low : All T (low_tests h) = (
      lt→ltb h.ra 2 k.ra,
      (
        lt→ltb h.z 2 k.z,
        (lt→ltb h.ad 2 k.ad, (lt→ltb h.cd 2 k.cd, (lt→ltb h.rcode 16 k.rcode, tt))),
      ),
    ) in
    all_hold (u16? h.id) (tests h) (lt→ltb h.id 65536 k.id) (
      lt→ltb h.qr 2 k.qr,
      (
        lt→ltb h.opcode 16 k.opcode,
        (lt→ltb h.aa 2 k.aa, (lt→ltb h.tc 2 k.tc, (lt→ltb h.rd 2 k.rd, low))),
      ),
    )

-- the header of octets has those bounds
header_octets : (s : List ℕ) → Octets s → Bounds (header_of s)
unfolding header_of
header_octets s o =
    let a = get_d_octet s o 2 in
    let b = get_d_octet s o 3 in
    let c = two_at_word s o 0 in
    record {
      id = c;
      qr = omega arith;
      opcode = omega arith;
      aa = omega arith;
      tc = omega arith;
      rd = omega arith;
      ra = omega arith;
      z = omega arith;
      ad = omega arith;
      cd = omega arith;
      rcode = omega arith;
    }

-- a header's fields back from its form
header_back : (m : Message) → Bounds m.header → header_of (form m) ≡ m.header
unfolding header_of form header_form
header_back m k =
    let h = m.header in
    let e₀ : h.id / 256 % 256 * 256 + h.id % 256 ≡ h.id = two_back h.id k.id in
    let e₁ : flags_high h / 128 ≡ h.qr = omega arith in
    let e₂ : flags_high h / 8 % 16 ≡ h.opcode = omega arith in
    let e₃ : flags_high h / 4 % 2 ≡ h.aa = omega arith in
    let e₄ : flags_high h / 2 % 2 ≡ h.tc = omega arith in
    let e₅ : flags_high h % 2 ≡ h.rd = omega arith in
    let e₆ : flags_low h / 128 ≡ h.ra = omega arith in
    let e₇ : flags_low h / 64 % 2 ≡ h.z = omega arith in
    let e₈ : flags_low h / 32 % 2 ≡ h.ad = omega arith in
    let e₉ : flags_low h / 16 % 2 ≡ h.cd = omega arith in
    let e₁₀ : flags_low h % 16 ≡ h.rcode = omega arith in
    λ i. record {
      id = e₀ i;
      qr = e₁ i;
      opcode = e₂ i;
      aa = e₃ i;
      tc = e₄ i;
      rd = e₅ i;
      ra = e₆ i;
      z = e₇ i;
      ad = e₈ i;
      cd = e₉ i;
      rcode = e₁₀ i;
    }

-- ---- the parts of a valid message
-- the count of a valid section is a number of 16 bits, and its entries are valid
section_parts : {A : Type 0} (entry? : A → Bool) (l : List A) → T (section? entry? l)
    → (length l < 65536) × T (all entry? l)
section_parts entry? l h = (
  ltb→lt (length l) 65536 (and_left (u16? (length l)) (all entry? l) h),
  and_right (u16? (length l)) (all entry? l) h,
)

-- a section with both is valid
section_made : {A : Type 0} (entry? : A → Bool) (l : List A) → length l < 65536 → T (all entry? l)
    → T (section? entry? l)
section_made entry? l h k = both (u16? (length l)) (all entry? l) (lt→ltb (length l) 65536 h) k

-- a valid message
pub record Valid (m : Message) : Type 0 where
  pub header : Bounds m.header
  pub questions : (length m.questions < 65536) × T (all question? m.questions)
  pub answers : (length m.answers < 65536) × T (all record? m.answers)
  pub authority : (length m.authority < 65536) × T (all record? m.authority)
  pub additional : (length m.additional < 65536) × T (all record? m.additional)

-- the parts of a valid message are valid
pub valid_parts : (m : Message) → T (valid? m) → Valid m
unfolding valid?
valid_parts m h₀ =
    let a = header? m.header in
    let b = section? question? m.questions in
    let c = section? record? m.answers in
    let d = section? record? m.authority in
    let e = section? record? m.additional in
    let h₃ = and_left (a && b && c && d) e h₀ in
    let h₂ = and_left (a && b && c) d h₃ in
    let h₁ = and_left (a && b) c h₂ in
    record {
      header = header_parts m.header (and_left a b h₁);
      questions = section_parts question? m.questions (and_right a b h₁);
      answers = section_parts record? m.answers (and_right (a && b) c h₂);
      authority = section_parts record? m.authority (and_right (a && b && c) d h₃);
      additional = section_parts record? m.additional (and_right (a && b && c && d) e h₀);
    }

-- a message of valid parts is valid
pub valid_made : (m : Message) → Valid m → T (valid? m)
unfolding valid?
valid_made m v =
    let a = header? m.header in
    let b = section? question? m.questions in
    let c = section? record? m.answers in
    let d = section? record? m.authority in
    let e = section? record? m.additional in
    both (a && b && c && d) e
    (both (a && b && c) d
    (both (a && b) c
    (both a b (header_made m.header v.header)
    (section_made question? m.questions v.questions.0 v.questions.1))
    (section_made record? m.answers v.answers.0 v.answers.1))
    (section_made record? m.authority v.authority.0 v.authority.1))
    (section_made record? m.additional v.additional.0 v.additional.1)

-- ---- the form is read back
module _ (s : List ℕ) where
  -- a record whose form is within the limit is read back
  record_here : (a : Record) (r : List ℕ) (at : ℕ) → T (record? a) → length (record_form a) ≤ 65535
      → drop at s ≡ record_form a ++ r → record_at s at ≡ entry a (at + length (record_form a))
  record_here a r at v h e = let long = record_long a in record_back s r at a v (omega arith) e

  -- a question is read back
  question_here : (a : Question) (r : List ℕ) (at : ℕ) → T (question? a) → length (question_form a) ≤ 65535
      → drop at s ≡ question_form a ++ r
      → question_at s at ≡ entry a (at + length (question_form a))
  question_here a r at v h e = question_back s r at a v e

-- the lengths of the form's parts
pub form-long : (m : Message)
    → length (form m) ≡ 12 + length (each question_form m.questions) + length (each record_form m.answers) + length
    (each record_form m.authority) + length (each record_form m.additional)
unfolding form header_form
form-long m =
    let q = each question_form m.questions in
    let a = each record_form m.answers in
    let n = each record_form m.authority in
    let r = each record_form m.additional in
    let e₁ = length-append (q ++ a ++ n) r in
    let e₂ = length-append (q ++ a) n in
    let e₃ = length-append q a in
    omega arith

-- the sections of a form are those of its message
module _ (m : Message) (v : Valid m) (h : length (form m) ≤ 65535) where
  -- the sections read
  form_sections : sections_of (form m) ≡ record {
    questions = record { entries = m.questions; end = reached (12 + length (each question_form m.questions)) };
    answers = record {
      entries = m.answers;
      end = reached (12 + length (each question_form m.questions) + length (each record_form m.answers));
    };
    authority = record {
      entries = m.authority;
      end = reached (12 + length (each question_form m.questions) + length (each record_form m.answers) + length
          (each record_form m.authority));
    };
    additional = record { entries = m.additional; end = reached (length (form m)) };
  }
  unfolding sections_of section_from
  form_sections =
      let s = form m in
      let q = each question_form m.questions in
      let a = each record_form m.answers in
      let n = each record_form m.authority in
      let r = each record_form m.additional in
      let long = form-long m in
      let c₁ : be16_at s 4 ≡ length m.questions =
      unfold form header_form in two_back (length m.questions) v.questions.0 in
      let c₂ : be16_at s 6 ≡ length m.answers =
      unfold form header_form in two_back (length m.answers) v.answers.0 in
      let c₃ : be16_at s 8 ≡ length m.authority =
      unfold form header_form in two_back (length m.authority) v.authority.0 in
      let c₄ : be16_at s 10 ≡ length m.additional =
      unfold form header_form in two_back (length m.additional) v.additional.0 in
      let e₁ : drop 12 s ≡ q ++ (a ++ (n ++ r)) = unfold form header_form in append_assoc (q ++ a) n r
      ∙ append_assoc q a (n ++ r) in
      let e₂ = drop_past s q (a ++ (n ++ r)) 12 e₁ in
      let e₃ = drop_past s a (n ++ r) (12 + length q) e₂ in
      let e₄ = drop_past s n r (12 + length q + length a) e₃ in
      let d₁ = section_back question_at s question? question_form (question_here s) m.questions (a ++ (n ++ r)) 12
      v.questions.1 (omega arith) e₁ in
      let d₂ = section_back record_at s record? record_form (record_here s) m.answers (n ++ r) (12 + length q)
      v.answers.1 (omega arith) e₂ in
      let d₃ = section_back record_at s record? record_form (record_here s) m.authority r (12 + length q + length a)
      v.authority.1 (omega arith) e₃ in
      let d₄ = section_back record_at s record? record_form (record_here s) m.additional []
      (12 + length q + length a + length n) v.additional.1 (omega arith) (e₄ ∙ sym (append-nil r)) in
      rw (c₁, c₂, c₃, c₄, d₁, d₂, d₃, d₄, long)

  -- the message read
  form_message : message_read (form m) ≡ m
  unfolding message_read
  form_message = rw (form_sections, header_back m v.header)

-- a valid message within the limit is read back from its form
pub decode-form : (m : Message) → T (valid? m) → length (form m) ≤ 65535 → decode (form m) ≡ accepted m
unfolding decode
decode-form m v h =
    let w = valid_parts m v in
    let long = form-long m in
    rw (
      form_sections m w h,
      form_message m w h,
      decode,
      le-ltb 65535 (length (form m)) h,
      le-ltb (length (form m)) 12 (omega arith),
      le-ltb (length (form m)) (length (form m)) (omega arith),
    )

-- ---- what is accepted is valid
-- an answer that is no refusal
abbrev Accepted : Decoded → Type 0
Accepted (accepted m) = Unit {0}
Accepted (refused k at) = ⊥

-- the message of an answer
abbrev message_in : Message → Decoded → Message
message_in d (accepted m) = m
message_in d (refused k at) = d

-- equal answers have equal messages
pub accepted_message : {m n : Message} → accepted m ≡ accepted n → m ≡ n
accepted_message {m} e = ap (message_in m) e

-- a refusal is no message
pub refused≢accepted : {k at : ℕ} {m : Message} → refused k at ≡ accepted m → ⊥
refused≢accepted e = subst Accepted (sym e) tt

-- a refusal that is not the answer was not due
cond_back : (b : Bool) (k at : ℕ) (w : Decoded) (m : Message) → cond b (refused k at) w ≡ accepted m
    → (b ≡ false) × (w ≡ accepted m)
cond_back true k at w m e = absurd (refused≢accepted e)
cond_back false k at w m e = (refl, e)

-- an accepted message was read to its end
ended_back : (s : List ℕ) (n : Message) (w : Reached) (m : Message) → after_reading s n w ≡ accepted m
    → (at : ℕ) × (w ≡ reached at) × (length s ≤ at) × (length (form n) ≤ 65535) × (n ≡ m)
ended_back s n (reached at) m e =
    let (p, f) = cond_back (ltb at (length s)) 8 at _ m e in
    let (q, g) = cond_back (ltb 65535 (length (form n))) 9 0 (accepted n) m f in
    (at, refl, ltb-false at (length s) p, ltb-false 65535 (length (form n)) q, accepted_message g)
ended_back s n (stopped at fault) m e = absurd (refused≢accepted e)

-- what acceptance says of the octets
pub record Taken (s : List ℕ) (m : Message) : Type 0 where
  pub small : length s ≤ 65535
  pub room : 12 ≤ length s
  pub last : ℕ
  pub came : (sections_of s).additional.end ≡ reached last
  pub whole : length s ≤ last
  pub same : message_read s ≡ m
  pub limit : length (form m) ≤ 65535

-- an accepted message gives all of this
pub decode_back : (s : List ℕ) (m : Message) → decode s ≡ accepted m → Taken s m
unfolding decode
decode_back s m e =
    let (a, e₁) = cond_back (ltb 65535 (length s)) 2 0 _ m e in
    let (b, e₂) = cond_back (ltb (length s) 12) 1 0 _ m e₁ in
    let (at, p, q, d, same) = ended_back s (message_read s) (sections_of s).additional.end m e₂ in
    record {
      small = ltb-false 65535 (length s) a;
      room = ltb-false (length s) 12 b;
      last = at;
      came = p;
      whole = q;
      same = same;
      limit = subst (λ (k : Message). length (form k) ≤ 65535) same d;
    }

-- the sections of octets that are read to their end
sections_valid : (s : List ℕ) (i : ℕ) → Octets s → (sections_of s).additional.end ≡ reached i → Valid (message_read s)
unfolding sections_of message_read
sections_valid s i o e =
    let f₁ = section_at question_at s (be16_at s 4) 12 in
    let f₂ = section_from record_at s (be16_at s 6) f₁.end in
    let f₃ = section_from record_at s (be16_at s 8) f₂.end in
    let f₄ = section_from record_at s (be16_at s 10) f₃.end in
    let (i₃, p₃, g₄) = from_reached record_at s (be16_at s 10) f₃.end i e in
    let (i₂, p₂, g₃) = from_reached record_at s (be16_at s 8) f₂.end i₃ p₃ in
    let (i₁, p₁, g₂) = from_reached record_at s (be16_at s 6) f₁.end i₂ p₂ in
    let n₁ = section_count question_at s (be16_at s 4) 12 i₁ p₁ in
    let n₂ = from_count record_at s (be16_at s 6) f₁.end i₂ p₂ in
    let n₃ = from_count record_at s (be16_at s 8) f₂.end i₃ p₃ in
    let n₄ = from_count record_at s (be16_at s 10) f₃.end i e in
    let w₁ = two_at_word s o 4 in
    let w₂ = two_at_word s o 6 in
    let w₃ = two_at_word s o 8 in
    let w₄ = two_at_word s o 10 in
    let each : (at : ℕ) (a : Record) (next : ℕ) → record_at s at ≡ entry a next
    → T (record? a) = λ at a next k. (record_read_lem s at a next o k).0 in
    record {
      header = header_octets s o;
      questions = (
        omega (arith, n₁, w₁),
        section_valid question_at s question? (λ at a next k. (question_read_lem s at a next o k).0) (be16_at s 4) 12,
      );
      answers = (omega (arith, n₂, w₂), from_valid record_at s record? each (be16_at s 6) f₁.end);
      authority = (omega (arith, n₃, w₃), from_valid record_at s record? each (be16_at s 8) f₂.end);
      additional = (omega (arith, n₄, w₄), from_valid record_at s record? each (be16_at s 10) f₃.end);
    }

-- a message that is accepted is valid, and its form is within the limit
pub decode_valid : (s : List ℕ) (m : Message) → Octets s → decode s ≡ accepted m
    → T (valid? m) × (length (form m) ≤ 65535)
decode_valid s m o e =
    let k = decode_back s m e in (
      subst (λ (n : Message). T (valid? n)) k.same
          (valid_made (message_read s) (sections_valid s k.last o k.came)),
      k.limit,
    )

-- ---- the form of a valid message is octets
-- the form of a valid question is octets
question_octets : (q : Question) → T (question? q) → Octets (question_form q)
unfolding question_form
question_octets q h =
    let P : ℕ → Type 0 = λ x. x < 256 in
    let n = name_form q.name in
    All-append P (n ++ be16 q.type) (be16 q.class)
    (All-append P n (be16 q.type) (N.form-octets q.name (question_parts q h).0) (two_octets q.type))
    (two_octets q.class)

-- the form of a valid record is octets
record_octets_lem : (r : Record) → T (record? r) → Octets (record_form r)
unfolding record_form
record_octets_lem r h =
    let P : ℕ → Type 0 = λ x. x < 256 in
    let n = name_form r.name in
    let a = be16 r.type in
    let b = be16 r.class in
    let c = be32 r.ttl in
    let d = be16 (length r.rdata) in
    let k = record_parts r h in
    All-append P (n ++ a ++ b ++ c ++ d) r.rdata
    (All-append P (n ++ a ++ b ++ c) d
    (All-append P (n ++ a ++ b) c
    (All-append P (n ++ a) b (All-append P n a (N.form-octets r.name k.0) (two_octets r.type))
    (two_octets r.class))
    (four_octets r.ttl))
    (two_octets (length r.rdata)))
    k.4

-- forms of octets, one after another, are octets
forms-octets : {A : Type 0} (f : A → List ℕ) (entry? : A → Bool) → ((a : A) → T (entry? a) → Octets (f a))
    → (l : List A) → T (all entry? l) → Octets (each f l)
unfolding each
forms-octets f entry? g [] h = tt
forms-octets f entry? g (a ∷ l) h =
    All-append (λ x. x < 256) (f a) (each f l) (g a (and_left (entry? a) (all entry? l) h))
    (forms-octets f entry? g l (and_right (entry? a) (all entry? l) h))

-- the form of a header within its bounds is octets
header_form-octets : (m : Message) → Bounds m.header → Octets (header_form m)
unfolding header_form
header_form-octets m k =
    let h = m.header in
    let a : flags_high h < 256 = omega arith in
    let b : flags_low h < 256 = omega arith in
    let c = two_octets h.id in
    let (d₀, (d₁, d₂)) = two_octets (length m.questions) in
    let (f₀, (f₁, f₂)) = two_octets (length m.answers) in
    let (g₀, (g₁, g₂)) = two_octets (length m.authority) in
    (c.0, (c.1.0, (a, (b, (d₀, (d₁, (f₀, (f₁, (g₀, (g₁, two_octets (length m.additional)))))))))))

-- the form of a valid message is octets
pub form-octets : (m : Message) → T (valid? m) → Octets (form m)
unfolding form
form-octets m h =
    let P : ℕ → Type 0 = λ x. x < 256 in
    let v = valid_parts m h in
    let q = each question_form m.questions in
    let a = each record_form m.answers in
    let n = each record_form m.authority in
    let r = each record_form m.additional in
    All-append P (header_form m ++ q ++ a ++ n) r
    (All-append P (header_form m ++ q ++ a) n
    (All-append P (header_form m ++ q) a
    (All-append P (header_form m) q (header_form-octets m v.header)
    (forms-octets question_form question? question_octets m.questions v.questions.1))
    (forms-octets record_form record? record_octets_lem m.answers v.answers.1))
    (forms-octets record_form record? record_octets_lem m.authority v.authority.1))
    (forms-octets record_form record? record_octets_lem m.additional v.additional.1)

-- ---- forms and messages
-- the form of a message that is accepted holds that message
pub own_form : (s : List ℕ) (m : Message) → Octets s → decode s ≡ accepted m → decode (form m) ≡ accepted m
own_form s m o e = let (v, h) = decode_valid s m o e in decode-form m v h

-- two valid messages within the limit have one form exactly if they are equal
pub forms_equal : (m n : Message) → T (valid? m) → T (valid? n) → length (form m) ≤ 65535 → length (form n) ≤ 65535
    → (form m ≡ form n) ↔ (m ≡ n)
forms_equal m n v w h k =
    (λ e. accepted_message (sym (decode-form m v h) ∙ ap decode e ∙ decode-form n w k), λ e. ap form e)
