-- Arrays, sections and the whole text of a message by its octets, and the ways of their writers.
use Rattle.std.specs.Prelude.{◌≡◌, refl, Bool, false, List, [], ◌∷◌, ◌++◌, ℕ, zero, suc, ◌+◌, ◌-◌, ◌*◌, ◌≤◌, ◌<◌, eqb}
use Rattle.std.proofs.Common.{sym, ap, append_assoc, ne_eqb}
use Rattle.std.proofs.Math.Bool.{true}
use native.Mathlib.Omega.{arith}
use Rattle.octets.specs.Lists.{ascii}
use Rattle.octets.specs.Fields.{be16_at}
use Rattle.octets.specs.Writes.{Writes, writes_none}
use Rattle.octets.specs.declared.writer.Writer.{Writer}
use Rattle.records.specs.Read.{Entry, entry, bad}
use Rattle.print_entry.specs.Prints.{texts, entry_then, Readable, readable_value, readable_first, readable_then}
use Rattle.print_entry.specs.Prints.{Prints, prints_text, prints_after, prints_then}
use Rattle.print_entry.specs.Prints.{PrintLoop, rest_all, rest_same, rest_then, rest_end}
use Rattle.print_entry.specs.Elements.{text_at}
use Rattle.print_entry.specs.declared.Element.{Element}
use Rattle.print_entry.specs.declared.Element.TheVariants as element
use Rattle.print_message.specs.Head.{head_text_at}

-- ---- arrays
-- what is before an element: nothing before the first
abbrev pub comma : Bool → List ℕ
comma true = []
comma false = 44 ∷ []

-- an array from an element on: n elements and the bracket
unfoldable pub rest_text : Element → List ℕ → Bool → ℕ → ℕ → Entry (List ℕ)
rest_text e s first zero at = entry (93 ∷ []) at
rest_text e s first (suc n) at = entry_then (texts (λ t. comma first ++ t) (text_at e s at)) (rest_text e s false n)

unfoldable pub array_text : Element → List ℕ → ℕ → ℕ → Entry (List ℕ)
array_text e s n at = texts (λ t. (91 ∷ []) ++ t) (rest_text e s true n at)

-- ---- sections
-- after a title
unfoldable pub section_text : List ℕ → Element → List ℕ → ℕ → ℕ → Entry (List ℕ)
section_text title e s n at = texts (λ t. title ++ t) (array_text e s n at)

abbrev pub questions_text : List ℕ → ℕ → Entry (List ℕ)
questions_text s = section_text (ascii ",\"questionRRs\":") element.Question s (be16_at s 4)

abbrev pub answers_text : List ℕ → ℕ → Entry (List ℕ)
answers_text s = section_text (ascii ",\"answerRRs\":") (element.Record false) s (be16_at s 6)

abbrev pub authority_text : List ℕ → ℕ → Entry (List ℕ)
authority_text s = section_text (ascii ",\"authorityRRs\":") (element.Record false) s (be16_at s 8)

abbrev pub additional_text : Bool → List ℕ → ℕ → Entry (List ℕ)
additional_text lone s = section_text (ascii ",\"additionalRRs\":") (element.Record lone) s (be16_at s 10)

-- ---- the whole
-- the text from a section on
abbrev pub from_additional : Bool → List ℕ → ℕ → Entry (List ℕ)
from_additional lone s at = entry_then (additional_text lone s at) (λ next. entry (ascii "}") next)

unfoldable pub from_authority : Bool → List ℕ → ℕ → Entry (List ℕ)
from_authority lone s at = entry_then (authority_text s at) (from_additional lone s)

abbrev pub from_answers : Bool → List ℕ → ℕ → Entry (List ℕ)
from_answers lone s at = entry_then (answers_text s at) (from_authority lone s)

abbrev pub from_questions : Bool → List ℕ → ℕ → Entry (List ℕ)
from_questions lone s at = entry_then (questions_text s at) (from_answers lone s)

-- the sections before authority
unfoldable pub front_text : List ℕ → ℕ → Entry (List ℕ)
front_text s at = entry_then (questions_text s at) (answers_text s)

-- `lone` says whether the additional section has one TYPE 41 record
unfoldable pub whole_text : Bool → List ℕ → Entry (List ℕ)
whole_text lone s = texts (λ t. head_text_at s ++ t) (from_questions lone s 12)

-- ---- bounds
-- an array's end, within the message: an octet of it has less than 4,096 octets of text, and two are the brackets
abbrev pub Arrives : ℕ → ℕ → Writer → Writer → ℕ → Type 0
Arrives at next w w' end = (next ≤ end) × (w'.to + 4096 * at ≤ w.to + 2 + 4096 * next)

-- the offset and the place before a section, by the offset of its count
abbrev pub Placed : ℕ → Writer → ℕ → ℕ → Type 0
Placed at w end n = (at ≤ end) × (w.to ≤ 4096 * at + 20 * n)

-- ---- writing an array
-- before the element of a turn
pub comma_first : {i : ℕ} {w : Writer} → i ≤ 0 → Writes w (comma (eqb i 0)) w
comma_first {i} {w} h = let e : i ≡ 0 = omega arith in rw e (writes_none w)

pub comma-later : {i : ℕ} {w w' : Writer} → 0 < i → Writes w (44 ∷ []) w' → Writes w (comma (eqb i 0)) w'
comma-later {i} h v = rw (ne_eqb i 0 (λ e. omega arith)) v

-- the first of the rest
first_rest : (e : Element) (s : List ℕ) (first : Bool) (left from : ℕ) → 0 < left
    → rest_text e s first left from ≡ entry_then (texts (λ t. comma first ++ t) (text_at e s from))
    (rest_text e s false (left - 1))
unfolding rest_text
first_rest e s first zero from h = absurd (omega arith)
first_rest e s first (suc n) from h = let z : suc n - 1 ≡ n = omega arith in rw z

module _ (e : Element) (s : List ℕ) (count at : ℕ) where
  -- what is left before a turn
  abbrev pub ArrayLoop : ℕ → ℕ → Writer → Writer → Type 0
  ArrayLoop i from w₀ w = PrintLoop (rest_text e s true count at) w₀ (rest_text e s (eqb i 0) (count - i) from) w

  -- after the bracket all elements are left
  pub left-all : {w : Writer} → Readable (array_text e s count at) → ArrayLoop 0 at w w
  unfolding array_text
  left-all h =
      let z : count - 0 ≡ count = omega arith in
      rw z (rest_all (readable_value (λ t. (91 ∷ []) ++ t) (rest_text e s true count at) h))

  module _ (i from : ℕ) {w₀ w : Writer} (r : ArrayLoop i from w₀ w) where
    -- no element is left, and the bracket is there from before the loop
    pub left_none : {w₋ w₁ : Writer} → count ≤ i → Writes w₋ (91 ∷ []) w₀ → Writes w (93 ∷ []) w₁
        → Prints (array_text e s count at) w₋ w₁ from
    unfolding rest_text array_text
    left_none h p q =
        let z : count - i ≡ 0 = omega arith in
        prints_after p (rest_end (rest_same (ap (λ (n : ℕ). rest_text e s (eqb i 0) n from) z) r) q)

    module _ (h : i < count) where
      -- the next element has no fault
      pub left_readable : Readable (text_at e s from)
      left_readable =
          let some : 0 < count - i = omega arith in
          readable_value (λ t. comma (eqb i 0) ++ t) (text_at e s from)
          (readable_first _ (rest_text e s false (count - i - 1))
          (rest_same (first_rest e s (eqb i 0) (count - i) from some) r).readable)

      -- one less is left
      pub left_less : {w₁ w₂ : Writer} {after : ℕ} → Writes w (comma (eqb i 0)) w₁
          → Prints (text_at e s from) w₁ w₂ after → ArrayLoop (i + 1) after w₀ w₂
      left_less {after = after} p d =
          let some : 0 < count - i = omega arith in
          let later = ne_eqb (i + 1) 0 (λ x. omega arith) in
          let z : count - i - 1 ≡ count - (i + 1) = omega arith in
          rw (later, ← z) (rest_then (rest_text e s false (count - i - 1))
          (rest_same (first_rest e s (eqb i 0) (count - i) from some) r) (prints_after p d))

-- ---- writing a section
module _ (s title : List ℕ) (e : Element) (at : ℕ) {n count : ℕ} (c : count ≡ n) where
  pub section_readable : Readable (section_text title e s n at) → Readable (array_text e s count at)
  unfolding section_text
  section_readable h = rw c (readable_value (λ t. title ++ t) (array_text e s n at) h)

  pub section_prints : {w w₁ w₂ : Writer} {next : ℕ} → Writes w title w₁
      → Prints (array_text e s count at) w₁ w₂ next → Prints (section_text title e s n at) w w₂ next
  unfolding section_text
  section_prints p d = prints_after p (rw c at d)

-- ---- writing the whole
-- the sections before authority
module _ (s : List ℕ) (at : ℕ) where
  module _ (h : Readable (front_text s at)) where
    pub questions_readable : Readable (questions_text s at)
    unfolding front_text
    questions_readable = readable_first (questions_text s at) (answers_text s) h

    pub answers_readable : {w w₁ : Writer} {i : ℕ} → Prints (questions_text s at) w w₁ i → Readable (answers_text s i)
    unfolding front_text
    answers_readable q = readable_then (questions_text s at) (answers_text s) q h

  pub front_prints : {w w₁ w₂ : Writer} {i₁ i₂ : ℕ} → Prints (questions_text s at) w w₁ i₁
      → Prints (answers_text s i₁) w₁ w₂ i₂ → Prints (front_text s at) w w₂ i₂
  unfolding front_text
  front_prints q a = prints_then (questions_text s at) (answers_text s) q a

-- the sections from authority on, and the brace
module _ (lone : Bool) (s : List ℕ) (at : ℕ) where
  module _ (h : Readable (from_authority lone s at)) where
    pub authority_readable : Readable (authority_text s at)
    unfolding from_authority
    authority_readable = readable_first (authority_text s at) (from_additional lone s) h

    pub additional_readable : {w w₁ : Writer} {i : ℕ} → Prints (authority_text s at) w w₁ i
        → Readable (additional_text lone s i)
    unfolding from_authority
    additional_readable {i = i} u =
        readable_first (additional_text lone s i) (λ next. entry (ascii "}") next)
        (readable_then (authority_text s at) (from_additional lone s) u h)

  pub back_prints : {w w₁ w₂ w₃ : Writer} {i₁ i₂ : ℕ} → Prints (authority_text s at) w w₁ i₁
      → Prints (additional_text lone s i₁) w₁ w₂ i₂ → Writes w₂ (125 ∷ []) w₃
      → Prints (from_authority lone s at) w w₃ i₂
  unfolding from_authority
  back_prints {i₁ = i₁} u d z =
      prints_then (authority_text s at) (from_additional lone s) u
      (prints_then (additional_text lone s i₁) (λ next. entry (ascii "}") next) d (prints_text z))

-- both after the head are the whole
entries_assoc : (e : Entry (List ℕ)) (f g : ℕ → Entry (List ℕ))
    → entry_then e (λ i. entry_then (f i) g) ≡ entry_then (entry_then e f) g
entries_assoc (bad fault) f g = refl
entries_assoc (entry t at) f g = go (f at)
  where
    go : (x : Entry (List ℕ)) → texts (λ u. t ++ u) (entry_then x g) ≡ entry_then (texts (λ u. t ++ u) x) g
    go (bad fault) = refl
    go (entry u next) = last (g next)
      where
        last : (y : Entry (List ℕ))
            → texts (λ w. t ++ w) (texts (λ w. u ++ w) y) ≡ texts (λ w. (t ++ u) ++ w) y
        last (bad fault) = refl
        last (entry w i) = ap (λ (l : List ℕ). entry l i) (sym (append_assoc t u w))

pub whole_parts : (lone : Bool) (s : List ℕ)
    → whole_text lone s ≡ texts (λ t. head_text_at s ++ t) (entry_then (front_text s 12) (from_authority lone s))
unfolding whole_text front_text
whole_parts lone s =
    ap (texts (λ t. head_text_at s ++ t)) (entries_assoc (questions_text s 12) (answers_text s) (from_authority lone s))
