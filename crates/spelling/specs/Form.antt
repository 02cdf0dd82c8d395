-- The text of a name from its octets without pointers.
use Rattle.std.specs.Prelude.{◌≡◌, refl, cond, List, [], ◌∷◌, ◌++◌, ℕ, zero, suc, ◌<◌, T, eqb, length, get_or, take}
use Rattle.std.specs.Prelude.{drop}
use Rattle.std.proofs.Common.{ap, append_assoc, append-nil, arith, ne_eqb}
use Rattle.std.proofs.Math.Seq.{take-append_seam, drop-append_seam}
use Rattle.octets.specs.Lists.{ascii, ended}
use Rattle.names.specs.Name.{Name, name_form, name?}
use Rattle.names.specs.NameLaws.{Sized, name_sized}
use Rattle.spelling.specs.Spelling.{spelled, label_text, name_text}

-- the text from within a label on: the label's next `left` octets and its dot, the labels after it, and the quote at
-- the root octet or where the octets end
unfoldable pub within : List ℕ → ℕ → List ℕ
within [] left = 46 ∷ 34 ∷ []
within (x ∷ s) zero = 46 ∷ cond (eqb x 0) (34 ∷ []) (within s x)
within (x ∷ s) (suc left) = spelled x ++ within s left

-- the text from a length octet on
unfoldable pub labels : List ℕ → List ℕ
labels [] = 34 ∷ []
labels (x ∷ s) = cond (eqb x 0) (34 ∷ []) (within s x)

-- the whole in quotes: the root alone is `.`
unfoldable pub form_text : List ℕ → List ℕ
form_text [] = ascii "\"\""
form_text (x ∷ s) = 34 ∷ cond (eqb x 0) (ascii ".\"") (within s x)

-- a label's octets, and then the labels after it
pub within-label : (s : List ℕ) (left : ℕ) → within s left ≡ label_text (take left s) ++ labels (drop left s)
unfolding within labels label_text
within-label [] zero = refl
within-label [] (suc left) = refl
within-label (x ∷ s) zero = refl
within-label (x ∷ s) (suc left) = rw (within-label s left, append_assoc)

-- ---- the text of a name's octets is the name's text
-- from a length octet on
labels-text : (n : Name) (r : List ℕ) → Sized n → labels (name_form n ++ r) ≡ ended label_text 34 n
unfolding labels name_form
labels-text [] r h = refl
labels-text (l ∷ n) r h =
    let some = h.0 in
    rw (
      ne_eqb (length l) 0 (omega arith),
      within-label,
      append_assoc l (name_form n) r,
      take-append_seam,
      drop-append_seam,
      labels-text n r h.2,
    )

-- whatever follows them
pub form-text_more : (n : Name) (r : List ℕ) → T (name? n) → form_text (name_form n ++ r) ≡ name_text n
unfolding form_text name_text labels name_form
form-text_more [] r h = refl
form-text_more (l ∷ n) r h =
    let some = (name_sized (l ∷ n) h).0 in
    let e = ne_eqb (length l) 0 (omega arith) in
    rw e (ap (λ t. 34 ∷ t) (rw e at (labels-text (l ∷ n) r (name_sized (l ∷ n) h))))

-- and alone
pub form-text : (n : Name) → T (name? n) → form_text (name_form n) ≡ name_text n
form-text n h = rw append-nil at (form-text_more n [] h)

-- but for the root alone, the quote and the text from the first length octet on are the whole
pub form-labels : (s : List ℕ) → (0 < length s → get_or s 0 0 ≡ 0 → ⊥) → form_text s ≡ 34 ∷ labels s
unfolding form_text labels
form-labels [] z = refl
form-labels (x ∷ s) z = rw (ne_eqb x 0 (z (omega arith)))
