-- What the writers write is how an octet, a number, a name is spelled.
use mathlib.Core.Path.{◌≡◌, refl}
use mathlib.Core.List.{List, [], ◌∷◌, ◌++◌}
use Prim.Native.Nat.{ℕ, ◌+◌, ◌-◌, ◌≤◌, ◌<◌, min}
use native.Mathlib.Omega.{arith}
use borrow.Author.Tests.{eq-eqb, ne_eqb, lt-leb, le-leb, lt-ltb, le-ltb}
use lib.ListN.{length, get_or, take, drop}
use lib.Seq.{take_all}
use Rattle.std.proofs.lemmas.List.{take_min, drop_min}
use Rattle.octets.specs.Lists.{ascii}
use Rattle.octets.specs.Decimal.{decimal}
use Rattle.spelling.specs.Spelling.{plain?, three_digits, spelled, label_text, signed, signed_text}
use Rattle.spelling.specs.Form.{labels, form_text, within-label}

-- ---- an octet of a label
-- from 0x21 to 0x7E, and none of the three exceptions: itself
pub spelled_plain : (x : ℕ) → 33 ≤ x → x < 127 → (x ≡ 34 → ⊥) → (x ≡ 46 → ⊥) → (x ≡ 92 → ⊥) → x ∷ [] ≡ spelled x
unfolding spelled plain?
spelled_plain x h k quote dot slash =
    rw (le-leb 33 x h, le-leb x 126 (omega arith), ne_eqb x 34 quote, ne_eqb x 46 dot, ne_eqb x 92 slash)

-- the quote, an octet below 0x21, one above 0x7E: by its digits
pub spelled_quote : (x : ℕ) → x ≡ 34 → ascii "\\\\" ++ three_digits x ≡ spelled x
unfolding spelled plain?
spelled_quote x e = rw e refl

pub spelled_low : (x : ℕ) → x < 33 → ascii "\\\\" ++ three_digits x ≡ spelled x
unfolding spelled plain?
spelled_low x h = rw (lt-leb 33 x h, ne_eqb x 46 (omega arith), ne_eqb x 92 (omega arith))

pub spelled_high : (x : ℕ) → 127 ≤ x → ascii "\\\\" ++ three_digits x ≡ spelled x
unfolding spelled plain?
spelled_high x h =
    rw (le-leb 33 x (omega arith), lt-leb x 126 (omega arith), ne_eqb x 46 (omega arith), ne_eqb x 92 (omega arith))

-- ---- a signed number
pub signed_plus : (n : ℕ) → n < 2147483648 → decimal n ≡ signed_text (signed n)
unfolding signed signed_text
signed_plus n h = rw (lt-ltb n 2147483648 h)

pub signed_minus : (n : ℕ) → 2147483648 ≤ n → 45 ∷ decimal (4294967296 - n) ≡ signed_text (signed n)
unfolding signed signed_text
signed_minus n h = rw (le-ltb n 2147483648 h)

-- ---- a name
-- the root has a dot
pub form_root : (s : List ℕ) → 0 < length s → get_or s 0 0 ≡ 0 → form_text s ≡ 34 ∷ 46 ∷ labels s
unfolding form_text labels
form_root [] h e = absurd (omega arith)
form_root (x ∷ s) h e = rw (eq-eqb x 0 e)

-- a label and the labels after it; the octets may end in the label
pub labels_more : (s : List ℕ) {n : ℕ} (k : ℕ) {label after : List ℕ} → 0 < length s → 0 < get_or s 0 0
    → k + 1 ≡ length s
    → n ≡ min (get_or s 0 0) (length (take k (drop 1 s))) → label ≡ take n (take k (drop 1 s))
    → after ≡ drop n (take k (drop 1 s)) → labels s ≡ label_text label ++ labels after
unfolding labels
labels_more [] k h z l e p q = absurd (omega arith)
labels_more (x ∷ s) k h z l e p q =
    let t : take k s ≡ s = take_all k s (omega arith) in
    rw (ne_eqb x 0 (omega arith), within-label, p, q, e, t, take_min, drop_min)

-- the root octet, or no octets
pub labels_end : (s : List ℕ) → (0 < length s → get_or s 0 0 ≡ 0) → labels s ≡ 34 ∷ []
unfolding labels
labels_end [] h = refl
labels_end (x ∷ s) h = rw (eq-eqb x 0 (h (omega arith)))
