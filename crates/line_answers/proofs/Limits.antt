-- A line and its limit.
use mathlib.Core.Path.{◌≡◌}
use mathlib.Core.List.{List}
use Prim.Native.Nat.{ℕ, ◌≤◌, ◌<◌}
use borrow.Author.Tests.{lt-ltb, le-ltb}
use lib.ListN.{length}
use Rattle.octets.specs.Overlay.{Wrote}
use Rattle.line_answers.specs.Answers.{refusal_line, within_line, limited_left}

-- what is printed for a line
module _ (most : ℕ) (answer : List ℕ → List ℕ) (s : List ℕ) {b b' : List ℕ} {r : ℕ} where
  pub over_limit : most < length s → Wrote b 0 (refusal_line 31 0) b' r → Wrote b 0 (within_line most answer s) b' r
  unfolding within_line
  over_limit h w = rw (lt-ltb most (length s) h) w

  pub in_limit : length s ≤ most → Wrote b 0 (answer s) b' r → Wrote b 0 (within_line most answer s) b' r
  unfolding within_line
  in_limit h w = rw (le-ltb most (length s) h) w

-- what is left in a buffer
module _ (most : ℕ) (left : List ℕ → List ℕ → List ℕ) (s m : List ℕ) where
  pub over_left : most < length s → m ≡ limited_left most left s m
  unfolding limited_left
  over_left h = rw (lt-ltb most (length s) h)

  pub in_left : length s ≤ most → {m' : List ℕ} → m' ≡ left s m → m' ≡ limited_left most left s m
  unfolding limited_left
  in_left h e = rw (le-ltb most (length s) h) e
