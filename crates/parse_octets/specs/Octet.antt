-- An octet of a label or of a string, as it is spelled in a text.
use Rattle.std.specs.Prelude.{◌≡◌, cond, ◌&&◌, Result, MatchResult, List, [], ◌∷◌, ℕ, ◌-◌, ◌≤◌, ◌<◌, leb, eqb, length}
use Rattle.std.specs.Prelude.{drop}
use Rattle.octets.specs.Parsed.{Parsed, parsed, failed}
use Rattle.parse_octets.specs.declared.Letter.{Letter}

-- ---- what a reader answers
-- from `at` on the parser read the letter, with its value and the place after it
pub record Reads (p : List ℕ → Parsed ℕ) (t : List ℕ) (at : ℕ) (l : Letter) : Type 0 where
  pub is : p (drop at t) ≡ parsed l.value (drop l.at t)
  pub onward : at < l.at
  pub within : l.at ≤ length t

-- from `at` on the parser stopped at place n
pub record StopsAt (p : List ℕ → Parsed ℕ) (t : List ℕ) (at n : ℕ) : Type 0 where
  pub is : p (drop at t) ≡ failed (drop n t)
  pub onward : at ≤ n
  pub within : n ≤ length t

-- from `at` on the reader found what p finds there
abbrev pub LetterAt : (List ℕ → Parsed ℕ) → List ℕ → ℕ → Result Letter ℕ → Type 0
LetterAt p t at r = MatchResult r (Reads p t at) (StopsAt p t at)

-- ---- digits
-- a digit from `low` to `high`, as its number
unfoldable pub from_to : ℕ → ℕ → List ℕ → Parsed ℕ
from_to low high [] = failed []
from_to low high (d ∷ t) = cond (leb low d && leb d high) (parsed (d - 48) t) (failed (d ∷ t))

-- the least and the greatest second digit after the first digit n
abbrev pub lowest : ℕ → ℕ
lowest n = cond (eqb n 1) 50 48

abbrev pub highest : ℕ → ℕ
highest n = cond (eqb n 0) 51 (cond (eqb n 1) 57 53)
