-- The end of EDE: without text, and with it.
use mathlib.Core.Path.{◌≡◌, refl}
use mathlib.Core.List.{List, [], ◌∷◌, ◌++◌}
use Prim.Native.Nat.{ℕ}
use native.Mathlib.Omega.{arith}
use lib.ListN.{length}
use Rattle.octets.specs.Lists.{ascii}
use Rattle.spelling.specs.Spelling.{string_text}
use Rattle.options.specs.Options.{present, error_tail}

pub tail_none : (text : List ℕ) → length text ≡ 0 → ascii "}" ≡ error_tail (present text)
tail_none [] e = refl
tail_none (x ∷ text) e = absurd (omega arith)

pub tail_some : (text : List ℕ) → (length text ≡ 0 → ⊥)
    → ascii ",\"TEXT\":" ++ string_text text ++ ascii "}" ≡ error_tail (present text)
tail_some [] h = absurd (h refl)
tail_some (x ∷ text) h = refl
