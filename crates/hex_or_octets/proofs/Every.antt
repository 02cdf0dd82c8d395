-- A test of every element.
use Rattle.std.proofs.Common.{◌≡◌, refl, ap, Bool, ◌&&◌, List, [], ◌∷◌}
use Rattle.std.specs.List.{list_all}
use Rattle.octets.specs.Lists.{all}

-- it is the library's
pub every : {A : Type 0} (p : A → Bool) (l : List A) → list_all p l ≡ all p l
every p [] = refl
every p (x ∷ l) = ap (λ b. p x && b) (every p l)
