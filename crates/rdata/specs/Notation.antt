-- Laws of what is written of octets.
use Rattle.std.specs.Prelude.{◌≡◌, refl, List, ◌++◌, ℕ, ◌*◌, ◌≤◌, length}
use Rattle.std.proofs.Common.{arith}
use Rattle.octets.specs.Lists.{each}
use Rattle.octets.specs.Hexadecimal.{hex_octet}
use Rattle.octets.specs.Overlay.{each_append}
use Rattle.octets.proofs.Writing.{each-hex-length}

-- the text of octets one after another is that of each part; each octet has `width` octets of it, at most two
pub record Laws (text : List ℕ → List ℕ) (width : ℕ) : Type 0 where
  pub joins : (l m : List ℕ) → text (l ++ m) ≡ text l ++ text m
  pub sized : (l : List ℕ) → length (text l) ≡ width * length l
  pub narrow : width ≤ 2

pub plain_laws : Laws (λ l. l) 1
plain_laws = record { joins = λ l m. refl; sized = λ l. omega arith; narrow = omega arith }

pub hex_laws : Laws (each hex_octet) 2
hex_laws = record {
  joins = each_append hex_octet;
  sized = λ l. omega (arith, each-hex-length l);
  narrow = omega arith;
}
