-- Names at the limits of the format's rules, one row each, and one theorem over the table.
use mathlib.Core.Path.{◌≡◌, refl}
use mathlib.Core.List.{List, [], ◌∷◌, ◌++◌, map}
use Prim.Native.Nat.{ℕ}
use lib.ListN.{replicate}
use Rattle.octets.specs.Lists.{hexed}
use Rattle.names.specs.Name.{Kind, cut, reserved, target, long, short}
use Rattle.names.specs.Walk.{Limit, message, rdata, Named, named, faulty, walk, name_from, name_at}

-- the offset after the name, or the fault's kind and octet
pub data NameVerdict : Type 0 where
  ends : ℕ → NameVerdict
  fault : Kind → ℕ → NameVerdict

abbrev pub name_verdict : Named → NameVerdict
name_verdict (named name next) = ends next
name_verdict (faulty f) = fault f.kind f.octet

-- octets after a header of 12, where the octets end, and the offset of a name in them
pub record NameBoundary : Type 0 where
  pub octets : List ℕ
  pub limit : Limit
  pub at : ℕ
  pub gives : NameVerdict

-- a label of n octets
abbrev pub label_of : ℕ → List ℕ
label_of n = n ∷ replicate n 97

unfoldable pub name_boundaries : List NameBoundary
name_boundaries =
    -- no octet, the root, labels of 63 and 64, top bits 10
    record { octets = []; limit = message; at = 12; gives = fault cut 12 }
    ∷ record { octets = hexed "00"; limit = message; at = 12; gives = ends 13 }
    ∷ record { octets = label_of 63 ++ hexed "00"; limit = message; at = 12; gives = ends 77 }
    ∷ record { octets = label_of 64 ++ hexed "00"; limit = message; at = 12; gives = fault reserved 12 }
    ∷ record { octets = hexed "80"; limit = message; at = 12; gives = fault reserved 12 }
    -- names of 255 and 256 octets; past the end comes before past 255
    ∷ record {
      octets = label_of 63 ++ label_of 63 ++ label_of 63 ++ label_of 61 ++ hexed "00";
      limit = message;
      at = 12;
      gives = ends 267;
    }
    ∷ record {
      octets = label_of 63 ++ label_of 63 ++ label_of 63 ++ label_of 62 ++ hexed "00";
      limit = message;
      at = 12;
      gives = fault long 204;
    }
    ∷ record {
      octets = label_of 63 ++ label_of 63 ++ label_of 63 ++ hexed "3E6161";
      limit = message;
      at = 12;
      gives = fault cut 204;
    }
    -- a pointer without its second octet; targets 11, 12 and the name's own start
    ∷ record { octets = hexed "00C0"; limit = message; at = 13; gives = fault cut 13 }
    ∷ record { octets = hexed "00C00B"; limit = message; at = 13; gives = fault target 13 }
    ∷ record { octets = hexed "00C00C"; limit = message; at = 13; gives = ends 15 }
    ∷ record { octets = hexed "00C00D"; limit = message; at = 13; gives = fault target 13 }
    -- a label and a pointer back to it; a pointer after a label may not go to that label's run
    ∷ record { octets = hexed "0161C00C"; limit = message; at = 12; gives = fault target 14 }
    ∷ record { octets = hexed "000161C00C"; limit = message; at = 13; gives = ends 17 }
    -- in RDATA from 13 to 15: a label and a pointer cut by its end, and a name that ends at it
    ∷ record { octets = hexed "00016100"; limit = rdata 13 15; at = 13; gives = fault short 13 }
    ∷ record { octets = hexed "000100C00C"; limit = rdata 13 16; at = 13; gives = fault short 13 }
    ∷ record { octets = hexed "0000C00C"; limit = rdata 13 16; at = 14; gives = ends 16 }
    ∷ []

-- every row, computed
pub boundaries_hold : map (λ (b : NameBoundary). name_verdict (name_at (replicate 12 0 ++ b.octets) b.limit b.at))
    name_boundaries ≡ map (λ (b : NameBoundary). b.gives) name_boundaries
unfolding name_boundaries walk name_from
boundaries_hold = refl
