-- RDATA with names inside: the layouts of the types of RFC 1035.
use Rattle.std.specs.Prelude.{Bool, true, false, cond, List, [], ◌∷◌, ◌++◌, ℕ, ◌+◌, ltb, eqb, length}
use Rattle.std.proofs.Math.Option.{Option, none, some}
use Rattle.octets.specs.Lists.{lookup}
use Rattle.names.specs.Name.{name_form, short, surplus, Fault}
use Rattle.names.specs.Walk.{part, rdata, named, faulty, name_from}

-- a piece of a layout: n octets, or a name
pub data Piece : Type 0 where
  fixed : ℕ → Piece
  name : Piece

-- NS 2, MD 3, MF 4, CNAME 5, MB 7, MG 8, MR 9, PTR 12: one name; SOA 6: two names, 20 octets; MINFO 14: two names; MX
-- 15: 2 octets, a name
unfoldable pub layouts : List (ℕ × List Piece)
layouts =
    (2, name ∷ [])
    ∷ (3, name ∷ [])
    ∷ (4, name ∷ [])
    ∷ (5, name ∷ [])
    ∷ (6, name ∷ name ∷ fixed 20 ∷ [])
    ∷ (7, name ∷ [])
    ∷ (8, name ∷ [])
    ∷ (9, name ∷ [])
    ∷ (12, name ∷ [])
    ∷ (14, name ∷ name ∷ [])
    ∷ (15, fixed 2 ∷ name ∷ [])
    ∷ []

-- the layout of a listed TYPE
unfoldable pub layout_of : ℕ → Option (List Piece)
layout_of type = lookup type layouts

-- RDATA without pointers, or its first fault
pub data Laid : Type 0 where
  laid : List ℕ → Laid
  misfit : Fault → Laid

-- octets before those that follow
abbrev pub before : List ℕ → Laid → Laid
before l (laid m) = laid (l ++ m)
before l (misfit fault) = misfit fault

-- The pieces of a layout from an offset on, in RDATA from `start` to `end`: `pieces jumps layout s start end at`. RDATA
-- must end where the layout ends. `jumps` says whether names may have pointers: a name is read with run 0 where they
-- may not.
unfoldable pub pieces : Bool → List Piece → List ℕ → ℕ → ℕ → ℕ → Laid
pieces jumps [] s start end at = cond (ltb at end) (misfit (record { kind = surplus; octet = at })) (laid [])
pieces jumps (fixed n ∷ layout) s start end at =
    let later = before (part s at n) (pieces jumps layout s start end (at + n)) in
    cond (ltb end (at + n)) (misfit (record { kind = short; octet = start })) later
pieces jumps (name ∷ layout) s start end at =
    elim (name_from s (rdata start end) (cond jumps at 0) at) [
      | named labels next ↦ before (name_form labels) (pieces jumps layout s start end next)
      | faulty fault ↦ misfit fault
    ]

-- RDATA of `size` octets at an offset, `rdata_at jumps s type at size`: RDLENGTH 0 is accepted for every type; RDATA of
-- a TYPE that is not listed is carried octet for octet
unfoldable pub rdata_at : Bool → List ℕ → ℕ → ℕ → ℕ → Laid
rdata_at jumps s type at size =
    let read : Laid = elim (layout_of type) [
      | none ↦ laid (part s at size)
      | some layout ↦ pieces jumps layout s at
          (at + size) at
    ] in
    cond (eqb size 0) (laid []) read

abbrev pub laid? : Laid → Bool
laid? (laid l) = true
laid? (misfit fault) = false

-- octets are RDATA of a TYPE without pointers: read by themselves, with no pointer allowed, they have no fault
unfoldable pub rdata_fits? : ℕ → List ℕ → Bool
rdata_fits? type l = laid? (rdata_at false l type 0 (length l))
