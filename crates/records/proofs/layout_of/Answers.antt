-- `records::layout_of` meets its contract: one way for each layout, and one for the TYPEs that have none. The compiler
-- tests the TYPEs 2 to 9, but for 6, as a range.
use borrow.Author.Tests.{le-leb, lt-leb, le-ltb}
use mathlib.Core.Path.{◌≡◌, refl, ap}
use mathlib.Core.Bool.{false, ◌&&◌, ◌||◌}
use mathlib.Core.Option.{none, some}
use mathlib.Core.List.{List, [], ◌∷◌}
use Prim.Native.Nat.{ℕ, ◌≤◌, ◌<◌}
use native.Mathlib.Omega.{arith}
use lib.Dec.{leb, ltb}
use Rattle.octets.specs.Lists.{lookup}
use Rattle.octets.proofs.Arms.{ranged, Missed, keyed?, missed_key, failed_row}
use Rattle.records.specs.Layout.{name, layouts, layout_of}
use Rattle.records.proofs.layout_of.Goals as goal
use Rattle.records.proofs.layout_of.Goals.{in-12-1, in_default+else-rtype-lt2+then-rtype-lt10}
use Rattle.records.proofs.layout_of.Goals.{in_default-via-then-rtype-lt2, in_default-via-else-rtype-lt2+else-rtype-lt10}

-- a TYPE of the range has one name
one_name : (rtype : ℕ) → 2 ≤ rtype → rtype < 10 → (rtype ≡ 6 → ⊥) → layout_of rtype ≡ some (name ∷ [])
unfolding lookup layouts layout_of
one_name =
    ranged (λ rtype. (rtype ≡ 6 → ⊥) → layout_of rtype ≡ some (name ∷ [])) 2 8 (
      λ h. refl,
      (
        λ h. refl,
        (λ h. refl, (λ h. refl, (λ h. absurd (h refl), (λ h. refl, (λ h. refl, (λ h. refl, tt)))))),
      ),
    )

-- the TYPEs that are tested one by one
abbrev arms : List (List ℕ)
arms = (12 ∷ []) ∷ (6 ∷ []) ∷ (14 ∷ []) ∷ (15 ∷ []) ∷ []

-- a TYPE that is none of these and not in the range has no layout
no-layout : (X : Type 0) (rtype : ℕ) → Missed X rtype arms → (leb 2 rtype && ltb rtype 10) ≡ false
    → layout_of rtype ≡ none
unfolding layouts layout_of
no-layout X rtype h e =
    failed_row (λ k. keyed? arms k || (leb 2 k && ltb k 10)) rtype layouts tt (rw (missed_key X rtype arms h) e)

-- outside the range
below : (rtype : ℕ) → rtype < 2 → (leb 2 rtype && ltb rtype 10) ≡ false
below rtype h = rw (lt-leb 2 rtype h)

beyond : (rtype : ℕ) → 10 ≤ rtype → (leb 2 rtype && ltb rtype 10) ≡ false
beyond rtype h = let low : 2 ≤ rtype = omega arith in rw (le-leb 2 rtype low, le-ltb rtype 10 h)

pub returns-in-6 : goal.returns-in-6
unfolding lookup layouts layout_of
returns-in-6 c = ap layout_of c.in-6.is

pub returns-in-14 : goal.returns-in-14
unfolding lookup layouts layout_of
returns-in-14 c = ap layout_of c.in-14.is

pub returns-in-15 : goal.returns-in-15
unfolding lookup layouts layout_of
returns-in-15 c = ap layout_of c.in-15.is

pub returns-in_default : goal.returns-in_default
returns-in_default c =
    let args = c.args in
    let out : (leb 2 args.rtype && ltb args.rtype 10) ≡ false =
    elim c.in_default.branch [
      | in_default-via-then-rtype-lt2 w ↦ below args.rtype w.if-rtype-lt2-1.true
      | in_default-via-else-rtype-lt2+else-rtype-lt10 w ↦ beyond args.rtype w.if-rtype-lt10-1.false
    ] in
    no-layout _ args.rtype c.in_default-1.rest out

pub returns-in-2 : goal.returns-in-2
unfolding lookup layouts layout_of
returns-in-2 c = elim c.in-2-1.branch [
  | in-12-1 w ↦ ap layout_of w.in-12-1.keys1
  | in_default+else-rtype-lt2+then-rtype-lt10 w ↦ one_name c.args.rtype w.if-rtype-lt2-1.false w.if-rtype-lt10-1.true w.in_default-1.rest.0.0.1
]
