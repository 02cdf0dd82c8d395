-- How many pieces and octets RDATA's layouts have, and their pieces by the code's.
use mathlib.Core.Path.{◌≡◌, refl, ap, subst}
use mathlib.Core.Bool.{Bool, true, false, cond}
use mathlib.Core.Option.{Option, none, some, none-ne-some}
use mathlib.Core.List.{List, [], ◌∷◌, map}
use Prim.Native.Nat.{ℕ, zero, suc, ◌+◌, ◌≤◌, ◌<◌}
use native.Mathlib.Numerals.{add-one}
use native.Mathlib.Omega.{arith}
use lib.Dec.{eqb}
use lib.ListN.{length, get_or, drop}
use Rattle.octets.specs.Lists.{All, lookup}
use Rattle.octets.proofs.Arms.{past-rows}
use Rattle.records.specs.Layout.{Piece, fixed, name, layouts, layout_of}
use Rattle.records.specs.Parts.{layout_or, layout_in}
use Rattle.records.specs.Answer.{piece_of}
use Rattle.records.specs.declared.Piece.{Piece as PieceRead}

-- ---- the size of a layout
-- the most octets that its pieces have
abbrev pub breadth : List Piece → ℕ
breadth [] = 0
breadth (fixed n ∷ l) = n + breadth l
breadth (name ∷ l) = 255 + breadth l

-- equal values
value_of : {A : Type 0} → A → Option A → A
value_of d none = d
value_of d (some v) = v

valued : {A : Type 0} (u v : A) → some u ≡ some v → u ≡ v
unfolding value_of
valued u v e = ap (value_of u) e

-- what holds of every row of a table holds of what it has under a key
lookup-all : {A : Type 0} (P : A → Type 0) (rows : List (ℕ × A)) (k : ℕ) (v : A)
    → All (λ (row : ℕ × A). P row.1) rows → lookup k rows ≡ some v → P v
unfolding lookup
lookup-all P [] k v h e = absurd (none-ne-some v e)
lookup-all P (row ∷ rows) k v h e = go (eqb row.0 k) e (lookup-all P rows k v h.1)
  where
    go : (b : Bool) → cond b (some row.1) (lookup k rows) ≡ some v → (lookup k rows ≡ some v → P v) → P v
    go true q f = subst P (valued row.1 v q) h.0
    go false q f = f q

-- a listed layout has at most three pieces and 530 octets
abbrev Small : List Piece → Type 0
Small l = (length l ≤ 3) × (breadth l ≤ 530)

layouts_small : All (λ (row : ℕ × List Piece). Small row.1) layouts
unfolding layouts
layouts_small = omega arith

pub listed_small : (type : ℕ) (l : List Piece) → layout_of type ≡ some l → (length l ≤ 3) × (breadth l ≤ 530)
unfolding layout_of
listed_small type l q = lookup-all Small layouts type l layouts_small q

-- RDATA's layout has at most three pieces; its octets are at most RDATA's own, or 530
pub layout_small : (type size : ℕ) → (length (layout_in type size) ≤ 3) × (breadth (layout_in type size) ≤ size + 530)
    × (size ≤ 65535 → breadth (layout_in type size) ≤ 65535)
unfolding layout_in
layout_small type size = go (eqb size 0) (layout_of type) refl
  where
    go : (b : Bool) (o : Option (List Piece)) → layout_of type ≡ o
        → (length (cond b [] (layout_or size o)) ≤ 3) × (breadth (cond b [] (layout_or size o)) ≤ size + 530)
        × (size ≤ 65535 → breadth (cond b [] (layout_or size o)) ≤ 65535)
    go true o q = omega arith
    go false none q = omega arith
    go false (some l) q = let k = listed_small type l q in
        (k.0, omega (arith, k.1), λ h. omega (arith, k.1))

-- no TYPE over 16 bits is listed
pub layout_beyond : (type : ℕ) → 65536 ≤ type → layout_of type ≡ none
unfolding layout_of layouts
layout_beyond type h = past-rows 65536 type layouts tt h

-- ---- the code's layouts
-- the layout's i-th piece, by the code's
piece_drop : (l : List PieceRead) (i : ℕ) (d p : PieceRead) → i < length l → get_or l i d ≡ p
    → drop i (map piece_of l) ≡ piece_of p ∷ drop (suc i) (map piece_of l)
piece_drop [] i d p h e = absurd (omega arith)
piece_drop (x ∷ l) zero d p h e = ap (λ (y : PieceRead). piece_of y ∷ map piece_of l) e
piece_drop (x ∷ l) (suc i) d p h e = piece_drop l i d p (omega arith) e

pub piece_here : (l : List PieceRead) (i : ℕ) (d p : PieceRead) → i < length l → get_or l i d ≡ p
    → drop i (map piece_of l) ≡ piece_of p ∷ drop (i + 1) (map piece_of l)
piece_here l i d p h e = rw add-one (piece_drop l i d p h e)
