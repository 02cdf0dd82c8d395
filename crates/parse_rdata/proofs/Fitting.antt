-- The code's walk over the pieces of RDATA by itself, without pointers.
use mathlib.Core.Path.{◌≡◌, refl, sym, ap, ◌∙◌}
use mathlib.Core.Bool.{Bool, true, false, cond}
use mathlib.Core.Option.{none, some}
use mathlib.Core.List.{List, [], ◌∷◌}
use Prim.Native.Nat.{ℕ, ◌+◌, ◌-◌, ◌≤◌, ◌<◌}
use native.Mathlib.Nat.{zero-add}
use native.Mathlib.Omega.{arith}
use borrow.Author.Tests.{le-leb, lt-leb, le-ltb, lt-ltb, ltb-true, ltb-false, ne_eqb, eqb-false}
use lib.Dec.{leb, ltb, eqb}
use lib.ListN.{length, drop, drop_of_length-le}
use Rattle.std.specs.Prelude.{None, Some}
use Rattle.names.specs.Name.{name_form, surplus}
use Rattle.names.specs.Walk.{part, rdata, Named, named, faulty, name_from}
use Rattle.records.specs.Layout.{Piece, fixed, name, layout_of, Laid, laid, misfit, before, pieces, rdata_at, laid?, rdata_fits?}
use Rattle.parse_rdata.specs.Skipping.{skipped, name_end, name_ends}

-- what comes before does not matter
laid_before : (l : List ℕ) (m : Laid) → laid? (before l m) ≡ laid? m
laid_before l (laid m) = refl
laid_before l (misfit fault) = refl

-- ---- the whole of RDATA
-- of a listed TYPE, by its layout
pub fits_listed : (s : List ℕ) (rtype : ℕ) (l : List Piece) {size : ℕ} {r : Bool} → size ≡ length s → 0 < size
    → layout_of rtype ≡ some l
    → r ≡ laid? (pieces false l s 0 (length s) 0) → r ≡ rdata_fits? rtype s
unfolding rdata_fits? rdata_at
fits_listed s rtype l e h q p = rw (ne_eqb (length s) 0 (λ z. omega (arith, e)), q, rdata_at, zero-add) p

-- of another TYPE, or of no octets, RDATA fits
pub fits_plain : (s : List ℕ) (rtype : ℕ) → (0 < length s → layout_of rtype ≡ none) → true ≡ rdata_fits? rtype s
unfolding rdata_fits? rdata_at
fits_plain s rtype free = go (eqb (length s) 0) refl
  where
    go : (t : Bool) → eqb (length s) 0 ≡ t → true ≡ rdata_fits? rtype s
    go true z = rw z
    go false z =
        let n : 0 < length s = let k = eqb-false (length s) 0 z in omega arith in
        rw (z, free n, rdata_at)

-- ---- the loop
-- v is the whole answer, by the pieces from the i-th on, at the place `at`
pub record FitLoop (s : List ℕ) (l : List Piece) (size : ℕ) (v : Bool) (i at : ℕ) : Type 0 where
  pub within : at ≤ size
  pub long : size ≡ length s
  pub goes : v ≡ laid? (pieces false (drop i l) s 0 (length s) at)

module _ {s : List ℕ} {l : List Piece} {size : ℕ} {v : Bool} {i at : ℕ} (f : FitLoop s l size v i at) where
  -- after the last piece: RDATA has ended, or not
  pub fits_end : length l ≤ i → leb size at ≡ v
  unfolding pieces
  fits_end h = rw (f.long, f.goes, drop_of_length-le l h) (go (ltb at (length s)) refl)
    where
      go : (b : Bool) → ltb at (length s) ≡ b
          → leb (length s) at ≡ laid? (cond (ltb at (length s)) (misfit (record { kind = surplus; octet = at })) (laid []))
      go true h = rw (h, lt-leb (length s) at (ltb-true at (length s) h))
      go false h = rw (h, le-leb (length s) at (ltb-false at (length s) h))

  -- n octets: RDATA ends before them, or not
  module _ {n : ℕ} (q : drop i l ≡ fixed n ∷ drop (i + 1) l) where
    pub fits_short : size - at < n → false ≡ v
    unfolding pieces
    fits_short h = sym (f.goes ∙ rw (q, lt-ltb (length s) (at + n) (omega (arith, f.within, f.long))))

    pub fits_part : n ≤ size - at → FitLoop s l size v (i + 1) (at + n)
    unfolding pieces
    fits_part h =
        record {
          within = omega (arith, f.within);
          long = f.long;
          goes = f.goes ∙ rw (q, le-ltb (length s) (at + n) (omega (arith, f.within, f.long)))
              (laid_before (part s at n) (pieces false (drop (i + 1) l) s 0 (length s) (at + n)));
        }

  -- a name: there is none, or it ends at a place
  module _ (q : drop i l ≡ name ∷ drop (i + 1) l) where
    pub fits_unfit : None ≡ name_end s at → false ≡ v
    unfolding name_end pieces
    fits_unfit k = go (name_from s (rdata 0 (length s)) 0 at) refl k
      where
        go : (w : Named) → name_from s (rdata 0 (length s)) 0 at ≡ w → None ≡ skipped w → false ≡ v
        go (named n next) e h = cc
        go (faulty fault) e h = sym (f.goes ∙ rw (q, e, pieces))

    pub fits_name : (next : ℕ) → Some next ≡ name_end s at → FitLoop s l size v (i + 1) next
    unfolding name_end pieces
    fits_name next k =
        record {
          within = omega (arith, f.long, name_ends s at k);
          long = f.long;
          goes = f.goes ∙ rw q (go (name_from s (rdata 0 (length s)) 0 at) refl k);
        }
      where
        go : (w : Named) → name_from s (rdata 0 (length s)) 0 at ≡ w → Some next ≡ skipped w
            → laid? (pieces false (name ∷ drop (i + 1) l) s 0 (length s) at)
            ≡ laid? (pieces false (drop (i + 1) l) s 0 (length s) next)
        go (named n j) e h =
            let same : j ≡ next = cc in
            rw (e, pieces) (laid_before (name_form n) (pieces false (drop (i + 1) l) s 0 (length s) j))
            ∙ ap (λ m. laid? (pieces false (drop (i + 1) l) s 0 (length s) m)) same
        go (faulty fault) e h = cc
