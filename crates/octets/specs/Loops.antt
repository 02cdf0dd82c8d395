-- What holds from turn to turn of a loop: to do the rest from here is to do the whole from the start.
use Rattle.std.specs.Prelude.{◌≡◌, refl, List, ◌++◌, ℕ}
use Rattle.octets.specs.Overlay.{Wrote, then}

-- ---- a loop that writes
-- `rest` and `whole` say which buffers and results may follow
pub record Continues {R : Type 0} (rest whole : List ℕ → R → Type 0) : Type 0 where
  pub goes : (b : List ℕ) (r : R) → rest b r → whole b r

-- before the first turn the rest is the whole
pub continues_start : {R : Type 0} {whole : List ℕ → R → Type 0} → Continues whole whole
continues_start = record { goes = λ b r p. p }

-- a turn
pub continues_step : {R : Type 0} {rest later whole : List ℕ → R → Type 0} → Continues rest whole
    → Continues later rest → Continues later whole
continues_step o p = record { goes = λ b r q. o.goes b r (p.goes b r q) }

-- a text of the rest is written
pub continues_text : {b b₁ : List ℕ} {to r₁ : ℕ} {xs ys : List ℕ} → Wrote b to xs b₁ r₁
    → Continues (Wrote b₁ r₁ ys) (Wrote b to (xs ++ ys))
continues_text p = record { goes = λ b r q. then p q }

-- ---- a loop that only reads
-- the whole answer is what the rest gives
pub record Remains {A : Type 0} (whole rest : A) : Type 0 where
  pub goes : whole ≡ rest

pub remains_start : {A : Type 0} {whole : A} → Remains whole whole
remains_start = record { goes = refl }
