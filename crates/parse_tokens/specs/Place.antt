-- An octet at a place of a text.
use Rattle.std.specs.Prelude.{◌≡◌, List, ◌∷◌, ℕ, ◌≤◌, ◌<◌, length, drop, get_or}
use Rattle.std.proofs.Common.{sym, ⊎_elim, ne_eqb, drop_of_length-le}
use Rattle.std.proofs.lemmas.Bool.{cases_lt}
use Rattle.octets.specs.Parsed.{failed, strip}
use Rattle.octets.specs.Fields.{drop_one}

-- the octet x is at place i
pub record At (t : List ℕ) (i x : ℕ) : Type 0 where
  pub inside : i < length t
  pub is : get_or t i 0 ≡ x

-- fixed octets do not begin at another octet, nor at the end
pub no_strip : {t : List ℕ} {at : ℕ} (y : ℕ) (l : List ℕ) → (At t at y → ⊥)
    → strip (y ∷ l) (drop at t) ≡ failed (drop at t)
no_strip {t} {at} y l d = ⊎_elim other end (cases_lt at (length t))
  where
    end : length t ≤ at → strip (y ∷ l) (drop at t) ≡ failed (drop at t)
    end p = rw (drop_of_length-le t p)

    other : at < length t → strip (y ∷ l) (drop at t) ≡ failed (drop at t)
    other q = rw (drop_one t at q, ne_eqb y (get_or t at 0) (λ k. d (record { inside = q; is = sym k })))
