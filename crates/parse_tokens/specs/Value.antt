-- Readers of a value.
use Rattle.std.specs.Prelude.{◌≡◌, List, ℕ, Result, Ok, Err, IfOk, IsErrAnd}
use Rattle.std.proofs.Common.{sym, ◌∙◌, ap, subst}
use Rattle.std.proofs.lemmas.Result.{err_from_is_err_and}
use Rattle.octets.specs.Parsed.{Parsed}
use Rattle.parse_tokens.specs.declared.Cursor.{Cursor}
use Rattle.parse_tokens.specs.Cursor.{Reached, Keeps, keeps_stays, between_ended}
use Rattle.parse_tokens.specs.Step.{Found, found_stays, found_none}

-- where the reader came to with it
abbrev pub reached : {V : Type 0} → Result (Cursor × V) ℕ → Reached
reached (Ok x) = Ok x.0
reached (Err n) = Err n

-- a `?` hands on the place of the stop
pub at_exit : {X : Type 0} (P : Result X ℕ → Type 0) {n : ℕ} {r : Result X ℕ} → IsErrAnd r (λ k. k ≡ n) → P (Err n) → P r
at_exit P {n} {r} h p = let e = err_from_is_err_and r h in subst P (sym (e.1 ∙ ap (λ k. Err k) e.2)) p

pub exit_is : {X : Type 0} {n : ℕ} {r : Result X ℕ} → IsErrAnd r (λ k. k ≡ n) → r ≡ Err n
exit_is {r = r} h = let e = err_from_is_err_and r h in e.1 ∙ ap (λ k. Err k) e.2

-- the value v that is kept of what p finds
pub record ValueRead {A V : Type 0} (p : List ℕ → Parsed A) (K : V → A → Type 0) (t : List ℕ) (c : Reached)
    (r : Result (Cursor × V) ℕ) : Type 0 where
  pub found : Found p (λ a. IfOk r (λ x. K x.1 a)) t c (reached r)
  pub keeps : Keeps t c (reached r)

module _ {A V : Type 0} {p : List ℕ → Parsed A} {K : V → A → Type 0} {t : List ℕ} {n : ℕ} where
  pub value_stays : ValueRead p K t (Err n) (Err n)
  value_stays = record { found = found_stays; keeps = keeps_stays }

  -- where the reader stops there is no value
  pub value_stop : {P : A → Type 0} {c : Reached} → Found p P t c (Err n) → ValueRead p K t c (Err n)
  value_stop x = record {
    found = found_none x;
    keeps = record { moves = x.moves; alike = between_ended };
  }
