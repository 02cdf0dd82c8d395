-- What the code's answers say of the definitions': questions, and records but for RDATA.
use mathlib.Core.Path.{◌≡◌, sym, ap, subst}
use Prim.Native.Nat.{ℕ}
use Rattle.std.specs.Prelude.{Result, Ok, Err}
use Rattle.names.specs.Name.{Fault}
use Rattle.names.specs.Answer.{fault_of}
use Rattle.names.specs.declared.Fault.{Fault as FaultRead}
use Rattle.records.specs.Read.{Entry, entry, bad}
use Rattle.records.specs.Answer.{read_as}

-- ---- the answer of a reader
module _ {A B : Type 0} (f : A → ℕ → B) where
  -- the parts of an answer
  abbrev ok_in : B → Result B FaultRead → B
  ok_in d (Ok b) = b
  ok_in d (Err g) = d

  abbrev fault_in : FaultRead → Result B FaultRead → FaultRead
  fault_in d (Ok b) = d
  fault_in d (Err g) = g

  -- an entry was read: what holds of each entry holds
  pub entry_case : (P : B → Entry A → Type 0) → ((a : A) (next : ℕ) → P (f a next) (entry a next))
      → (e : Entry A) {b : B} → Ok b ≡ read_as f e → P b e
  entry_case P h (entry a next) {b} p = subst (λ (x : B). P x (entry a next)) (sym (ap (ok_in b) p)) (h a next)
  entry_case P h (bad fault) p = cc

  -- a fault was met
  pub bad_case : (P : FaultRead → Entry A → Type 0) → ((fault : Fault) → P (fault_of fault) (bad fault))
      → (e : Entry A) {g : FaultRead} → Err g ≡ read_as f e → P g e
  bad_case P h (entry a next) p = cc
  bad_case P h (bad fault) {g} p = subst (λ (x : FaultRead). P x (bad fault)) (sym (ap (fault_in g) p)) (h fault)
