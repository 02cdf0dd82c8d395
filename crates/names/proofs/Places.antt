-- The octet at fault is inside the message or right after its last octet.
use mathlib.Core.Path.{◌≡◌, refl, sym, subst}
use mathlib.Core.Bool.{Bool, true, false, cond}
use mathlib.Core.List.{List}
use Prim.Native.Nat.{ℕ, zero, suc, ◌+◌, ◌≤◌}
use native.Mathlib.Omega.{arith}
use borrow.Author.Tests.{ltb-false}
use lib.Dec.{T, leb, ltb, eqb, ltb→lt}
use lib.ListN.{length, get_or}
use Rattle.octets.specs.Bits.{and_right}
use Rattle.names.specs.Walk.{part, Limit, message, rdata, end_of, past, Named, named, faulty, labelled, resumed}
use Rattle.names.specs.Walk.{target_at, allowed?, walk, name_from}

-- what holds of both branches of a test
pub by_test : {A : Type 0} (P : A → Type 0) (b : Bool) (x y : A) → (b ≡ true → P x) → (b ≡ false → P y) → P (cond b x y)
by_test P true x y f g = f refl
by_test P false x y f g = g refl

abbrev pub Placed : List ℕ → Named → Type 0
Placed s (named n next) = Unit {0}
Placed s (faulty fault) = fault.octet ≤ length s

-- RDATA starts and ends inside the message
abbrev pub Inside : List ℕ → Limit → Type 0
Inside s message = Unit {0}
Inside s (rdata start end) = (start ≤ length s) × (end ≤ length s)

end_inside : (s : List ℕ) (limit : Limit) → Inside s limit → end_of s limit ≤ length s
end_inside s message h = omega arith
end_inside s (rdata start end) h = h.1

past_placed : (s : List ℕ) (limit : Limit) (at : ℕ) → Inside s limit → at ≤ length s → Placed s (faulty (past limit at))
past_placed s message at h k = k
past_placed s (rdata start end) at h k = h.0

labelled_placed : (s l : List ℕ) (w : Named) → Placed s w → Placed s (labelled l w)
labelled_placed s l (named n next) h = tt
labelled_placed s l (faulty fault) h = h

resumed_placed : (s : List ℕ) (i : ℕ) (w : Named) → Placed s w → Placed s (resumed i w)
resumed_placed s i (named n next) h = tt
resumed_placed s i (faulty fault) h = h

walk_placed : (steps : ℕ) (s : List ℕ) (limit : Limit) (run total at : ℕ) → Inside s limit → run ≤ length s
    → at ≤ length s → Placed s (walk steps s limit run total at)
unfolding walk
walk_placed zero s limit run total at h r k = past_placed s limit at h k
walk_placed (suc steps) s limit run total at h r k =
    let x = get_or s at 0 in
    let goal = target_at s at in
    let end = end_inside s limit h in
    let out = past_placed s limit at h k in
    by_test (Placed s) (leb (end_of s limit) at) _ _ (λ a. out) λ a.
    by_test (Placed s) (eqb x 0) _ _ (λ b. tt) λ b.
    by_test (Placed s) (leb x 63) _ _
    (λ c. by_test (Placed s) (ltb (end_of s limit) (at + (x + 1))) _ _ (λ d. out) λ d.
    by_test (Placed s) (ltb 255 (total + (x + 1) + 1)) _ _ (λ e. k) λ e.
    let w = ltb-false (end_of s limit) (at + (x + 1)) d in
    labelled_placed s (part s (at + 1) x) (walk steps s limit run (total + (x + 1)) (at + (x + 1)))
    (walk_placed steps s limit run (total + (x + 1)) (at + (x + 1)) h r (omega arith)))
    λ c. by_test (Placed s) (ltb x 192) _ _ (λ d. k) λ d.
    by_test (Placed s) (leb (end_of s limit) (at + 1)) _ _ (λ e. out) λ e.
    by_test (Placed s) (allowed? run goal) _ _
    (λ f.
    let w = ltb→lt goal run (and_right (leb 12 goal) (ltb goal run) (subst T (sym f) tt)) in
    resumed_placed s (at + 2) (walk steps s message goal total goal)
    (walk_placed steps s message goal total goal tt (omega arith) (omega arith)))
    λ f. k

-- of a name that is read
pub name_placed : (s : List ℕ) (limit : Limit) (run at : ℕ) → Inside s limit → run ≤ length s → at ≤ length s
    → Placed s (name_from s limit run at)
unfolding name_from
name_placed s limit run at h r k = walk_placed (suc (run + 255)) s limit run 0 at h r k
