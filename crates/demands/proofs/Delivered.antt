-- Any conversion: success exactly if there is an output and room for it; a refusal exactly if it is due, or there is no
-- room.
use Rattle.std.specs.Prelude.{◌≡◌, ◌↔◌, ◌⊎◌, Bool, cond, ℕ, ◌≤◌, ◌<◌, drop}
use Rattle.std.proofs.Math.Path.{refl, sym, ap}
use Rattle.std.proofs.Common.{◌∙◌, subst}
use Rattle.std.proofs.Math.Logic.{inl, inr}
use Rattle.std.proofs.Math.Bool.{true, false}
use mathlib.Core.List.{List}
use borrow.Author.Tests.{le-leb, lt-leb, leb-true, leb-false}
use Rattle.std.proofs.Math.Dec.{leb}
use Rattle.std.proofs.Math.ListN.{length}
use Rattle.octets.specs.Answer.{Output, output, refused, Answer, success, refusal, Result, reported, overwritten}
use Rattle.octets.specs.Answer.{delivered, delivered_same, delivered_stays}
use Rattle.octets.specs.Calls.{Gives, Call, written_by}
use Rattle.demands.specs.FrontPage.Words.{room}

-- ---- answers and outputs are told apart
abbrev pub length_or_number : Answer → ℕ
length_or_number (success n) = n
length_or_number (refusal k p) = k

abbrev second : Answer → ℕ
second (success n) = 0
second (refusal k p) = p

abbrev Succeeds : Answer → Type 0
Succeeds (success n) = Unit {0}
Succeeds (refusal k p) = ⊥

pub not_success : {X : Type 0} {k p n : ℕ} → refusal k p ≡ success n → X
not_success e = absurd (subst Succeeds (sym e) tt)

not_refusal : {X : Type 0} {k p n : ℕ} → success n ≡ refusal k p → X
not_refusal e = absurd (subst Succeeds e tt)

-- ---- an output and a buffer
module _ (no_room : ℕ) (b : List ℕ) where
  at : List ℕ → Bool → Result
  at l t = cond t (record { answer = success (length l); buffer = overwritten l b })
      (record { answer = refusal no_room 0; buffer = b })

  success_exact : (o : Output) (n : ℕ)
      → ((delivered no_room o b).answer ≡ success n)
      ↔ ((l : List ℕ) × (o ≡ output l) × (length l ≤ length b) × (n ≡ length l))
  unfolding delivered at
  success_exact o n = (forward o, λ h. let (l, e, k, d) = h in rw (e, le-leb (length l) (length b) k, d))
    where
      forward : (o : Output) → (delivered no_room o b).answer ≡ success n
          → (l : List ℕ) × (o ≡ output l) × (length l ≤ length b) × (n ≡ length l)
      forward (refused k p) e = not_success e
      forward (output l) e = go (leb (length l) (length b)) refl e
        where
          go : (t : Bool) → leb (length l) (length b) ≡ t → (at l t).answer ≡ success n
              → (m : List ℕ) × (output l ≡ output m) × (length m ≤ length b) × (n ≡ length m)
          go true h e = (l, refl, leb-true _ _ h, sym (ap length_or_number e))
          go false h e = not_success e

  refusal_exact : (o : Output) (k p : ℕ)
      → ((delivered no_room o b).answer ≡ refusal k p)
      ↔ ((o ≡ refused k p) ⊎ ((l : List ℕ) × (o ≡ output l) × (length b < length l) × (k ≡ no_room) × (p ≡ 0)))
  unfolding delivered at
  refusal_exact o k p = (forward o, backward)
    where
      forward : (o : Output) → (delivered no_room o b).answer ≡ refusal k p
          → (o ≡ refused k p) ⊎ ((l : List ℕ) × (o ≡ output l) × (length b < length l) × (k ≡ no_room) × (p ≡ 0))
      forward (refused j q) e = inl (rw (ap length_or_number e, ap second e))
      forward (output l) e = go (leb (length l) (length b)) refl e
        where
          go : (t : Bool) → leb (length l) (length b) ≡ t → (at l t).answer ≡ refusal k p
              → (output l ≡ refused k p) ⊎ ((m : List ℕ) × (output l ≡ output m) × (length b < length m) × (k ≡ no_room)
              × (p ≡ 0))
          go true h e = not_refusal e
          go false h e = inr (l, refl, leb-false _ _ h, sym (ap length_or_number e), sym (ap second e))

      backward : (o ≡ refused k p) ⊎ ((l : List ℕ) × (o ≡ output l) × (length b < length l) × (k ≡ no_room) × (p ≡ 0))
          → (delivered no_room o b).answer ≡ refusal k p
      backward (inl e) = rw e
      backward (inr h) = let (l, e, r, c, d) = h in rw (e, lt-leb (length l) (length b) r, c, d)

  refusal_leaves : (o : Output) (k p : ℕ) → (delivered no_room o b).answer ≡ refusal k p
      → (delivered no_room o b).buffer ≡ b
  unfolding delivered at
  refusal_leaves (refused j q) k p e = refl
  refusal_leaves (output l) k p e = go (leb (length l) (length b)) e
    where
      go : (t : Bool) → (at l t).answer ≡ refusal k p → (at l t).buffer ≡ b
      go true e = not_refusal e
      go false e = refl

-- ---- a call that gives it
module _ (no_room : ℕ) (o : Output) (c : Call) (g : Gives (delivered no_room o c.before) c.answer c.after) where
  pub call_succeeds : (n : ℕ)
      → (c.answer ≡ success n) ↔ ((l : List ℕ) × (o ≡ output l) × (length l ≤ room c) × (n ≡ length l))
  call_succeeds n = rw g.answers (success_exact no_room c.before o n)

  pub call_refuses : (k p : ℕ)
      → (c.answer ≡ refusal k p)
      ↔ ((o ≡ refused k p) ⊎ ((l : List ℕ) × (o ≡ output l) × (room c < length l) × (k ≡ no_room) × (p ≡ 0)))
  call_refuses k p = rw g.answers (refusal_exact no_room c.before o k p)

  pub call_leaves : (k p : ℕ) → c.answer ≡ refusal k p → c.after ≡ c.before
  call_leaves k p e = g.leaves ∙ refusal_leaves no_room c.before o k p (sym g.answers ∙ e)

  -- the octets after the reported length stay
  pub call_stays : drop (reported c.answer) c.after ≡ drop (reported c.answer) c.before
  call_stays = rw (g.answers, g.leaves) (delivered_stays no_room o c.before).0

  -- a second call with the same output, and a buffer of the same length
  pub calls_same : (d : Call) → Gives (delivered no_room o d.before) d.answer d.after → room c ≡ room d
      → (c.answer ≡ d.answer) × (written_by c ≡ written_by d)
  calls_same d h n = rw (g.answers, g.leaves, h.answers, h.leaves)
      (delivered_same no_room o c.before d.before n)
