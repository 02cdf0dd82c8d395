-- What a call answers and leaves in its lent buffer.
use Rattle.std.specs.Prelude.{◌≡◌, true, false, leb, length, take, drop}
use Rattle.std.proofs.Math.Path.{refl}
use Rattle.std.proofs.Common.{sym, ◌∙◌, arith, le-leb, leb-true, length-append, length-drop}
use Rattle.std.proofs.Math.Bool.{Bool, cond}
use mathlib.Core.List.{List, ◌++◌}
use Prim.Native.Nat.{ℕ, ◌+◌, ◌≤◌, ◌<◌}
use Rattle.std.proofs.lemmas.Bool.{lt-leb}
use Rattle.std.proofs.Math.Seq.{take-append_seam, drop-append_seam}

-- what is to be written, or the refusal's number and place
pub data Output : Type 0 where
  output : List ℕ → Output
  refused : ℕ → ℕ → Output

-- success with a length, or a refusal with number and place
pub data Answer : Type 0 where
  success : ℕ → Answer
  refusal : ℕ → ℕ → Answer

-- the answer, and the whole buffer afterwards
pub record Result : Type 0 where
  pub answer : Answer
  pub buffer : List ℕ

-- octets written from the buffer's first octet on; what follows them stays
abbrev pub overwritten : List ℕ → List ℕ → List ℕ
overwritten l buffer = l ++ drop (length l) buffer

-- Given room the output is written and its length is the answer; without room it is the refusal of this number at 0.
-- A refusal leaves the buffer as it was.
unfoldable pub delivered : ℕ → Output → List ℕ → Result
delivered no_room (output l) buffer =
    cond (leb (length l) (length buffer))
    (record { answer = success (length l); buffer = overwritten l buffer })
    (record { answer = refusal no_room 0; buffer = buffer })
delivered no_room (refused number place) buffer = record { answer = refusal number place; buffer = buffer }

-- the reported length; a refusal reports none
abbrev pub reported : Answer → ℕ
reported (success n) = n
reported (refusal number place) = 0

-- the octets that were written
abbrev pub written : Result → List ℕ
written left = take (reported left.answer) left.buffer

-- ---- what follows of it, for any output
module _ (no_room : ℕ) where
  -- given room, the output is what is written
  pub delivered-room : (l b : List ℕ) → length l ≤ length b
      → ((delivered no_room (output l) b).answer ≡ success (length l)) × (written (delivered no_room (output l) b) ≡ l)
  unfolding delivered
  delivered-room l b h = rw (le-leb _ _ h) (refl, take-append_seam l (drop (length l) b))

  -- without room it is the refusal, and nothing changes
  pub delivered_none : (l b : List ℕ) → length b < length l
      → delivered no_room (output l) b ≡ record { answer = refusal no_room 0; buffer = b }
  unfolding delivered
  delivered_none l b h = rw (lt-leb _ _ h)

  -- answer and octets written depend on the buffer's length, and not on what it held
  pub delivered_same : (o : Output) (b b' : List ℕ) → length b ≡ length b'
      → ((delivered no_room o b).answer ≡ (delivered no_room o b').answer)
      × (written (delivered no_room o b) ≡ written (delivered no_room o b'))
  unfolding delivered
  delivered_same (output l) b b' e = rw e (go (leb (length l) (length b')))
    where
      at : Bool → List ℕ → Result
      at t b = cond t (record { answer = success (length l); buffer = overwritten l b })
          (record { answer = refusal no_room 0; buffer = b })

      go : (t : Bool) → ((at t b).answer ≡ (at t b').answer) × (written (at t b) ≡ written (at t b'))
      go true = (refl, take-append_seam l (drop (length l) b) ∙ sym (take-append_seam l (drop (length l) b')))
      go false = (refl, refl)
  delivered_same (refused k p) b b' e = (refl, refl)

  -- the octets after the reported length stay, all octets on a refusal; and the buffer keeps its length
  pub delivered_stays : (o : Output) (b : List ℕ)
      → (drop (reported (delivered no_room o b).answer) (delivered no_room o b).buffer ≡ drop
      (reported (delivered no_room o b).answer) b)
      × (length (delivered no_room o b).buffer ≡ length b)
  unfolding delivered
  delivered_stays (output l) b = go (leb (length l) (length b)) refl
    where
      at : Bool → Result
      at t = cond t (record { answer = success (length l); buffer = overwritten l b })
          (record { answer = refusal no_room 0; buffer = b })

      go : (t : Bool) → leb (length l) (length b) ≡ t
          → (drop (reported (at t).answer) (at t).buffer ≡ drop (reported (at t).answer) b)
          × (length (at t).buffer ≡ length b)
      go true e =
          let h : length l ≤ length b = leb-true _ _ e in
          let n : length l + length (drop (length l) b) ≡ length b = omega (arith, length-drop (length l) b) in
          (drop-append_seam l (drop (length l) b), length-append l (drop (length l) b) ∙ n)
      go false e = (refl, refl)
  delivered_stays (refused k p) b = (refl, refl)
