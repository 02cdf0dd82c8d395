-- The steps of the writers of numbers and digits, and how long their texts are.
use mathlib.Core.Path.{◌≡◌, refl, ap, ◌∙◌}
use mathlib.Core.Bool.{Bool, true, false}
use mathlib.Core.List.{List, [], ◌∷◌, ◌++◌, append_assoc}
use Prim.Native.Nat.{ℕ, zero, suc, ◌+◌, ◌*◌, ◌/◌, ◌%◌, ◌^◌, ◌≤◌, ◌<◌}
use native.Mathlib.Nat.{pow-suc}
use native.Mathlib.Omega.{arith}
use borrow.Author.Tests.{ltb-true, ltb-false}
use lib.Dec.{ltb}
use lib.ListN.{length, get_or, take, drop, set, length-append}
use Rattle.std.proofs.lemmas.List.{take-append-drop, length-take-le, length-drop}
use Rattle.octets.specs.Fields.{drop_one}
use Rattle.octets.specs.Decimal.{decimal, decimal_digit, decimal_step}
use Rattle.octets.specs.Hexadecimal.{hex_digit, hex_octet}
use Rattle.octets.specs.Overlay.{overlay, Wrote, then, wrote_past, same_long, each_append, each_step}
use Rattle.octets.specs.Lists.{each}

-- ---- runs of octets
-- what follows a text that reaches the buffer's end is past it
pub then_past : (ys : List ℕ) {b b' xs : List ℕ} {at r n : ℕ} → Wrote b at xs b' r → length b ≤ r → n ≡ r + length ys
    → Wrote b at (xs ++ ys) b' n
then_past ys {b} {b'} {r = r} w h e = then w (wrote_past b' r ys (omega (arith, same_long w)) e)

-- a text is written as far as there is room
pub wrote_part : (xs : List ℕ) (k : ℕ) {b b' : List ℕ} {at r : ℕ} → length b ≤ at + k → k ≤ length xs
    → Wrote b at (take k xs) b' r → Wrote b at xs b' (at + length xs)
wrote_part xs k {at = at} h l w =
    let n : length (take k xs) ≡ k = length-take-le k xs l in
    rw take-append-drop at
    (then_past (drop k xs) {n = at + length xs} w (omega (arith, w.place)) (omega (arith, length-drop k xs, w.place)))

-- one octet is stored
pub wrote_store : (b : List ℕ) (at x : ℕ) → Wrote b at (x ∷ []) (set b at x) (at + 1)
unfolding overlay
wrote_store b at x = record { place = refl; text = refl }

-- ---- decimal
-- one digit more
pub decimal_longer : (n : ℕ) → 10 ≤ n → length (decimal n) ≡ length (decimal (n / 10)) + 1
decimal_longer n h = ap length (decimal_step n h) ∙ simp length-append

-- below ten to the k there are at most k digits
pub decimal_short : (k n : ℕ) → n < 10 ^ suc k → length (decimal n) ≤ suc k
decimal_short zero n h = rw (decimal_digit n h) (omega arith)
decimal_short (suc k) n h = go (ltb n 10) refl (decimal_short k (n / 10) (omega (arith, pow-suc 10 (suc k))))
  where
    go : (b : Bool) → ltb n 10 ≡ b → length (decimal (n / 10)) ≤ suc k → length (decimal n) ≤ suc (suc k)
    go true e g = rw (decimal_digit n (ltb-true n 10 e)) (omega arith)
    go false e g = omega (arith, decimal_longer n (ltb-false n 10 e))

-- a number of 32 bits has at most ten
pub decimal-length : (n : ℕ) → n < 2 ^ 32 → length (decimal n) ≤ 10
decimal-length n h = decimal_short 9 n (omega arith)

-- a number of one digit, and of more
pub wrote_digit : {n : ℕ} {b b' : List ℕ} {at r : ℕ} → n < 10 → Wrote b at ((48 + n) ∷ []) b' r
    → Wrote b at (decimal n) b' r
wrote_digit {n} h w = rw (decimal_digit n h) w

pub wrote_digits : {n : ℕ} {b b₁ b₂ : List ℕ} {at r₁ r₂ : ℕ} → 10 ≤ n → Wrote b at (decimal (n / 10)) b₁ r₁
    → Wrote b₁ r₁ ((48 + n % 10) ∷ []) b₂ r₂ → Wrote b at (decimal n) b₂ r₂
wrote_digits {n} h p q = rw (decimal_step n h) (then p q)

-- ---- hexadecimal
-- two octets for each
pub each-hex-length : (l : List ℕ) → length (each hex_octet l) ≡ 2 * length l
unfolding each
each-hex-length [] = refl
each-hex-length (x ∷ l) = rw length-append (omega (arith, each-hex-length l))

-- an octet's digits after those of the octets before it: both are stored, or the first and no more
module _ (s : List ℕ) (i : ℕ) {b b₁ : List ℕ} {at r d : ℕ} (h : i < length s) (f : d ≡ hex_digit (get_or s i 0 / 16))
    (w : Wrote b at (each hex_octet (take i s)) b₁ r) where
  pub hex_more : {n e : ℕ} → e ≡ hex_digit (get_or s i 0 % 16) → n ≡ r + 2
      → Wrote b at (each hex_octet (take (i + 1) s)) (set (set b₁ r d) (r + 1) e) n
  hex_more {n} {e} g q =
      let digits : Wrote b₁ r (hex_octet (get_or s i 0)) (set (set b₁ r d) (r + 1) e) (r + 1 + 1) =
      rw (← f, ← g) (then (wrote_store b₁ r d) (wrote_store (set b₁ r d) (r + 1) e)) in
      let place : n ≡ r + 1 + 1 = omega arith in
      rw place (each_step hex_octet s h w digits)

  pub hex_cut : {b₂ : List ℕ} {n m : ℕ} → length b ≤ r + 1 → Wrote b₁ r (d ∷ []) b₂ n → m ≡ at + 2 * length s
      → Wrote b at (each hex_octet s) b₂ m
  unfolding each
  hex_cut {b₂} {n} {m} l v e =
      let front = each hex_octet (take i s) in
      let rest = hex_digit (get_or s i 0 % 16) ∷ each hex_octet (drop (i + 1) s) in
      let tail : each hex_octet (drop i s) ≡ d ∷ rest = rw (drop_one s i h, f) in
      let whole : each hex_octet s ≡ front ++ (d ∷ []) ++ rest =
      rw (append_assoc front (d ∷ []) rest, ← tail, ← (each_append hex_octet (take i s) (drop i s)), take-append-drop) in
      rw whole
      (then_past rest (then w v) (omega (arith, v.place))
      (omega (
        arith,
        v.place,
        w.place,
        each-hex-length (take i s),
        each-hex-length (drop (i + 1) s),
        length-take-le i s,
        length-drop (i + 1) s,
      )))
