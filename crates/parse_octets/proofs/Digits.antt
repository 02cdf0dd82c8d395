-- Three digits that make an octet which is written so, by the range of each.
use Rattle.std.proofs.Common.{◌≡◌, refl, sym, ap, ◌∙◌, Bool, true, false, cond, ◌&&◌, List, [], ◌∷◌, ℕ, suc, ◌+◌, ◌-◌}
use Rattle.std.proofs.Common.{◌*◌, ◌≤◌, ◌<◌, T, leb, ltb, drop, arith, le-leb, ⊎_elim}
use Rattle.std.proofs.lemmas.Bool.{cases_lt, lt-leb}
use Rattle.std.proofs.Math.Bool.{and-false, or-false}
use Rattle.std.proofs.lemmas.Bool.Decides.{nat_tests}
use borrow.Author.Tests.{le-ltb}
use Rattle.octets.specs.Bits.{same?, same, upto, below, and_right}
use Rattle.std.proofs.Common.{leb→le}
use Rattle.octets.specs.Parsed.{Parsed, parsed, failed, and_then, Holds, missed, cond_holds, found, held}
use Rattle.spelling.specs.Spelling.{plain?}
use Rattle.strict.specs.Spelt.{coded?, coded_from?, leads?, ddd}
use Rattle.parse_octets.specs.declared.Letter.{Letter}
use Rattle.parse_octets.specs.Octet.{Reads, StopsAt, from_to, lowest, highest}

-- ---- the range of a digit that leads to such an octet, by computation over all digits
first_table : T (upto (λ d. same? (leads? 2 0 d) (leb 48 d && leb d 50)) 58)
unfolding leads? coded_from? coded? plain?
first_table = tt

second_table : T (upto (λ n. upto (λ d. same? (leads? 1 n d) (leb (lowest n) d && leb d (highest n))) 58) 3)
unfolding leads? coded_from? coded? plain?
second_table = tt

-- what is no digit leads nowhere
leads_high : (k n x : ℕ) → 57 < x → leads? k n x ≡ false
unfolding leads?
leads_high k n x h = rw (le-leb 48 x (omega arith), le-ltb x 58 (omega arith))

outside : (low high x : ℕ) → high < x → (leb low x && leb x high) ≡ false
outside low high x h = rw (lt-leb x high h) (and-false (leb low x))

first_leads : (x : ℕ) → leads? 2 0 x ≡ (leb 48 x && leb x 50)
first_leads x = ⊎_elim
    (λ h. same (leads? 2 0 x) (leb 48 x && leb x 50)
    (below (λ d. same? (leads? 2 0 d) (leb 48 d && leb d 50)) 58 first_table x h))
    (λ h. leads_high 2 0 x (omega arith) ∙ sym (outside 48 50 x (omega arith))) (cases_lt x 58)

highest_digit : (n : ℕ) → highest n ≤ 57
highest_digit n = grind arith

second_leads : (n x : ℕ) → n < 3 → leads? 1 n x ≡ (leb (lowest n) x && leb x (highest n))
second_leads n x k = ⊎_elim
    (λ h. same (leads? 1 n x) (leb (lowest n) x && leb x (highest n))
    (below (λ d. same? (leads? 1 n d) (leb (lowest n) d && leb d (highest n))) 58
    (below (λ n. upto (λ d. same? (leads? 1 n d) (leb (lowest n) d && leb d (highest n))) 58) 3 second_table n k) x h))
    (λ h. leads_high 1 n x (omega arith) ∙ sym (outside (lowest n) (highest n) x (omega (arith, highest_digit n))))
    (cases_lt x 58)

-- ---- one digit, and what follows it
ranged : (k n low high : ℕ) → ((d : ℕ) → leads? k n d ≡ (leb low d && leb d high)) → (u : List ℕ)
    → ddd (suc k) n u ≡ and_then (from_to low high u) (λ d r. ddd k (n * 10 + d) r)
unfolding ddd from_to
ranged k n low high h [] = refl
ranged k n low high h (d ∷ u) = go (leb low d && leb d high) refl
  where
    go : (b : Bool) → (leb low d && leb d high) ≡ b
        → ddd (suc k) n (d ∷ u) ≡ and_then (from_to low high (d ∷ u)) (λ d r. ddd k (n * 10 + d) r)
    go true e = rw (h d, ddd, e)
    go false e = rw (h d, ddd, e)

below_58 : (d : ℕ) → ltb d 58 ≡ leb d 57
below_58 d = grind (arith, nat_tests)

third_leads : (n d : ℕ) → leads? 0 n d ≡ (leb 48 d && leb d 57 && coded? (n * 10 + (d - 48)))
unfolding leads? coded_from?
third_leads n d =
    let z : (n * 10 + (d - 48)) * 1 ≡ n * 10 + (d - 48) = omega arith in
    rw (z, or-false (coded? (n * 10 + (d - 48)))) (ap (λ b. leb 48 d && b && coded? (n * 10 + (d - 48))) (below_58 d))

-- the third digit makes an octet that is written so, or it is refused
last : (n : ℕ) (u : List ℕ) → ddd 1 n u ≡ and_then (from_to 48 57 u)
    (λ d r. cond (coded? (n * 10 + d)) (parsed (n * 10 + d) r) (failed u))
unfolding ddd from_to
last n [] = refl
last n (d ∷ u) = go (leb 48 d && leb d 57) refl (coded? (n * 10 + (d - 48))) refl
  where
    go : (b : Bool) → (leb 48 d && leb d 57) ≡ b → (y : Bool) → coded? (n * 10 + (d - 48)) ≡ y
        → ddd 1 n (d ∷ u) ≡ and_then (from_to 48 57 (d ∷ u))
        (λ x r. cond (coded? (n * 10 + x)) (parsed (n * 10 + x) r) (failed (d ∷ u)))
    go true e true f = rw (third_leads n d, ddd, e, f)
    go true e false f = rw (third_leads n d, ddd, e, f)
    go false e y f = rw (third_leads n d, ddd, e)

-- the value of a digit in a range
from_bound : (low high : ℕ) (u : List ℕ) → Holds (λ v r. v ≤ high - 48) (from_to low high u)
unfolding from_to
from_bound low high [] = missed []
from_bound low high (d ∷ u) = cond_holds (leb low d && leb d high) (d ∷ u) λ t.
    let h = leb→le d high (and_right (leb low d) (leb d high) t) in found (omega arith)

module _ {p q : List ℕ → Parsed ℕ} (f : ℕ → List ℕ → Parsed ℕ) (h : (u : List ℕ) → p u ≡ and_then (q u) f)
    {t : List ℕ} {at : ℕ} where
  stops_then : {n : ℕ} → StopsAt q t at n → StopsAt p t at n
  stops_then k = record { is = h (drop at t) ∙ ap (λ o. and_then o f) k.is; onward = k.onward; within = k.within }

  reads_then : {l : Letter} → Reads q t at l → p (drop at t) ≡ f l.value (drop l.at t)
  reads_then k = h (drop at t) ∙ ap (λ o. and_then o f) k.is

-- ---- the three digits
module _ {t : List ℕ} {at : ℕ} where
  pub first_stops : {n : ℕ} → StopsAt (from_to 48 50) t at n → StopsAt (ddd 3 0) t at n
  first_stops k = stops_then (λ d r. ddd 2 (0 * 10 + d) r) (ranged 2 0 48 50 first_leads) k

  module _ {a : Letter} (h : Reads (from_to 48 50) t at a) where
    two : ddd 3 0 (drop at t) ≡ ddd 2 a.value (drop a.at t)
    two =
        let z : 0 * 10 + a.value ≡ a.value = omega arith in
        reads_then (λ d r. ddd 2 (0 * 10 + d) r) (ranged 2 0 48 50 first_leads) h ∙ ap (λ n. ddd 2 n (drop a.at t)) z

    small : a.value < 3
    small = let k = held (from_bound 48 50 (drop at t)) h.is in omega arith

    module _ {low high : ℕ} (e : low ≡ lowest a.value) (f : high ≡ highest a.value) where
      second : (d : ℕ) → leads? 1 a.value d ≡ (leb low d && leb d high)
      second d = rw (e, f) (second_leads a.value d small)

      pub second_stops : {n : ℕ} → StopsAt (from_to low high) t a.at n → StopsAt (ddd 3 0) t at n
      second_stops k =
          let m = stops_then (λ d r. ddd 1 (a.value * 10 + d) r) (ranged 1 a.value low high second) k in record {
            is = two ∙ m.is;
            onward = omega (arith, h.onward, m.onward);
            within = m.within;
          }

      module _ {b : Letter} (k : Reads (from_to low high) t a.at b) where
        one : ddd 3 0 (drop at t) ≡ ddd 1 (a.value * 10 + b.value) (drop b.at t)
        one = two ∙ reads_then (λ d r. ddd 1 (a.value * 10 + d) r) (ranged 1 a.value low high second) k

        pub third_stops : {n : ℕ} → StopsAt (from_to 48 57) t b.at n → StopsAt (ddd 3 0) t at n
        third_stops {n} m = record {
          is = one ∙ last (a.value * 10 + b.value) (drop b.at t) ∙ rw m.is;
          onward = omega (arith, h.onward, k.onward, m.onward);
          within = m.within;
        }

        module _ {c : Letter} (m : Reads (from_to 48 57) t b.at c) {v : ℕ}
            (g : v ≡ a.value * 100 + b.value * 10 + c.value) where
          value : ddd 3 0 (drop at t) ≡ cond (coded? v) (parsed v (drop c.at t)) (failed (drop b.at t))
          value =
              let z : (a.value * 10 + b.value) * 10 + c.value ≡ v = omega arith in
              one ∙ last (a.value * 10 + b.value) (drop b.at t) ∙ rw (m.is, z)

          pub taken : coded? v ≡ true → Reads (ddd 3 0) t at (record { at = c.at; value = v })
          taken y = record {
            is = value ∙ rw y;
            onward = omega (arith, h.onward, k.onward, m.onward);
            within = m.within;
          }

          pub not_taken : coded? v ≡ false → StopsAt (ddd 3 0) t at b.at
          not_taken y = record {
            is = value ∙ rw y;
            onward = omega (arith, h.onward, k.onward);
            within = k.within;
          }

          pub too_large : (v < 256 → ⊥) → StopsAt (ddd 3 0) t at b.at
          unfolding coded?
          too_large y = not_taken (rw (le-ltb v 256 (omega arith)))
