-- The parsers of numbers and hexadecimal have a look-ahead of one octet.
use mathlib.Core.Path.{◌≡◌, refl, sym, ◌∙◌, ap}
use mathlib.Core.Bool.{Bool, true, false}
use mathlib.Core.Option.{some, some-injective, none-ne-some}
use mathlib.Core.List.{List, [], ◌∷◌, ◌++◌}
use Prim.Native.Nat.{ℕ, ◌+◌, ◌-◌, ◌*◌, ◌/◌, ◌%◌, ◌<◌}
use native.Mathlib.Omega.{arith}
use borrow.Author.Tests.{eqb-true}
use lib.Dec.{eqb}
use Rattle.octets.specs.Lists.{Octets, ended}
use Rattle.octets.specs.Parsed.{Parsed, parsed, failed, Holds, missed, found, parsed≢failed}
use Rattle.octets.specs.Codec.{Any, Codec}
use Rattle.octets.specs.Decimal.{digit?, NoDigit, decimal, decimal_digit, run, leading?, positive, natural}
use Rattle.octets.specs.Decimal.{positive_sound, positive_back}
use Rattle.octets.specs.Hexadecimal.{hex_text, hex_octet, hex_digit, capital?, unhex, digit_codec, octet_codec}
use Rattle.octets.specs.Hexadecimal.{hex_octet_avoids, hex_pairs, hex}
use Rattle.octets.proofs.LookAhead.{front, front_none, front-behind, viable, Sees, takes, stops, OneAhead}
use Rattle.octets.proofs.LookAhead.{StopsAt, ahead_lit, ahead_pair, ahead_on, ahead_many}

-- a parser of texts that end by themselves, which stops at the first octet or not at all
module _ {A : Type 0} {I : A → Type 0} {f : A → List ℕ} where
  ahead_first : (p : Codec I f Any) (a : A) → I a → ((t w : List ℕ) → p.parse t ≡ failed w
      → (w ≡ t) × StopsAt p.parse [] t) → OneAhead I f p.parse
  ahead_first p a i at_first = record { value = a; in_range = i; sees = λ t. go t (p.parse t) refl (p.sound t) }
    where
      go : (t : List ℕ) (o : Parsed A) → p.parse t ≡ o → Holds (λ a r. I a × (f a ++ r ≡ t)) o
          → Sees I f p.parse t o
      go t (parsed b r) e (found h) = takes h.0 h.1 (λ s k. p.back b s h.0 tt)
      go t (failed w) e h =
          let (z, c) = at_first t w e in
          stops [] (viable a (f a) i refl) z (λ s k. c s (k ∙ ap front z))

-- ---- digits of hexadecimal
unhex_first : (t w : List ℕ) → unhex t ≡ failed w → (w ≡ t) × StopsAt unhex [] t
unfolding unhex
unhex_first [] w e = (cc, λ s k. rw (front_none s k))
unhex_first (c ∷ t) w e = go (digit? c) (capital? c) refl refl
  where
    none_there : digit? c ≡ false → capital? c ≡ false → (s : List ℕ) → front s ≡ some c → unhex s ≡ failed s
    none_there a b [] k = absurd (none-ne-some c k)
    none_there a b (x ∷ s) k = let z = some-injective x c k in rw (ap digit? z ∙ a, unhex, ap capital? z ∙ b)

    go : (a b : Bool) → digit? c ≡ a → capital? c ≡ b → (w ≡ c ∷ t) × StopsAt unhex [] (c ∷ t)
    go true b p q = absurd (parsed≢failed (rw (p, unhex) at e))
    go false true p q = absurd (parsed≢failed (rw (p, unhex, q) at e))
    go false false p q = let d : failed (c ∷ t) ≡ failed w = rw (p, unhex, q) at e in (cc, λ s k. none_there p q s k)

ahead_digit : OneAhead (λ n. n < 16) (λ n. hex_digit n ∷ []) unhex
ahead_digit = ahead_first digit_codec 0 (omega arith) unhex_first

ahead_octet : OneAhead (λ x. x < 256) hex_octet octet_codec.parse
ahead_octet = ahead_on (λ t. t.0 * 16 + t.1) halves (ahead_pair ahead_digit (λ a i. ahead_digit))
  where
    halves : (t : ℕ × ℕ) → (t.0 < 16) × (t.1 < 16) → (t.0 * 16 + t.1 < 256)
        × (hex_octet (t.0 * 16 + t.1) ≡ hex_digit t.0 ∷ hex_digit t.1 ∷ [])
    halves t h =
        let u : (t.0 * 16 + t.1) / 16 ≡ t.0 = omega arith in
        let v : (t.0 * 16 + t.1) % 16 ≡ t.1 = omega arith in
        (omega arith, rw (u, v))

ahead_pairs : OneAhead Octets (ended hex_octet 34) hex_pairs.parse
unfolding hex_pairs
ahead_pairs = ahead_many 34 octet_codec (hex_octet_avoids 34 (omega arith)) ahead_octet

pub ahead_hex : OneAhead Octets hex_text hex.parse
unfolding hex hex_text
ahead_hex = ahead_lit (34 ∷ []) ahead_pairs

-- ---- numbers
-- what follows a number that ends with its run of digits
no_digit_lem : (r s : List ℕ) → front s ≡ front r → NoDigit r → NoDigit s
no_digit_lem [] [] e h = tt
no_digit_lem [] (y ∷ s) e h = absurd (none-ne-some y (sym e))
no_digit_lem (x ∷ r) [] e h = tt
no_digit_lem (x ∷ r) (y ∷ s) e h = rw (some-injective y x e) h

-- a run of digits is taken to its end
run_ends : (n : ℕ) (t : List ℕ) → (m : ℕ) × (r : List ℕ) × (run n t ≡ parsed m r) × NoDigit r
run_ends n [] = (n, [], refl, tt)
run_ends n (d ∷ t) = go (digit? d) refl (run_ends (n * 10 + (d - 48)) t)
  where
    go : (b : Bool) → digit? d ≡ b → ((m : ℕ) × (r : List ℕ) × (run (n * 10 + (d - 48)) t ≡ parsed m r) × NoDigit r)
        → (m : ℕ) × (r : List ℕ) × (run n (d ∷ t) ≡ parsed m r) × NoDigit r
    go true e (m, r, z, k) = (m, r, rw (e, run) z, k)
    go false e k = (n, d ∷ t, rw (e, run), rw e tt)

positive_ends : (t : List ℕ) → Holds (λ m r. NoDigit r) (positive t)
unfolding positive
positive_ends [] = missed []
positive_ends (d ∷ t) = go (leading? d) refl
  where
    go : (b : Bool) → leading? d ≡ b → Holds (λ m r. NoDigit r) (positive (d ∷ t))
    go true e = let (m, r, z, k) = run_ends (d - 48) t in rw (e, positive, z) (found {a = m} {r = r} k)
    go false e = rw (e, positive) (missed (d ∷ t))

positive_first : (t w : List ℕ) → positive t ≡ failed w → (w ≡ t) × StopsAt positive [] t
unfolding positive
positive_first [] w e = (cc, λ s k. rw (front_none s k))
positive_first (d ∷ t) w e = go (leading? d) refl
  where
    none_there : leading? d ≡ false → (s : List ℕ) → front s ≡ some d → positive s ≡ failed s
    none_there a [] k = absurd (none-ne-some d k)
    none_there a (x ∷ s) k = rw (ap leading? (some-injective x d k) ∙ a, positive)

    go : (b : Bool) → leading? d ≡ b → (w ≡ d ∷ t) × StopsAt positive [] (d ∷ t)
    go true p = let (m, r, z, k) = run_ends (d - 48) t in absurd (parsed≢failed (sym z ∙ (rw (p, positive) at e)))
    go false p = let q : failed (d ∷ t) ≡ failed w = rw (p, positive) at e in (cc, λ s k. none_there p s k)

pub ahead_positive : OneAhead (λ n. 0 < n) decimal positive
ahead_positive = record {
  value = 1;
  in_range = omega arith;
  sees =
      λ t. go t (positive t) refl (positive_sound t) (positive_ends t);
}
  where
    go : (t : List ℕ) (o : Parsed ℕ) → positive t ≡ o → Holds (λ n r. (0 < n) × (decimal n ++ r ≡ t)) o
        → Holds (λ m r. NoDigit r) o → Sees (λ n. 0 < n) decimal positive t o
    go t (parsed n r) e (found h) (found j) = takes h.0 h.1 (λ s k. positive_back n s h.0 (no_digit_lem r s k j))
    go t (failed w) e h j =
        let (z, c) = positive_first t w e in
        stops [] (viable 1 (decimal 1) (omega arith) refl) z (λ s k. c s (k ∙ ap front z))

-- 0, or such a number
pub ahead_number : OneAhead (λ n. Unit {0}) decimal natural
unfolding natural
ahead_number = record { value = 0; in_range = tt; sees = go }
  where
    zeros : (s : List ℕ) → natural (decimal 0 ++ s) ≡ parsed 0 s
    zeros s = rw (decimal_digit 0 (omega arith))

    other : (d : ℕ) → eqb d 48 ≡ false → (s : List ℕ) → front s ≡ some d → natural s ≡ positive s
    other d a [] k = absurd (none-ne-some d k)
    other d a (x ∷ s) k = rw (ap (λ y. eqb y 48) (some-injective x d k) ∙ a, natural)

    later : (d : ℕ) (t : List ℕ) {o : Parsed ℕ} → eqb d 48 ≡ false → Sees (λ n. 0 < n) decimal positive (d ∷ t) o
        → Sees (λ n. Unit {0}) decimal natural (d ∷ t) o
    later d t a (takes {a = n} {r = r} i e c) = takes tt e
        (λ s k. other d a (decimal n ++ s) (front-behind (decimal n) s r k ∙ ap front e) ∙ c s k)
    later d t a (stops {w = w} u b e c) =
        stops u (viable b.value b.rest tt b.same) e
        (λ s k. other d a (u ++ s) (front-behind u s w k ∙ ap front e) ∙ c s k)

    go : (t : List ℕ) → Sees (λ n. Unit {0}) decimal natural t (natural t)
    go [] = stops [] (viable 0 (decimal 0) tt refl) refl (λ s k. rw (front_none s k))
    go (d ∷ t) = by (eqb d 48) refl
      where
        by : (b : Bool) → eqb d 48 ≡ b → Sees (λ n. Unit {0}) decimal natural (d ∷ t) (natural (d ∷ t))
        by true e = rw (e, natural) (takes {a = 0} {r = t} tt
            (rw (decimal_digit 0 (omega arith)) (ap (λ y. y ∷ t) (sym (eqb-true d 48 e)))) (λ s k. zeros s))
        by false e = rw (e, natural) (later d t e (ahead_positive.sees (d ∷ t)))
