-- How a loop reads what `many` describes, turn by turn.
use Rattle.std.specs.Prelude.{◌≡◌, refl, ℕ, zero, suc, ◌+◌, ◌≤◌, ◌<◌, length, drop, get_or}
use Rattle.std.proofs.Common.{sym, ◌∙◌, ap, ⊎_elim, arith, eq-eqb, drop_of_length-le, length-append}
use Rattle.std.proofs.lemmas.Bool.{cases_lt}
use mathlib.Core.List.{List, [], ◌∷◌, ◌++◌, append_assoc, append-nil, nil≢cons, head-eq_of_cons-eq}
use Rattle.octets.specs.Parsed.{Parsed, parsed, failed, and_then, otherwise, strip, Holds, missed, found, held}
use Rattle.octets.specs.Parsed.{is_failed}
use Rattle.octets.specs.Parsed.{strip_sound}
use Rattle.octets.specs.Codec.{Avoids, Codec, repeated}
use Rattle.octets.specs.Fields.{drop_one}
use Rattle.parse_tokens.specs.Place.{At}

-- what the parser of `many` answers
abbrev pub run_of : {A : Type 0} {I : A → Type 0} {f : A → List ℕ} {F : List ℕ → Type 0} → ℕ → Codec I f F → List ℕ
    → Parsed (List A)
run_of stop p t = repeated stop p (length t) t

-- v, what there is to find, is what m finds from place `at` on, after l
pub record Going {A : Type 0} (m : List ℕ → Parsed (List A)) (t : List ℕ) (v : Parsed (List A)) (at : ℕ)
    (l : List A) : Type 0 where
  pub goes : v ≡ and_then (m (drop at t)) (λ u r. parsed (l ++ u) r)

behind_nothing : {A : Type 0} (o : Parsed (List A)) → o ≡ and_then o (λ u r. parsed ([] ++ u) r)
behind_nothing (parsed u r) = refl
behind_nothing (failed w) = refl

pub going_start : {A : Type 0} (m : List ℕ → Parsed (List A)) (t : List ℕ) (at : ℕ) → Going m t (m (drop at t)) at []
going_start m t at = record { goes = behind_nothing (m (drop at t)) }

module _ {A : Type 0} {I : A → Type 0} {f : A → List ℕ} {F : List ℕ
    → Type 0} (p : Codec I f F) (stop : ℕ) (avoids : Avoids I f stop) (empty : p.parse [] ≡ failed []) where
  abbrev pub Within : List ℕ → A → List ℕ → Type 0
  Within t a r = I a × (f a ++ r ≡ t)

  filled : (a : A) (w : List ℕ) → I a → f a ≡ w → 0 < length w
  filled a [] h e = absurd (avoids a (stop ∷ []) [] h (ap (λ z. z ++ (stop ∷ [])) e))
  filled a (x ∷ w) h e = omega arith

  pub shorter : (t : List ℕ) (a : A) (r : List ℕ) → Within t a r → length r < length t
  shorter t a r h = rw (← h.1) (omega (arith, length-append (f a) r, filled a (f a) h.0 refl))

  -- one and the rest
  abbrev front : (List ℕ → Parsed (List A)) → List ℕ → Parsed (List A)
  front go t = otherwise (and_then (strip (stop ∷ []) t) λ u r. parsed [] r)
      (and_then (p.parse t) λ a w. and_then (go w) λ l r. parsed (a ∷ l) r)

  -- two ways to read the rest that agree on shorter texts
  alike : (g h : List ℕ → Parsed (List A)) (t : List ℕ) → ((w : List ℕ) → length w < length t → g w ≡ h w)
      → front g t ≡ front h t
  alike g h t same = ap (otherwise (and_then (strip (stop ∷ []) t) λ u r. parsed [] r)) (go (p.sound t))
    where
      go : {o : Parsed A} → Holds (Within t) o
          → and_then o (λ a w. and_then (g w) λ l r. parsed (a ∷ l) r) ≡ and_then o
          (λ a w. and_then (h w) λ l r. parsed (a ∷ l) r)
      go (missed w) = refl
      go (found {a} {r} k) = ap (λ (z : Parsed (List A)). and_then z λ l r. parsed (a ∷ l) r) (same r (shorter t a r k))

  -- the bound makes no difference, if it is no less than the text's length
  enough : (n m : ℕ) (t : List ℕ) → length t ≤ n → length t ≤ m → repeated stop p n t ≡ repeated stop p m t
  enough zero zero t h k = refl
  enough zero (suc m) [] h k = rw empty
  enough zero (suc m) (x ∷ t) h k = absurd (omega arith)
  enough (suc n) zero [] h k = rw empty
  enough (suc n) zero (x ∷ t) h k = absurd (omega arith)
  enough (suc n) (suc m) t h k =
      alike (repeated stop p n) (repeated stop p m) t (λ w l. enough n m w (omega arith) (omega arith))

  pub many_once : (t : List ℕ) → run_of stop p t ≡ front (run_of stop p) t
  many_once t = enough (length t) (suc (length t)) t (omega arith) (omega arith)
      ∙ alike (repeated stop p (length t)) (run_of stop p) t
      (λ w l. enough (length t) (length w) w (omega arith) (omega arith))

  module _ {t : List ℕ} {v : Parsed (List A)} {at : ℕ} {l : List A} (g : Going (run_of stop p) t v at l) where
    -- the octet that ends it
    pub going_end : at < length t → get_or t at 0 ≡ stop → v ≡ parsed l (drop (at + 1) t)
    going_end h e = g.goes ∙ rw (many_once (drop at t), drop_one t at h, e, eq-eqb stop stop refl, append-nil)

    turn : (w : List ℕ) → strip (stop ∷ []) (drop at t) ≡ failed w → (o : Parsed A) → p.parse (drop at t) ≡ o
        → v ≡ and_then (and_then o λ a w. and_then (run_of stop p w) λ l r. parsed (a ∷ l) r) (λ u r. parsed (l ++ u) r)
    turn w e o d = g.goes ∙ rw (many_once (drop at t), e, d)

    -- one more
    pub going_more : {a : A} {n : ℕ} → p.parse (drop at t) ≡ parsed a (drop n t)
        → Going (run_of stop p) t v n (l ++ (a ∷ []))
    going_more {a} {n} e =
        let h = held (p.sound (drop at t)) e in
        let s = is_failed (strip_sound (stop ∷ []) (drop at t)) (λ u r d. avoids a _ r h.0 (h.1 ∙ sym d)) in
        record { goes = turn s.0 s.1 _ e ∙ go (run_of stop p (drop n t)) }
      where
        go : (o : Parsed (List A))
            → and_then (and_then o λ l r. parsed (a ∷ l) r) (λ u r. parsed (l ++ u) r) ≡ and_then o
            (λ u r. parsed (l ++ (a ∷ []) ++ u) r)
        go (parsed u r) = rw append_assoc
        go (failed u) = refl

    -- neither an element nor the end
    pub going_stop : {w : List ℕ} → (At t at stop → ⊥) → p.parse (drop at t) ≡ failed w → v ≡ failed w
    going_stop d e = let s = is_failed (strip_sound (stop ∷ []) (drop at t)) no in turn s.0 s.1 _ e
      where
        no : (u : Unit {0}) (r : List ℕ) → (stop ∷ []) ++ r ≡ drop at t → ⊥
        no u r k = ⊎_elim
            (λ h. d (record { inside = h; is = sym (head-eq_of_cons-eq (k ∙ drop_one t at h)) }))
            (λ h. nil≢cons (sym (k ∙ drop_of_length-le t h)))
            (cases_lt at (length t))
