-- What a parser answers: a value with the text after it, or the text from the octet at which it stopped.
use Rattle.std.specs.Prelude.{◌≡◌, refl, Bool, true, false, cond, List, [], ◌∷◌, ◌++◌, ℕ, T, ltb, eqb, length}
use Rattle.std.proofs.Common.{◌∙◌, ap, ap₂, subst, eqb→eq}
use Rattle.std.proofs.Math.Dec.{eqb_refl}

pub data Parsed (A : Type 0) : Type 0 where
  parsed : A → List ℕ → Parsed A
  failed : List ℕ → Parsed A

-- one parser after another
abbrev pub and_then : {A B : Type 0} → Parsed A → (A → List ℕ → Parsed B) → Parsed B
and_then (parsed a r) f = f a r
and_then (failed w) f = failed w

pub then_then : {A B C : Type 0} (o : Parsed A) (f : A → List ℕ → Parsed B) (g : B → List ℕ → Parsed C)
    → and_then (and_then o f) g ≡ and_then o (λ a r. and_then (f a r) g)
then_then (parsed a r) f g = refl
then_then (failed w) f g = refl

-- one parser or another; where both stop, the one that came further says where
abbrev pub or_else : {A : Type 0} → Parsed A → Parsed A → Parsed A
or_else (parsed a r) o = parsed a r
or_else (failed w) (parsed a r) = parsed a r
or_else (failed w) (failed u) = failed (cond (ltb (length u) (length w)) u w)

-- one parser, or else another that comes at least as far
abbrev pub otherwise : {A : Type 0} → Parsed A → Parsed A → Parsed A
otherwise (parsed a r) o = parsed a r
otherwise (failed w) o = o

-- fixed octets, one by one
abbrev pub strip : List ℕ → List ℕ → Parsed (Unit {0})
strip [] t = parsed tt t
strip (x ∷ l) [] = failed []
strip (x ∷ l) (y ∷ t) = cond (eqb x y) (strip l t) (failed (y ∷ t))

-- ---- what holds of the value and the text after it, if there are any
pub data Holds {A : Type 0} (P : A → List ℕ → Type 0) : Parsed A → Type 0 where
  missed : (w : List ℕ) → Holds P (failed w)
  found : {a : A} {r : List ℕ} → P a r → Holds P (parsed a r)

-- the value of an answer, or `d` where the parser stopped; the text that is left
abbrev value : {A : Type 0} → A → Parsed A → A
value d (parsed a r) = a
value d (failed w) = d

abbrev rest : {A : Type 0} → Parsed A → List ℕ
rest (parsed a r) = r
rest (failed w) = w

module _ {A : Type 0} where
  -- equal answers have equal parts
  pub parsed_value : {a b : A} {r s : List ℕ} → parsed a r ≡ parsed b s → a ≡ b
  parsed_value {a} e = ap (value a) e

  pub parsed_rest : {a b : A} {r s : List ℕ} → parsed a r ≡ parsed b s → r ≡ s
  parsed_rest e = ap rest e

  -- a value is no stop
  abbrev Took : Parsed A → Type 0
  Took (parsed a r) = Unit {0}
  Took (failed w) = ⊥

  pub parsed≢failed : {a : A} {r w : List ℕ} → parsed a r ≡ failed w → ⊥
  parsed≢failed e = subst Took e tt

  pub cond_true : (b : Bool) (x y : A) → T b → cond b x y ≡ x
  cond_true true x y t = refl
  cond_true false x y t = absurd t

module _ {A : Type 0} {P : A → List ℕ → Type 0} where
  pub held : {o : Parsed A} {a : A} {r : List ℕ} → Holds P o → o ≡ parsed a r → P a r
  held {o} {a} {r} h e = go (subst (Holds P) e h)
    where
      go : Holds P (parsed a r) → P a r
      go (found h) = h

  -- where it can hold of nothing, the parser stops
  pub is_failed : {o : Parsed A} → Holds P o → ((a : A) (r : List ℕ) → P a r → ⊥) → (w : List ℕ) × (o ≡ failed w)
  is_failed (missed w) f = (w, refl)
  is_failed (found {a} {r} h) f = absurd (f a r h)

  pub map_holds : {Q : A → List ℕ → Type 0} {o : Parsed A} → Holds P o → ((a : A) (r : List ℕ) → P a r → Q a r)
      → Holds Q o
  map_holds (missed w) f = missed w
  map_holds (found {a} {r} h) f = found (f a r h)

  pub then_holds : {B : Type 0} {Q : B → List ℕ → Type 0} {o : Parsed A} (f : A → List ℕ → Parsed B) → Holds P o
      → ((a : A) (r : List ℕ) → P a r → Holds Q (f a r)) → Holds Q (and_then o f)
  then_holds f (missed w) g = missed w
  then_holds f (found {a} {r} h) g = g a r h

  pub or_holds : {o p : Parsed A} → Holds P o → Holds P p → Holds P (or_else o p)
  or_holds (missed w) (missed u) = missed _
  or_holds (missed w) (found k) = found k
  or_holds (found h) k = found h

  pub otherwise_holds : {o p : Parsed A} → Holds P o → Holds P p → Holds P (otherwise o p)
  otherwise_holds (missed w) k = k
  otherwise_holds (found h) k = found h

  pub cond_holds : (b : Bool) {o : Parsed A} (w : List ℕ) → (T b → Holds P o) → Holds P (cond b o (failed w))
  cond_holds true w h = h tt
  cond_holds false w h = missed w

-- ---- fixed octets
pub strip_back : (l r : List ℕ) → strip l (l ++ r) ≡ parsed tt r
strip_back [] r = refl
strip_back (x ∷ l) r = cond_true (eqb x x) (strip l (l ++ r)) (failed (x ∷ (l ++ r))) (eqb_refl x) ∙ strip_back l r

pub strip_sound : (l t : List ℕ) → Holds (λ u r. l ++ r ≡ t) (strip l t)
strip_sound [] t = found refl
strip_sound (x ∷ l) [] = missed []
strip_sound (x ∷ l) (y ∷ t) =
    cond_holds (eqb x y) (y ∷ t) λ h. map_holds (strip_sound l t) λ u r e. ap₂ ◌∷◌ (eqb→eq x y h) e
