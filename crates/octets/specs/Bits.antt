-- Facts on Boolean tests, and on facts of every element of a list.
use Rattle.std.specs.Prelude.{◌≡◌, refl, ◌≢◌, Bool, true, false, not, ◌&&◌, List, [], ◌∷◌, ◌++◌, ℕ, zero, suc, ◌<◌, T, eqb}
use Rattle.std.proofs.Common.{sym, subst, arith, eqb-true, eqb→eq, ltb→lt, lt→ltb}
use Rattle.std.proofs.lemmas.Bool.{eqb-false}
use Rattle.std.proofs.Math.Dec.{not_T}
use Rattle.octets.specs.Lists.{all, All, u8?, Octets}

-- what a test answers
pub is_true : (b : Bool) → T b → b ≡ true
is_true true t = refl
is_true false t = absurd t

pub is_false : (b : Bool) → T (not b) → b ≡ false
is_false true t = absurd t
is_false false t = refl

pub unequal : (x y : ℕ) → x ≢ y → eqb x y ≡ false
unequal x y h = is_false (eqb x y) (not_T (eqb x y) λ t. h (eqb→eq x y t))

-- two tests at once
pub both : (a b : Bool) → T a → T b → T (a && b)
both true b s t = t
both false b s t = s

pub and_left : (a b : Bool) → T (a && b) → T a
and_left true b t = tt
and_left false b t = t

pub and_right : (a b : Bool) → T (a && b) → T b
and_right true b t = t
and_right false b t = absurd t

-- tests joined from the left: what holds of all of them holds of each, and the other way
abbrev pub conjoined : Bool → List Bool → Bool
conjoined a [] = a
conjoined a (b ∷ l) = conjoined (a && b) l

pub each_holds : (a : Bool) (l : List Bool) → T (conjoined a l) → T a × All T l
each_holds a [] t = (t, tt)
each_holds a (b ∷ l) t = let h = each_holds (a && b) l t in (and_left a b h.0, (and_right a b h.0, h.1))

pub all_hold : (a : Bool) (l : List Bool) → T a → All T l → T (conjoined a l)
all_hold a [] t h = t
all_hold a (b ∷ l) t h = all_hold (a && b) l (both a b t h.0) h.1

-- two tests that answer alike
abbrev pub same? : Bool → Bool → Bool
same? true b = b
same? false b = not b

pub same : (a b : Bool) → T (same? a b) → a ≡ b
same true b t = sym (is_true b t)
same false b t = sym (is_false b t)

-- a test of every number below a bound: it can be computed, and then holds of each
abbrev pub upto : (ℕ → Bool) → ℕ → Bool
upto p zero = true
upto p (suc n) = upto p n && p n

pub below : (p : ℕ → Bool) (n : ℕ) → T (upto p n) → (k : ℕ) → k < n → T (p k)
below p zero t k h = absurd (omega arith)
below p (suc n) t k h = go (below p n (and_left (upto p n) (p n) t) k) (eqb k n) refl
  where
    go : (k < n → T (p k)) → (b : Bool) → eqb k n ≡ b → T (p k)
    go f true e = subst (λ i. T (p i)) (sym (eqb-true k n e)) (and_right (upto p n) (p n) t)
    go f false e = let d = eqb-false k n e in f (omega arith)

module _ {A : Type 0} where
  -- a test of every element, as a fact of every element
  pub all→All : (p : A → Bool) (l : List A) → T (all p l) → All (λ x. T (p x)) l
  all→All p [] h = tt
  all→All p (x ∷ l) h = (and_left (p x) (all p l) h, all→All p l (and_right (p x) (all p l) h))

  pub All→all : (p : A → Bool) (l : List A) → All (λ x. T (p x)) l → T (all p l)
  All→all p [] h = tt
  All→all p (x ∷ l) h = both (p x) (all p l) h.0 (All→all p l h.1)

  -- one fact for another
  pub All-map : {P Q : A → Type 0} → ((x : A) → P x → Q x) → (l : List A) → All P l → All Q l
  All-map f [] h = tt
  All-map f (x ∷ l) h = (f x h.0, All-map f l h.1)

  -- two lists, one after the other
  pub All-append : (P : A → Type 0) (l m : List A) → All P l → All P m → All P (l ++ m)
  All-append P [] m h k = k
  All-append P (x ∷ l) m h k = (h.0, All-append P l m h.1 k)

  pub All-left : (P : A → Type 0) (l m : List A) → All P (l ++ m) → All P l
  All-left P [] m h = tt
  All-left P (x ∷ l) m h = (h.0, All-left P l m h.1)

  pub All-right : (P : A → Type 0) (l m : List A) → All P (l ++ m) → All P m
  All-right P [] m h = h
  All-right P (x ∷ l) m h = All-right P l m h.1

-- octets by test and by bound
pub octets_in_lem : (l : List ℕ) → T (all u8? l) → Octets l
octets_in_lem l h = All-map (λ x t. ltb→lt x 256 t) l (all→All u8? l h)

pub octets_test : (l : List ℕ) → Octets l → T (all u8? l)
octets_test l h = All→all u8? l (All-map (λ x t. lt→ltb x 256 t) l h)
