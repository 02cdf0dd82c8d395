-- Parsers with a look-ahead of one octet: the octets before a stop are a viable prefix, that is, they begin some text,
-- and the answer depends on these octets and the next one alone. So no text goes on there as the input does.
use mathlib.Core.Path.{◌≡◌, refl, sym, ◌∙◌, ap, ap₂, subst}
use mathlib.Core.Logic.{◌⊎◌, inl, inr}
use mathlib.Core.Bool.{Bool, true, false, not, cond}
use mathlib.Core.Option.{Option, none, some, some-injective, none-ne-some}
use mathlib.Core.List.{List, [], ◌∷◌, ◌++◌, append_assoc, head-eq_of_cons-eq, tail-eq_of_cons-eq}
use Prim.Native.Nat.{ℕ, zero, suc, ◌+◌, ◌-◌, ◌<◌, ◌≤◌}
use Prim.Native.String.{String}
use native.Mathlib.Omega.{arith}
use borrow.Author.Tests.{lt-ltb, le-ltb, ltb-true, ltb-false, eqb-true, eqb-false}
use lib.Dec.{T, ltb, eqb, eqb_refl}
use lib.ListN.{length, length-append}
use Rattle.octets.specs.Lists.{ascii, all, All, key?, row_text, ended, listed}
use Rattle.octets.specs.Bits.{is_true, is_false, and_left, and_right}
use Rattle.octets.specs.Parsed.{Parsed, parsed, failed, and_then, or_else, otherwise, strip, strip_back}
use Rattle.octets.specs.Codec.{Avoids, OneOrMore, fronts, Codec, repeated, ◌▷◌, Either, either_text, distinct}
use Rattle.octets.specs.Codec.{differs?, key_apart, table_parser, tried_back}

-- the first octet, if there is one
abbrev pub front : List ℕ → Option ℕ
front [] = none
front (x ∷ l) = some x

pub front-behind : (u r s : List ℕ) → front r ≡ front s → front (u ++ r) ≡ front (u ++ s)
front-behind [] r s e = e
front-behind (x ∷ u) r s e = refl

-- a viable prefix: the octets begin the text of some value in the range
pub record Viable {A : Type 0} (I : A → Type 0) (f : A → List ℕ) (u : List ℕ) : Type 0 where
  pub value : A
  pub rest : List ℕ
  pub in_range : I value
  pub same : f value ≡ u ++ rest

pub viable : {A : Type 0} {I : A → Type 0} {f : A → List ℕ} {u : List ℕ} (a : A) (r : List ℕ) → I a → f a ≡ u ++ r
    → Viable I f u
viable a r i e = record { value = a; rest = r; in_range = i; same = e }

-- a parser stops after u wherever the first octet of w comes next
abbrev pub StopsAt : {A : Type 0} → (List ℕ → Parsed A) → List ℕ → List ℕ → Type 0
StopsAt p u w = (s : List ℕ) → front s ≡ front w → p (u ++ s) ≡ failed s

-- what a parser answers for a text t: it takes the text of a value, or it stops after a viable prefix; and it answers
-- so for every text that has the same octets up to there and the same next one
pub data Sees {A : Type 0} (I : A → Type 0) (f : A → List ℕ) (p : List ℕ → Parsed A) (t : List ℕ) : Parsed A
    → Type 0 where
  takes : {a : A} {r : List ℕ} → I a → f a ++ r ≡ t → ((s : List ℕ) → front s ≡ front r → p (f a ++ s) ≡ parsed a s)
      → Sees I f p t (parsed a r)
  stops : {w : List ℕ} (u : List ℕ) → Viable I f u → u ++ w ≡ t → StopsAt p u w → Sees I f p t (failed w)

-- a parser with a look-ahead of one octet, over a range that is not empty
pub record OneAhead {A : Type 0} (I : A → Type 0) (f : A → List ℕ) (p : List ℕ → Parsed A) : Type 0 where
  pub value : A
  pub in_range : I value
  pub sees : (t : List ℕ) → Sees I f p t (p t)

-- ---- fixed octets
-- what `strip` answers for a text t: it takes the octets l, or stops after the first of them
pub data Strips (l t : List ℕ) : Parsed (Unit {0}) → Type 0 where
  strips : {r : List ℕ} → l ++ r ≡ t → Strips l t (parsed tt r)
  halts : {w : List ℕ} (u v : List ℕ) → l ≡ u ++ v → u ++ w ≡ t → StopsAt (strip l) u w → Strips l t (failed w)

pub front_none : (s : List ℕ) → front s ≡ none → s ≡ []
front_none [] e = refl
front_none (x ∷ s) e = absurd (none-ne-some x (sym e))

strip_sees : (l t : List ℕ) → Strips l t (strip l t)
strip_sees [] t = strips refl
strip_sees (x ∷ l) [] = halts [] (x ∷ l) refl refl (λ s e. rw (front_none s e))
strip_sees (x ∷ l) (y ∷ t) = go (eqb x y) refl (strip_sees l t)
  where
    other : eqb x y ≡ false → (s : List ℕ) → front s ≡ some y → strip (x ∷ l) s ≡ failed s
    other e [] h = absurd (none-ne-some y h)
    other e (z ∷ s) h = rw (ap (eqb x) (some-injective z y h) ∙ e)

    more : {o : Parsed (Unit {0})} → x ≡ y → Strips l t o → Strips (x ∷ l) (y ∷ t) o
    more e (strips d) = strips (ap₂ ◌∷◌ e d)
    more e (halts u v d f g) = halts (x ∷ u) v (ap (λ r. x ∷ r) d) (ap₂ ◌∷◌ e f)
        (λ s h. rw (is_true (eqb x x) (eqb_refl x)) (g s h))

    go : (b : Bool) → eqb x y ≡ b → Strips l t (strip l t)
        → Strips (x ∷ l) (y ∷ t) (cond b (strip l t) (failed (y ∷ t)))
    go true e h = more (eqb-true x y e) h
    go false e h = halts [] (x ∷ l) refl refl (λ s d. other e s d)

-- one text after another, the first of which tells what the second is: range, text, parser
abbrev pub Both : {A : Type 0} {B : A → Type 0} → (A → Type 0) → ((a : A) → B a → Type 0) → (a : A) × B a → Type 0
Both I J u = I u.0 × J u.0 u.1

abbrev pub both_text : {A : Type 0} {B : A → Type 0} → (A → List ℕ) → ((a : A) → B a → List ℕ) → (a : A) × B a → List ℕ
both_text f g u = f u.0 ++ g u.0 u.1

abbrev pub both_parse : {A : Type 0} {B : A → Type 0} → (List ℕ → Parsed A) → ((a : A) → List ℕ → Parsed (B a)) → List ℕ
    → Parsed ((a : A) × B a)
both_parse p q t = and_then (p t) λ a w. and_then (q a w) λ b r. parsed (a, b) r

-- an octet that stands for c, or another thing
abbrev pub stop_or : {A C : Type 0} → ℕ → A → (C → A) → (List ℕ → Parsed C) → List ℕ → Parsed A
stop_or stop c e q t = otherwise (and_then (strip (stop ∷ []) t) λ u r. parsed c r)
    (and_then (q t) λ b r. parsed (e b) r)

module _ {A : Type 0} {I : A → Type 0} {f : A → List ℕ} {p : List ℕ → Parsed A} where
  -- fixed octets before
  pub ahead_lit : (l : List ℕ) → OneAhead I f p → OneAhead I (λ a. l ++ f a) (λ t. and_then (strip l t) λ u r. p r)
  ahead_lit l h = record { value = h.value; in_range = h.in_range; sees = λ t. go (strip_sees l t) }
    where
      one : {o : Parsed A} {t r : List ℕ} → l ++ r ≡ t → Sees I f p r o
          → Sees I (λ a. l ++ f a) (λ t. and_then (strip l t) λ u r. p r) t o
      one d (takes {a} i e g) = takes i (append_assoc l (f a) _ ∙ ap (λ z. l ++ z) e ∙ d)
          (λ s k. rw (append_assoc l (f a) s, strip_back l (f a ++ s)) (g s k))
      one d (stops u b e g) = stops (l ++ u) (viable b.value b.rest b.in_range
          (ap (λ z. l ++ z) b.same ∙ sym (append_assoc l u b.rest)))
          (append_assoc l u _ ∙ ap (λ z. l ++ z) e ∙ d) (λ s k. rw (append_assoc l u s, strip_back l (u ++ s)) (g s k))

      go : {t : List ℕ} {o : Parsed (Unit {0})} → Strips l t o
          → Sees I (λ a. l ++ f a) (λ t. and_then (strip l t) λ u r. p r) t (and_then o λ u r. p r)
      go (strips {r} d) = one d (h.sees r)
      go (halts u v d e g) =
          stops u (viable h.value (v ++ f h.value) h.in_range
          (ap (λ z. z ++ f h.value) d ∙ append_assoc u v (f h.value)))
          e (λ s k. rw (g s k))

  -- fixed octets after
  pub ahead_behind : (l : List ℕ) → OneAhead I f p → OneAhead I (λ a. f a ++ l)
      (λ t. and_then (p t) λ a w. and_then (strip l w) λ u r. parsed a r)
  ahead_behind l h = record { value = h.value; in_range = h.in_range; sees = λ t. go (h.sees t) }
    where
      q : List ℕ → Parsed A
      q t = and_then (p t) λ a w. and_then (strip l w) λ u r. parsed a r

      two : {o : Parsed (Unit {0})} {t w : List ℕ} (a : A) → I a → f a ++ w ≡ t
          → ((s : List ℕ) → front s ≡ front w → p (f a ++ s) ≡ parsed a s) → Strips l w o
          → Sees I (λ a. f a ++ l) q t (and_then o λ u r. parsed a r)
      two {w = w} a i e g (strips {r = r} d) =
          takes i (append_assoc (f a) l r ∙ ap (λ z. f a ++ z) d ∙ e)
          (λ s k. rw (append_assoc (f a) l s, g (l ++ s) (front-behind l s r k ∙ ap front d), strip_back l s))
      two {w = w} a i e g (halts {w = v} u m d c j) =
          stops (f a ++ u) (viable a m i (ap (λ z. f a ++ z) d ∙ sym (append_assoc (f a) u m)))
          (append_assoc (f a) u v ∙ ap (λ z. f a ++ z) c ∙ e)
          (λ s k. rw (append_assoc (f a) u s, g (u ++ s) (front-behind u s v k ∙ ap front c), j s k))

      go : {t : List ℕ} {o : Parsed A} → Sees I f p t o
          → Sees I (λ a. f a ++ l) q t (and_then o λ a w. and_then (strip l w) λ u r. parsed a r)
      go (takes {a} {r} i e g) = two a i e g (strip_sees l r)
      go (stops u b e g) = stops u (viable b.value (b.rest ++ l) b.in_range
          (ap (λ z. z ++ l) b.same ∙ append_assoc u b.rest l)) e (λ s k. rw (g s k))

  -- one after the other, the first of which tells what the second is
  module _ {B : A → Type 0} {J : (a : A) → B a → Type 0} {g : (a : A) → B a → List ℕ} {q : (a : A) → List ℕ
      → Parsed (B a)} where
    -- of one text, and a value for the second wherever the first stops
    pub sees_pair : {t : List ℕ} {x : Parsed A} → Sees I f p t x → ((a : A) → I a → (b : B a) × J a b)
        → ((a : A) (w : List ℕ) → I a → f a ++ w ≡ t → Sees (J a) (g a) (q a) w (q a w))
        → Sees (Both I J) (both_text f g) (both_parse p q) t (and_then x λ a w. and_then (q a w) λ b r. parsed (a, b) r)
    sees_pair {t} (takes {a = a} {r = w} i e c) any later = two (later a w i e)
      where
        two : {x : Parsed (B a)} → Sees (J a) (g a) (q a) w x
            → Sees (Both I J) (both_text f g) (both_parse p q) t (and_then x λ b r. parsed (a, b) r)
        two (takes {a = b} {r = r} j d n) =
            takes (i, j) (append_assoc (f a) (g a b) r ∙ ap (λ z. f a ++ z) d ∙ e)
            (λ s x. rw (append_assoc (f a) (g a b) s, c (g a b ++ s) (front-behind (g a b) s r x ∙ ap front d), n s x))
        two (stops {w = v} u b d n) =
            stops (f a ++ u) (viable (a, b.value) b.rest (i, b.in_range)
            (ap (λ z. f a ++ z) b.same ∙ sym (append_assoc (f a) u b.rest)))
            (append_assoc (f a) u v ∙ ap (λ z. f a ++ z) d ∙ e)
            (λ s x. rw (append_assoc (f a) u s, c (u ++ s) (front-behind u s v x ∙ ap front d), n s x))
    sees_pair (stops u b e c) any later =
        let (y, j) = any b.value b.in_range in
        stops u (viable (b.value, y) (b.rest ++ g b.value y) (b.in_range, j)
        (ap (λ z. z ++ g b.value y) b.same ∙ append_assoc u b.rest (g b.value y)))
        e (λ s x. rw (c s x))

    pub ahead_pair : OneAhead I f p → ((a : A) → I a → OneAhead (J a) (g a) (q a))
        → OneAhead (Both I J) (both_text f g) (both_parse p q)
    ahead_pair h k =
        record {
          value = (h.value, (k h.value h.in_range).value);
          in_range = (h.in_range, (k h.value h.in_range).in_range);
          sees = λ t. sees_pair (h.sees t) (λ a i. ((k a i).value, (k a i).in_range)) (λ a w i e. (k a i).sees w);
        }

  -- seen as another thing
  pub ahead_on : {B : Type 0} {J : B → Type 0} {g : B → List ℕ} (from : A → B)
      → ((a : A) → I a → J (from a) × (g (from a) ≡ f a)) → OneAhead I f p
      → OneAhead J g (λ t. and_then (p t) λ a r. parsed (from a) r)
  ahead_on {B} {J} {g} from same h = record {
    value = from h.value;
    in_range =
        (same h.value h.in_range).0;
    sees = λ t. go (h.sees t);
  }
    where
      go : {t : List ℕ} {o : Parsed A} → Sees I f p t o
          → Sees J g (λ t. and_then (p t) λ a r. parsed (from a) r) t (and_then o λ a r. parsed (from a) r)
      go (takes {a} {r} i e c) = let (j, d) = same a i in takes j (ap (λ z. z ++ r) d ∙ e) (λ s x. rw (d, c s x))
      go (stops u b e c) = let (j, d) = same b.value b.in_range in
          stops u (viable (from b.value) b.rest j (d ∙ b.same)) e (λ s x. rw (c s x))

-- ---- one or the other
-- two beginnings of a text, of which the second leaves no more
pub parted : (u v w x : List ℕ) → u ++ w ≡ v ++ x → length x ≤ length w → (y : List ℕ) × (v ≡ u ++ y) × (w ≡ y ++ x)
parted [] v w x e h = (v, refl, e)
parted (a ∷ u) [] w x e h = absurd (omega (arith, ap length e, length-append u w))
parted (a ∷ u) (b ∷ v) w x e h = let (y, p, q) = parted u v w x (tail-eq_of_cons-eq e) h in
    (y, ap₂ ◌∷◌ (sym (head-eq_of_cons-eq e)) p, q)

-- a parser that stops after u stops there too where more octets are known
stops-before : {A : Type 0} (p : List ℕ → Parsed A) (u y v w x : List ℕ) → v ≡ u ++ y → w ≡ y ++ x → StopsAt p u w
    → (s : List ℕ) → front s ≡ front x → p (v ++ s) ≡ failed (y ++ s)
stops-before p u y v w x c d f s k = rw (c, append_assoc u y s) (f (y ++ s) (front-behind y s x k ∙ ap front (sym d)))

-- both stop: so does the choice, at the further of the two places
or_stops : {A : Type 0} (p q : List ℕ → Parsed A) (u v w x : List ℕ) → u ++ w ≡ v ++ x → StopsAt p u w → StopsAt q v x
    → (b : Bool) → ltb (length x) (length w) ≡ b
    → StopsAt (λ t. or_else (p t) (q t)) (cond b v u) (cond b x w)
or_stops p q u v w x e f g true h s k =
    let i : length x < length w = ltb-true (length x) (length w) h in
    let (y, c, d) = parted u v w x e (omega arith) in
    let long : length w ≡ length y + length x = ap length d ∙ length-append y x in
    rw (
      stops-before p u y v w x c d f s k,
      g s k,
      lt-ltb (length s) (length (y ++ s))
          (omega (arith, length-append y s)),
    )
or_stops p q u v w x e f g false h s k =
    let i : length w ≤ length x = ltb-false (length x) (length w) h in
    let (y, c, d) = parted v u x w (sym e) i in
    rw (
      f s k,
      stops-before q v y u x w c d g s k,
      le-ltb (length (y ++ s)) (length s)
          (omega (arith, length-append y s)),
    )

-- what holds of both places holds of the further
further : (b : Bool) (P : List ℕ → Type 0) (u v : List ℕ) → P u → P v → P (cond b v u)
further true P u v x y = y
further false P u v x y = x

whole_at : (b : Bool) (u v w x : List ℕ) {t : List ℕ} → u ++ w ≡ t → v ++ x ≡ t → cond b v u ++ cond b x w ≡ t
whole_at true u v w x d e = e
whole_at false u v w x d e = d

module _ {A B : Type 0} {I : A → Type 0} {f : A → List ℕ} {J : B → Type 0} {g : B → List ℕ} {p : List ℕ
    → Parsed A} {q : List ℕ → Parsed B} where
  pub ahead_either : OneAhead I f p → OneAhead J g q → ((b : B) (s : List ℕ) → J b
      → (w : List ℕ) × (p (g b ++ s) ≡ failed w))
      → OneAhead (Either I J) (either_text f g) (λ t. or_else (and_then (p t) λ a r. parsed (inl a) r)
      (and_then (q t) λ b r. parsed (inr b) r))
  ahead_either h k apart = record {
    value = inl h.value;
    in_range = h.in_range;
    sees =
        λ t. go (h.sees t) (k.sees t);
  }
    where
      left : List ℕ → Parsed (A ⊎ B)
      left t = and_then (p t) λ a r. parsed (inl a) r

      right : List ℕ → Parsed (A ⊎ B)
      right t = and_then (q t) λ b r. parsed (inr b) r

      go : {t : List ℕ} {x : Parsed A} {y : Parsed B} → Sees I f p t x → Sees J g q t y
          → Sees (Either I J) (either_text f g) (λ t. or_else (left t) (right t)) t
          (or_else (and_then x λ a r. parsed (inl a) r) (and_then y λ b r. parsed (inr b) r))
      go (takes {a = a} i e c) y = takes {a = inl a} i e (λ s n. rw (c s n))
      go (stops u b e c) (takes {a = a} i d n) = takes {a = inr a} i d (λ s m. rw ((apart a s i).1, n s m))
      go (stops {w = w} u b e c) (stops {w = x} v d j n) =
          let far = ltb (length x) (length w) in
          stops (cond far v u)
          (further far (Viable (Either I J) (either_text f g)) u v
          (viable (inl b.value) b.rest b.in_range b.same)
          (viable (inr d.value) d.rest d.in_range d.same))
          (whole_at far u v w x e j)
          (or_stops left right u v w x (e ∙ sym j) (λ s m. rw (c s m)) (λ s m. rw (n s m)) far refl)

-- ---- a list up to an octet
-- where the octet does not stand, it is the other
stop_past : {A C : Type 0} (stop : ℕ) (c : A) (e : C → A) (q : List ℕ → Parsed C) (t : List ℕ)
    → (front t ≡ some stop → ⊥) → stop_or stop c e q t ≡ and_then (q t) λ b r. parsed (e b) r
stop_past stop c e q [] n = refl
stop_past stop c e q (x ∷ t) n = rw (is_false (eqb stop x) (other (eqb stop x) refl))
  where
    other : (b : Bool) → eqb stop x ≡ b → T (not b)
    other true z = n (ap some (sym (eqb-true stop x z)))
    other false z = tt

-- the octet, or another thing that is read where the octet does not stand
module _ {A C : Type 0} {K : A → Type 0} {h : A → List ℕ} {J : C → Type 0} {g : C → List ℕ} {q : List ℕ → Parsed C}
    (stop : ℕ) (c : A) (e : C → A) (i : K c) (d : h c ≡ stop ∷ [])
    (same : (b : C) → J b → K (e b) × (h (e b) ≡ g b)) where
  sees_stop : (t : List ℕ) → Sees J g q t (q t) → Sees K h (stop_or stop c e q) t (stop_or stop c e q t)
  sees_stop t k = go t k
    where
      next : {t : List ℕ} {x : Parsed C} → (front t ≡ some stop → ⊥) → Sees J g q t x
          → Sees K h (stop_or stop c e q) t (and_then x λ b r. parsed (e b) r)
      next n (takes {a = b} {r = r} j z m) =
          let (p, w) = same b j in
          takes p (ap (λ l. l ++ r) w ∙ z) (λ s y. rw w
          (stop_past stop c e q (g b ++ s) (λ v. n (sym (ap front z) ∙ sym (front-behind (g b) s r y) ∙ v))
          ∙ rw (m s y)))
      next n (stops {w = w} u b z m) =
          let (p, y) = same b.value b.in_range in
          stops u (viable (e b.value) b.rest p (y ∙ b.same)) z
          (λ s v. stop_past stop c e q (u ++ s) (λ x. n (sym (ap front z) ∙ sym (front-behind u s w v) ∙ x))
          ∙ rw (m s v))

      go : (t : List ℕ) → Sees J g q t (q t) → Sees K h (stop_or stop c e q) t (stop_or stop c e q t)
      go [] k = next (λ v. none-ne-some stop v) k
      go (x ∷ t) k = by (eqb stop x) refl
        where
          by : (b : Bool) → eqb stop x ≡ b → Sees K h (stop_or stop c e q) (x ∷ t)
              (otherwise (and_then (cond b (strip [] t) (failed (x ∷ t))) λ u r. parsed c r)
              (and_then (q (x ∷ t)) λ b r. parsed (e b) r))
          by true z = takes {a = c} i (ap (λ l. l ++ t) d ∙ ap (λ y. y ∷ t) (eqb-true stop x z))
              (λ s y. rw (d, is_true (eqb stop stop) (eqb_refl stop)))
          by false z = next (λ v. eqb-false stop x z (sym (some-injective x stop v))) k

-- a parser that answers the same
sees_same : {A : Type 0} {I : A → Type 0} {f : A → List ℕ} {p q : List ℕ → Parsed A} {t : List ℕ} {x : Parsed A}
    → ((t : List ℕ) → q t ≡ p t) → Sees I f p t x → Sees I f q t x
sees_same {f = f} e (takes {a = a} i d c) = takes i d (λ s k. e (f a ++ s) ∙ c s k)
sees_same e (stops u b d c) = stops u b d (λ s k. e (u ++ s) ∙ c s k)

module _ {A : Type 0} {I : A → Type 0} {f : A → List ℕ} {F : List ℕ → Type 0} (stop : ℕ) (p : Codec I f F)
    (avoids : Avoids I f stop) (h : OneAhead I f p.parse) where
  -- an element is not empty, so it leaves less
  shorter : (a : A) (t w : List ℕ) → I a → f a ++ w ≡ t → length w < length t
  shorter a t w i e = go (f a) (λ n. avoids a (stop ∷ []) [] i (ap (λ l. l ++ (stop ∷ [])) n)) e
    where
      go : (l : List ℕ) → (l ≡ [] → ⊥) → l ++ w ≡ t → length w < length t
      go [] n d = absurd (n refl)
      go (x ∷ l) n d = omega (arith, ap length d, length-append l w)

  -- the number that bounds how many there are does not matter
  fuel : (n : ℕ) (t : List ℕ) → length t ≤ n → repeated stop p (suc n) t ≡ repeated stop p n t
  fuel zero [] j = none (h.sees [])
    where
      none : {o : Parsed A} → Sees I f p.parse [] o
          → (and_then o λ a w. and_then (repeated stop p zero w) λ l r. parsed (a ∷ l) r) ≡ failed []
      none (takes {a = a} {r = r} i e c) = absurd (omega (arith, shorter a [] r i e))
      none (stops {w = []} u b e c) = refl
      none (stops {w = x ∷ w} u b e c) = absurd (omega (arith, ap length e, length-append u (x ∷ w)))
  fuel zero (x ∷ t) j = absurd (omega arith)
  fuel (suc n) t j = ap (otherwise (and_then (strip (stop ∷ []) t) λ u r. parsed [] r)) (more (h.sees t) (fuel n))
    where
      more : {o : Parsed A} → Sees I f p.parse t o → ((w : List ℕ) → length w ≤ n
          → repeated stop p (suc n) w ≡ repeated stop p n w)
          → (and_then o λ a w. and_then (repeated stop p (suc n) w) λ l r. parsed (a ∷ l) r)
          ≡ (and_then o λ a w. and_then (repeated stop p n w) λ l r. parsed (a ∷ l) r)
      more (takes {a = a} {r = r} i e c) k = rw (k r (omega (arith, shorter a t r i e)))
      more (stops u b e c) k = refl

  enough : (k m n : ℕ) (t : List ℕ) → m ≡ n + k → length t ≤ n → repeated stop p m t ≡ repeated stop p n t
  enough zero m n t e j = let z : m ≡ n = omega arith in rw z
  enough (suc k) m n t e j = let z : m ≡ suc (n + k) = omega arith in
      rw z (fuel (n + k) t (omega arith) ∙ enough k (n + k) n t refl j)

  abbrev rep : List ℕ → Parsed (List A)
  rep t = repeated stop p (length t) t

  abbrev pair : A → List A → A × List A
  pair a l = (a, l)

  abbrev one_more : List ℕ → Parsed (A × List A)
  one_more t = both_parse p.parse (λ a. rep) t

  -- a list is the octet, or an element and a list
  unroll : (t : List ℕ) → rep t ≡ stop_or stop [] (λ (b : A × List A). b.0 ∷ b.1) one_more t
  unroll t = sym (fuel (length t) t (omega arith)) ∙ ap (otherwise (and_then (strip (stop ∷ []) t) λ u r. parsed [] r))
      (more (h.sees t))
    where
      last : (a : A) (o : Parsed (List A)) → (and_then o λ l r. parsed (a ∷ l) r)
          ≡ (and_then (and_then o λ l r. parsed (pair a l) r) λ b r. parsed (b.0 ∷ b.1) r)
      last a (parsed l r) = refl
      last a (failed w) = refl

      more : {o : Parsed A} → Sees I f p.parse t o → (and_then o λ a w. and_then
          (repeated stop p (length t) w) λ l r. parsed (a ∷ l) r)
          ≡ (and_then (and_then o λ a w. and_then (rep w) λ l r. parsed (pair a l) r) λ b r. parsed (b.0 ∷ b.1) r)
      more (takes {a = a} {r = w} i e c) =
          let k : length t ≡ length w + (length t - length w) = omega (arith, shorter a t w i e) in
          rw (enough (length t - length w) (length t) (length w) w k (omega arith)) (last a (rep w))
      more (stops u b e c) = refl

  -- of one text, if it is so of what an element leaves
  sees_step : (t : List ℕ) → ((a : A) (w : List ℕ) → I a → f a ++ w ≡ t → Sees (All I) (ended f stop) rep w (rep w))
      → Sees (All I) (ended f stop) rep t (rep t)
  sees_step t later =
      rw (unroll t) (sees_same unroll (sees_stop {K = All I} {h = ended f stop} {q = one_more} stop []
      (λ (b : A × List A). b.0 ∷ b.1) tt refl (λ b i. (i, refl)) t
      (sees_pair (h.sees t) (λ a i. ([], tt)) later)))

  sees_list : (n : ℕ) (t : List ℕ) → length t ≤ n → Sees (All I) (ended f stop) rep t (rep t)
  sees_list zero t k = sees_step t (λ a w i e. absurd (omega (arith, shorter a t w i e)))
  sees_list (suc n) t k = sees_step t (λ a w i e. sees_list n w (omega (arith, shorter a t w i e)))

  pub ahead_many : OneAhead (All I) (ended f stop) rep
  ahead_many = record { value = []; in_range = tt; sees = λ t. sees_list (length t) t (omega arith) }

-- ---- one of finitely many fixed texts
abbrev Row : List (ℕ × String) → ℕ → Type 0
Row rows n = T (key? n rows)

-- the rows in turn: one is taken, or all stop after octets that begin one; there may be no row
data Tries (rows : List (ℕ × String)) (t : List ℕ) : Parsed ℕ → Type 0 where
  tries : {n : ℕ} {r : List ℕ} → T (key? n rows) → row_text n rows ++ r ≡ t → Tries rows t (parsed n r)
  halts : {w : List ℕ} (u : List ℕ) → ((u ≡ []) ⊎ Viable (Row rows) (λ n. row_text n rows) u) → u ++ w ≡ t
      → StopsAt (table_parser rows) u w → Tries rows t (failed w)

module _ (row : ℕ × String) (rows : List (ℕ × String)) where
  -- the first row, and a later one
  row_first : (T (key? row.0 (row ∷ rows))) × (row_text row.0 (row ∷ rows) ≡ ascii row.1)
  unfolding key? row_text
  row_first = rw (is_true (eqb row.0 row.0) (eqb_refl row.0)) (tt, refl)

  row_later : (n : ℕ) → T (all (differs? row) rows) → T (key? n rows)
      → (T (key? n (row ∷ rows))) × (row_text n (row ∷ rows) ≡ row_text n rows)
  unfolding key? row_text
  row_later n d k = rw (is_false (eqb row.0 n) (key_apart row rows n d k).0) (k, refl)

tried_tries : (rows : List (ℕ × String)) → T (distinct rows) → (t : List ℕ) → Tries rows t (table_parser rows t)
unfolding table_parser
tried_tries [] d t = halts [] (inl refl) refl (λ s e. refl)
tried_tries (row ∷ rows) d t = go (strip_sees (ascii row.1) t)
    (tried_tries rows (and_right (all (differs? row) rows) (distinct rows) d) t)
  where
    differ : T (all (differs? row) rows)
    differ = and_left (all (differs? row) rows) (distinct rows) d

    B : List ℕ → Type 0
    B u = (u ≡ []) ⊎ Viable (Row (row ∷ rows)) (λ n. row_text n (row ∷ rows)) u

    one : (u v : List ℕ) → ascii row.1 ≡ u ++ v → B u
    one u v e = inr (viable row.0 v (row_first row rows).0 ((row_first row rows).1 ∙ e))

    later : {u : List ℕ} → ((u ≡ []) ⊎ Viable (Row rows) (λ n. row_text n rows) u) → B u
    later (inl e) = inl e
    later (inr b) = let (k, e) = row_later row rows b.value differ b.in_range in
        inr (viable b.value b.rest k (e ∙ b.same))

    first : List ℕ → Parsed ℕ
    first t = and_then (strip (ascii row.1) t) λ u r. parsed row.0 r

    go : {x : Parsed (Unit {0})} {y : Parsed ℕ} → Strips (ascii row.1) t x → Tries rows t y
        → Tries (row ∷ rows) t (or_else (and_then x λ u r. parsed row.0 r) y)
    go (strips {r = r} e) y = tries (row_first row rows).0 (ap (λ l. l ++ r) (row_first row rows).1 ∙ e)
    go (halts u v e f c) (tries {n = n} {r = r} k z) = let (j, m) = row_later row rows n differ k in
        tries j (ap (λ l. l ++ r) m ∙ z)
    go (halts {w = w} u v e f c) (halts {w = x} y b z n) =
        let far = ltb (length x) (length w) in
        halts (cond far y u) (further far B u y (one u v e) (later b)) (whole_at far u y w x f z)
        (or_stops first (table_parser rows) u y w x (f ∙ sym z) (λ s k. rw (c s k)) n far refl)

pub ahead_table : (row : ℕ × String) (rows : List (ℕ × String)) → T (distinct (row ∷ rows))
    → OneAhead (λ n. T (key? n (row ∷ rows))) (λ n. row_text n (row ∷ rows)) (table_parser (row ∷ rows))
ahead_table row rows d = record {
  value = row.0;
  in_range = (row_first row rows).0;
  sees =
      λ t. go (tried_tries (row ∷ rows) d t);
}
  where
    begun : {u : List ℕ} → ((u ≡ []) ⊎ Viable (Row (row ∷ rows)) (λ n. row_text n (row ∷ rows)) u)
        → Viable (Row (row ∷ rows)) (λ n. row_text n (row ∷ rows)) u
    begun (inl e) = rw e (viable row.0 (row_text row.0 (row ∷ rows)) (row_first row rows).0 refl)
    begun (inr b) = b

    go : {t : List ℕ} {x : Parsed ℕ} → Tries (row ∷ rows) t x
        → Sees (λ n. T (key? n (row ∷ rows))) (λ n. row_text n (row ∷ rows)) (table_parser (row ∷ rows)) t x
    go (tries {n = n} k e) = takes k e (λ s j. tried_back (row ∷ rows) d n s k)
    go (halts u b e c) = stops u (begun b) e c

pub ahead_like : {A : Type 0} {I : A → Type 0} {f : A → List ℕ} {p : List ℕ → Parsed A} (q : List ℕ → Parsed A)
    → ((t : List ℕ) → q t ≡ p t) → OneAhead I f p → OneAhead I f q
ahead_like q e h = record { value = h.value; in_range = h.in_range; sees = λ t. rw (e t) (sees_same e (h.sees t)) }

-- ---- one octet that passes a test
unfoldable pub octet_if : (ℕ → Bool) → List ℕ → Parsed ℕ
octet_if test [] = failed []
octet_if test (c ∷ t) = cond (test c) (parsed c t) (failed (c ∷ t))

pub ahead_octet_if : (test : ℕ → Bool) (c : ℕ) → T (test c) → OneAhead (λ c. T (test c)) (λ c. c ∷ []) (octet_if test)
unfolding octet_if
ahead_octet_if test c i = record { value = c; in_range = i; sees = go }
  where
    begun : Viable (λ c. T (test c)) (λ c. c ∷ []) []
    begun = viable c (c ∷ []) i refl

    other : (x : ℕ) → test x ≡ false → (s : List ℕ) → front s ≡ some x → octet_if test s ≡ failed s
    other x e [] k = absurd (none-ne-some x k)
    other x e (y ∷ s) k = rw (ap test (some-injective y x k) ∙ e)

    go : (t : List ℕ) → Sees (λ c. T (test c)) (λ c. c ∷ []) (octet_if test) t (octet_if test t)
    go [] = stops [] begun refl (λ s k. rw (front_none s k))
    go (x ∷ t) = by (test x) refl
      where
        by : (b : Bool) → test x ≡ b → Sees (λ c. T (test c)) (λ c. c ∷ []) (octet_if test) (x ∷ t)
            (cond b (parsed x t) (failed (x ∷ t)))
        by true e = takes (subst T (sym e) tt) refl (λ s k. rw e)
        by false e = stops [] begun refl (λ s k. other x e s k)

-- ---- one of two parsers, by the first octet
-- where the parsers agree on every text that begins as t does
sees_there : {A : Type 0} {J K : A → Type 0} {g h : A → List ℕ} {p q : List ℕ → Parsed A} {t : List ℕ} {o : Parsed A}
    → ((a : A) → J a → K a × (h a ≡ g a))
    → ((s : List ℕ) → front s ≡ front t → p s ≡ q s) → Sees J g q t o → Sees K h p t o
sees_there {g = g} same agree (takes {a = a} {r = r} i e c) =
    let (j, d) = same a i in
    takes j (ap (λ l. l ++ r) d ∙ e) (λ s k. rw d (agree (g a ++ s) (front-behind (g a) s r k ∙ ap front e) ∙ c s k))
sees_there same agree (stops {w = w} u b e c) =
    let (j, d) = same b.value b.in_range in
    stops u (viable b.value b.rest j (d ∙ b.same)) e
    (λ s k. agree (u ++ s) (front-behind u s w k ∙ ap front e) ∙ c s k)

module _ {A : Type 0} {I J K : A → Type 0} {f g h : A → List ℕ} {q₁ q₂ : List ℕ → Parsed A} (test : ℕ → Bool)
    (p : List ℕ → Parsed A)
    (nothing : p [] ≡ q₂ []) (yes : (c : ℕ) (t : List ℕ) → test c ≡ true → p (c ∷ t) ≡ q₁ (c ∷ t))
    (no : (c : ℕ) (t : List ℕ) → test c ≡ false → p (c ∷ t) ≡ q₂ (c ∷ t))
    (left : (a : A) → I a → K a × (h a ≡ f a)) (right : (a : A) → J a → K a × (h a ≡ g a)) where
  pub ahead_by : OneAhead I f q₁ → OneAhead J g q₂ → OneAhead K h p
  ahead_by k l = record { value = l.value; in_range = (right l.value l.in_range).0; sees = go }
    where
      none_there : (s : List ℕ) → front s ≡ none → p s ≡ q₂ s
      none_there s z = rw (front_none s z) nothing

      yes_there : (c : ℕ) → test c ≡ true → (s : List ℕ) → front s ≡ some c → p s ≡ q₁ s
      yes_there c e [] z = absurd (none-ne-some c z)
      yes_there c e (x ∷ s) z = yes x s (ap test (some-injective x c z) ∙ e)

      no_there : (c : ℕ) → test c ≡ false → (s : List ℕ) → front s ≡ some c → p s ≡ q₂ s
      no_there c e [] z = absurd (none-ne-some c z)
      no_there c e (x ∷ s) z = no x s (ap test (some-injective x c z) ∙ e)

      go : (t : List ℕ) → Sees K h p t (p t)
      go [] = rw nothing (sees_there right none_there (l.sees []))
      go (c ∷ t) = by (test c) refl
        where
          by : (b : Bool) → test c ≡ b → Sees K h p (c ∷ t) (p (c ∷ t))
          by true e = rw (yes c t e) (sees_there left (yes_there c e) (k.sees (c ∷ t)))
          by false e = rw (no c t e) (sees_there right (no_there c e) (l.sees (c ∷ t)))

-- one thing, one text
pub ahead_only : {A : Type 0} (x : A) (l : List ℕ) → OneAhead (λ y. y ≡ x) (λ y. l)
    (λ t. and_then (strip l t) λ u r. parsed x r)
ahead_only {A} x l = record { value = x; in_range = refl; sees = λ t. go (strip_sees l t) }
  where
    go : {t : List ℕ} {o : Parsed (Unit {0})} → Strips l t o
        → Sees (λ y. y ≡ x) (λ y. l) (λ t. and_then (strip l t) λ u r. parsed x r) t (and_then o λ u r. parsed x r)
    go (strips e) = takes refl e (λ s k. rw (strip_back l s))
    go (halts u v d e c) = stops u (viable x v refl d) e (λ s k. rw (c s k))

-- the same text, written another way
pub ahead_text : {A : Type 0} {I : A → Type 0} {f g : A → List ℕ} {p : List ℕ → Parsed A} → ((a : A) → g a ≡ f a)
    → OneAhead I f p → OneAhead I g p
ahead_text {A} {I} {f} {g} {p} same h = record { value = h.value; in_range = h.in_range; sees = λ t. go (h.sees t) }
  where
    go : {t : List ℕ} {o : Parsed A} → Sees I f p t o → Sees I g p t o
    go (takes {a = a} {r = r} i e c) = takes i (ap (λ l. l ++ r) (same a) ∙ e) (λ s k. rw (same a) (c s k))
    go (stops u b e c) = stops u (viable b.value b.rest b.in_range (same b.value ∙ b.same)) e c

-- the same range, said another way
pub ahead_range : {A : Type 0} {I J : A → Type 0} {f : A → List ℕ} {p : List ℕ → Parsed A} → ((a : A) → I a → J a)
    → OneAhead I f p → OneAhead J f p
ahead_range {A} {I} {J} {f} {p} to h = record {
  value = h.value;
  in_range = to h.value h.in_range;
  sees =
      λ t. go (h.sees t);
}
  where
    go : {t : List ℕ} {o : Parsed A} → Sees I f p t o → Sees J f p t o
    go (takes {a = a} i e c) = takes (to a i) e c
    go (stops u b e c) = stops u (viable b.value b.rest (to b.value b.in_range) b.same) e c

-- a list after its bracket
abbrev inside_text : {A : Type 0} → (A → List ℕ) → List A → List ℕ
inside_text f [] = 93 ∷ []
inside_text f (a ∷ l) = f a ++ ended (λ b. 44 ∷ f b) 93 l

ahead_stop : {A C : Type 0} {K : A → Type 0} {h : A → List ℕ} {J : C → Type 0} {g : C → List ℕ} {q : List ℕ
    → Parsed C} (stop : ℕ) (c : A) (e : C → A) → K c → h c ≡ stop ∷ []
    → ((b : C) → J b → K (e b) × (h (e b) ≡ g b)) → OneAhead J g q → OneAhead K h (stop_or stop c e q)
ahead_stop stop c e i d same k = record {
  value = c;
  in_range = i;
  sees =
      λ t. sees_stop stop c e i d same t (k.sees t);
}

-- one at least, up to an octet; in brackets with commas
module _ {A : Type 0} {I : A → Type 0} {f : A → List ℕ} {F : List ℕ → Type 0} where
  pub ahead_several : (stop : ℕ) (p : Codec I f F) → Avoids I f stop → OneAhead I f p.parse
      → OneAhead (OneOrMore I) (ended f stop)
      (λ t. and_then (both_parse p.parse (λ a w. repeated stop p (length w) w) t) λ u r. parsed (u.0 ∷ u.1) r)
  ahead_several stop p avoids h = ahead_on (λ (u : A × List A). u.0 ∷ u.1) (λ u i. ((i, tt), refl))
      (ahead_pair h (λ a i. ahead_many stop p avoids h))

  pub ahead_array : (p : Codec I f F) → OneAhead I f p.parse → OneAhead (All I) (listed f)
      (λ t. and_then (strip (91 ∷ []) t) λ u w. stop_or 93 [] (λ (u : A × List A). u.0 ∷ u.1)
      (both_parse p.parse (λ a w. repeated 93 ("," ▷ p) (length w) w)) w)
  ahead_array p h =
      ahead_text same (ahead_lit (91 ∷ []) (ahead_stop 93 [] (λ (u : A × List A). u.0 ∷ u.1) tt refl
      (λ u i. (i, refl)) (ahead_pair h (λ a i. ahead_many 93 ("," ▷ p) (λ a r s i e. fronts tt e)
      (ahead_lit (44 ∷ []) h)))))
    where
      same : (l : List A) → listed f l ≡ 91 ∷ inside_text f l
      same [] = refl
      same (a ∷ l) = refl
