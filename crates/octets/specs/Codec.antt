-- Texts with a parser that takes them, and no other.
use Rattle.std.specs.Prelude.{◌≡◌, ◌↔◌, ◌⊎◌, Bool, true, false, not, cond, ◌&&◌, ℕ, zero, suc, ◌<◌, T, eqb, length}
use Rattle.std.proofs.Math.Path.{refl, ap, ap₂}
use Rattle.std.proofs.Common.{sym, ◌∙◌, subst, inl, inr, arith, T_not, eqb→eq, length-append}
use mathlib.Core.List.{List, [], ◌∷◌, ◌++◌, map, flatten, append_assoc, append-nil, nil≢cons, head-eq_of_cons-eq}
use mathlib.Core.List.{tail-eq_of_cons-eq}
use Prim.Native.String.{String}
use Rattle.std.proofs.Math.Dec.{eqb_refl}
use Rattle.octets.specs.Lists.{ascii, none?, all, All, key?, row_text, ended, listed}
use Rattle.octets.specs.Bits.{is_true, is_false, and_left, and_right}
use Rattle.octets.specs.Parsed.{Parsed, parsed, failed, and_then, or_else, otherwise, strip, Holds, missed, found}
use Rattle.octets.specs.Parsed.{parsed_value, parsed_rest, held, is_failed, map_holds, then_holds, or_holds}
use Rattle.octets.specs.Parsed.{otherwise_holds, strip_back, strip_sound}

-- ---- the fronts of texts
-- no text of `f` begins with `x`
abbrev pub Avoids : {A : Type 0} → (A → Type 0) → (A → List ℕ) → ℕ → Type 0
Avoids {A} I f x = (a : A) (r s : List ℕ) → I a → f a ++ r ≡ x ∷ s → ⊥

-- a fact of every element, and there is one
abbrev pub OneOrMore : {A : Type 0} → (A → Type 0) → List A → Type 0
OneOrMore P l = All P l × T (not (none? l))

-- two octets at the front that differ
pub fronts : {x y : ℕ} {r s : List ℕ} → T (not (eqb x y)) → ◌≡◌ {A = List ℕ} (x ∷ r) (y ∷ s) → ⊥
fronts {x} {y} t e = T_not (eqb x y) t (subst (λ z. T (eqb x z)) (head-eq_of_cons-eq e) (eqb_refl x))

-- what comes before the empty text is empty
pub nil_left : (l r : List ℕ) → l ++ r ≡ [] → l ≡ []
nil_left [] r e = refl
nil_left (x ∷ l) r e = absurd (nil≢cons (sym e))

-- a text after another
pub behind : (l w r : List ℕ) {t u : List ℕ} → w ++ r ≡ u → l ++ u ≡ t → l ++ w ++ r ≡ t
behind l w r e f = append_assoc l w r ∙ ap (λ z. l ++ z) e ∙ f

-- a list of one or more begins as its first element does
pub some_avoids : {A : Type 0} {I : A → Type 0} (f : A → List ℕ) (stop : ℕ) {y : ℕ} → Avoids I f y
    → Avoids (OneOrMore I) (ended f stop) y
some_avoids f stop a [] r s h e = h.1
some_avoids f stop a (x ∷ l) r s h e = a x _ s h.0.0 (simp append_assoc at e)

-- what may follow a text that ends by itself: anything
abbrev pub Any : List ℕ → Type 0
Any r = Unit {0}

-- ---- a codec: `f` writes what is in `I`; before a text in `F`, `parse` takes just that back, and what it takes is
-- such a text
pub record Codec {A : Type 0} (I : A → Type 0) (f : A → List ℕ) (F : List ℕ → Type 0) : Type 0 where
  pub parse : List ℕ → Parsed A
  pub back : (a : A) (r : List ℕ) → I a → F r → parse (f a ++ r) ≡ parsed a r
  pub sound : (t : List ℕ) → Holds (λ a r. I a × (f a ++ r ≡ t)) (parse t)

-- ---- what follows
module _ {A : Type 0} {I : A → Type 0} {f : A → List ℕ} {F : List ℕ → Type 0} (p : Codec I f F) where
  -- what is taken is in range, and written so
  pub exact : (t : List ℕ) (a : A) (r : List ℕ) → p.parse t ≡ parsed a r → I a × (f a ++ r ≡ t)
  exact t a r = held (p.sound t)

  -- what is in range and written so is taken, before a text that may follow
  pub taken : (t : List ℕ) (a : A) (r : List ℕ) → I a → F r → f a ++ r ≡ t → p.parse t ≡ parsed a r
  taken t a r h m e = rw (← e) (p.back a r h m)

  -- where a text begins with no text of the range, the parser stops
  pub absent : (t : List ℕ) → ((a : A) (r : List ℕ) → I a → f a ++ r ≡ t → ⊥) → (w : List ℕ) × (p.parse t ≡ failed w)
  absent t h = is_failed (p.sound t) λ a r k. h a r k.0 k.1

  -- a text and what follows it determine what was written
  pub unique : (a b : A) (r s : List ℕ) → I a → I b → F r → F s → f a ++ r ≡ f b ++ s → (a ≡ b) × (r ≡ s)
  unique a b r s h k m n e =
      let z : ◌≡◌ {A = Parsed A} (parsed a r) (parsed b s) = sym (p.back a r h m) ∙ ap p.parse e
      ∙ p.back b s k n in
      (parsed_value z, parsed_rest z)

  -- a text and nothing after it
  abbrev pub whole : List ℕ → Parsed A
  whole t = and_then (p.parse t) λ a r. cond (none? r) (parsed a []) (failed r)

  pub whole_exact : F [] → (t : List ℕ) (a : A) → (whole t ≡ parsed a []) ↔ (I a × (f a ≡ t))
  whole_exact m t a = (
    held (then_holds _ (p.sound t) go),
    λ h. rw (← (append-nil (f a) ∙ h.1), p.back a [] h.0 m),
  )
    where
      go : (a : A) (r : List ℕ) → I a × (f a ++ r ≡ t)
          → Holds (λ a r. I a × (f a ≡ t)) (cond (none? r) (parsed a []) (failed r))
      go a [] h = found (h.0, sym (append-nil (f a)) ∙ h.1)
      go a (x ∷ r) h = missed (x ∷ r)

  -- nothing is left after it
  pub whole_ends : (t : List ℕ) (a : A) (r : List ℕ) → whole t ≡ parsed a r → r ≡ []
  whole_ends t a r = held (then_holds _ (p.sound t) go)
    where
      go : (a : A) (r : List ℕ) → I a × (f a ++ r ≡ t) → Holds (λ a r. r ≡ []) (cond (none? r) (parsed a []) (failed r))
      go a [] h = found refl
      go a (x ∷ r) h = missed (x ∷ r)

-- ---- texts that split in one way only: a text and what follows it determine what was written
abbrev pub Splits : {A : Type 0} → (A → Type 0) → (A → List ℕ) → Type 0
Splits {A} I f = (a b : A) (r s : List ℕ) → I a → I b → f a ++ r ≡ f b ++ s → (a ≡ b) × (r ≡ s)

module _ {A : Type 0} (I : A → Type 0) (f : A → List ℕ) (splits : Splits I f) where
  -- no text is a proper beginning of another
  pub prefix_free : (a b : A) (r : List ℕ) → I a → I b → f a ++ r ≡ f b → (a ≡ b) × (r ≡ [])
  prefix_free a b r h k e = splits a b r [] h k (e ∙ sym (append-nil (f b)))

  -- texts set end to end, none of them empty, are those of one list only
  pub streams : ((a : A) → I a → f a ≡ [] → ⊥) → (l m : List A) → All I l → All I m
      → (flatten (map f l) ≡ flatten (map f m)) ↔ (l ≡ m)
  unfolding flatten
  streams filled l m h k = (go l m h k, ap (λ z. flatten (map f z)))
    where
      go : (l m : List A) → All I l → All I m → flatten (map f l) ≡ flatten (map f m) → l ≡ m
      go [] [] h k e = refl
      go [] (b ∷ m) h k e = absurd (filled b k.0 (nil_left _ _ (sym e)))
      go (a ∷ l) [] h k e = absurd (filled a h.0 (nil_left _ _ e))
      go (a ∷ l) (b ∷ m) h k e =
          let u = splits a b _ _ h.0 k.0 e in ap₂ ◌∷◌ u.0 (go l m h.1 k.1 u.1)

-- ---- how codecs are made
module _ {A : Type 0} {I : A → Type 0} {f : A → List ℕ} {F : List ℕ → Type 0} where
  -- fixed octets before
  infixr 60 ◌▷◌
  abbrev pub ◌▷◌ : (l : String) → Codec I f F → Codec I (λ a. ascii l ++ f a) F
  l ▷ p = record {
    parse = λ t. and_then (strip (ascii l) t) λ u r. p.parse r;
    back = λ a r h m. rw (append_assoc, strip_back (ascii l) (f a ++ r)) (p.back a r h m);
    sound = λ t. then_holds _ (strip_sound (ascii l) t) λ u w e. map_holds (p.sound w) λ a r h.
        (h.0, behind (ascii l) _ _ h.1 e);
  }

  -- fixed octets after, which may follow
  abbrev pub behind_lit : (l : String) → ((r : List ℕ) → F (ascii l ++ r)) → Codec I f F
      → Codec I (λ a. f a ++ ascii l) Any
  behind_lit l fits p = record {
    parse = λ t. and_then (p.parse t) λ a w. and_then (strip (ascii l) w) λ u r. parsed a r;
    back = λ a r h m. rw (append_assoc, p.back a (ascii l ++ r) h (fits r), strip_back (ascii l) r);
    sound = λ t. then_holds _ (p.sound t) λ a w h. then_holds _ (strip_sound (ascii l) w) λ u r e. found
        (h.0, behind (f a) _ _ e h.1);
  }

  -- one after the other, where the second's texts may follow the first's
  abbrev pub joined : {B : Type 0} {J : B → Type 0} {g : B → List ℕ} {G : List ℕ → Type 0} → Codec I f F → Codec J g G
      → ((b : B) (r : List ℕ) → J b → G r → F (g b ++ r))
      → Codec {A = A × B} (λ t. I t.0 × J t.1) (λ t. f t.0 ++ g t.1) G
  joined {g} p q fits = record {
    parse = λ t. and_then (p.parse t) λ a w. and_then (q.parse w) λ b r. parsed (a, b) r;
    back = λ a r h m. rw (
      append_assoc,
      p.back a.0 (g a.1 ++ r) h.0 (fits a.1 r h.1 m),
      q.back a.1 r h.1 m,
    );
    sound = λ t. then_holds _ (p.sound t) λ a w h. then_holds _ (q.sound w) λ b r k. found (
      (h.0, k.0),
      behind (f a) _ _ k.1 h.1,
    );
  }

  -- written and read as another thing
  abbrev pub iso : {B : Type 0} {J : B → Type 0} (to : B → A) (from : A → B)
      → ((b : B) → J b → I (to b) × (from (to b) ≡ b)) → ((a : A) → I a → J (from a) × (to (from a) ≡ a)) → Codec I f F
      → Codec J (λ b. f (to b)) F
  iso to from one two p = record {
    parse = λ t. and_then (p.parse t) λ a r. parsed (from a) r;
    back = λ b r h m. rw (p.back (to b) r (one b h).0 m, (one b h).1);
    sound = λ t. then_holds _ (p.sound t) λ a r h. found ((two a h.0).0, rw (two a h.0).1 h.1);
  }

  -- the same text, written another way
  abbrev pub retext : {g : A → List ℕ} → ((a : A) → g a ≡ f a) → Codec I f F → Codec I g F
  retext same p = record {
    parse = p.parse;
    back = λ a r h m. rw (same a) (p.back a r h m);
    sound = λ t. map_holds (p.sound t) λ a r h. (h.0, rw (same a) h.1);
  }

  -- the same, before fewer texts
  abbrev pub weaken : {G : List ℕ → Type 0} → ((r : List ℕ) → G r → F r) → Codec I f F → Codec I f G
  weaken fits p = record { parse = p.parse; back = λ a r h m. p.back a r h (fits r m); sound = p.sound }

  -- the same range, said another way
  abbrev pub reindex : {J : A → Type 0} → ((a : A) → J a ↔ I a) → Codec I f F → Codec J f F
  reindex same p = record {
    parse = p.parse;
    back = λ a r h m. p.back a r ((same a).0 h) m;
    sound = λ t. map_holds (p.sound t) λ a r h. ((same a).1 h.0, h.1);
  }

  -- things one after another up to the octet `stop`; the number bounds how many there are
  abbrev pub repeated : ℕ → Codec I f F → ℕ → List ℕ → Parsed (List A)
  repeated stop p zero t = failed t
  repeated stop p (suc n) t =
      otherwise (and_then (strip (stop ∷ []) t) λ u r. parsed [] r)
      (and_then (p.parse t) λ a w. and_then (repeated stop p n w) λ l r. parsed (a ∷ l) r)

  -- any number, and an octet that none of them begins with; the text's length bounds how many there are
  abbrev pub many : {stop : ℕ} → Avoids I f stop → ((r : List ℕ) → F (stop ∷ r))
      → ((b : A) (r : List ℕ) → I b → F (f b ++ r)) → Codec I f F → Codec (All I) (ended f stop) Any
  many {stop} avoids fits₁ fits₂ p = record {
    parse = λ t. repeated stop p (length t) t;
    back = λ l r h m. go_back _ l r h (longer l r h);
    sound = λ t. go_sound (length t) t;
  }
    where
      filled : (a : A) (w : List ℕ) → I a → f a ≡ w → 0 < length w
      filled a [] h e = absurd (avoids a (stop ∷ []) [] h (ap (λ z. z ++ (stop ∷ [])) e))
      filled a (x ∷ w) h e = omega arith

      longer : (l : List A) (r : List ℕ) → All I l → length l < length (ended f stop l ++ r)
      longer [] r h = omega arith
      longer (a ∷ l) r h = rw (append_assoc, length-append)
          (omega (arith, longer l r h.1, filled a (f a) h.0 refl))

      fits : (l : List A) (r : List ℕ) → All I l → F (ended f stop l ++ r)
      fits [] r h = fits₁ r
      fits (a ∷ l) r h = rw (append_assoc) (fits₂ a (ended f stop l ++ r) h.0)

      go_back : (n : ℕ) (l : List A) (r : List ℕ) → All I l → length l < n
          → repeated stop p n (ended f stop l ++ r) ≡ parsed l r
      go_back zero l r h k = absurd (omega arith)
      go_back (suc n) [] r h k = rw (strip_back (stop ∷ []) r)
      go_back (suc n) (a ∷ l) r h k =
          rw (
            append_assoc,
            (is_failed (strip_sound (stop ∷ []) (f a ++ (ended f stop l ++ r)))
                (λ u s e. avoids a _ s h.0 (sym e))).1,
            p.back a (ended f stop l ++ r) h.0 (fits l r h.1),
            go_back n l r h.1 (omega arith),
          )

      go_sound : (n : ℕ) (t : List ℕ) → Holds (λ l r. All I l × (ended f stop l ++ r ≡ t)) (repeated stop p n t)
      go_sound zero t = missed t
      go_sound (suc n) t = otherwise_holds
          (then_holds _ (strip_sound (stop ∷ []) t) λ u r e. found (tt, e))
          (then_holds _ (p.sound t) λ a w h. then_holds _ (go_sound n w) λ l r k. found (
            (h.0, k.0),
            behind (f a) _ _ k.1 h.1,
          ))

module _ {A : Type 0} {I : A → Type 0} {f : A → List ℕ} where
  -- fixed octets after a text that ends by itself
  infixl 65 ◌◁◌
  abbrev pub ◌◁◌ : Codec I f Any → (l : String) → Codec I (λ a. f a ++ ascii l) Any
  p ◁ l = behind_lit l (λ r. tt) p

  -- one after the other, where the first ends by itself
  infixr 50 ◌⊗◌
  abbrev pub ◌⊗◌ : {B : Type 0} {J : B → Type 0} {g : B → List ℕ} {G : List ℕ → Type 0} → Codec I f Any → Codec J g G
      → Codec {A = A × B} (λ t. I t.0 × J t.1) (λ t. f t.0 ++ g t.1) G
  p ⊗ q = joined p q (λ b r h m. tt)

  -- the same, where the first decides what the second is
  abbrev pub pair_by : {B : A → Type 0} {J : (a : A) → B a → Type 0} {g : (a : A) → B a → List ℕ} {G : List ℕ → Type 0}
      → Codec I f Any → ((a : A) → Codec (J a) (g a) G)
      → Codec {A = (a : A) × B a} (λ u. I u.0 × J u.0 u.1) (λ u. f u.0 ++ g u.0 u.1) G
  pair_by {g} p q = record {
    parse = λ t. and_then (p.parse t) λ a w. and_then ((q a).parse w) λ b r. parsed (a, b) r;
    back = λ a r h m. rw (
      append_assoc,
      p.back a.0 (g a.0 a.1 ++ r) h.0 tt,
      (q a.0).back a.1 r h.1 m,
    );
    sound = λ t. then_holds _ (p.sound t) λ a w h. then_holds _ ((q a).sound w) λ b r k. found (
      (h.0, k.0),
      behind (f a) _ _ k.1 h.1,
    );
  }

-- range and text of one of two
abbrev pub Either : {A B : Type 0} → (A → Type 0) → (B → Type 0) → A ⊎ B → Type 0
Either I J (inl a) = I a
Either I J (inr b) = J b

abbrev pub either_text : {A B : Type 0} → (A → List ℕ) → (B → List ℕ) → A ⊎ B → List ℕ
either_text f g (inl a) = f a
either_text f g (inr b) = g b

module _ {A B : Type 0} {I : A → Type 0} {f : A → List ℕ} {J : B → Type 0} {g : B → List ℕ} {F : List ℕ → Type 0} where
  -- one of two, whose texts never begin alike
  abbrev pub either : Codec I f F → Codec J g F → ((a : A) (b : B) (r s : List ℕ) → I a → J b → f a ++ r ≡ g b ++ s → ⊥)
      → Codec (Either I J) (either_text f g) F
  either p q apart = record { parse = go; back = go_back; sound = go_sound }
    where
      go : List ℕ → Parsed (A ⊎ B)
      go t = or_else (and_then (p.parse t) λ a r. parsed (inl a) r) (and_then (q.parse t) λ b r. parsed (inr b) r)

      go_back : (c : A ⊎ B) (r : List ℕ) → Either I J c → F r → go (either_text f g c ++ r) ≡ parsed c r
      go_back (inl a) r h m = rw (p.back a r h m)
      go_back (inr b) r h m = rw ((absent p (g b ++ r) (λ a s k e. apart a b s r k h e)).1, q.back b r h m)

      go_sound : (t : List ℕ) → Holds (λ c r. Either I J c × (either_text f g c ++ r ≡ t)) (go t)
      go_sound t = or_holds (then_holds _ (p.sound t) λ a r h. found h) (then_holds _ (q.sound t) λ b r h. found h)

module _ {A : Type 0} {I : A → Type 0} {f : A → List ℕ} {F : List ℕ → Type 0} where
  -- one at least
  abbrev pub many1 : {stop : ℕ} → Avoids I f stop → ((r : List ℕ) → F (stop ∷ r))
      → ((b : A) (r : List ℕ) → I b → F (f b ++ r)) → Codec I f F → Codec (OneOrMore I) (ended f stop) Any
  many1 {stop} avoids fits₁ fits₂ p = record { parse = go; back = go_back; sound = go_sound }
    where
      fits : (l : List A) (r : List ℕ) → All I l → F (ended f stop l ++ r)
      fits [] r h = fits₁ r
      fits (a ∷ l) r h = rw (append_assoc) (fits₂ a (ended f stop l ++ r) h.0)

      both : Codec {A = A × List A} (λ t. I t.0 × All I t.1) (λ t. f t.0 ++ ended f stop t.1) Any
      both = joined p (many avoids fits₁ fits₂ p) (λ l r h m. fits l r h)

      go : List ℕ → Parsed (List A)
      go t = and_then (both.parse t) λ u r. parsed (u.0 ∷ u.1) r

      go_back : (l : List A) (r : List ℕ) → OneOrMore I l → Any r → go (ended f stop l ++ r) ≡ parsed l r
      go_back [] r h m = absurd h.1
      go_back (a ∷ l) r h m = rw (both.back (a, l) r h.0 tt)

      go_sound : (t : List ℕ) → Holds (λ l r. OneOrMore I l × (ended f stop l ++ r ≡ t)) (go t)
      go_sound t = then_holds _ (both.sound t) λ u r h. found ((h.0, tt), h.1)

  -- `[a,b,c]`
  abbrev pub array : Avoids I f 93 → ((r : List ℕ) → F (44 ∷ r)) → ((r : List ℕ) → F (93 ∷ r)) → Codec I f F
      → Codec (All I) (listed f) Any
  array avoids fits₁ fits₂ p = record { parse = go; back = go_back; sound = go_sound }
    where
      fits : (l : List A) (r : List ℕ) → F (ended (λ b. 44 ∷ f b) 93 l ++ r)
      fits [] r = fits₂ r
      fits (a ∷ l) r = fits₁ _

      both : Codec {A = A × List A} (λ t. I t.0 × All I t.1) (λ t. f t.0
          ++ ended (λ b. 44 ∷ f b) 93 t.1) Any
      both = joined p (many (λ a r s h e. fronts tt e) fits₂ (λ b r h. fits₁ _) ("," ▷ p)) (λ l r h m. fits l r)

      inside : List ℕ → Parsed (List A)
      inside t = otherwise (and_then (strip (93 ∷ []) t) λ u r. parsed [] r)
          (and_then (both.parse t) λ u r. parsed (u.0 ∷ u.1) r)

      go : List ℕ → Parsed (List A)
      go t = and_then (strip (91 ∷ []) t) λ u w. inside w

      go_back : (l : List A) (r : List ℕ) → All I l → Any r → go (listed f l ++ r) ≡ parsed l r
      go_back [] r h m = refl
      go_back (a ∷ l) r h m =
          let w = f a ++ ended (λ b. 44 ∷ f b) 93 l ++ r in
          rw (
            (is_failed (strip_sound (93 ∷ []) w)
                (λ u s e. avoids a _ s h.0 (sym (append_assoc (f a) _ r) ∙ sym e))).1,
            both.back (a, l) r h tt,
          )

      go_sound : (t : List ℕ) → Holds (λ l r. All I l × (listed f l ++ r ≡ t)) (go t)
      go_sound t = then_holds (λ u w. inside w) (strip_sound (91 ∷ []) t) λ u w e. otherwise_holds
          (then_holds _ (strip_sound (93 ∷ []) w) λ v r d. found (tt, ap (λ z. 91 ∷ z) d ∙ e))
          (then_holds _ (both.sound w) λ v r h. found (h.0, ap (λ z. 91 ∷ z) h.1 ∙ e))

-- one thing, one text
abbrev pub literal_as : {A : Type 0} (c : A) (l : String) → Codec (λ a. a ≡ c) (λ a. ascii l) Any
literal_as c l = record {
  parse = λ t. and_then (strip (ascii l) t) λ u r. parsed c r;
  back = λ a r h m. rw (strip_back (ascii l) r, h);
  sound = λ t. then_holds _ (strip_sound (ascii l) t) λ u r e. found (refl, e);
}

-- ---- one of finitely many fixed texts, by number
-- two texts of which neither begins the other
abbrev pub apart? : List ℕ → List ℕ → Bool
apart? [] m = false
apart? (x ∷ l) [] = false
apart? (x ∷ l) (y ∷ m) = cond (eqb x y) (apart? l m) true

-- two rows with different keys and such texts
abbrev pub differs? : ℕ × String → ℕ × String → Bool
differs? u v = not (eqb u.0 v.0) && apart? (ascii u.1) (ascii v.1)

-- any two rows are such
abbrev pub distinct : List (ℕ × String) → Bool
distinct [] = true
distinct (row ∷ rows) = all (differs? row) rows && distinct rows

-- such texts are never the fronts of one text
pub apart_texts : (l m r s : List ℕ) → T (apart? l m) → l ++ r ≡ m ++ s → ⊥
apart_texts [] m r s h e = h
apart_texts (x ∷ l) [] r s h e = h
apart_texts (x ∷ l) (y ∷ m) r s h e = go (eqb x y) refl h (λ h. apart_texts l m r s h (tail-eq_of_cons-eq e))
  where
    go : (b : Bool) → eqb x y ≡ b → T (cond b (apart? l m) true) → (T (apart? l m) → ⊥) → ⊥
    go true d h f = f h
    go false d h f = fronts (subst (λ b. T (not b)) (sym d) tt) e

-- a key of the rows that a row differs from is not the row's, and its text is apart from the row's
pub key_apart : (row : ℕ × String) (rows : List (ℕ × String)) (n : ℕ) → T (all (differs? row) rows) → T (key? n rows)
    → T (not (eqb row.0 n)) × T (apart? (ascii row.1) (row_text n rows))
unfolding key? row_text
key_apart row [] n h k = absurd k
key_apart row (u ∷ rows) n h k =
    go (eqb u.0 n) refl k (and_left (differs? row u) (all (differs? row) rows) h)
    (λ k. key_apart row rows n (and_right (differs? row u) (all (differs? row) rows) h) k)
  where
    go : (b : Bool) → eqb u.0 n ≡ b → T (cond b true (key? n rows)) → T (differs? row u)
        → (T (key? n rows) → T (not (eqb row.0 n)) × T (apart? (ascii row.1) (row_text n rows)))
        → T (not (eqb row.0 n)) × T (apart? (ascii row.1) (cond b (ascii u.1) (row_text n rows)))
    go true d k h f = (
      subst (λ z. T (not (eqb row.0 z))) (eqb→eq u.0 n (subst T (sym d) tt))
          (and_left (not (eqb row.0 u.0)) _ h),
      and_right (not (eqb row.0 u.0)) _ h,
    )
    go false d k h f = f k

-- what is tested of the text of every row holds of the text of a key
pub row_holds : (p : List ℕ → Bool) (rows : List (ℕ × String)) → T (all (λ row. p (ascii row.1)) rows) → (n : ℕ)
    → T (key? n rows) → T (p (row_text n rows))
unfolding key? row_text
row_holds p [] h n k = absurd k
row_holds p (row ∷ rows) h n k = go (eqb row.0 n) k (row_holds p rows (and_right (p (ascii row.1)) _ h) n)
  where
    go : (b : Bool) → T (cond b true (key? n rows)) → (T (key? n rows) → T (p (row_text n rows)))
        → T (p (cond b (ascii row.1) (row_text n rows)))
    go true k f = and_left (p (ascii row.1)) _ h
    go false k f = f k

-- the parser that tries the rows in turn, and its laws
unfoldable pub table_parser : List (ℕ × String) → List ℕ → Parsed ℕ
table_parser [] t = failed t
table_parser (row ∷ rows) t = or_else (and_then (strip (ascii row.1) t) λ u r. parsed row.0 r) (table_parser rows t)

pub tried_back : (rows : List (ℕ × String)) → T (distinct rows) → (n : ℕ) (r : List ℕ) → T (key? n rows)
    → table_parser rows (row_text n rows ++ r) ≡ parsed n r
unfolding key? row_text table_parser
tried_back [] d n r k = absurd k
tried_back (row ∷ rows) d n r k =
    go (eqb row.0 n) refl k (λ k. tried_back rows (and_right (all (differs? row) rows) (distinct rows) d) n r k)
  where
    go : (b : Bool) → eqb row.0 n ≡ b → T (cond b true (key? n rows))
        → (T (key? n rows) → table_parser rows (row_text n rows ++ r) ≡ parsed n r)
        → table_parser (row ∷ rows) (cond b (ascii row.1) (row_text n rows) ++ r) ≡ parsed n r
    go true e k f = rw (strip_back (ascii row.1) r) (ap (λ z. parsed z r) (eqb→eq row.0 n (subst T (sym e) tt)))
    go false e k f =
        rw (
          (is_failed (strip_sound (ascii row.1) (row_text n rows ++ r))
              (λ u s q. apart_texts (ascii row.1) (row_text n rows) s r
              (key_apart row rows n (and_left (all (differs? row) rows) (distinct rows) d) k).1 q)).1,
          f k,
        )

pub tried_sound : (rows : List (ℕ × String)) → T (distinct rows) → (t : List ℕ)
    → Holds (λ n r. T (key? n rows) × (row_text n rows ++ r ≡ t)) (table_parser rows t)
unfolding key? row_text table_parser
tried_sound [] d t = missed t
tried_sound (row ∷ rows) d t = or_holds
    (then_holds _ (strip_sound (ascii row.1) t) λ u r e. found
    (rw (is_true (eqb row.0 row.0) (eqb_refl row.0)) (tt, e)))
    (map_holds (tried_sound rows (and_right (all (differs? row) rows) (distinct rows) d) t) λ n r h.
    rw (is_false (eqb row.0 n) (key_apart row rows n (and_left (all (differs? row) rows) (distinct rows) d)
    h.0).0) h)

-- a row's key, written as its text
abbrev pub table : (rows : List (ℕ × String)) → T (distinct rows)
    → Codec (λ n. T (key? n rows)) (λ n. row_text n rows) Any
table rows d = record {
  parse = table_parser rows;
  back = λ n r h m. tried_back rows d n r h;
  sound = tried_sound rows d;
}
