-- A reader of one of two things.
use Rattle.std.specs.Prelude.{◌≡◌, refl, Bool, true, false, cond, List, ℕ, ◌≤◌, max, ltb, length, drop, Result, Ok, Err}
use Rattle.std.proofs.Common.{sym, subst, inl, inr, arith, lt-ltb, le-ltb, ltb-true, ltb-false, length-drop}
use Rattle.std.proofs.Math.Option.{Option, none, some}
use Rattle.octets.specs.Parsed.{Parsed, parsed, failed, and_then, or_else, strip}
use Rattle.strict.specs.Spelt.{from_sum}
use Rattle.parse_tokens.specs.declared.Cursor.{Cursor}
use Rattle.parse_tokens.specs.Cursor.{Reached, Passed, Finds, stopped, taken}
use Rattle.parse_tokens.specs.Step.{Found, found_as, found_map}
use Rattle.parse_tokens.specs.Leaf.{found_equal, found_entry}

-- a reader that stopped stops at the further of its place and another
abbrev pub furthest : {X : Type 0} → Result X ℕ → ℕ → Result X ℕ
furthest (Ok x) at = Ok x
furthest (Err n) at = Err (max n at)

-- the further of two places, and what is left there
pub further : (t : List ℕ) (m n : ℕ) → m ≤ length t → n ≤ length t
    → cond (ltb (length (drop n t)) (length (drop m t))) (drop n t) (drop m t) ≡ drop (max m n) t
further t m n h k = go (ltb m n) refl
  where
    go : (b : Bool) → ltb m n ≡ b
        → cond (ltb (length (drop n t)) (length (drop m t))) (drop n t) (drop m t) ≡ drop (max m n) t
    go true e =
        let l = ltb-true m n e in
        let z : max m n ≡ n = omega arith in
        rw (lt-ltb (length (drop n t)) (length (drop m t)) (omega (arith, length-drop n t, length-drop m t)), z)
    go false e =
        let l = ltb-false m n e in
        let z : max m n ≡ m = omega arith in
        rw (le-ltb (length (drop n t)) (length (drop m t)) (omega (arith, length-drop n t, length-drop m t)), z)

-- one parser or the other, from the same text
abbrev pub choice : {A : Type 0} (p q : List ℕ → Parsed A) → List ℕ → Parsed A
choice p q w = or_else (p w) (q w)

module _ {A : Type 0} {t : List ℕ} (p q : List ℕ → Parsed A) {c : Cursor} where
  -- the first
  pub found_first : {P : A → Type 0} {r : Cursor} → Found p P t (Ok c) (Ok r) → Found (choice p q) P t (Ok c) (Ok r)
  found_first {P} {r} x = record { reads = go x.reads; moves = x.moves }
    where
      go : {o : Parsed A} → Finds t P (Ok r) o → Finds t P (Ok r) (or_else o (q (drop c.at t)))
      go (taken v) = taken v

  module _ {P Q : A → Type 0} {n : ℕ} (x : Found p P t (Ok c) (Err n)) where
    -- the second, where the first stops
    found_second : {s : Cursor} → Found q Q t (Ok c) (Ok s) → Found (choice p q) Q t (Ok c) (Ok s)
    found_second {s} y = record { reads = go x.reads y.reads; moves = y.moves }
      where
        go : {o u : Parsed A} → Finds t P (Err n) o → Finds t Q (Ok s) u → Finds t Q (Ok s) (or_else o u)
        go stopped (taken v) = taken v

    -- neither: the reader stops at the further place
    found_neither : {R : A → Type 0} {m : ℕ} → Found q Q t (Ok c) (Err m) → Found (choice p q) R t (Ok c) (Err (max n m))
    found_neither {R} {m} y = record {
      reads = go x.reads y.reads;
      moves = record { within = (omega (arith, x.moves.within.0), omega (arith, x.moves.within.1, y.moves.within.1)) };
    }
      where
        go : {o u : Parsed A} → Finds t P (Err n) o → Finds t Q (Err m) u → Finds t R (Err (max n m)) (or_else o u)
        go stopped stopped = rw (further t n m x.moves.within.1 y.moves.within.1) stopped

module _ {A : Type 0} {t : List ℕ} (p q : List ℕ → Parsed A) {P Q : A → Type 0} {c : Cursor} (R : Reached → A
    → Type 0) where
  -- the first, where the second stops
  pub first_further : {r : Reached} {n : ℕ} → Found p P t (Ok c) r → Found q Q t (Ok c) (Err n)
      → ((a : A) → P a → R r a) → Found (choice p q) (R (furthest r n)) t (Ok c) (furthest r n)
  first_further {r = Ok r} x y h = found_first p q (found_as x h)
  first_further {r = Err m} x y h = found_neither p q x y

  -- the second, where the first stops
  pub second_further : {s : Reached} {n : ℕ} → Found p P t (Ok c) (Err n) → Found q Q t (Ok c) s
      → ((a : A) → Q a → R s a) → Found (choice p q) (R (furthest s n)) t (Ok c) (furthest s n)
  second_further {s = Ok s} x y h = found_second p q x (found_as y h)
  second_further {s = Err m} {n = n} x y h =
      let e : max n m ≡ max m n = omega arith in
      subst (λ k. Found (choice p q) (R (Err (max m n))) t (Ok c) (Err k)) e (found_neither p q x y)

-- ---- things of two kinds
-- what their parser does
kinds : {A B C : Type 0} (left : A → C) (right : B → C) (o : Parsed A) (u : Parsed B)
    → and_then (or_else (and_then o λ a r. parsed (inl a) r) (and_then u λ b r. parsed (inr b) r))
    (λ v r. parsed (from_sum left right v) r)
    ≡ or_else (and_then o λ a r. parsed (left a) r) (and_then u λ b r. parsed (right b) r)
kinds left right (parsed a r) u = refl
kinds left right (failed w) (parsed b r) = refl
kinds left right (failed w) (failed r) = refl

abbrev pub either-parse : {A B C : Type 0} (left : A → C) (right : B → C) (p : List ℕ → Parsed A) (q : List ℕ
    → Parsed B) → List ℕ → Parsed C
either-parse left right p q w =
    and_then (or_else (and_then (p w) λ a r. parsed (inl a) r) (and_then (q w) λ b r. parsed (inr b) r))
    (λ v r. parsed (from_sum left right v) r)

module _ {A B C : Type 0} (left : A → C) (right : B → C) (p : List ℕ → Parsed A) (q : List ℕ → Parsed B) {t : List ℕ}
    {c : Cursor} where
  same : {S : C → Type 0} {z : Reached}
      → Found (choice (λ w. and_then (p w) λ a r. parsed (left a) r) (λ w. and_then (q w) λ b r. parsed (right b) r)) S
      t (Ok c) z → Found (either-parse left right p q) S t (Ok c) z
  same = found_equal (either-parse left right p q) (λ w. sym (kinds left right (p w) (q w)))

  pub either_first : {P : A → Type 0} {R : C → Type 0} {r : Cursor} → Found p P t (Ok c) (Ok r)
      → ((a : A) → P a → R (left a)) → Found (either-parse left right p q) R t (Ok c) (Ok r)
  either_first x h = same (found_first _ (λ w. and_then (q w) λ b r. parsed (right b) r) (found_map left h x))

  module _ {P : A → Type 0} {Q : B → Type 0} (R : Reached → C → Type 0) where
    -- the first, where the second stops
    pub either_further : {r : Reached} {n : ℕ} → Found p P t (Ok c) r → Found q Q t (Ok c) (Err n)
        → ((a : A) → P a → R r (left a)) → Found (either-parse left right p q) (R (furthest r n)) t (Ok c) (furthest r n)
    either_further {r} x y h =
        same (first_further _ _ R (found_map {Q = R r} left h x)
        (found_map {Q = λ u. Unit {0}} right (λ b v. tt) y) λ a v. v)

    -- the second, where the first stops
    pub either_second : {s : Reached} {n : ℕ} → Found p P t (Ok c) (Err n) → Found q Q t (Ok c) s
        → ((b : B) → Q b → R s (right b)) → Found (either-parse left right p q) (R (furthest s n)) t (Ok c) (furthest s n)
    either_second {s} x y h =
        same (second_further _ _ R (found_map {Q = λ u. Unit {0}} left (λ a v. tt) x)
        (found_map {Q = R s} right h y) λ a v. v)

-- ---- a part that may be missing, and fixed octets in its place
abbrev pub maybe_parse : {A : Type 0} → List ℕ → (List ℕ → Parsed A) → List ℕ → Parsed (Option A)
maybe_parse {A} l p = either-parse {A = Unit {0}} (λ u. none) some (λ w. and_then (strip l w) λ u r. parsed u r) p

module _ {A : Type 0} {l t : List ℕ} {c : Cursor} (p : List ℕ → Parsed A) where
  missing : {r : Reached} → Passed l t (Ok c) r
      → Found (λ w. and_then (strip l w) λ u r. parsed u r) (λ (u : Unit {0}). Unit {0}) t (Ok c) r
  missing q = found_entry {A = Unit {0}} {P = λ u. Unit {0}} q tt tt

  pub maybe_none : {R : Option A → Type 0} {r : Cursor} → Passed l t (Ok c) (Ok r) → R none
      → Found (maybe_parse l p) R t (Ok c) (Ok r)
  maybe_none q v = either_first (λ u. none) some _ p (missing q) λ u h. v

  pub maybe_some : {Q : A → Type 0} {s : Reached} {n : ℕ} (R : Reached → Option A → Type 0)
      → Passed l t (Ok c) (Err n) → Found p Q t (Ok c) s → ((a : A) → Q a → R s (some a))
      → Found (maybe_parse l p) (R (furthest s n)) t (Ok c) (furthest s n)
  maybe_some R q y h = either_second (λ u. none) some _ p R (missing q) y h
