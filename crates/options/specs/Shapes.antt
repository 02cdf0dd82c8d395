-- The code's test of an option's shape, code by code: of most only the length matters.
use Rattle.std.specs.Prelude.{◌≡◌, refl, Bool, false, not, ◌&&◌, ◌||◌, cond, List, [], ◌∷◌, ℕ, ◌%◌, ◌≤◌, eqb, length, take}
use Rattle.std.proofs.Common.{sym, ap, ◌∙◌, arith}
use Rattle.std.proofs.Math.Bool.{true}
use Rattle.std.proofs.Math.Option.{none, some}
use borrow.Author.Tests.{ne_eqb, leb-true, eqb-true, not-false}
use Rattle.std.proofs.Math.Dec.{leb}
use Rattle.std.proofs.Math.ListN.{drop}
use Rattle.octets.specs.Lists.{all, lookup, present?}
use Rattle.octets.proofs.Arms.{Missed, arms_of, missed_row}
use Rattle.octets.specs.Fields.{be32_at}
use Rattle.spelling.specs.Spelling.{printable?}
use Rattle.options.specs.Options.{Syntax, unlisted, rows, row_syntax, syntax_of, shape}

-- ---- what the lengths decide
-- EXPIRE: no octets, or four
abbrev pub expiry_size : ℕ → Bool
expiry_size n = eqb n 0 || eqb n 4

-- COOKIE: 8 octets, or 16 to 40
abbrev pub cookie_size : ℕ → Bool
cookie_size n = eqb n 8 || (leb 16 n && leb n 40)

-- EDE: two octets and text
abbrev pub error_shape : List ℕ → Bool
error_shape v = leb 2 (length v) && all printable? (drop 2 v)

-- a choice of something or nothing
pub chosen : {A : Type 0} (b : Bool) (a : A) → b ≡ present? (cond b (some a) none)
chosen true a = refl
chosen false a = refl

pub chosen_or : {A : Type 0} (b c : Bool) (a d : A) → (b || c) ≡ present? (cond b (some a) (cond c (some d) none))
chosen_or true c a d = refl
chosen_or false c a d = chosen c d

-- the syntax of no row takes no value
pub syntax_none : (syntax : Syntax) (v : List ℕ) → syntax ≡ unlisted → present? (shape syntax v) ≡ false
unfolding shape
syntax_none syntax v e = rw e

-- ---- the codes
-- the code is that of no row, as the last arm of a match on the codes knows it
pub no_row : (code : ℕ) → Missed (Unit {0}) code (arms_of rows) → syntax_of code ≡ unlisted
unfolding rows syntax_of
no_row code h = ap row_syntax (missed_row (Unit {0}) code (arms_of rows) rows tt h)

pub none_shaped : (code : ℕ) (v : List ℕ) → Missed (Unit {0}) code (arms_of rows)
    → false ≡ present? (shape (syntax_of code) v)
none_shaped code v h = sym (syntax_none (syntax_of code) v (no_row code h))

-- ---- what a value that has its shape is like
abbrev pub Shaped : ℕ → List ℕ → Type 0
Shaped code v = present? (shape (syntax_of code) v) ≡ true

-- the test passed, and the code is that of a row
pub shaped_at : (k : ℕ) {code : ℕ} (v : List ℕ) {r : Bool} → code ≡ k → r ≡ present? (shape (syntax_of code) v)
    → not r ≡ false → Shaped k v
shaped_at k v {r} e q h = rw (← e) (sym q ∙ not-false r h)

and-true : (a b : Bool) → a && b ≡ true → (a ≡ true) × (b ≡ true)
and-true true b e = (refl, e)
and-true false b e = let z : ◌≡◌ {A = ℕ} 0 1 = cc in absurd (omega arith)

module _ (v : List ℕ) where
  pub expire_four : Shaped 9 v → (length v ≡ 0 → ⊥) → length v ≡ 4
  unfolding lookup rows syntax_of shape
  expire_four s h =
      let t : present? (cond (eqb (length v) 4) (some (some (be32_at v 0))) none) ≡ true =
      rw (ne_eqb (length v) 0 h) at s in
      eqb-true (length v) 4 (chosen (eqb (length v) 4) _ ∙ t)

  pub cookie_sizes : Shaped 10 v → (length v ≡ 8 → ⊥) → (16 ≤ length v) × (length v ≤ 40)
  unfolding lookup rows syntax_of shape
  cookie_sizes s h =
      let b = leb 16 (length v) && leb (length v) 40 in
      let t : present? (cond b (some (take 8 v ∷ drop 8 v ∷ [])) none) ≡ true = rw (ne_eqb (length v) 8 h) at s in
      let (low, high) = and-true (leb 16 (length v)) (leb (length v) 40) (chosen b _ ∙ t) in
      (leb-true 16 (length v) low, leb-true (length v) 40 high)

  pub keepalive_two : Shaped 11 v → length v ≡ 2
  unfolding lookup rows syntax_of shape
  keepalive_two s = eqb-true (length v) 2 (chosen (eqb (length v) 2) _ ∙ s)

  pub keytag_even : Shaped 14 v → length v % 2 ≡ 0
  unfolding lookup rows syntax_of shape
  keytag_even s = eqb-true (length v % 2) 0 (chosen (eqb (length v % 2) 0) _ ∙ s)

  pub error_parts : Shaped 15 v → (2 ≤ length v) × (all printable? (drop 2 v) ≡ true)
  unfolding lookup rows syntax_of shape
  error_parts s =
      let (long, text) = and-true (leb 2 (length v)) (all printable? (drop 2 v)) (chosen (error_shape v) _ ∙ s) in
      (leb-true 2 (length v) long, text)
