-- The options that RDATA divides into, and whether their codes rise.
use mathlib.Core.Path.{◌≡◌, refl, sym, ◌∙◌, ap}
use mathlib.Core.Bool.{Bool, true, false, ◌&&◌, cond}
use mathlib.Core.Option.{Option, none, some}
use mathlib.Core.List.{List, [], ◌∷◌}
use Prim.Native.Nat.{ℕ, zero, suc, ◌+◌, ◌-◌, ◌<◌, ◌≤◌}
use native.Mathlib.Nat.{add-zero}
use native.Mathlib.Numerals.{add-one}
use native.Mathlib.Omega.{arith}
use borrow.Author.Tests.{le-leb, lt-leb, leb-true, leb-false}
use lib.Dec.{leb, leb-zero}
use lib.ListN.{length, take, drop, length-drop}
use lib.Seq.{drop-drop, get_or-drop}
use Rattle.octets.specs.Fields.{be16_at}
use Rattle.options.specs.Options.{EdnsOption}
use Rattle.edns.specs.Edns.{prepend, divided, options_of, rising?}
use Rattle.edns.specs.EdnsLaws.{divided_end}
use Rattle.std.proofs.lemmas.List.{length-take-le}
use Rattle.edns.specs.Element.{Divides, Short, risen?, options_rise}

-- ---- RDATA divided
-- the first option
abbrev pub first_option : List ℕ → EdnsOption
first_option l = record { code = be16_at l 0; value = take (be16_at l 2) (drop 4 l) }

-- one step: there is room for an option, or there is none
divided_one : (n : ℕ) (l : List ℕ) → 4 + be16_at l 2 ≤ length l
    → divided (suc n) l ≡ prepend (first_option l) (divided n (drop (4 + be16_at l 2) l))
unfolding divided
divided_one n [] h = absurd (omega arith)
divided_one n (x ∷ l) h =
    let a = le-leb 4 (length (x ∷ l)) (omega arith) in
    let b = le-leb (4 + be16_at (x ∷ l) 2) (length (x ∷ l)) h in
    rw (a, b)

divided_none : (n : ℕ) (l : List ℕ) → 0 < length l → length l < 4 + be16_at l 2 → divided (suc n) l ≡ none
unfolding divided
divided_none n [] h k = absurd (omega arith)
divided_none n (x ∷ l) h k = rw (lt-leb (4 + be16_at (x ∷ l) 2) (length (x ∷ l)) k) (go (leb 4 (length (x ∷ l))))
  where
    go : (b : Bool) → cond (b && false)
        (prepend (first_option (x ∷ l)) (divided n (drop (4 + be16_at (x ∷ l) 2) (x ∷ l))))
        none ≡ none
    go true = refl
    go false = refl

-- a bound past the length changes nothing
divided_bound : (n m : ℕ) (l : List ℕ) → length l < n → length l < m → divided n l ≡ divided m l
divided_bound zero m l h k = absurd (omega arith)
divided_bound (suc n) zero l h k = absurd (omega arith)
divided_bound (suc n) (suc m) l h k =
    let after = drop (4 + be16_at l 2) l in
    go l h k (λ i j. divided_bound n m after i j) (leb 1 (length l)) (leb (4 + be16_at l 2) (length l)) refl refl
  where
    go : (l : List ℕ) → length l < suc n → length l < suc m
        → (length (drop (4 + be16_at l 2) l) < n → length (drop (4 + be16_at l 2) l) < m
        → divided n (drop (4 + be16_at l 2) l) ≡ divided m (drop (4 + be16_at l 2) l))
        → (a b : Bool) → leb 1 (length l) ≡ a → leb (4 + be16_at l 2) (length l) ≡ b
        → divided (suc n) l ≡ divided (suc m) l
    go l h k f a true p q =
        let i = leb-true (4 + be16_at l 2) (length l) q in
        let long = length-drop (4 + be16_at l 2) l in
        divided_one n l i ∙ ap (prepend (first_option l)) (f (omega arith) (omega arith)) ∙ sym (divided_one m l i)
    go l h k f true false p q =
        let i = leb-true 1 (length l) p in
        let j = leb-false (4 + be16_at l 2) (length l) q in
        divided_none n l i j ∙ sym (divided_none m l i j)
    go [] h k f false false p q = divided_end n ∙ sym (divided_end m)
    go (x ∷ l) h k f false false p q = absurd (omega (arith, leb-false 1 (length (x ∷ l)) p))

-- ---- the options of RDATA
-- it has none; there is no room for one; there is one, and those after it
pub options_empty : (l : List ℕ) → length l ≡ 0 → options_of l ≡ some []
unfolding options_of
options_empty [] h = divided_end 0
options_empty (x ∷ l) h = absurd (omega arith)

pub options_short : (l : List ℕ) → 0 < length l → length l < 4 + be16_at l 2 → options_of l ≡ none
unfolding options_of
options_short l h k = divided_none (length l) l h k

pub options_first : (l : List ℕ) → 4 + be16_at l 2 ≤ length l
    → options_of l ≡ prepend (first_option l) (options_of (drop (4 + be16_at l 2) l))
unfolding options_of
options_first l h =
    let later = drop (4 + be16_at l 2) l in
    let e = length-drop (4 + be16_at l 2) l in
    divided_one (length l) l h
    ∙ ap (prepend (first_option l)) (divided_bound (length l) (suc (length later)) later (omega arith) (omega arith))

-- the first option as the code reads it: there is no room for it; there is
pub first_none : (l : List ℕ) → Short l → Short l × (0 < length l → options_of l ≡ none)
first_none l h = (h, λ k. options_short l k h)

pub first_some : (l : List ℕ) {code size : ℕ} {left value rest : List ℕ} → 4 ≤ length l → code ≡ be16_at l 0
    → code < 65536 → size ≡ be16_at l 2 → left ≡ drop 4 l → size ≤ length left → value ≡ take size left
    → rest ≡ drop size left → Divides l code value rest
first_some l {size = size} {left = left} {value = value} {rest = rest} h c k e f i p q =
    let long : length left ≡ length l - 4 = ap length f ∙ length-drop 4 l in
    let first : length value ≡ size = ap length p ∙ length-take-le size left i in
    let after : length rest ≡ length left - size = ap length q ∙ length-drop size left in
    record {
      room = omega arith;
      read = c;
      taken = rw (p, e, f) refl;
      left = rw (q, e, f) (drop-drop (be16_at l 2) 4 l);
      word = k;
      whole = omega arith;
      options = rw (c, p, q, e, f, drop-drop (be16_at l 2) 4 l)
          (options_first l (omega arith));
    }

-- ---- RDATA from a place on
module _ (s : List ℕ) (at : ℕ) where
  -- the fields of the option there
  two_here : (k : ℕ) → be16_at (drop at s) k ≡ be16_at s (at + k)
  two_here k =
      let e : at + (k + 1) ≡ at + k + 1 = omega arith in
      rw (get_or-drop at s k 0, get_or-drop at s (k + 1) 0, e)

  -- that option
  abbrev pub here : EdnsOption
  here = record { code = be16_at s at; value = take (be16_at s (at + 2)) (drop (at + 4) s) }

  -- RDATA ends there; there is no room for an option; there is one
  pub options_end : length s ≤ at → options_of (drop at s) ≡ some []
  options_end h = options_empty (drop at s) (omega (arith, length-drop at s))

  pub options_none : at < length s → length s < at + 4 + be16_at s (at + 2) → options_of (drop at s) ≡ none
  options_none h k =
      let long = length-drop at s in
      options_short (drop at s) (omega arith) (omega (arith, two_here 2))

  pub options_more : at + 4 + be16_at s (at + 2) ≤ length s
      → options_of (drop at s) ≡ prepend here (options_of (drop (at + 4 + be16_at s (at + 2)) s))
  options_more h =
      let long = length-drop at s in
      let size = be16_at s (at + 2) in
      let e : at + (4 + size) ≡ at + 4 + size = omega arith in
      let after : drop (4 + size) (drop at s) ≡ drop (at + 4 + size) s =
      drop-drop (4 + size) at s ∙ ap (λ n. drop n s) e in
      options_first (drop at s) (omega (arith, two_here 2))
      ∙ rw (two_here 2, two_here 0, add-zero, drop-drop 4 at s, after)

-- ---- codes rising
-- the first code is at least this, and codes rise from there
abbrev least? : ℕ → List EdnsOption → Bool
least? least [] = true
least? least (o ∷ l) = leb least o.code

abbrev rise? : ℕ → Option (List EdnsOption) → Bool
rise? least none = false
rise? least (some l) = least? least l && rising? l

-- of RDATA
unfoldable pub rise : ℕ → List ℕ → Bool
rise least l = rise? least (options_of l)

-- an option, and those after it
low : (least : ℕ) (a : EdnsOption) (o : Option (List EdnsOption)) → a.code < least → rise? least (prepend a o) ≡ false
low least a none h = refl
low least a (some l) h = rw (lt-leb least a.code h)

next : (least : ℕ) (a : EdnsOption) (o : Option (List EdnsOption)) → least ≤ a.code
    → rise? least (prepend a o) ≡ rise? (a.code + 1) o
unfolding rising?
next least a none h = refl
next least a (some []) h = rw (le-leb least a.code h)
next least a (some (b ∷ l)) h = rw (le-leb least a.code h, add-one)

-- before the first option
pub rise_start : (l : List ℕ) → options_rise l ≡ rise 0 l
unfolding options_rise rise
rise_start l = go (options_of l)
  where
    go : (o : Option (List EdnsOption)) → risen? o ≡ rise? 0 o
    go none = refl
    go (some []) = refl
    go (some (o ∷ l)) = rw (leb-zero o.code)

-- after the last
pub rise_end : (least : ℕ) (l : List ℕ) → length l ≡ 0 → rise least l ≡ true
unfolding rise rising?
rise_end least l h = ap (rise? least) (options_empty l h)

-- no room for an option
pub rise_cut : (least : ℕ) (l : List ℕ) → options_of l ≡ none → rise least l ≡ false
unfolding rise
rise_cut least l e = ap (rise? least) e

module _ (least : ℕ) {l : List ℕ} {code : ℕ} {value rest : List ℕ} (d : Divides l code value rest) where
  -- a code that is not above the last
  pub rise_low : code < least → rise least l ≡ false
  unfolding rise
  rise_low k = ap (rise? least) d.options ∙ low least _ _ k

  -- a code above the last
  pub rise_more : least ≤ code → rise least l ≡ rise (code + 1) rest
  unfolding rise
  rise_more k = ap (rise? least) d.options ∙ next least _ _ k

pub ruleset rise_steps = (rise_start, rise_end, rise_cut, rise_low, rise_more)
