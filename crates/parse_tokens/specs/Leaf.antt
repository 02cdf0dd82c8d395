-- How a reader that goes by its own tests shows what it found.
use Rattle.std.specs.Prelude.{◌≡◌, refl, Bool, true, false, cond, List, [], ◌∷◌, ◌++◌, ℕ, ◌+◌, ◌≤◌, eqb, length, drop, Ok, Err}
use Rattle.std.proofs.Common.{sym, ◌∙◌, ap, subst, arith, length-append, length-drop}
use Rattle.octets.specs.Parsed.{Parsed, parsed, failed, and_then, then_then, strip, strip_sound, strip_back, held}
use Rattle.octets.specs.Parsed.{parsed≢failed}
use Rattle.parse_tokens.specs.declared.Cursor.{Cursor}
use Rattle.parse_tokens.specs.Cursor.{Reached, rest, Safe, Between, between_ended, between_then, Alike, Passed}
use Rattle.parse_tokens.specs.Cursor.{Advanced, went_keeps, stop_keeps, Finds, stopped, taken, reads_parsed, reads_stop}
use Rattle.parse_tokens.specs.Step.{Found, found_as, found_lit, Put, put_from}

module _ {A : Type 0} {P : A → Type 0} {p : List ℕ → Parsed A} {t : List ℕ} where
  -- it took a value, and came to place n
  pub found_took : {a : A} {c r : Cursor} {n : ℕ} → Safe t c → p (drop c.at t) ≡ parsed a (drop n t) → c.at ≤ n
      → n ≤ length t → Advanced c n r → P a → Found p P t (Ok c) (Ok r)
  found_took f e h k s v = record { reads = reads_parsed e s.at v; moves = (went_keeps f s h k).moves }

  -- it stopped at place n
  pub found_stop : {c : Cursor} {n : ℕ} → p (drop c.at t) ≡ failed (drop n t) → c.at ≤ n → n ≤ length t
      → Found p P t (Ok c) (Err n)
  found_stop e h k = record { reads = reads_stop e; moves = (stop_keeps h k).moves }

  -- another parser that answers the same there, or anywhere
  pub found_same : (q : List ℕ → Parsed A) {c : Cursor} {r : Reached} → p (drop c.at t) ≡ q (drop c.at t)
      → Found p P t (Ok c) r → Found q P t (Ok c) r
  found_same q {r = r} e x = record { reads = subst (Finds t P r) e x.reads; moves = x.moves }

  pub found_equal : (q : List ℕ → Parsed A) {c r : Reached} → ((w : List ℕ) → p w ≡ q w) → Found p P t c r
      → Found q P t c r
  found_equal q {c} {r} e x = record { reads = go c x.reads; moves = x.moves }
    where
      go : (c : Reached) → Finds t P r (and_then (rest t c) (λ u w. p w))
          → Finds t P r (and_then (rest t c) (λ u w. q w))
      go (Ok c) y = subst (Finds t P r) (e (drop c.at t)) y
      go (Err n) y = y

-- ---- fixed octets that stand for a value
-- the octets, and what they stand for
abbrev pub row_parser : {A : Type 0} → List ℕ → A → List ℕ → Parsed A
row_parser title a w = and_then (strip title w) λ u r. parsed a r

pub found_entry : {A : Type 0} {P : A → Type 0} {l t : List ℕ} {c r : Reached} → Passed l t c r → (a : A) → P a
    → Found (row_parser l a) P t c r
found_entry {A} {P} {l} {t} {c} {r} q a v = record {
  reads = subst (Finds t P r) (then_then (rest t c) (λ u w. strip l w) (λ u w. parsed a w)) (rw (← q.left) (go r));
  moves = q.keeps.moves;
}
  where
    go : (r : Reached) → Finds t P r (and_then (rest t r) (λ u w. parsed a w))
    go (Ok r) = taken v
    go (Err n) = stopped

module _ {l t : List ℕ} {c : Cursor} where
  -- what was stripped, where the reader went on and where it stopped
  pub passed_took : {r : Cursor} → Passed l t (Ok c) (Ok r) → strip l (drop c.at t) ≡ parsed tt (drop r.at t)
  passed_took q = sym q.left

  -- how far it went on
  pub passed_place : {r : Cursor} → Passed l t (Ok c) (Ok r) → r.at ≡ c.at + length l
  passed_place {r} q = omega (
    arith,
    ap length (held (strip_sound l (drop c.at t)) (passed_took q)),
    length-append l (drop r.at t),
    length-drop c.at t,
    length-drop r.at t,
    q.keeps.moves.within.0.inside,
    q.keeps.moves.within.1,
  )

  pub passed_stop : {n : ℕ} → Passed l t (Ok c) (Err n) → strip l (drop c.at t) ≡ failed (drop n t)
  passed_stop q = sym q.left

-- the quote, and a value after it; the place where that ends tells whether it is empty
pub found_quoted : {A : Type 0} {ok empty : A → Bool} {wire : A → List ℕ} {p : List ℕ → Parsed A} {t b b' : List ℕ}
    {c o r : Reached} (k : ℕ) → Passed (34 ∷ []) t c o
    → Found p (λ a. Between (λ o r. Put ok wire o b r b' a × (empty a ≡ eqb r.at (o.at + k))) o r) t o r
    → Found (λ w. and_then (strip (34 ∷ []) w) (λ u r. p r))
    (λ a. Between (λ c r. Put ok wire c b r b' a × (empty a ≡ eqb r.at (c.at + (k + 1)))) c r) t c r
found_quoted {t = t} {c = c} {o = o} k q x =
    found_lit q (found_as x λ a h. between_then (step c o q) h λ c o r d z.
    let f : o.at + k ≡ c.at + (k + 1) = omega (arith, d.1) in
    (put_from d.0 z.0, z.1 ∙ ap (eqb r.at) f))
  where
    step : (c o : Reached) → Passed (34 ∷ []) t c o → Between (λ c o. Alike c o × (o.at ≡ c.at + 1)) c o
    step c (Err n) q = between_ended
    step (Ok c) (Ok o) q = record { holds = (q.keeps.alike.holds, passed_place q) }
    step (Err n) (Ok o) q = absurd q.keeps.alike.holds

-- fixed octets in two parts, taken at once
strip-append : (l m w : List ℕ) → strip (l ++ m) w ≡ and_then (strip l w) (λ u r. strip m r)
strip-append [] m w = refl
strip-append (x ∷ l) m [] = refl
strip-append (x ∷ l) m (y ∷ w) = go (eqb x y) (strip-append l m w)
  where
    go : (b : Bool) → strip (l ++ m) w ≡ and_then (strip l w) (λ u r. strip m r)
        → cond b (strip (l ++ m) w) (failed (y ∷ w)) ≡ and_then (cond b (strip l w) (failed (y ∷ w))) (λ u r. strip m r)
    go true e = e
    go false e = refl

pub found_lits : {A : Type 0} {P : A → Type 0} {p : List ℕ → Parsed A} {t : List ℕ} {c r s : Reached} (l m : List ℕ)
    → Passed (l ++ m) t c r → Found p P t r s
    → Found (λ w. and_then (strip l w) λ u w. and_then (strip m w) λ v r. p r) P t c s
found_lits {p = p} l m q x =
    found_equal _ (λ w. ap (λ (o : Parsed (Unit {0})). and_then o λ v r. p r) (strip-append l m w)
    ∙ then_then (strip l w) (λ u r. strip m r) (λ v r. p r)) (found_lit q x)

-- one octet: it is there, or the reader stops before it
pub strip_first : (x : ℕ) (w r : List ℕ) → strip (x ∷ []) w ≡ parsed tt r → w ≡ x ∷ r
strip_first x w r e = sym (held (strip_sound (x ∷ []) w) e)

pub strip_not : (x : ℕ) (w s u : List ℕ) → strip (x ∷ []) w ≡ failed u → w ≡ x ∷ s → ⊥
strip_not x w s u e d = parsed≢failed (sym (strip_back (x ∷ []) s) ∙ ap (strip (x ∷ [])) (sym d) ∙ e)

-- a parser that takes something, or stops where it began
pub data AtOnce {A : Type 0} (w : List ℕ) : Parsed A → Type 0 where
  goes : {a : A} {r : List ℕ} → AtOnce w (parsed a r)
  stays : AtOnce w (failed w)

pub stays_at : {A : Type 0} {w u : List ℕ} {o : Parsed A} → AtOnce w o → o ≡ failed u → w ≡ u
stays_at goes e = absurd (parsed≢failed e)
stays_at {w} stays e = ap (where_stuck w) e
  where
    where_stuck : {A : Type 0} → List ℕ → Parsed A → List ℕ
    where_stuck d (parsed a r) = d
    where_stuck d (failed v) = v

pub strip_at_once : (x : ℕ) (w : List ℕ) → AtOnce w (strip (x ∷ []) w)
strip_at_once x [] = stays
strip_at_once x (y ∷ w) = go (eqb x y)
  where
    go : (b : Bool) → AtOnce (y ∷ w) (cond b (strip [] w) (failed (y ∷ w)))
    go true = goes
    go false = stays
