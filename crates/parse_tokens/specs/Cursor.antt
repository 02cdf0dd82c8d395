-- Where the reader is in a text, and what a reader shows of its way from one place to the next.
use Rattle.std.specs.Prelude.{◌≡◌, refl, List, ℕ, ◌+◌, ◌≤◌, length, drop, Result, Ok, Err}
use Rattle.std.proofs.Common.{sym, ◌∙◌, ap, arith}
use Rattle.octets.specs.Parsed.{Parsed, parsed, failed, and_then, strip}
use Rattle.parse_tokens.specs.declared.Cursor.{Cursor}

-- two that are alike in every field
pub cursors : {r s : Cursor} → r.at ≡ s.at → r.to ≡ s.to → r.meaningful ≡ s.meaningful → r.bounded ≡ s.bounded → r ≡ s
cursors a t m l = λ i. record { at = a i; to = t i; meaningful = m i; bounded = l i }

-- where a reader came to, or the place at which it stopped
abbrev pub Reached : Type 0
Reached = Result Cursor ℕ

-- what is left to read; where the reader has stopped, the text from there on
abbrev pub rest : List ℕ → Reached → Parsed (Unit {0})
rest t (Ok c) = parsed tt (drop c.at t)
rest t (Err n) = failed (drop n t)

-- the reader is in the text, and the message so far is within its limit
pub record Safe (t : List ℕ) (c : Cursor) : Type 0 where
  pub inside : c.at ≤ length t
  pub room : c.to ≤ 65535

-- ---- from one place to the next
-- it holds of where the reader was and where it came to; of a stop nothing is said
abbrev pub between : (Cursor → Cursor → Type 0) → Reached → Reached → Type 0
between Q (Ok c) (Ok r) = Q c r
between Q (Err n) (Ok r) = ⊥
between Q c (Err n) = Unit {0}

pub record Between (Q : Cursor → Cursor → Type 0) (c r : Reached) : Type 0 where
  pub holds : between Q c r

pub between_ended : {Q : Cursor → Cursor → Type 0} {c : Reached} {n : ℕ} → Between Q c (Err n)
between_ended {c = Ok c} = record { holds = tt }
between_ended {c = Err m} = record { holds = tt }

pub between_as : {Q R : Cursor → Cursor → Type 0} {c r : Reached} → Between Q c r → ((c r : Cursor) → Q c r → R c r)
    → Between R c r
between_as {c = Ok c} {r = Ok r} q f = record { holds = f c r q.holds }
between_as {c = Err n} {r = Ok r} q f = absurd q.holds
between_as {c = Ok c} {r = Err m} q f = record { holds = tt }
between_as {c = Err n} {r = Err m} q f = record { holds = tt }

pub between_then : {Q R S : Cursor → Cursor → Type 0} {c r s : Reached} → Between Q c r → Between R r s
    → ((c r s : Cursor) → Q c r → R r s → S c s) → Between S c s
between_then {c = c} {r = r} {s = Err m} p q f = between_ended
between_then {c = Ok c} {r = Ok r} {s = Ok s} p q f = record { holds = f c r s p.holds q.holds }
between_then {c = Err n} {r = Ok r} {s = Ok s} p q f = absurd p.holds
between_then {c = c} {r = Err n} {s = Ok s} p q f = absurd q.holds

-- the reader goes on in the text, or stops there; where it has stopped it stays
abbrev pub within : List ℕ → Reached → Reached → Type 0
within t (Ok c) (Ok r) = Safe t r × (c.at ≤ r.at)
within t (Ok c) (Err n) = (c.at ≤ n) × (n ≤ length t)
within t (Err n) (Ok r) = ⊥
within t (Err n) (Err m) = n ≡ m

pub record Moves (t : List ℕ) (c r : Reached) : Type 0 where
  pub within : within t c r

pub moves_then : {t : List ℕ} {c r s : Reached} → Moves t c r → Moves t r s → Moves t c s
moves_then {c = Ok c} {r = Ok r} {s = Ok s} m n =
    record { within = (n.within.0, omega (arith, m.within.1, n.within.1)) }
moves_then {c = Ok c} {r = Ok r} {s = Err k} m n =
    record { within = (omega (arith, m.within.1, n.within.0), n.within.1) }
moves_then {c = Ok c} {r = Err k} {s = Err l} m n =
    record { within = (omega (arith, m.within.0, n.within), omega (arith, m.within.1, n.within)) }
moves_then {c = Ok c} {r = Err k} {s = Ok s} m n = absurd n.within
moves_then {c = Err k} {r = Err l} {s = Err j} m n = record { within = m.within ∙ n.within }
moves_then {c = Err k} {r = Err l} {s = Ok s} m n = absurd n.within
moves_then {c = Err k} {r = Ok r} {s = s} m n = absurd m.within

pub moves_stays : {t : List ℕ} {n : ℕ} → Moves t (Err n) (Err n)
moves_stays = record { within = refl }

pub halted : {t : List ℕ} {n : ℕ} {s : Reached} → Moves t (Err n) s → s ≡ Err n
halted {s = Ok r} m = absurd m.within
halted {s = Err k} m = ap (λ n. Err n) (sym m.within)

-- nothing was written or judged
pub record Alike (c r : Cursor) : Type 0 where
  pub to : r.to ≡ c.to
  pub meaningful : r.meaningful ≡ c.meaningful
  pub bounded : r.bounded ≡ c.bounded

pub record Keeps (t : List ℕ) (c r : Reached) : Type 0 where
  pub moves : Moves t c r
  pub alike : Between Alike c r

pub keeps_same : {t : List ℕ} {c : Cursor} → Safe t c → Keeps t (Ok c) (Ok c)
keeps_same h = record {
  moves = record { within = (h, omega arith) };
  alike = record { holds = record { to = refl; meaningful = refl; bounded = refl } };
}

pub keeps_then : {t : List ℕ} {c r s : Reached} → Keeps t c r → Keeps t r s → Keeps t c s
keeps_then k m = record {
  moves = moves_then k.moves m.moves;
  alike = between_then k.alike m.alike λ c r s p q. record {
    to = q.to ∙ p.to;
    meaningful = q.meaningful ∙ p.meaningful;
    bounded = q.bounded ∙ p.bounded;
  };
}

pub keeps_stays : {t : List ℕ} {n : ℕ} → Keeps t (Err n) (Err n)
keeps_stays = record { moves = moves_stays; alike = between_ended }

-- the reader came to place n
pub record Advanced (c : Cursor) (n : ℕ) (r : Cursor) : Type 0 where
  pub at : r.at ≡ n
  pub to : r.to ≡ c.to
  pub meaningful : r.meaningful ≡ c.meaningful
  pub bounded : r.bounded ≡ c.bounded

pub went_keeps : {t : List ℕ} {c r : Cursor} {n : ℕ} → Safe t c → Advanced c n r → c.at ≤ n → n ≤ length t
    → Keeps t (Ok c) (Ok r)
went_keeps f s h k = record {
  moves = record {
    within = (record { inside = omega (arith, s.at); room = omega (arith, s.to, f.room) }, omega (arith, s.at));
  };
  alike = record { holds = record { to = s.to; meaningful = s.meaningful; bounded = s.bounded } };
}

pub stop_keeps : {t : List ℕ} {c : Cursor} {n : ℕ} → c.at ≤ n → n ≤ length t → Keeps t (Ok c) (Err n)
stop_keeps h k = record { moves = record { within = (h, k) }; alike = between_ended }

-- what was found, and P of it; or where the reader stopped
pub data Finds {A : Type 0} (t : List ℕ) (P : A → Type 0) : Reached → Parsed A → Type 0 where
  stopped : {n : ℕ} → Finds t P (Err n) (failed (drop n t))
  taken : {r : Cursor} {a : A} → P a → Finds t P (Ok r) (parsed a (drop r.at t))

pub record Got {A : Type 0} (o : Parsed A) (P : A → Type 0) (s : List ℕ) : Type 0 where
  pub value : A
  pub is : o ≡ parsed value s
  pub holds : P value

module _ {A : Type 0} {t : List ℕ} {P : A → Type 0} where
  -- how a function shows it: by an equation of what the parser answers
  pub reads_stop : {o : Parsed A} {n : ℕ} → o ≡ failed (drop n t) → Finds t P (Err n) o
  reads_stop e = rw e stopped

  pub reads_parsed : {o : Parsed A} {a : A} {n : ℕ} {r : Cursor} → o ≡ parsed a (drop n t) → r.at ≡ n → P a
      → Finds t P (Ok r) o
  reads_parsed e p v = rw (e, ← p) (taken v)

  pub reads_as : {Q : A → Type 0} {r : Reached} {o : Parsed A} → Finds t P r o → ((a : A) → P a → Q a) → Finds t Q r o
  reads_as stopped f = stopped
  reads_as (taken {a = a} v) f = taken (f a v)

  pub reads_map : {B : Type 0} {Q : B → Type 0} {r : Reached} {o : Parsed A} (f : A → B) → ((a : A) → P a → Q (f a))
      → Finds t P r o → Finds t Q r (and_then o λ a w. parsed (f a) w)
  reads_map f h stopped = stopped
  reads_map f h (taken {a = a} v) = taken (h a v)

  -- the same place, with more done
  pub reads_at : {Q : A → Type 0} {r s : Cursor} {o : Parsed A} → Finds t P (Ok r) o → s.at ≡ r.at
      → ((a : A) → P a → Q a) → Finds t Q (Ok s) o
  reads_at {Q} {s = s} (taken {a = a} v) d f = rw (← d) (taken (f a v))

  -- and how a caller takes it
  pub reads_bad : {o : Parsed A} {n : ℕ} → Finds t P (Err n) o → o ≡ failed (drop n t)
  reads_bad stopped = refl

  pub reads_got : {o : Parsed A} {r : Cursor} → Finds t P (Ok r) o → Got o P (drop r.at t)
  reads_got (taken {a = a} v) = record { value = a; is = refl; holds = v }

-- ---- fixed octets
pub record Passed (l t : List ℕ) (c r : Reached) : Type 0 where
  pub left : rest t r ≡ and_then (rest t c) (λ u w. strip l w)
  pub keeps : Keeps t c r

pub passed_stays : {l t : List ℕ} {n : ℕ} → Passed l t (Err n) (Err n)
passed_stays = record { left = refl; keeps = keeps_stays }

-- i of the octets were stripped
pub record Matching (l t : List ℕ) (c : Cursor) (i : ℕ) : Type 0 where
  pub goes : strip l (drop c.at t) ≡ strip (drop i l) (drop (c.at + i) t)
  pub upto : i ≤ length l
  pub within : c.at + i ≤ length t
