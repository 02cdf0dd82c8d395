-- Readers that write what they find, and keep a value of it.
use Rattle.std.specs.Prelude.{List, ◌++◌, ◌&&◌, Bool, ℕ, Result, Ok, Err}
use Rattle.octets.specs.Parsed.{Parsed, and_then, strip}
use Rattle.parse_tokens.specs.declared.Cursor.{Cursor}
use Rattle.parse_tokens.specs.Cursor.{Reached, Between, between_then, Alike, Passed}
use Rattle.parse_tokens.specs.Step.{Found, found_as, found_none, found_stays, found_lit, put_from, put_to, put_then}
use Rattle.parse_tokens.specs.Step.{Puts}
use Rattle.parse_tokens.specs.Value.{reached}

-- it holds of where the reader was, and of where it came to with a value; of a stop nothing is said
abbrev pub told : {V : Type 0} → (Cursor → Cursor × V → Type 0) → Reached → Result (Cursor × V) ℕ → Type 0
told Q (Ok c) (Ok x) = Q c x
told Q (Err n) (Ok x) = ⊥
told Q c (Err n) = Unit {0}

pub record Told {V : Type 0} (Q : Cursor → Cursor × V → Type 0) (c : Reached) (r : Result (Cursor × V) ℕ) : Type 0 where
  pub holds : told Q c r

pub told_stop : {V : Type 0} {Q : Cursor → Cursor × V → Type 0} {c : Reached} {n : ℕ} → Told Q c (Err n)
told_stop {c = Ok c} = record { holds = tt }
told_stop {c = Err m} = record { holds = tt }

pub told_as : {V : Type 0} {Q R : Cursor → Cursor × V → Type 0} {c : Reached} {r : Result (Cursor × V) ℕ} → Told Q c r
    → ((c : Cursor) (x : Cursor × V) → Q c x → R c x) → Told R c r
told_as {c = Ok c} {r = Ok x} q f = record { holds = f c x q.holds }
told_as {c = Err n} {r = Ok x} q f = absurd q.holds
told_as {c = c} {r = Err n} q f = told_stop

pub told_from : {V : Type 0} {P : Cursor → Cursor → Type 0} {Q R : Cursor → Cursor × V → Type 0} {c d : Reached}
    {r : Result (Cursor × V) ℕ} → Between P c d → Told Q d r
    → ((c d : Cursor) (x : Cursor × V) → P c d → Q d x → R c x) → Told R c r
told_from {c = c} {d = d} {r = Err n} p q f = told_stop
told_from {c = Ok c} {d = Ok d} {r = Ok x} p q f = record { holds = f c d x p.holds q.holds }
told_from {c = Err n} {d = Ok d} {r = Ok x} p q f = absurd p.holds
told_from {c = c} {d = Err n} {r = Ok x} p q f = absurd q.holds

-- from c on the reader found what p finds there, and Q of it and of the value; or it stopped
pub record Kept {A V : Type 0} (p : List ℕ → Parsed A) (Q : Cursor → Cursor × V → A → Type 0) (t : List ℕ)
    (c : Reached) (r : Result (Cursor × V) ℕ) : Type 0 where
  pub found : Found p (λ a. Told (λ c x. Q c x a) c r) t c (reached r)

module _ {A V : Type 0} {p : List ℕ → Parsed A} {Q : Cursor → Cursor × V → A → Type 0} {t : List ℕ} where
  pub kept_stays : {n : ℕ} → Kept p Q t (Err n) (Err n)
  kept_stays = record { found = found_stays }

  -- where the reader stops there is no value
  pub kept_stop : {P : A → Type 0} {c : Reached} {n : ℕ} → Found p P t c (Err n) → Kept p Q t c (Err n)
  kept_stop x = record { found = found_none x }

  pub kept_as : {R : Cursor → Cursor × V → A → Type 0} {c : Reached} {r : Result (Cursor × V) ℕ} → Kept p Q t c r
      → ((c : Cursor) (x : Cursor × V) (a : A) → Q c x a → R c x a) → Kept p R t c r
  kept_as x f = record { found = found_as x.found λ a h. told_as h λ c y q. f c y a q }

  -- with fixed octets before it
  pub kept_lit : {R : Cursor → Cursor × V → A → Type 0} {l : List ℕ} {c d : Reached} {r : Result (Cursor × V) ℕ}
      → Passed l t c d → Kept p Q t d r
      → ((c d : Cursor) (x : Cursor × V) (a : A) → Alike c d → Q d x a → R c x a)
      → Kept (λ w. and_then (strip l w) λ u r. p r) R t c r
  kept_lit q x f = record {
    found = found_lit q (found_as x.found λ a h. told_from q.keeps.alike h λ c d y k z. f c d y a k z);
  }

-- what was written, one thing after another
module _ {A : Type 0} {ok : A → Bool} {wire : A → List ℕ} {b b' : List ℕ} {c d r : Reached} {a : A} where
  pub puts_from : Between Alike c d → Puts ok wire d b r b' a → Puts ok wire c b r b' a
  puts_from k h = between_then k h λ c d r m z. put_from m z

  pub puts_to : Puts ok wire c b d b' a → Between Alike d r → Puts ok wire c b r b' a
  puts_to h k = between_then h k λ c d r z m. put_to z m

  pub puts_then : {B : Type 0} {ok' : B → Bool} {wire' : B → List ℕ} {b'' : List ℕ} {y : B} → Puts ok wire c b d b' a
      → Puts ok' wire' d b' r b'' y
      → Puts {A = A × B} (λ u. ok u.0 && ok' u.1) (λ u. wire u.0 ++ wire' u.1) c b r b'' (a, y)
  puts_then h k = between_then h k λ c d r z w. put_then z w
