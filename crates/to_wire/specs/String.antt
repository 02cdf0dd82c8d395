-- A string of a text, and its octets in a message.
use Rattle.std.specs.Prelude.{◌≡◌, refl, Bool, true, false, List, [], ◌∷◌, ◌++◌, ℕ, ◌+◌, ◌-◌, ◌<◌, eqb, length, drop}
use Rattle.std.specs.Prelude.{Ok, Err}
use Rattle.std.proofs.Common.{sym, ◌∙◌, arith, eq-eqb, ne_eqb, eqb-true}
use Rattle.std.proofs.lemmas.Bool.{eqb-false}
use Rattle.octets.specs.Lists.{none?}
use Rattle.octets.specs.Parsed.{failed}
use Rattle.strict.specs.Spelt.{string_at, string_char, string_octet_avoids, string_chars, string}
use Rattle.parse_tokens.specs.declared.Cursor.{Cursor}
use Rattle.parse_tokens.specs.Cursor.{Reached, Safe, Between, Passed, keeps_same, Moves, moves_then, Advanced}
use Rattle.parse_tokens.specs.Cursor.{went_keeps, stop_keeps, reads_stop, reads_parsed}
use Rattle.parse_tokens.specs.Step.{Found, Put, put_as, put_to, put_nothing, none_last, put_emit, Emits}
use Rattle.parse_tokens.specs.Leaf.{found_quoted}
use Rattle.parse_tokens.specs.Many.{run_of, Going, going_start, going_end, going_more, going_stop}
use Rattle.parse_tokens.specs.Place.{At}
use Rattle.parse_octets.specs.declared.Letter.{Letter}
use Rattle.parse_octets.specs.Octet.{Reads, StopsAt}

-- ---- the octets of a string, and the quote
char_empty : string_char.parse [] ≡ failed []
unfolding string_char string_at
char_empty = refl

chars_run : (w : List ℕ) → string_chars.parse w ≡ run_of 34 string_char w
unfolding string_chars
chars_run w = refl

-- what was written of a string, which is empty if its text has k octets
abbrev pub Spelled : ℕ → Reached → List ℕ → Reached → List ℕ → List ℕ → Type 0
Spelled k c b r b' l =
    Between (λ c r. Put (λ l. true) (λ l. l) c b r b' l × (none? l ≡ eqb r.at (c.at + k))) c r

abbrev pub CharsRead : List ℕ → Reached → List ℕ → Reached → List ℕ → Type 0
CharsRead t c b r b' = Found string_chars.parse (Spelled 1 c b r b') t c r

-- the octets so far
pub record Chars (t : List ℕ) (c : Cursor) (b : List ℕ) (d : Cursor) (out : List ℕ) : Type 0 where
  pub l : List ℕ
  pub goes : Going (run_of 34 string_char) t (string_chars.parse (drop c.at t)) d.at l
  pub put : Put (λ l. true) (λ l. l) c b d out l
  pub moves : Moves t (Ok c) (Ok d)
  pub place : none? l ≡ eqb d.at c.at
  pub long : length out ≡ length b

pub chars_start : (t : List ℕ) (c : Cursor) (b : List ℕ) → Safe t c → Chars t c b c b
chars_start t c b h = record {
  l = [];
  goes = record { goes = chars_run (drop c.at t) ∙ (going_start (run_of 34 string_char) t c.at).goes };
  put = put_nothing b (keeps_same h) refl refl;
  moves = (keeps_same h).moves;
  place = sym (eq-eqb c.at c.at refl);
  long = refl;
}

module _ {t : List ℕ} {c : Cursor} {b : List ℕ} {d : Cursor} {out : List ℕ} (w : Chars t c b d out) where
  -- the quote after them
  pub chars_end : {r : Cursor} → At t d.at 34 → Advanced d (d.at + 1) r → CharsRead t (Ok c) b (Ok r) out
  chars_end {r} k s =
      let keeps = went_keeps w.moves.within.0 s (omega arith) (omega (arith, k.inside)) in
      record {
        reads = reads_parsed (going_end string_char 34 string_octet_avoids char_empty w.goes k.inside k.is) s.at
            (record { holds = (put_to w.put keeps.alike.holds, w.place ∙ next (eqb d.at c.at) refl) });
        moves = moves_then w.moves keeps.moves;
      }
    where
      next : (m : Bool) → eqb d.at c.at ≡ m → m ≡ eqb r.at (c.at + 1)
      next true e = sym (eq-eqb r.at (c.at + 1) (omega (arith, s.at, eqb-true d.at c.at e)))
      next false e = sym (ne_eqb r.at (c.at + 1) (λ z. eqb-false d.at c.at e (omega (arith, s.at))))

  -- no octet
  pub chars_stop : {n : ℕ} → (At t d.at 34 → ⊥) → StopsAt string_at t d.at n → CharsRead t (Ok c) b (Err n) out
  unfolding string_char
  chars_stop k q = record {
    reads = reads_stop (going_stop string_char 34 string_octet_avoids char_empty w.goes k q.is);
    moves = moves_then w.moves (stop_keeps q.onward q.within).moves;
  }

  -- one octet more
  module _ {o : Letter} (q : Reads string_at t d.at o) {e r : Cursor} {out' : List ℕ} (a : Advanced d o.at e)
      (m : Emits (o.value ∷ []) e out r out') where
    pub chars_less : length t - r.at < length t - d.at
    chars_less = omega (arith, m.at, a.at, q.onward, q.within)

    pub chars_more : length out' ≡ length out → Chars t c b r out'
    unfolding string_char
    chars_more z =
        let keeps = went_keeps w.moves.within.0 a (omega (arith, q.onward)) q.within in
        let x : r.at ≡ o.at = m.at ∙ a.at in
        record {
          l = w.l ++ (o.value ∷ []);
          goes = rw x (going_more string_char 34 string_octet_avoids char_empty w.goes q.is);
          put = put_as refl refl (put_emit (put_to w.put keeps.alike.holds) m);
          moves = record {
            within = (
              record { inside = omega (arith, x, q.within); room = m.room },
              omega (arith, x, q.onward, w.moves.within.1),
            );
          };
          place = none_last w.l o.value
              ∙ sym (ne_eqb r.at c.at (λ y. omega (arith, x, q.onward, w.moves.within.1)));
          long = z ∙ w.long;
        }

-- for `chars`
pub ruleset chars_steps = (chars_start, chars_less, chars_more)

-- ---- a string in quotes, which is empty if it has two octets
abbrev pub StringRead : List ℕ → Reached → List ℕ → Reached → List ℕ → Type 0
StringRead t c b r b' = Found string.parse (Spelled 2 c b r b') t c r

pub string_opened : {t : List ℕ} {c o r : Reached} {b b' : List ℕ} → Passed (34 ∷ []) t c o → CharsRead t o b r b'
    → StringRead t c b r b'
unfolding string
string_opened = found_quoted 1
