-- The promise of each public function determines its whole result: two results, with the buffers, that meet it for the
-- same arguments are equal. Of hexadecimal digits that are read the octets are those of one list, not the references.
use Rattle.std.specs.Prelude.{◌≡◌, refl, Bool, true, false, List, ℕ, ◌≤◌, T, ◌+◌, ◌-◌, length, take, drop, Result, Ok, Err, Option, Some, None}
use Rattle.std.proofs.Common.{sym, ◌∙◌, ap, subst, arith, length-drop}
use Rattle.octets.specs.Parsed.{Parsed, parsed, failed, parsed_value, parsed≢failed}
use Rattle.octets.specs.Lists.{paired}
use Rattle.hex_or_octets.specs.declared.HexDigits.{HexDigits}
use Rattle.parse_tokens.specs.declared.Cursor.{Cursor}
use Rattle.parse_tokens.specs.Cursor.{Reached, cursors, Keeps, Advanced, Passed, reads_bad, reads_got}
use Rattle.parse_tokens.specs.Step.{Held, Emits, Judged}
use Rattle.parse_tokens.specs.Value.{ValueRead}
use Rattle.parse_tokens.specs.Number.{NumberRead, TillRead}
use Rattle.parse_tokens.specs.Signed.{SignedRead}
use Rattle.parse_tokens.specs.Hex.{HexRead, DigitsFrom}
use Rattle.parse_tokens.specs.Fields.{FieldPut}

-- ---- the parts of a result
-- one value that two things are equal to
pub both_are : {A : Type 0} {x y v : A} → x ≡ v → y ≡ v → x ≡ y
both_are d e = d ∙ sym e

-- places in a text from which on the same is left
one_place : (t : List ℕ) (m n : ℕ) → m ≤ length t → n ≤ length t → drop m t ≡ drop n t → m ≡ n
one_place t m n h k e = omega (arith, ap length e, length-drop m t, length-drop n t)

-- what a parser leaves
abbrev left : {A : Type 0} → Parsed A → List ℕ
left (parsed a w) = w
left (failed w) = w

-- readers that changed the place alone
kept : {t : List ℕ} {c r s : Cursor} → Keeps t (Ok c) (Ok r) → Keeps t (Ok c) (Ok s) → drop r.at t ≡ drop s.at t
    → r ≡ s
kept {t} {c} {r} {s} k m e =
    let x = k.alike.holds in
    let y = m.alike.holds in
    cursors (one_place t r.at s.at k.moves.within.0.inside m.moves.within.0.inside e) (both_are x.to y.to)
    (both_are x.meaningful y.meaningful) (both_are x.bounded y.bounded)

halted_there : {t : List ℕ} {c : Cursor} {m n : ℕ} → Keeps t (Ok c) (Err m) → Keeps t (Ok c) (Err n)
    → drop m t ≡ drop n t → m ≡ n
halted_there {t} {c} {m} {n} k l e = one_place t m n k.moves.within.1 l.moves.within.1 e

-- what two readers of a value by one parser have in common
pub data Alike {A V : Type 0} (K : V → A → Type 0) : Result (Cursor × V) ℕ → Result (Cursor × V) ℕ → Type 0 where
  went : {c d : Cursor} {v w : V} → c ≡ d → (a : A) → K v a → K w a → Alike K (Ok (c, v)) (Ok (d, w))
  stopped : {m n : ℕ} → m ≡ n → Alike K (Err m) (Err n)

module _ {A V : Type 0} {p : List ℕ → Parsed A} {K : V → A → Type 0} {t : List ℕ} {c : Cursor} where
  pub alike : {r s : Result (Cursor × V) ℕ} → ValueRead p K t (Ok c) r → ValueRead p K t (Ok c) s → Alike K r s
  alike {r = Ok r} {s = Ok s} x y =
      let g = reads_got x.found.reads in
      let h = reads_got y.found.reads in
      let i = sym g.is ∙ h.is in
      went (kept x.keeps y.keeps (ap left i)) g.value g.holds (subst (K s.1) (sym (parsed_value i)) h.holds)
  alike {r = Ok r} {s = Err n} x y =
      absurd (parsed≢failed (sym (reads_got x.found.reads).is ∙ reads_bad y.found.reads))
  alike {r = Err m} {s = Ok s} x y =
      absurd (parsed≢failed (sym (reads_got y.found.reads).is ∙ reads_bad x.found.reads))
  alike {r = Err m} {s = Err n} x y = stopped
      (halted_there x.keeps y.keeps (ap left (sym (reads_bad x.found.reads) ∙ reads_bad y.found.reads)))

  -- one value of each thing that is found
  pub value_determined : {r s : Result (Cursor × V) ℕ} → ((a : A) (v w : V) → K v a → K w a → v ≡ w)
      → ValueRead p K t (Ok c) r → ValueRead p K t (Ok c) s → r ≡ s
  value_determined {r} {s} f x y = go (alike x y)
    where
      go : {r s : Result (Cursor × V) ℕ} → Alike K r s → r ≡ s
      go (went {v = v} {w = w} e a k l) = λ i. Ok (e i, f a v w k l i)
      go (stopped e) = ap (λ n. Err n) e

-- ---- advance; literal, comma; demand; the promise of furthest is an equation
pub advance_determined : {c r s : Cursor} {n : ℕ} → Advanced c n r → Advanced c n s → r ≡ s
advance_determined x y =
    cursors (both_are x.at y.at) (both_are x.to y.to) (both_are x.meaningful y.meaningful)
    (both_are x.bounded y.bounded)

pub literal_determined : {l t : List ℕ} {c : Cursor} {r s : Reached} → Passed l t (Ok c) r → Passed l t (Ok c) s → r ≡ s
literal_determined {r = Ok r} {s = Ok s} x y =
    ap (λ c. Ok c) (kept x.keeps y.keeps (ap left (both_are x.left y.left)))
literal_determined {r = Ok r} {s = Err n} x y = absurd (parsed≢failed (both_are x.left y.left))
literal_determined {r = Err m} {s = Ok s} x y = absurd (parsed≢failed (both_are y.left x.left))
literal_determined {r = Err m} {s = Err n} x y =
    ap (λ n. Err n) (halted_there x.keeps y.keeps (ap left (both_are x.left y.left)))

pub demand_determined : {ok : Bool} {c r s : Cursor} → Judged ok c r → Judged ok c s → r ≡ s
demand_determined x y =
    cursors (both_are x.at y.at) (both_are x.to y.to) (both_are x.meaningful y.meaningful)
    (both_are x.bounded y.bounded)

-- ---- reserve, emit
pub reserve_determined : {n : ℕ} {c r s : Cursor} → Held n c r → Held n c s → r ≡ s
reserve_determined x y =
    cursors (both_are x.at y.at) (both_are x.place y.place) (both_are x.meaningful y.meaningful)
    (both_are x.bounded y.bounded)

pub emit_determined : {xs b b' b'' : List ℕ} {c r s : Cursor} → Emits xs c b r b' → Emits xs c b s b''
    → (r ≡ s) × (b' ≡ b'')
emit_determined {b' = b'} {b'' = b''} {r = r} {s = s} x y = (cursor, go r.bounded refl)
  where
    bounded : r.bounded ≡ s.bounded
    bounded = both_are x.bounded y.bounded

    cursor : r ≡ s
    cursor =
        cursors (both_are x.at y.at) (both_are x.place y.place) (both_are x.meaningful y.meaningful) bounded

    go : (a : Bool) → r.bounded ≡ a → b' ≡ b''
    go true e = both_are (x.wrote (subst T (sym e) tt)).text (y.wrote (subst T (sym e ∙ bounded) tt)).text
    go false e = both_are (x.stays e) (y.stays (sym bounded ∙ e))

-- ---- number, number_then; signed; hex
abbrev pub digits_read : Result (Cursor × HexDigits) ℕ → Result (Cursor × List ℕ) ℕ
digits_read (Ok x) = Ok (x.0, x.1.digits.now)
digits_read (Err n) = Err n

module _ {t : List ℕ} {c : Cursor} where
  pub number_determined : {r s : Result (Cursor × ℕ) ℕ} → NumberRead t c r → NumberRead t c s → r ≡ s
  number_determined = value_determined λ n v w d e. both_are d e

  pub till_determined : (title : List ℕ) {r s : Result (Cursor × ℕ) ℕ} → TillRead title t c r → TillRead title t c s
      → r ≡ s
  till_determined title = value_determined λ n v w d e. both_are d e

  pub signed_determined : {r s : Result (Cursor × Option ℕ) ℕ} → SignedRead t c r → SignedRead t c s → r ≡ s
  signed_determined = value_determined λ n v w d e. both_are d e

  pub hex_determined : {r s : Result (Cursor × HexDigits) ℕ} → HexRead t c r → DigitsFrom t (c.at + 1) r
      → HexRead t c s → DigitsFrom t (c.at + 1) s → digits_read r ≡ digits_read s
  hex_determined q x w y = go x y (alike q w)
    where
      go : {r s : Result (Cursor × HexDigits) ℕ} → DigitsFrom t (c.at + 1) r → DigitsFrom t (c.at + 1) s
          → Alike {A = List ℕ} (λ h l. l ≡ paired h.digits.now) r s → digits_read r ≡ digits_read s
      go x y (went e l k m) =
          let d = x.1 ∙ ap (λ (o : Cursor). take (o.at - 1 - (c.at + 1)) (drop (c.at + 1) t)) e ∙ sym y.1 in
          λ i. Ok (e i, d i)
      go x y (stopped e) = ap (λ n. Err n) e

-- ---- put_number, put_ttl
pub put_determined : (xs : Option (List ℕ)) (b : List ℕ) (c : Cursor) {b' b'' : List ℕ} {r s : Cursor}
    → FieldPut xs c b r b' → FieldPut xs c b s b'' → (r ≡ s) × (b' ≡ b'')
put_determined (Some xs) b c x y = emit_determined x.written y.written
put_determined None b c x y = (demand_determined x.written.0 y.written.0, both_are x.written.1 y.written.1)
