-- How a loop tries the titles of a table, row by row.
use Rattle.std.specs.Prelude.{◌≡◌, refl, List, [], ◌∷◌, ℕ, zero, suc, ◌+◌, ◌≤◌, ◌<◌, max, T, length, drop, get_or, Result, Ok, Err, IfOk}
use Rattle.std.specs.Borrow.{Bor}
use Rattle.std.proofs.Common.{ap, subst, arith, ne_eqb, drop-cons, drop_of_length-le}
use Prim.Native.String.{String}
use Rattle.octets.specs.Lists.{ascii, key?}
use Rattle.octets.specs.Parsed.{Parsed, failed, or_else, held as held_of}
use Rattle.octets.specs.Codec.{table_parser, tried_sound, distinct}
use Rattle.edns.specs.Table.{texts, held}
use Rattle.json_text.specs.Document.{ad_titles}
use Rattle.parse_tokens.specs.declared.Cursor.{Cursor}
use Rattle.parse_tokens.specs.Cursor.{Safe, Passed, reads_got}
use Rattle.parse_tokens.specs.Step.{Found}
use Rattle.parse_tokens.specs.Leaf.{row_parser, found_equal, found_entry, found_stop}
use Rattle.parse_tokens.specs.Choice.{choice, furthest, found_first, second_further}
use Rattle.parse_tokens.specs.Value.{reached, ValueRead, value_stop}

-- the titles of a table in turn
abbrev pub tried : List (ℕ × List ℕ) → List ℕ → Parsed ℕ
tried [] w = failed w
tried (row ∷ rows) w = or_else (row_parser row.1 row.0 w) (tried rows w)

pub texts_tried : (rows : List (ℕ × String)) (w : List ℕ) → tried (texts rows) w ≡ table_parser rows w
unfolding table_parser
texts_tried [] w = refl
texts_tried (row ∷ rows) w = ap (or_else (row_parser (ascii row.1) row.0 w)) (texts_tried rows w)

-- one of several titles was read, and this is its key
abbrev pub RowRead : (p : List ℕ → Parsed ℕ) (t : List ℕ) (c : Cursor) → Result (Cursor × ℕ) ℕ → Type 0
RowRead p t c r = ValueRead p (λ v n. v ≡ n) t (Ok c) r

-- by another parser that answers the same
row_same : {p : List ℕ → Parsed ℕ} {t : List ℕ} {c : Cursor} {r : Result (Cursor × ℕ) ℕ} (q : List ℕ → Parsed ℕ)
    → ((w : List ℕ) → p w ≡ q w) → RowRead p t c r → RowRead q t c r
row_same q e x = record { found = found_equal q e x.found; keeps = x.keeps }

-- a table of the code in the place of its rows
pub row_table : {table : List (ℕ × List ℕ)} {t : List ℕ} {c : Cursor} {r : Result (Cursor × ℕ) ℕ}
    (rows : List (ℕ × String)) → table ≡ texts rows → RowRead (tried table) t c r → RowRead (table_parser rows) t c r
row_table rows e = row_same (table_parser rows) (λ w. rw e (texts_tried rows w))

-- ---- the loop
-- No title of the rows before row i is in the text, and `far` is the furthest place that one reached: what the rows from
-- there on find, with a stop no nearer than that place, is what the whole table finds.
pub record Trying (table : List (ℕ × Bor (List ℕ))) (t : List ℕ) (c : Cursor) (i far : ℕ) : Type 0 where
  pub onward : c.at ≤ far
  pub within : far ≤ length t
  pub goes : (r : Result (Cursor × ℕ) ℕ) → RowRead (tried (held (drop i table))) t c r
      → RowRead (tried (held table)) t c (furthest r far)

pub trying_start : {t : List ℕ} {c : Cursor} (table : List (ℕ × Bor (List ℕ))) → Safe t c → Trying table t c 0 c.at
trying_start {t} {c} table f = record { onward = omega arith; within = f.inside; goes = go }
  where
    go : (r : Result (Cursor × ℕ) ℕ) → RowRead (tried (held table)) t c r
        → RowRead (tried (held table)) t c (furthest r c.at)
    go (Ok x) y = y
    go (Err n) y =
        let e : n ≡ max n c.at = omega (arith, y.keeps.moves.within.0) in
        subst (λ m. RowRead (tried (held table)) t c (Err m)) e y

module _ {table : List (ℕ × Bor (List ℕ))} {t : List ℕ} {c : Cursor} {i far : ℕ} (y : Trying table t c i far) where
  -- no row is left
  pub trying_end : length table ≤ i → RowRead (tried (held table)) t c (Err far)
  trying_end h =
      let e : max c.at far ≡ far = omega (arith, y.onward) in
      subst (λ m. RowRead (tried (held table)) t c (Err m)) e (y.goes (Err c.at) none)
    where
      none : RowRead (tried (held (drop i table))) t c (Err c.at)
      none = rw (drop_of_length-le table h)
          (value_stop (found_stop {P = λ n. Unit {0}} refl (omega arith) (omega (arith, y.onward, y.within))))

  module _ (z : ℕ × Bor (List ℕ)) (h : i < length table) where
    abbrev row : ℕ × Bor (List ℕ)
    row = get_or table i z

    next : drop i table ≡ row ∷ drop (i + 1) table
    next =
        let e : i + 1 ≡ suc i = omega arith in
        rw e (drop-cons table i z h)

    onwards : {r : Result (Cursor × ℕ) ℕ}
        → RowRead (choice (row_parser row.1.now row.0) (tried (held (drop (i + 1) table)))) t c r
        → RowRead (tried (held table)) t c (furthest r far)
    onwards {r} x = y.goes r (rw next x)

    pub trying_here : {d : Cursor} → Passed (get_or table i z).1.now t (Ok c) (Ok d) → RowRead (tried (held table)) t c (Ok (d, (get_or table i z).0))
    trying_here {d} q = onwards {r = Ok (d, row.0)} record {
      found = found_first (row_parser row.1.now row.0) (tried (held (drop (i + 1) table)))
          (found_entry {P = λ n. row.0 ≡ n} q row.0 refl);
      keeps = q.keeps;
    }

    pub trying_more : {n next : ℕ} → Passed (get_or table i z).1.now t (Ok c) (Err n) → next ≡ max far n
        → Trying table t c (i + 1) next
    trying_more {n} {next} q e = record {
      onward = omega (arith, y.onward, e);
      within = omega (arith, y.within, e, q.keeps.moves.within.1);
      goes = λ r x. subst (RowRead (tried (held table)) t c) (once r) (onwards (other r x));
    }
      where
        once : (r : Result (Cursor × ℕ) ℕ) → furthest (furthest r n) far ≡ furthest r next
        once (Ok x) = refl
        once (Err m) = ap (λ m. Err m) (omega (arith, e))

        second : (r : Result (Cursor × ℕ) ℕ) → RowRead (tried (held (drop (i + 1) table))) t c r
            → Found (choice (row_parser row.1.now row.0) (tried (held (drop (i + 1) table))))
            (λ m. IfOk r (λ x. x.1 ≡ m)) t (Ok c) (furthest (reached r) n)
        second r x = second_further (row_parser row.1.now row.0) _ (λ z m. IfOk r (λ x. x.1 ≡ m))
            (found_entry {P = λ n. row.0 ≡ n} q row.0 refl) x.found (λ a h. h)

        other : (r : Result (Cursor × ℕ) ℕ) → RowRead (tried (held (drop (i + 1) table))) t c r
            → RowRead (choice (row_parser row.1.now row.0) (tried (held (drop (i + 1) table)))) t c (furthest r n)
        other (Ok z) x = record { found = second (Ok z) x; keeps = x.keeps }
        other (Err m) x = value_stop (second (Err m) x)

-- for `row_of`
pub ruleset row_steps = (trying_start, trying_end, trying_here, trying_more)

-- ---- the key
-- it is the table's
row_key : {t : List ℕ} {c d : Cursor} {k : ℕ} (rows : List (ℕ × String)) → T (distinct rows)
    → RowRead (table_parser rows) t c (Ok (d, k)) → T (key? k rows)
row_key {t} {c} rows d x =
    let g = reads_got x.found.reads in
    rw g.holds (held_of (tried_sound rows d (drop c.at t)) g.is).0

-- Z is told as a bit
pub title_bit : {t : List ℕ} {c : Cursor} (r : Result (Cursor × ℕ) ℕ) → RowRead (table_parser ad_titles) t c r
    → IfOk r (λ x. x.1 < 2)
unfolding ad_titles key?
title_bit (Err n) x = tt
title_bit (Ok x) y = go x.1 (row_key ad_titles tt y)
  where
    go : (n : ℕ) → T (key? n ad_titles) → n < 2
    go zero h = omega arith
    go (suc zero) h = omega arith
    go (suc (suc n)) h =
        absurd (rw (ne_eqb 0 (suc (suc n)) (λ e. omega arith), ne_eqb 1 (suc (suc n)) (λ e. omega arith)) at h)
