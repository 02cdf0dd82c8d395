-- Questions, records and RDATA in the parts that the code reads: a name with the fields after it, a record without what
-- is inside RDATA, and RDATA piece by piece.
use Rattle.std.specs.Prelude.{◌≡◌, refl, Bool, true, false, cond, List, [], ◌∷◌, ℕ, ◌+◌, ◌-◌, ltb, eqb, length, drop}
use Rattle.std.proofs.Common.{sym, ap, ◌∙◌, append-nil, arith, le-ltb, eqb-true}
use Rattle.std.proofs.Math.Option.{Option, none, some}
use Rattle.octets.specs.Fields.{be16_at, be32_at}
use Rattle.names.specs.Name.{Name, name_form, cut, short, surplus, Fault}
use Rattle.names.specs.Walk.{part, message, rdata, Named, named, faulty, name_at}
use Rattle.records.specs.Layout.{Piece, fixed, name, layout_of, Laid, laid, misfit, before, pieces, rdata_at}
use Rattle.records.specs.Message.{Record}
use Rattle.records.specs.RecordLaws.{bad≢entry, entry_value, entry_next}
use Rattle.records.specs.Read.{Entry, entry, bad, past_end, first_cut, with_name_lem, with_fields_lem, filled, question_at}
use Rattle.records.specs.Read.{record_at}

-- ---- a name and the fields after it
-- the name, or the first field that runs past the message's end
abbrev pub fitted : Name → ℕ → Option ℕ → Named
fitted n next none = named n next
fitted n next (some at) = faulty (record { kind = cut; octet = at })

abbrev pub begun : List ℕ → List ℕ → Named → Named
begun s widths (named n next) = fitted n next (first_cut s next widths)
begun s widths (faulty fault) = faulty fault

unfoldable pub begun_at : List ℕ → ℕ → List ℕ → Named
begun_at s at widths = begun s widths (name_at s message at)

module _ {A : Type 0} (s : List ℕ) (widths : List ℕ) (e : Name → ℕ → Entry A) where
  -- what comes after fields that fit
  fitted-fields : (n : Name) (next : ℕ) (o : Option ℕ) → with_fields_lem o (e n next) ≡ with_name_lem (fitted n next o) e
  fitted-fields n next none = refl
  fitted-fields n next (some at) = refl

  begun-fields : (w : Named)
      → with_name_lem w (λ n next. with_fields_lem (first_cut s next widths) (e n next)) ≡ with_name_lem (begun s widths w) e
  begun-fields (named n next) = fitted-fields n next (first_cut s next widths)
  begun-fields (faulty fault) = refl

-- a question is a name with TYPE and CLASS after it
pub question_begun : (s : List ℕ) (at : ℕ)
    → question_at s at ≡ with_name_lem (begun_at s at (2 ∷ 2 ∷ [])) λ n next. entry
    (record { name = n; type = be16_at s next; class = be16_at s (next + 2) }) (next + 4)
unfolding question_at begun_at
question_begun s at = begun-fields s (2 ∷ 2 ∷ []) _ (name_at s message at)

-- ---- a record without what is inside RDATA
-- `rdata` is the offset of RDATA, of RDLENGTH octets
pub record RecordHead : Type 0 where
  pub name : Name
  pub type : ℕ
  pub class : ℕ
  pub ttl : ℕ
  pub rdata : ℕ
  pub rdlength : ℕ

-- the record of a head, with RDATA
abbrev pub with_rdata : RecordHead → List ℕ → Record
with_rdata h d = record { name = h.name; type = h.type; class = h.class; ttl = h.ttl; rdata = d }

-- TYPE, CLASS, TTL, RDLENGTH after the name; RDATA must end within the message
abbrev pub headed : List ℕ → Name → ℕ → Entry RecordHead
headed s n next =
    let size = be16_at s (next + 8) in
    cond (ltb (length s) (next + 10 + size)) (past_end (next + 10))
    (entry (record {
      name = n;
      type = be16_at s next;
      class = be16_at s (next + 2);
      ttl = be32_at s (next + 4);
      rdata = next + 10;
      rdlength = size;
    }) (next + 10 + size))

unfoldable pub record_head_at : List ℕ → ℕ → Entry RecordHead
record_head_at s at = with_name_lem (begun_at s at (2 ∷ 2 ∷ 4 ∷ 2 ∷ [])) (headed s)

-- a record's head, then its RDATA
abbrev pub with_rdata_lem : List ℕ → Entry RecordHead → Entry Record
with_rdata_lem s (entry h next) = filled (with_rdata h) next (rdata_at true s h.type h.rdata h.rdlength)
with_rdata_lem s (bad fault) = bad fault

-- ---- RDATA as one list of pieces
-- none for RDATA of no octets; a listed TYPE's layout; else all octets as they are
abbrev pub layout_or : ℕ → Option (List Piece) → List Piece
layout_or size none = fixed size ∷ []
layout_or size (some layout) = layout

unfoldable pub layout_in : ℕ → ℕ → List Piece
layout_in type size = cond (eqb size 0) [] (layout_or size (layout_of type))

-- what is done at the first of the pieces: octets are carried as they are up to an offset, a name ends at an offset,
-- the layout ends, or a fault
pub data StepOf : Type 0 where
  part_to : ℕ → StepOf
  name_to : Name → ℕ → StepOf
  done : StepOf
  stops : Fault → StepOf

abbrev pub name_step : Named → StepOf
name_step (named n next) = name_to n next
name_step (faulty fault) = stops fault

unfoldable pub step_at : List Piece → List ℕ → ℕ → ℕ → ℕ → StepOf
step_at [] s start end at = cond (ltb at end) (stops (record { kind = surplus; octet = at })) done
step_at (fixed n ∷ layout) s start end at =
    cond (ltb end (at + n)) (stops (record { kind = short; octet = start })) (part_to (at + n))
step_at (name ∷ layout) s start end at = name_step (name_at s (rdata start end) at)

-- ---- a record by its head
-- a record is its head, then its RDATA
pub record_head : (s : List ℕ) (at : ℕ) → record_at s at ≡ with_rdata_lem s (record_head_at s at)
unfolding record_at record_head_at begun_at
record_head s at = begun-fields s (2 ∷ 2 ∷ 4 ∷ 2 ∷ []) read (name_at s message at)
    ∙ go (begun s (2 ∷ 2 ∷ 4 ∷ 2 ∷ []) (name_at s message at))
  where
    inside : Name → ℕ → Laid
    inside n next = rdata_at true s (be16_at s next) (next + 10) (be16_at s (next + 8))

    made : Name → ℕ → List ℕ → Record
    made n next d = record {
      name = n;
      type = be16_at s next;
      class = be16_at s (next + 2);
      ttl = be32_at s (next + 4);
      rdata = d;
    }

    read : Name → ℕ → Entry Record
    read n next = cond (ltb (length s) (next + 10 + be16_at s (next + 8))) (past_end (next + 10))
        (filled (made n next) (next + 10 + be16_at s (next + 8)) (inside n next))

    room : (b : Bool) (n : Name) (next : ℕ)
        → cond b (past_end (next + 10)) (filled (made n next) (next + 10 + be16_at s (next + 8)) (inside n next))
        ≡ with_rdata_lem s (cond b (past_end (next + 10))
        (entry (record {
          name = n;
          type = be16_at s next;
          class = be16_at s (next + 2);
          ttl = be32_at s (next + 4);
          rdata = next + 10;
          rdlength = be16_at s (next + 8);
        }) (next + 10 + be16_at s (next + 8))))
    room true n next = refl
    room false n next = refl

    go : (w : Named) → with_name_lem w read ≡ with_rdata_lem s (with_name_lem w (headed s))
    go (named n next) = room (ltb (length s) (next + 10 + be16_at s (next + 8))) n next
    go (faulty fault) = refl

-- a record ends after its RDATA
pub head_next : (s : List ℕ) (at : ℕ) (h : RecordHead) (next : ℕ) → record_head_at s at ≡ entry h next
    → next ≡ h.rdata + h.rdlength
unfolding record_head_at
head_next s at h next e = go (begun_at s at (2 ∷ 2 ∷ 4 ∷ 2 ∷ [])) e
  where
    room : (b : Bool) (i : ℕ) (k : RecordHead) → cond b (past_end i) (entry k (k.rdata + k.rdlength)) ≡ entry h next
        → next ≡ h.rdata + h.rdlength
    room true i k q = absurd (bad≢entry q)
    room false i k q = sym (entry_next q) ∙ ap (λ (x : RecordHead). x.rdata + x.rdlength) (entry_value q)

    go : (w : Named) → with_name_lem w (headed s) ≡ entry h next → next ≡ h.rdata + h.rdlength
    go (named n i) q = room (ltb (length s) (i + 10 + be16_at s (i + 8))) (i + 10) _ q
    go (faulty fault) q = absurd (bad≢entry q)

-- ---- RDATA by its pieces
pub rdata_pieces : (jumps : Bool) (s : List ℕ) (type at size : ℕ)
    → rdata_at jumps s type at size ≡ pieces jumps (layout_in type size) s at (at + size) at
unfolding rdata_at layout_in pieces
rdata_pieces jumps s type at size = go (eqb size 0) refl (layout_of type) refl
  where
    go : (b : Bool) → eqb size 0 ≡ b → (o : Option (List Piece)) → layout_of type ≡ o
        → rdata_at jumps s type at size ≡ pieces jumps (layout_in type size) s at (at + size) at
    go true p o q = let z = eqb-true size 0 p in rw (p, le-ltb at (at + size) (omega arith))
    go false p none q = rw (p, q, rdata_at, le-ltb (at + size) (at + size) (omega arith))
        (ap laid (sym (append-nil (part s at size))))
    go false p (some layout) q = rw (p, q, rdata_at)

-- what a step puts before what comes after it
abbrev pub follow : List ℕ → ℕ → (ℕ → Laid) → StepOf → Laid
follow s at later (part_to next) = before (part s at (next - at)) (later next)
follow s at later (name_to n next) = before (name_form n) (later next)
follow s at later done = laid []
follow s at later (stops fault) = misfit fault

-- the pieces are the step at the first of them, then the pieces after it
pub pieces_step : (layout : List Piece) (s : List ℕ) (start end at : ℕ)
    → pieces true layout s start end at ≡ follow s at (pieces true (drop 1 layout) s start end)
    (step_at layout s start end at)
unfolding pieces step_at
pieces_step [] s start end at = go (ltb at end)
  where
    go : (b : Bool) → cond b (misfit (record { kind = surplus; octet = at })) (laid [])
        ≡ follow s at (pieces true [] s start end) (cond b (stops (record { kind = surplus; octet = at })) done)
    go true = refl
    go false = refl
pieces_step (fixed n ∷ layout) s start end at = go (ltb end (at + n))
  where
    later : ℕ → Laid
    later = pieces true layout s start end

    go : (b : Bool) → cond b (misfit (record { kind = short; octet = start })) (before (part s at n) (later (at + n)))
        ≡ follow s at later (cond b (stops (record { kind = short; octet = start })) (part_to (at + n)))
    go true = refl
    go false = let e : at + n - at ≡ n = omega arith in rw e
pieces_step (name ∷ layout) s start end at = go (name_at s (rdata start end) at)
  where
    later : ℕ → Laid
    later = pieces true layout s start end

    go : (w : Named) → (elim w as
        (λ x. Laid) [ named labels next ↦ before (name_form labels) (later next) | faulty fault ↦ misfit fault ])
        ≡ follow s at later (name_step w)
    go (named n next) = refl
    go (faulty fault) = refl
