-- What calls in turn write: what the program is to print for the input that they took.
use Rattle.std.specs.Prelude.{◌≡◌, refl, ℕ, ◌≤◌, length}
use Rattle.std.proofs.Common.{sym, ◌∙◌, arith, take-take}
use Rattle.std.proofs.Math.Path.{ap}
use mathlib.Core.List.{List, [], ◌∷◌, ◌++◌, append-nil}
use borrow.Author.Tests.{le-ltb}
use Rattle.std.proofs.Math.ListN.{take}
use Rattle.octets.specs.Lists.{each}
use Rattle.octets.specs.Overlay.{first_written}
use Rattle.lines.specs.Lines.{program_output}
use Rattle.lines.specs.Reading.{printed_at, so_far, printed_over, printed_last, output_steps, printed-pieces}
use Rattle.lines.specs.Reading.{so_far_pieces, kept_alike, printed_alike, kept_last}
use Rattle.lines.specs.Programs.{most_kept, answer_room}
use Rattle.lines.specs.Runs.{PieceCall, Meets, Chained, input_of, output_of, Ended}
use Rattle.lines.specs.Pieces.{taken_of}
use Rattle.line_answers.specs.Answers.{text_line, wire_line}
use Rattle.lines.proofs.Keeping.{text_kept, wire_kept}

-- ---- what a call writes
module _ (answer : List ℕ → List ℕ) (same : (s : List ℕ) → answer (take most_kept s) ≡ answer s)
    (c : PieceCall) (m : Meets answer c) where
  call_output : take c.size c.out' ≡ printed_over answer c.line (take c.taken c.piece)
  call_output = first_written m.wrote m.fits

  -- what is kept begins as the line does
  module _ (line : List ℕ) (k : take most_kept c.line ≡ take most_kept line) where
    call_printed : take c.size c.out' ≡ printed_over answer line (take c.taken c.piece)
    call_printed = call_output
        ∙ printed_alike most_kept answer same c.line line (take c.taken c.piece) k

    call_kept : take most_kept c.line' ≡ take most_kept (so_far line (take c.taken c.piece))
    call_kept =
        let s = take c.taken c.piece in
        ap (take most_kept) m.kept ∙ take-take most_kept most_kept (so_far c.line s) (omega arith)
        ∙ kept_alike most_kept c.line line s k

-- ---- what calls write
module _ (answer : List ℕ → List ℕ) (same : (s : List ℕ) → answer (take most_kept s) ≡ answer s) where
  written : (cs : List PieceCall) (before line line' : List ℕ) → take most_kept before ≡ take most_kept line
      → Chained answer before cs line' → output_of cs ≡ printed_over answer line (input_of cs)
      × (take most_kept line' ≡ take most_kept (so_far line (input_of cs)))
  unfolding each printed_over so_far
  written [] before line line' k p = (refl, ap (take most_kept) (sym p) ∙ k)
  written (c ∷ cs) before line line' k (e, m, p) =
      let s = take c.taken c.piece in
      let k' : take most_kept c.line ≡ take most_kept line = ap (take most_kept) (sym e) ∙ k in
      let (w, l) = written cs c.line' (so_far line s) line' (call_kept answer same c m line k') p in (
        rw (call_printed answer same c m line k', w) (sym (printed-pieces answer line s (input_of cs))),
        l ∙ ap (take most_kept) (sym (so_far_pieces line s (input_of cs))),
      )

  -- a newline ends a line and is taken, given room
  newline_taken : (c : PieceCall) → c.piece ≡ 10 ∷ [] → answer_room ≤ length c.out → Meets answer c
      → take c.taken c.piece ≡ 10 ∷ []
  unfolding taken_of
  newline_taken c e room m =
      let t : c.taken ≡ 1 = m.took ∙ rw (e, le-ltb (length c.out) answer_room room) in
      rw (t, e)

  last_written : (line : List ℕ) (last : List PieceCall) → Ended answer line last
      → output_of last ≡ printed_last answer line
  unfolding each printed_last printed_over printed_at
  last_written line [] e = rw e
  last_written line (c ∷ cs) (n, l, e, room, m, none) =
      rw (none, call_output answer same c m, newline_taken c e room m, ← l, n) (append-nil _ ∙ append-nil _)

  -- A run writes what the program is to print for the input that it took, whatever the pieces were and the buffers
  -- held.
  pub right_output : (cs last : List PieceCall) (line : List ℕ) → Chained answer [] cs line → Ended answer line last
      → output_of cs ++ output_of last ≡ program_output answer (input_of cs)
  right_output cs last line p e =
      let (w, l) = written cs [] [] line refl p in
      let q : (s : List ℕ) → printed_last answer (take most_kept s) ≡ printed_last answer s =
      kept_last most_kept answer same (omega arith) in
      let z : output_of last ≡ printed_last answer (so_far [] (input_of cs)) =
      last_written line last e ∙ sym (q line) ∙ ap (printed_last answer) l ∙ q (so_far [] (input_of cs)) in
      rw (w, z) (sym (output_steps answer (input_of cs)))

-- of each program
pub right_texts : (cs last : List PieceCall) (line : List ℕ) → Chained text_line [] cs line → Ended text_line line last
    → output_of cs ++ output_of last ≡ program_output text_line (input_of cs)
right_texts = right_output text_line text_kept

pub right_messages : (cs last : List PieceCall) (line : List ℕ) → Chained wire_line [] cs line
    → Ended wire_line line last → output_of cs ++ output_of last ≡ program_output wire_line (input_of cs)
right_messages = right_output wire_line wire_kept
