-- What is written over a part of the input, and in all.
use Rattle.std.specs.Prelude.{◌≡◌, refl, ℕ, ◌+◌, ◌<◌, List, [], ◌∷◌, ◌++◌, length, take, Option, Result, Ok, Err, OnOk, IfErr}
use Rattle.std.proofs.Common.{sym, ap, ◌∙◌, subst, arith, append-nil, length-append, take-take}
use Rattle.std.proofs.lemmas.List.{take-append-le}
use Rattle.std.proofs.Math.Seq.{take-append-add}
use Rattle.std.specs.Io.KnownBytes.{Appends, Consumes, IsAtEnd}
use Rattle.std.proofs.KnownBytes.{Appends-trans, Consumes-trans}
use Rattle.octets.specs.Overlay.{first_written}
use Rattle.lines.specs.Lines.{program_output}
use Rattle.lines.specs.Reading.{printed_at, so_far, printed_over, printed_last, output_steps, printed-pieces}
use Rattle.lines.specs.Reading.{so_far_pieces, kept_alike, printed_alike, kept_last}
use Rattle.lines.specs.Programs.{most_kept}
use Rattle.lines.specs.Pieces.{Answers}
use Rattle.streams.specs.Parts.{AppendsPart}
use Rattle.streams.specs.declared.Call.{Call}
use Rattle.streams.specs.declared.Call.TheVariants.{Read, Write, Close}
use Rattle.streams.specs.declared.Failure.{Failure}
use Rattle.line_program.specs.Written.{WrittenAt, WritesAll, WritesPart}

-- ---- known octets
pub same_part : (a b : Option (List ℕ)) {xs ys : List ℕ} → xs ≡ ys → AppendsPart a b xs → AppendsPart a b ys
same_part a b e h = subst (AppendsPart a b) e h

-- all of one text and a part of the next
pub part_after : (a b c : Option (List ℕ)) (xs ys : List ℕ) → Appends a b xs → AppendsPart b c ys
    → AppendsPart a c (xs ++ ys)
part_after a b c xs ys p (n, h, q) = (
  length xs + n,
  omega (arith, h, length-append xs ys),
  subst (Appends a c) (sym (take-append-add xs ys n)) (Appends-trans a b c xs (take n ys) p q),
)

-- a part of the first text
pub part_before : (a b : Option (List ℕ)) (xs ys : List ℕ) → AppendsPart a b xs → AppendsPart a b (xs ++ ys)
part_before a b xs ys (n, h, p) = (
  n,
  omega (arith, h, length-append xs ys),
  subst (Appends a b) (sym (take-append-le n xs ys (omega (arith, h)))) p,
)

-- ---- a call of `answer_piece`
module _ (answer : List ℕ → List ℕ) (same : (s : List ℕ) → answer (take most_kept s) ≡ answer s)
    (line kept : List ℕ) where
  -- what is printed over octets that follow those seen, where what is kept begins as the line does
  pub more_printed : (seen t : List ℕ) → take most_kept kept ≡ take most_kept (so_far line seen)
      → printed_over answer line seen ++ printed_over answer kept t
      ≡ printed_over answer line (seen ++ t)
  more_printed seen t k =
      ap (λ l. printed_over answer line seen ++ l)
      (printed_alike most_kept answer same kept (so_far line seen) t k)
      ∙ sym (printed-pieces answer line seen t)

  pub more_kept : (seen t line' : List ℕ) → take most_kept kept ≡ take most_kept (so_far line seen)
      → take most_kept line' ≡ take most_kept (so_far kept t)
      → take most_kept line' ≡ take most_kept (so_far line (seen ++ t))
  more_kept seen t line' k e =
      e ∙ kept_alike most_kept kept (so_far line seen) t k ∙ ap (take most_kept) (sym (so_far_pieces line seen t))

  -- the same of a call
  pub call_printed : (seen : List ℕ) {piece out line' out' : List ℕ} {taken size : ℕ}
      → take most_kept kept ≡ take most_kept (so_far line seen)
      → Answers answer kept piece out line' out' taken size
      → printed_over answer line seen ++ take size out'
      ≡ printed_over answer line (seen ++ take taken piece)
  call_printed seen {piece} {taken = taken} k m =
      ap (λ l. printed_over answer line seen ++ l) (first_written m.wrote m.fits)
      ∙ more_printed seen (take taken piece) k

  pub call_kept : (seen : List ℕ) {piece out line' out' : List ℕ} {taken size : ℕ}
      → take most_kept kept ≡ take most_kept (so_far line seen)
      → Answers answer kept piece out line' out' taken size
      → take most_kept line' ≡ take most_kept (so_far line (seen ++ take taken piece))
  call_kept seen {piece} {line' = line'} {taken = taken} k m =
      let t = take taken piece in
      more_kept seen t line' k (ap (take most_kept) m.kept ∙ take-take most_kept most_kept (so_far kept t) (omega arith))

-- what is printed over the first octets comes first
pub printed_first : (answer : List ℕ → List ℕ) (line s t whole : List ℕ) → s ++ t ≡ whole
    → printed_over answer line s ++ printed_over answer (so_far line s) t ≡ printed_over answer line whole
printed_first answer line s t whole e = sym (printed-pieces answer line s t) ∙ ap (printed_over answer line) e

-- all octets are seen
pub all_seen : (seen rest whole : List ℕ) → seen ++ rest ≡ whole → length rest ≡ 0 → seen ≡ whole
all_seen seen [] whole e h = sym (append-nil seen) ∙ e
all_seen seen (c ∷ rest) whole e h = absurd (omega arith)

-- ---- the end of the input
pub nothing_left : (answer : List ℕ → List ℕ) (line : List ℕ) → length line ≡ 0 → printed_last answer line ≡ []
unfolding printed_last
nothing_left answer [] h = refl
nothing_left answer (c ∷ s) h = absurd (omega arith)

pub line_ended : (answer : List ℕ → List ℕ) (line : List ℕ) → 0 < length line
    → printed_over answer line (10 ∷ []) ≡ printed_last answer line
unfolding printed_last printed_over printed_at
line_ended answer [] h = absurd (omega arith)
line_ended answer (c ∷ s) h = append-nil _

pub last_printed : (answer : List ℕ → List ℕ) (same : (s : List ℕ) → answer (take most_kept s) ≡ answer s)
    (kept line : List ℕ) → take most_kept kept ≡ take most_kept line
    → printed_last answer kept ≡ printed_last answer line
last_printed answer same kept line k =
    let q : (s : List ℕ) → printed_last answer (take most_kept s) ≡ printed_last answer s =
    kept_last most_kept answer same (omega arith) in
    sym (q kept) ∙ ap (printed_last answer) k ∙ q line

pub output_ended : (answer : List ℕ → List ℕ) (same : (s : List ℕ) → answer (take most_kept s) ≡ answer s)
    (kept seen : List ℕ) → take most_kept kept ≡ take most_kept (so_far [] seen)
    → printed_over answer [] seen ++ printed_last answer kept
    ≡ program_output answer seen
output_ended answer same kept seen k =
    ap (λ l. printed_over answer [] seen ++ l) (last_printed answer same kept (so_far [] seen) k)
    ∙ sym (output_steps answer seen)

-- ---- what is written where a call failed
module _ (old new : Option (List ℕ)) (answer : List ℕ → List ℕ) (input : List ℕ) {call : Call} where
  pub at_read : call ≡ Read → Appends old new (printed_over answer [] input)
      → WrittenAt old new answer input call
  at_read e h = rw e h

  pub at_write : call ≡ Write → AppendsPart old new (program_output answer input)
      → WrittenAt old new answer input call
  at_write e h = rw e h

  pub at_close : call ≡ Close → Appends old new (program_output answer input)
      → WrittenAt old new answer input call
  at_close e h = rw e h

-- ---- the end of a run
pub closed_all : {X E : Type 0} (r : Result X E) (input rest old new : Option (List ℕ)) (answer : List ℕ → List ℕ)
    (taken : List ℕ) → Consumes input rest taken → IsAtEnd rest → Appends old new (program_output answer taken)
    → OnOk r (WritesAll input rest old new answer)
closed_all (Ok x) input rest old new answer taken p e q = (taken, p, e, q)
closed_all (Err f) input rest old new answer taken p e q = tt

pub closed_part : {X : Type 0} (r : Result X Failure) (input rest old new : Option (List ℕ)) (answer : List ℕ → List ℕ)
    (taken : List ℕ) → Consumes input rest taken → Appends old new (program_output answer taken)
    → IfErr r (λ f. f.call ≡ Close) → IfErr r (WritesPart input rest old new answer)
closed_part (Ok x) input rest old new answer taken p q e = tt
closed_part (Err f) input rest old new answer taken p q e = (taken, p, at_close old new answer taken e q)

-- a read of no octet consumes nothing
pub consumed_end : (a b c : Option (List ℕ)) (seen input : List ℕ) (n : ℕ) → n ≡ 0 → Consumes a b seen
    → Consumes b c (take n input) → Consumes a c seen
consumed_end a b c seen input n e p q =
    let none : Consumes b c [] = subst (λ m. Consumes b c (take m input)) e q in
    subst (Consumes a c) (append-nil seen) (Consumes-trans a b c seen [] p none)
