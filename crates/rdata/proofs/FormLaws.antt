-- The form of RDATA: by steps, that it is all of RDATA where RDATA fits its layout, and how long it can be; and what a
-- caller of `put_rdata` knows.
use mathlib.Core.Path.{◌≡◌, refl, sym, ap, ◌∙◌, subst}
use mathlib.Core.Bool.{Bool, true, false, cond}
use mathlib.Core.List.{List, [], ◌∷◌, ◌++◌}
use Prim.Native.Nat.{ℕ, ◌+◌, ◌-◌, ◌*◌, ◌≤◌}
use native.Mathlib.Omega.{arith}
use borrow.Author.Tests.{ltb-false}
use lib.Dec.{ltb}
use lib.ListN.{length, drop, length-append, length-take}
use Rattle.std.specs.Prelude.{Result, Ok, Err}
use Rattle.octets.specs.Lists.{lookup}
use Rattle.octets.specs.Writes.{Writes}
use Rattle.octets.specs.declared.writer.Writer.{Writer}
use Rattle.names.specs.Name.{name_form, short, surplus, Fault}
use Rattle.names.specs.Walk.{part, rdata, Named, named, faulty, walk, name_from, name_at}
use Rattle.names.specs.NameLaws.{read_sized}
use Rattle.names.specs.Answer.{fault_of}
use Rattle.names.specs.declared.Fault.{Fault as FaultRead}
use Rattle.records.specs.Layout.{Piece, fixed, name, layouts, layout_of, Laid, laid, misfit, before, pieces, rdata_at}
use Rattle.records.specs.Parts.{layout_in, rdata_pieces, StepOf, part_to, name_to, done, stops, name_step, step_at}
use Rattle.records.specs.Parts.{follow, pieces_step}
use Rattle.records.proofs.Pieces.{breadth, layout_small}
use Rattle.rdata.specs.Notation.{Laws}
use Rattle.rdata.specs.Written.{pieces_form, rdata_form, rdata_end_of, PutsForm, PutsRdata, Ends}

-- ---- the form by steps
-- what a step puts before the form of what comes after it
abbrev pub form_then : List ℕ → ℕ → (ℕ → List ℕ) → StepOf → List ℕ
form_then s at later (part_to next) = part s at (next - at) ++ later next
form_then s at later (name_to n next) = name_form n ++ later next
form_then s at later done = []
form_then s at later (stops fault) = []

-- the form of the pieces is that of the step at the first of them, then that of the pieces after it
form_step : (layout : List Piece) (s : List ℕ) (start end at : ℕ)
    → pieces_form layout s start end at ≡ form_then s at (pieces_form (drop 1 layout) s start end)
    (step_at layout s start end at)
unfolding pieces_form step_at
form_step [] s start end at = go (ltb at end)
  where
    go : (b : Bool) → [] ≡ form_then s at (pieces_form [] s start end)
        (cond b (stops (record { kind = surplus; octet = at })) done)
    go true = refl
    go false = refl
form_step (fixed n ∷ layout) s start end at = go (ltb end (at + n))
  where
    later : ℕ → List ℕ
    later = pieces_form layout s start end

    go : (b : Bool) → cond b [] (part s at n ++ later (at + n))
        ≡ form_then s at later (cond b (stops (record { kind = short; octet = start })) (part_to (at + n)))
    go true = refl
    go false = let e : at + n - at ≡ n = omega arith in rw e
form_step (name ∷ layout) s start end at = go (name_at s (rdata start end) at)
  where
    later : ℕ → List ℕ
    later = pieces_form layout s start end

    go : (w : Named)
        → (elim w as (λ x. List ℕ) [ named labels next ↦ name_form labels ++ later next | faulty fault ↦ [] ])
        ≡ form_then s at later (name_step w)
    go (named n next) = refl
    go (faulty fault) = refl

-- ---- RDATA that fits its layout
-- the form is all of RDATA
abbrev Whole : Laid → List ℕ → Type 0
Whole (laid d) l = l ≡ d
Whole (misfit fault) l = Unit {0}

whole_before : (xs : List ℕ) (w : Laid) (l : List ℕ) → Whole w l → Whole (before xs w) (xs ++ l)
whole_before xs (laid d) l e = ap (λ (m : List ℕ). xs ++ m) e
whole_before xs (misfit fault) l e = tt

whole_step : (s : List ℕ) (at : ℕ) (f : ℕ → Laid) (g : ℕ → List ℕ) (x : StepOf) → ((n : ℕ) → Whole (f n) (g n))
    → Whole (follow s at f x) (form_then s at g x)
whole_step s at f g (part_to next) h = whole_before (part s at (next - at)) (f next) (g next) (h next)
whole_step s at f g (name_to n next) h = whole_before (name_form n) (f next) (g next) (h next)
whole_step s at f g done h = refl
whole_step s at f g (stops fault) h = tt

pieces_whole : (layout : List Piece) (s : List ℕ) (start end at : ℕ)
    → Whole (pieces true layout s start end at) (pieces_form layout s start end at)
unfolding pieces pieces_form
pieces_whole [] s start end at = go (ltb at end)
  where
    go : (b : Bool) → Whole (cond b (misfit (record { kind = surplus; octet = at })) (laid [])) []
    go true = tt
    go false = refl
pieces_whole (p ∷ layout) s start end at =
    subst (λ (w : Laid). Whole w (pieces_form (p ∷ layout) s start end at))
    (sym (pieces_step (p ∷ layout) s start end at))
    (subst (Whole (follow s at (pieces true layout s start end) (step_at (p ∷ layout) s start end at)))
    (sym (form_step (p ∷ layout) s start end at))
    (whole_step s at (pieces true layout s start end) (pieces_form layout s start end)
    (step_at (p ∷ layout) s start end at) (pieces_whole layout s start end)))

pub rdata_whole : (s : List ℕ) (type at size : ℕ) {d : List ℕ} → rdata_at true s type at size ≡ laid d
    → rdata_form s type at size ≡ d
unfolding rdata_form
rdata_whole s type at size {d} e =
    subst (λ (w : Laid). Whole w (pieces_form (layout_in type size) s at (at + size) at))
    (sym (rdata_pieces true s type at size) ∙ e) (pieces_whole (layout_in type size) s at (at + size) at)

-- an MX record's name with a length octet of 64: the two octets before it
misfit_form : rdata_form (0 ∷ 10 ∷ 64 ∷ []) 15 0 3 ≡ 0 ∷ 10 ∷ []
unfolding rdata_form pieces_form layout_in layout_of layouts lookup name_from walk
misfit_form = refl

-- ---- its length
pieces_short : (layout : List Piece) (s : List ℕ) (start end at : ℕ) → end ≤ length s → at ≤ end
    → (length (pieces_form layout s start end at) ≤ breadth layout)
    × (length (pieces_form layout s start end at) + 255 * at ≤ 255 * end)
unfolding pieces_form
pieces_short [] s start end at h k = (omega arith, omega arith)
pieces_short (fixed n ∷ layout) s start end at h k =
    go (ltb end (at + n)) refl λ j. pieces_short layout s start end (at + n) h j
  where
    l : List ℕ
    l = pieces_form layout s start end (at + n)

    go : (b : Bool) → ltb end (at + n) ≡ b
        → (at + n ≤ end → (length l ≤ breadth layout) × (length l + 255 * (at + n) ≤ 255 * end))
        → (length (cond b [] (part s at n ++ l)) ≤ n + breadth layout)
        × (length (cond b [] (part s at n ++ l)) + 255 * at ≤ 255 * end)
    go true p f = (omega arith, omega arith)
    go false p f =
        let later = f (ltb-false end (at + n) p) in
        let e = length-append (part s at n) l in
        let t = length-take n (drop at s) in
        (omega arith, omega arith)
pieces_short (name ∷ layout) s start end at h k =
    go (name_at s (rdata start end) at) refl λ next j. pieces_short layout s start end next h j
  where
    Short : Named → Type 0
    Short w = let l : List ℕ = elim w [
      | named labels next ↦ name_form labels ++ pieces_form layout s start end next
      | faulty fault ↦ []
    ] in (length l ≤ 255 + breadth layout) × (length l + 255 * at ≤ 255 * end)

    go : (w : Named) → name_at s (rdata start end) at ≡ w
        → ((next : ℕ) → next ≤ end → (length (pieces_form layout s start end next) ≤ breadth layout)
        × (length (pieces_form layout s start end next) + 255 * next ≤ 255 * end))
        → Short w
    go (named n next) p f =
        let q = read_sized s (rdata start end) at at n next h p in
        let later = f next q.3 in
        let e = length-append (name_form n) (pieces_form layout s start end next) in
        (omega arith, omega arith)
    go (faulty fault) p f = (omega arith, omega arith)

rdata_short : (s : List ℕ) (type at size : ℕ) → at + size ≤ length s
    → (length (rdata_form s type at size) ≤ 255 * size) × (length (rdata_form s type at size) ≤ size + 530)
    × (size ≤ 65535 → length (rdata_form s type at size) ≤ 65535)
unfolding rdata_form
rdata_short s type at size h =
    let k = pieces_short (layout_in type size) s at (at + size) at h (omega arith) in
    let j = layout_small type size in
    (omega arith, omega arith, λ i. omega (arith, j.2 i))

-- ---- what `put_rdata` promises
-- it determines the buffer, the place and the answer
pub puts_determined : {text : List ℕ → List ℕ} {read : Laid} {l : List ℕ} {w w₁ w₂ : Writer}
    {r₁ r₂ : Result (Unit {0}) FaultRead}
    → PutsForm text read l w w₁ r₁ → PutsForm text read l w w₂ r₂
    → (w₁.out.now ≡ w₂.out.now) × (w₁.to ≡ w₂.to) × (r₁ ≡ r₂)
puts_determined p q = (
  p.wrote.wrote.text ∙ sym q.wrote.wrote.text,
  p.wrote.wrote.place ∙ sym q.wrote.wrote.place,
  p.answer ∙ sym q.answer,
)

-- the bounds of the place after RDATA
pub puts_ends : {text : List ℕ → List ℕ} {width : ℕ} → Laws text width → (s : List ℕ) (type at size : ℕ) {w w' : Writer}
    {r : Result (Unit {0}) FaultRead}
    → PutsRdata text s type at size w w' r → at + size ≤ length s → length s ≤ 65535
    → Ends width w'.to w.to size
puts_ends {text} {width} laws s type at size {w} {w'} p i k =
    let form = rdata_form s type at size in
    let j = rdata_short s type at size i in
    record {
      long = length form;
      place = p.wrote.wrote.place ∙ ap (λ n. w.to + n) (laws.sized form);
      for_each = j.0;
      more = j.1;
      few = j.2 (omega arith);
    }

-- RDATA fits its layout exactly if there is no fault, and then all of it was written
abbrev Puts : (List ℕ → List ℕ) → Laid → Writer → Writer → Result (Unit {0}) FaultRead → Type 0
Puts text read w w' (Ok n) = (d : List ℕ) × (read ≡ laid d) × Writes w (text d) w'
Puts text read w w' (Err f) = (fault : Fault) × (read ≡ misfit fault) × (f ≡ fault_of fault)

pub puts_told : {text : List ℕ → List ℕ} (s : List ℕ) (type at size : ℕ) {w w' : Writer} {r : Result (Unit {0}) FaultRead}
    → PutsRdata text s type at size w w' r → Puts text (rdata_at true s type at size) w w' r
puts_told {text} s type at size {w} {w'} p =
    subst (Puts text (rdata_at true s type at size) w w') (sym p.answer)
    (go (rdata_at true s type at size) refl)
  where
    go : (read : Laid) → rdata_at true s type at size ≡ read → Puts text read w w' (rdata_end_of read)
    go (laid d) u = (d, refl, rw (rdata_whole s type at size u) at p.wrote)
    go (misfit fault) u = (fault, refl, refl)
