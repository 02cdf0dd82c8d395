-- The loop over the pieces of RDATA's layout.
use mathlib.Core.Path.{◌≡◌, refl, ◌∙◌}
use mathlib.Core.Bool.{Bool, true, false}
use mathlib.Core.Option.{none, some}
use mathlib.Core.List.{List, [], ◌∷◌, ◌++◌, append-nil}
use Prim.Native.Nat.{ℕ, zero, suc, ◌+◌, ◌-◌, ◌*◌, ◌^◌, ◌≤◌, ◌<◌}
use native.Mathlib.Omega.{arith}
use borrow.Author.Tests.{le-ltb, lt-ltb, ne_eqb, eqb-true, eqb-false}
use lib.Dec.{eqb}
use lib.ListN.{length, drop, length-take, drop_of_length-le}
use Rattle.std.specs.Prelude.{Result, Ok, Err}
use Rattle.octets.specs.Writes.{Writes, writes_none, writes_then}
use Rattle.octets.specs.declared.writer.Writer.{Writer}
use Rattle.octets.specs.Fields.{empty}
use Rattle.names.specs.Name.{name_form}
use Rattle.names.specs.Walk.{part, rdata, name_at}
use Rattle.names.specs.NameLaws.{read_sized}
use Rattle.names.specs.Answer.{name_read}
use Rattle.names.specs.declared.Fault.{Fault}
use Rattle.names.specs.declared.Fault.TheVariants.{Short, Surplus}
use Rattle.records.specs.Layout.{Piece, fixed, name, layout_of, Laid, laid, misfit, before, pieces, rdata_at}
use Rattle.records.specs.Parts.{layout_in}
use Rattle.records.proofs.Reading.{named_case, faulty_case}
use Rattle.rdata.specs.Notation.{Laws}
use Rattle.rdata.specs.Written.{pieces_form, rdata_form, rdata_end_of, PutsForm, PutsRdata}

-- the text of no octets is empty
none_written : {text : List ℕ → List ℕ} {width : ℕ} → Laws text width → text [] ≡ []
none_written {text} {width} laws = empty (text []) (laws.sized [] ∙ zero)
  where
    zero : width * 0 ≡ 0
    zero = omega arith

-- octets have at most two octets of text each
narrow_long : (width m : ℕ) → width ≤ 2 → width * m ≤ 2 * m
narrow_long zero m h = omega arith
narrow_long (suc zero) m h = omega arith
narrow_long (suc (suc zero)) m h = omega arith
narrow_long (suc (suc (suc width))) m h = absurd (omega arith)

module _ {text : List ℕ → List ℕ} {width : ℕ} (laws : Laws text width) where
  -- octets were written before the rest
  puts_before : (read : Laid) (xs : List ℕ) {l : List ℕ} {w w₁ w₂ : Writer} {r : Result (Unit {0}) Fault}
      → Writes w (text xs) w₁ → PutsForm text read l w₁ w₂ r → PutsForm text (before xs read) (xs ++ l) w w₂ r
  puts_before read xs {l} p q =
      record { wrote = rw (laws.joins xs l) (writes_then p q.wrote); answer = q.answer ∙ go read }
    where
      go : (read : Laid) → rdata_end_of read ≡ rdata_end_of (before xs read)
      go (laid d) = refl
      go (misfit fault) = refl

  -- nothing was written
  puts_none : {read : Laid} {w : Writer} {r : Result (Unit {0}) Fault} → r ≡ rdata_end_of read
      → PutsForm text read [] w w r
  puts_none {w = w} e = record { wrote = rw (none_written laws) (writes_none w); answer = e }

-- from the layout's i-th piece on
abbrev pieces_at : List ℕ → List Piece → ℕ → ℕ → ℕ → ℕ → Laid
pieces_at s l start end i at = pieces true (drop i l) s start end at

abbrev form_at : List ℕ → List Piece → ℕ → ℕ → ℕ → ℕ → List ℕ
form_at s l start end i at = pieces_form (drop i l) s start end at

-- the pieces before the i-th are written: to put the rest is to put all of RDATA
pub record LayoutLoop (text : List ℕ → List ℕ) (s : List ℕ) (l : List Piece) (start end : ℕ) (w₀ : Writer) (i at : ℕ)
    (w : Writer) : Type 0 where
  pub within : at ≤ end
  pub place : w.to ≤ 2 ^ 37 + 510 * i + 2 * at
  pub rest : (w' : Writer) (r : Result (Unit {0}) Fault)
      → PutsForm text (pieces_at s l start end i at) (form_at s l start end i at) w w' r
      → PutsForm text (pieces true l s start end start) (pieces_form l s start end start) w₀ w' r

pub loop_start : {text : List ℕ → List ℕ} (s : List ℕ) (l : List Piece) (start end : ℕ) (w : Writer)
    → start ≤ end → w.to < 2 ^ 37
    → LayoutLoop text s l start end w 0 start w
loop_start s l start end w h k = record { within = h; place = omega arith; rest = λ w' r p. p }

module _ {text : List ℕ → List ℕ} {width : ℕ} (laws : Laws text width) {s : List ℕ} {l : List Piece}
    {start end : ℕ} {w₀ : Writer} {i at : ℕ} {w : Writer}
    (o : LayoutLoop text s l start end w₀ i at w) where
  -- after the last piece: RDATA ends, or octets are left over
  module _ (h : length l ≤ i) where
    pub loop_done : end ≤ at
        → PutsForm text (pieces true l s start end start) (pieces_form l s start end start) w₀ w (Ok tt)
    unfolding pieces pieces_form
    loop_done k = (rw (drop_of_length-le l h) at o.rest) w (Ok tt) (puts_none laws (rw (le-ltb at end k)))

    pub loop_surplus : at < end
        → PutsForm text (pieces true l s start end start) (pieces_form l s start end start) w₀ w (Err (Surplus at))
    unfolding pieces pieces_form
    loop_surplus k =
        (rw (drop_of_length-le l h) at o.rest) w (Err (Surplus at)) (puts_none laws (rw (lt-ltb at end k)))

  -- the i-th piece
  module _ {p : Piece} (q : drop i l ≡ p ∷ drop (i + 1) l) where
    -- n octets of it, of the form xs, were written, and the rest begins after them
    onward : (xs : List ℕ) {after : ℕ} {w₁ : Writer} → at ≤ after → after ≤ end
        → length xs ≤ 255 + (after - at)
        → Writes w (text xs) w₁
        → pieces_at s l start end i at ≡ before xs (pieces_at s l start end (i + 1) after)
        → form_at s l start end i at ≡ xs ++ form_at s l start end (i + 1) after
        → LayoutLoop text s l start end w₀ (i + 1) after w₁
    onward xs h k j v f g =
        record {
          within = k;
          place =
              let m = narrow_long width (length xs) laws.narrow in
              omega (arith, o.place, v.wrote.place, laws.sized xs);
          rest = λ w' r t. (rw (f, g) at o.rest) w' r (puts_before laws _ xs v t);
        }

  -- n octets as they are
  module _ {n : ℕ} (q : drop i l ≡ fixed n ∷ drop (i + 1) l) where
    -- RDATA ends before them
    pub loop_short : end - at < n
        → PutsForm text (pieces true l s start end start) (pieces_form l s start end start) w₀ w (Err (Short start))
    unfolding pieces pieces_form
    loop_short k =
        (rw (q, lt-ltb end (at + n) (omega (arith, o.within))) at o.rest) w (Err (Short start)) (puts_none laws refl)

    pub loop_part : {after : ℕ} {w₁ : Writer} → n ≤ end - at → after ≡ at + n → end ≤ length s
        → Writes w (text (part s at (after - at))) w₁ → LayoutLoop text s l start end w₀ (i + 1) after w₁
    unfolding pieces pieces_form
    loop_part {after} k e j v =
        let d : after - at ≡ n = omega (arith, e) in
        let t = length-take (after - at) (drop at s) in
        onward q (part s at (after - at)) (omega (arith, e)) (omega (arith, e, o.within)) (omega (arith, t)) v
        (rw (q, le-ltb end (at + n) (omega (arith, o.within)), d, e))
        (rw (q, le-ltb end (at + n) (omega (arith, o.within)), d, e))

  -- a name
  module _ (q : drop i l ≡ name ∷ drop (i + 1) l) where
    pub loop_faulty : {f : Fault} → Err f ≡ name_read (name_at s (rdata start end) at)
        → PutsForm text (pieces true l s start end start) (pieces_form l s start end start) w₀ w (Err f)
    unfolding pieces pieces_form
    loop_faulty {f} e =
        faulty_case (λ f x. name_at s (rdata start end) at ≡ x
        → PutsForm text (pieces true l s start end start) (pieces_form l s start end start) w₀ w (Err f))
        (λ fault x. (rw (q, x, pieces, pieces_form) at o.rest) w (Err _) (puts_none laws refl)) _ e refl

    pub loop_name : {form : List ℕ} {after : ℕ} {w₁ : Writer} → end ≤ length s
        → Ok (form, after) ≡ name_read (name_at s (rdata start end) at)
        → Writes w (text form) w₁ → LayoutLoop text s l start end w₀ (i + 1) after w₁
    unfolding pieces pieces_form
    loop_name {w₁ = w₁} h e v =
        named_case (λ form after x. name_at s (rdata start end) at ≡ x → Writes w (text form) w₁
        → LayoutLoop text s l start end w₀ (i + 1) after w₁)
        (λ m after x v.
        let k = read_sized s (rdata start end) at at m after h x in
        onward q (name_form m) (omega (arith, k.2)) k.3 (omega (arith, k.1)) v (rw (q, x, pieces))
        (rw (q, x, pieces_form)))
        _ e refl v

-- ---- the whole of RDATA
module _ {text : List ℕ → List ℕ} (s : List ℕ) (type at size : ℕ) {w w' : Writer} where
  -- of a listed TYPE, by its layout
  pub puts_listed : {l : List Piece} {end : ℕ} {r : Result (Unit {0}) Fault} → layout_of type ≡ some l
      → end ≡ at + size → at < end
      → PutsForm text (pieces true l s at end at) (pieces_form l s at end at) w w' r
      → PutsRdata text s type at size w w' r
  unfolding rdata_at rdata_form layout_in
  puts_listed e v k p = rw (ne_eqb size 0 (λ z. omega arith), e, rdata_at, ← v) p

  -- of another TYPE, or of no octets, as it is
  pub puts_plain : {d : List ℕ} → (0 < size → layout_of type ≡ none) → d ≡ part s at size
      → Writes w (text d) w' → PutsRdata text s type at size w w' (Ok tt)
  unfolding rdata_form layout_in rdata_at pieces_form
  puts_plain free f v = go (eqb size 0) refl (rw f at v)
    where
      go : (t : Bool) → eqb size 0 ≡ t → Writes w (text (part s at size)) w'
          → PutsRdata text s type at size w w' (Ok tt)
      go true z v = record { wrote = rw z (rw (eqb-true size 0 z) at v); answer = rw z }
      go false z v =
          let some : 0 < size = let k = eqb-false size 0 z in omega arith in
          let end = at + size in
          record {
            wrote = rw (z, free some, le-ltb end end (omega arith), append-nil (part s at size)) v;
            answer = rw (z, free some, rdata_at);
          }
