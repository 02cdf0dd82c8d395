-- The kept line: octets that join it, and the answer to what is kept.
use mathlib.Core.Path.{◌≡◌, sym, ap, ◌∙◌}
use mathlib.Core.List.{List, ◌++◌, append_assoc}
use Prim.Native.Nat.{ℕ, ◌+◌, ◌-◌, ◌≤◌, ◌<◌}
use native.Mathlib.Omega.{arith}
use lib.ListN.{length, take, drop, length-append, length-drop, take-append-drop}
use lib.Seq.{take_all, take_at, take-append-add, length-take-le, drop-append-le, drop-drop}
use Rattle.octets.specs.Overlay.{Wrote, overlay_fits, overlay_first}
use Rattle.line_answers.specs.Answers.{printed, refusal_line, within_line}
use Rattle.line_answers.specs.Answers.{text_answer, text_line, wire_answer, wire_line}
use Rattle.lines.specs.Programs.{most_kept}
use Rattle.std.specs.Prelude.{refl, Bool, true, false, leb, min}
use Rattle.std.proofs.Common.{lt-ltb, leb-true, leb-false}

-- ---- the octets after those that are kept don't matter
limited_kept : (most cap : ℕ) (answer : List ℕ → List ℕ) (s : List ℕ) → most < cap
    → within_line most answer (take cap s) ≡ within_line most answer s
unfolding within_line
limited_kept most cap answer s k = go (leb (length s) cap) refl
  where
    over : (l : List ℕ) → most < length l → within_line most answer l ≡ refusal_line 31 0
    over l h = rw (lt-ltb most (length l) h)

    go : (b : Bool) → leb (length s) cap ≡ b → within_line most answer (take cap s) ≡ within_line most answer s
    go true e = rw (take_all cap s (leb-true _ _ e))
    go false e =
        let h : cap < length s = leb-false (length s) cap e in
        let n : length (take cap s) ≡ cap = length-take-le cap s (omega arith) in
        over (take cap s) (omega arith) ∙ sym (over s (omega arith))

pub answer_kept : (most : ℕ) (answer : List ℕ → List ℕ) → most ≤ 65536 → (s : List ℕ)
    → within_line most answer (take most_kept s) ≡ within_line most answer s
answer_kept most answer h s = limited_kept most most_kept answer s (omega arith)

-- of each program
pub text_kept : (s : List ℕ) → text_line (take most_kept s) ≡ text_line s
unfolding text_line
text_kept = answer_kept 8192 text_answer (omega arith)

pub wire_kept : (s : List ℕ) → wire_line (take most_kept s) ≡ wire_line s
unfolding wire_line
wire_kept = answer_kept 65536 wire_answer (omega arith)

-- ---- octets that join a line
take_min : (k n : ℕ) (xs : List ℕ) → n ≡ min (length xs) k → take n xs ≡ take k xs
take_min k n xs e = go (leb (length xs) k) refl
  where
    go : (b : Bool) → leb (length xs) k ≡ b → take n xs ≡ take k xs
    go true q =
        let h : length xs ≤ k = leb-true _ _ q in
        take_all n xs (omega arith) ∙ sym (take_all k xs h)
    go false q =
        let h : k < length xs = leb-false (length xs) k q in
        let m : n ≡ k = omega arith in
        rw m

-- as many as there is room for
pub joined : (buffer : List ℕ) (used most : ℕ) → used ≤ most → length buffer ≡ most → (xs : List ℕ) {n : ℕ}
    → n ≡ min (length xs) (most - used) → {buffer' : List ℕ} {r : ℕ} → Wrote buffer used (take n xs) buffer' r
    → take r buffer' ≡ take most (take used buffer ++ xs)
joined buffer used most h long xs {n} e {buffer'} {r} w =
    let few : length (take n xs) ≡ n = length-take-le n xs (omega arith) in
    let before : length (take used buffer) ≡ used = length-take-le used buffer (omega arith) in
    let all : length (take used buffer ++ take n xs) ≡ r =
    omega (arith, length-append (take used buffer) (take n xs), w.place) in
    let m : length (take used buffer) + (most - used) ≡ most = omega arith in
    rw (w.text, overlay_fits buffer used (take n xs) (omega arith)) (take_at (take used buffer ++ take n xs) _ r all)
    ∙ ap (λ l. take used buffer ++ l) (take_min (most - used) n xs e)
    ∙ sym (take-append-add (take used buffer) xs (most - used)) ∙ ap (λ k. take k (take used buffer ++ xs)) m

-- ---- the answer to a line of which the first octets are kept
pub answer_first : (most : ℕ) (answer : List ℕ → List ℕ) → most ≤ 65536 → (l : List ℕ) {t t' : List ℕ} {r : ℕ}
    → Wrote t 0 (printed (within_line most answer) (take most_kept l)) t' r
    → Wrote t 0 (printed (within_line most answer) l) t' r
unfolding printed
answer_first most answer h l w = rw (answer_kept most answer h l) at w

-- ---- a text written to a part of a buffer
pub part_wrote : (b : List ℕ) (to n : ℕ) (xs : List ℕ) {t : List ℕ} {r : ℕ} → to + n ≤ length b → length xs ≤ n
    → Wrote (take n (drop to b)) 0 xs t r → Wrote b to xs (take to b ++ (t ++ drop n (drop to b))) (to + r)
part_wrote b to n xs {t} {r} h k w =
    let p = take n (drop to b) in
    let l : length p ≡ n = length-take-le n (drop to b) (omega (arith, length-drop to b)) in
    let s : t ≡ xs ++ drop (length xs) p = w.text ∙ overlay_first p xs (omega arith) in
    let d : drop (length xs) p ++ drop n (drop to b) ≡ drop (to + length xs) b =
    sym (drop-append-le (length xs) p (drop n (drop to b)) (omega arith))
    ∙ ap (drop (length xs)) (take-append-drop n (drop to b)) ∙ drop-drop (length xs) to b in
    record {
      place = omega (arith, w.place);
      text = rw (s, append_assoc, d, overlay_fits b to xs (omega arith), append_assoc);
    }
