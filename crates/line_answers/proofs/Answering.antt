-- The answer to a line of `totext`, by the ways through the code.
use Rattle.std.specs.Prelude.{None, Some}
use mathlib.Core.Path.{◌≡◌, sym, ap, ◌∙◌, subst}
use mathlib.Core.List.{List, ◌++◌, append_assoc}
use Prim.Native.Nat.{ℕ, ◌≤◌}
use native.Mathlib.Omega.{arith}
use lib.ListN.{length, take, drop, take-append-drop}
use lib.Seq.{drop-append-le, length-take-le}
use Rattle.octets.specs.Overlay.{overlay_first, Wrote}
use Rattle.octets.specs.Answer.{Answer, success, refusal, overwritten}
use Rattle.octets.specs.Calls.{Gives}
use Rattle.json_text.specs.Converted.{converted, to_text}
use Rattle.hex_lines.specs.Hex.{Unhexed}
use Rattle.hex_lines.proofs.Steps.{read_none, read_octets}
use Rattle.line_answers.specs.Answers.{refusal_line, answer_text, as_text, text_answer}
use Rattle.line_answers.proofs.Places.{message_place}
use Rattle.line_answers.proofs.Calls.{Told, told, told_by, call_line, told_line}

-- ---- the converter's answer
-- what `totext` prints for a message is what a call reports and leaves, whatever its buffer of that length held
pub call_line_lem : (s b : List ℕ)
    → call_line as_text (to_text s b).answer (to_text s b).buffer ≡ answer_text as_text (length b) 10 (converted s)
unfolding to_text
call_line_lem s b = told_line as_text (to_text s b).answer _ b (to_text s b).buffer (told as_text 10 (converted s) b)

-- ---- the ways to an answer
-- a message: its text
module _ (s b : List ℕ) (k : length b ≡ 65537) where
  room : length (take 65536 b) ≡ 65536
  room = length-take-le 65536 b (omega arith)

  told_here : {a : Answer} {t : List ℕ} → Gives (to_text s (take 65536 b)) a t
      → Told as_text a (answer_text as_text 65536 10 (converted s)) (take 65536 b) t
  unfolding to_text
  told_here {a} {t} p =
      let x : ℕ → List ℕ = λ n. answer_text as_text n 10 (converted s) in
      subst (λ l. Told as_text a l (take 65536 b) t) (ap x room) (told_by as_text 10 (converted s) (take 65536 b) p)

  written : {size : ℕ} {t : List ℕ} (x : List ℕ) → size ≡ length x → size ≤ length (take 65536 b)
      → t ≡ overwritten x (take 65536 b) → Wrote b 0 x (t ++ drop 65536 b) size
  written x n h g =
      let l = room in
      let d : drop (length x) (take 65536 b) ++ drop 65536 b ≡ drop (length x) b =
      sym (drop-append-le (length x) (take 65536 b) (drop 65536 b) (omega arith))
      ∙ ap (drop (length x)) (take-append-drop 65536 b) in
      record { place = omega arith; text = rw (g, append_assoc, d) (sym (overlay_first b x (omega arith))) }

  module _ {size : ℕ} {t : List ℕ} (p : Gives (to_text s (take 65536 b)) (success size) t) where
    pub text_wrote : Wrote b 0 (answer_text as_text 65536 10 (converted s)) (t ++ drop 65536 b) size
    text_wrote = let (x, q, n, h, g) = told_here p in rw q (written x n h g)

    pub text-within : size ≤ 65536
    text-within = let (x, q, n, h, g) = told_here p in omega (arith, room)

  -- or its refusal
  module _ {number place : ℕ} {t : List ℕ} (p : Gives (to_text s (take 65536 b)) (refusal number place) t) where
    pub refused_answer : {b' : List ℕ} {r : ℕ} → Wrote (t ++ drop 65536 b) 0 (refusal_line number place) b' r
        → Wrote b 0 (answer_text as_text 65536 10 (converted s)) b' r
    refused_answer w =
        let q = told_here p in
        let same : t ++ drop 65536 b ≡ b = rw q.1 (take-append-drop 65536 b) in
        rw q.0 (rw same at w)

    pub place_below : length s ≤ 4096 → place ≤ 4096
    place_below h = omega (arith, message_place s (take 65536 b) p)

-- a line that is not hexadecimal
pub bad_answer : (s : List ℕ) {m m' : List ℕ} → Unhexed s m None m' → {b b' : List ℕ} {r : ℕ}
    → Wrote b 0 (refusal_line 30 0) b' r → Wrote b 0 (text_answer s) b' r
bad_answer s u w = rw (read_none u) w

-- a message
pub read_answer : (s : List ℕ) {m m' : List ℕ} {n : ℕ} → Unhexed s m (Some n) m' → {b b' : List ℕ} {r : ℕ}
    → Wrote b 0 (answer_text as_text 65536 10 (converted (take n m'))) b' r → Wrote b 0 (text_answer s) b' r
read_answer s u w = rw (read_octets u) w
