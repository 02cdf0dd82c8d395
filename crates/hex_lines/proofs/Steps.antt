-- The octets of a line, two digits a turn.
use Rattle.std.specs.Prelude.{◌≡◌, refl, true, false, ◌&&◌, List, [], ◌∷◌, ◌++◌, ℕ, suc, ◌+◌, ◌-◌, ◌*◌, ◌%◌, ◌≤◌, ◌<◌, length, get_or, take, drop}
use Rattle.std.specs.Prelude.{Option, None, Some, is_some, IsSome}
use Rattle.std.specs.List.{list_all}
use Rattle.std.specs.Char.{is_ascii_hexdigit}
use Rattle.std.proofs.Math.Seq.{take-append_seam}
use Rattle.std.proofs.Common.{sym, ap, ◌∙◌, append_assoc, append-nil, arith, length-drop, take_all}
use Rattle.octets.specs.Overlay.{Wrote, nothing, then, overlay_first}
use Rattle.hex_lines.specs.Hex.{hex_value, octet_then, unhexed, hex_answer, hex_left, Spells, Unhexed}

-- octets before those of the rest, if it has any
abbrev pub octets_then : List ℕ → Option (List ℕ) → Option (List ℕ)
octets_then octets None = None
octets_then octets (Some more) = Some (octets ++ more)

-- the octets so far are written, and those of the rest make the whole
pub record Spelling (line rest before after : List ℕ) (n : ℕ) : Type 0 where
  pub octets : List ℕ
  pub whole : unhexed line ≡ octets_then octets (unhexed rest)
  pub wrote : Wrote before 0 octets after n

pub spelling_start : (line b : List ℕ) → Spelling line line b b 0
spelling_start line b = record { octets = []; whole = go (unhexed line); wrote = nothing b 0 }
  where
    go : (o : Option (List ℕ)) → o ≡ octets_then [] o
    go None = refl
    go (Some l) = refl

-- the next two digits
two_more : (s : List ℕ) → 2 ≤ length s
    → unhexed s ≡ octet_then (hex_value (get_or s 0 0)) (hex_value (get_or s 1 0)) (unhexed (drop 2 s))
unfolding unhexed
two_more [] h = absurd (omega arith)
two_more (c ∷ []) h = absurd (omega arith)
two_more (c ∷ d ∷ s) h = refl

one_octet : (octets : List ℕ) (v w : ℕ) (o : Option (List ℕ))
    → octets_then octets (octet_then (Some v) (Some w) o) ≡ octets_then (octets ++ (v * 16 + w) ∷ []) o
one_octet octets v w None = refl
one_octet octets v w (Some l) = ap Some (sym (append_assoc octets ((v * 16 + w) ∷ []) l))

-- ---- whether a line has octets
-- the test of std is whether an octet has a value
hexdigit_is : (c : ℕ) → is_ascii_hexdigit c ≡ is_some (hex_value c)
unfolding hex_value
hexdigit_is c = grind arith

-- the octet of two digits has octets after it or not
is_some_then : (v w : Option ℕ) (o : Option (List ℕ))
    → is_some (octet_then v w o) ≡ (is_some v && (is_some w && is_some o))
is_some_then None w o = refl
is_some_then (Some v) None o = refl
is_some_then (Some v) (Some w) None = refl
is_some_then (Some v) (Some w) (Some o) = refl

-- an even number of octets, each a digit
pub digits_spell : (l : List ℕ) → length l % 2 ≡ 0
    → list_all is_ascii_hexdigit l ≡ is_some (unhexed l)
unfolding unhexed
digits_spell [] h = refl
digits_spell (c ∷ []) h = absurd (omega arith)
digits_spell (c ∷ d ∷ l) h =
    let e : length l % 2 ≡ 0 = omega arith in
    rw (is_some_then (hex_value c) (hex_value d) (unhexed l), hexdigit_is c, hexdigit_is d, digits_spell l e)

-- an odd number has none
pub odd_none : (l : List ℕ) → (length l % 2 ≡ 0 → ⊥) → is_some (unhexed l) ≡ false
unfolding unhexed
odd_none [] h = absurd (h refl)
odd_none (c ∷ []) h = refl
odd_none (c ∷ d ∷ l) h = go (hex_value c) (hex_value d) (unhexed l) (odd_none l λ e. h (omega arith))
  where
    go : (v w : Option ℕ) (o : Option (List ℕ)) → is_some o ≡ false → is_some (octet_then v w o) ≡ false
    go None w o e = refl
    go (Some v) None o e = refl
    go (Some v) (Some w) None e = refl
    go (Some v) (Some w) (Some o) e = cc

-- ---- a turn
module _ {line rest before after : List ℕ} {n : ℕ} (some : is_some (unhexed line) ≡ true)
    (p : Spelling line rest before after n) where
  -- the rest has octets too
  rest_some : is_some (unhexed rest) ≡ true
  rest_some = go (unhexed rest) (rw p.whole at some)
    where
      go : (o : Option (List ℕ)) → is_some (octets_then p.octets o) ≡ true → is_some o ≡ true
      go None e = e
      go (Some l) e = refl

  module _ (h : 2 ≤ length rest) where
    -- two digits come first
    pub two_digits : IsSome (hex_value (get_or rest 0 0)) × IsSome (hex_value (get_or rest 1 0))
    two_digits = go (hex_value (get_or rest 0 0)) (hex_value (get_or rest 1 0)) (unhexed (drop 2 rest))
        (rw (two_more rest h) at rest_some)
      where
        go : (v w : Option ℕ) (o : Option (List ℕ)) → is_some (octet_then v w o) ≡ true → IsSome v × IsSome w
        go None w o e = cc
        go (Some v) None o e = cc
        go (Some v) (Some w) o e = (refl, refl)

    -- one octet
    pub spelling_more : {v w : ℕ} {after' : List ℕ} {to : ℕ} → hex_value (get_or rest 0 0) ≡ Some v
        → hex_value (get_or rest 1 0) ≡ Some w → Wrote after n ((v * 16 + w) ∷ []) after' to
        → Spelling line (take (length rest - 2) (drop 2 rest)) before after' to
    spelling_more {v} {w} d e q =
        let z : take (length rest - 2) (drop 2 rest) ≡ drop 2 rest =
        take_all _ (drop 2 rest) (omega (arith, length-drop 2 rest)) in
        record {
          octets = p.octets ++ (v * 16 + w) ∷ [];
          whole = p.whole ∙ rw (z, two_more rest h, d, e) (one_octet p.octets v w (unhexed (drop 2 rest)));
          wrote = then p.wrote q;
        }

  -- the end
  pub spelled_all : length rest < 2 → Spells line before after n
  unfolding unhexed
  spelled_all h = go rest h rest_some p.whole
    where
      go : (l : List ℕ) → length l < 2 → is_some (unhexed l) ≡ true
          → unhexed line ≡ octets_then p.octets (unhexed l)
          → Spells line before after n
      go [] h k e = record { octets = p.octets; spelled = e ∙ ap Some (append-nil p.octets); wrote = p.wrote }
      go (c ∷ []) h k e = cc
      go (c ∷ d ∷ l) h k e = absurd (omega arith)

-- ---- the ways to the answer
-- two digits an octet
digits_of : (l : List ℕ) {octets : List ℕ} → unhexed l ≡ Some octets → length l ≡ 2 * length octets
unfolding unhexed
digits_of [] e = cc
digits_of (c ∷ []) e = cc
digits_of (c ∷ d ∷ l) {octets} e =
    go (hex_value c) (hex_value d) (unhexed l) octets (λ m k. digits_of l k) e
  where
    go : (v w : Option ℕ) (o : Option (List ℕ)) (m : List ℕ) → ((n : List ℕ) → o ≡ Some n → length l ≡ 2 * length n)
        → octet_then v w o ≡ Some m → suc (suc (length l)) ≡ 2 * length m
    go (Some v) (Some w) (Some o) m q e =
        let k : ((v * 16 + w) ∷ o) ≡ m = cc in
        rw (← k) (omega (arith, q o refl))
    go (Some v) (Some w) None m q e = cc
    go (Some v) None o m q e = cc
    go None w o m q e = cc

-- the octets of a line that has some, and their number
module _ {line before after : List ℕ} {n : ℕ} (h : length line ≤ 2 * length before)
    (found : Spells line before after n) where
  pub spelled_within : n ≤ length before
  spelled_within = omega (arith, found.wrote.place, digits_of line found.spelled)

  pub spelled_some : Unhexed line before (Some n) after
  spelled_some =
      let e = found.spelled in
      let room : length found.octets ≤ length before = omega (arith, digits_of line e) in
      let k : n ≡ length found.octets = omega (arith, found.wrote.place) in
      record { answers = rw e (ap Some k); leaves = rw e (found.wrote.text ∙ overlay_first before found.octets room) }

-- ---- what follows of the answer
module _ {line before after : List ℕ} where
  -- the line has no octets
  pub read_none : Unhexed line before None after → unhexed line ≡ None
  read_none u = go (unhexed line) u.answers
    where
      go : (o : Option (List ℕ)) → None ≡ hex_answer o → o ≡ None
      go None e = refl
      go (Some l) e = cc

  -- its octets are the first n of the buffer
  pub read_octets : {n : ℕ} → Unhexed line before (Some n) after → unhexed line ≡ Some (take n after)
  read_octets {n} u = go (unhexed line) u.answers u.leaves
    where
      go : (o : Option (List ℕ)) → Some n ≡ hex_answer o → after ≡ hex_left o before → o ≡ Some (take n after)
      go None e q = cc
      go (Some l) e q =
          let k : n ≡ length l = cc in
          rw (q, k) (ap Some (sym (take-append_seam l (drop (length l) before))))
