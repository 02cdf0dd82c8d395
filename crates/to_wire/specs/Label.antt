-- A label of a text, and its octets in a message.
use Rattle.std.specs.Prelude.{◌≡◌, refl, List, [], ◌∷◌, ◌++◌, ℕ, ◌+◌, ◌-◌, ◌≤◌, ◌<◌, length, drop, Result, MatchResult}
use Rattle.std.specs.Prelude.{Ok, Err}
use Rattle.std.proofs.Common.{sym, ◌∙◌, append_assoc, arith, length-append}
use Rattle.octets.specs.Parsed.{Parsed, parsed, failed, and_then, strip}
use Rattle.octets.specs.Codec.{Avoids, Codec, many1}
use Rattle.octets.specs.Overlay.{Wrote, then, nothing, wrote_before, same_long}
use Rattle.names.specs.Ways.{label_form}
use Rattle.spelling.specs.Spelling.{plain?, spelled}
use Rattle.strict.specs.Spelt.{spelled_at, spelled_octet, spelled_avoids, label}
use Rattle.parse_tokens.specs.Many.{run_of, many_once, Going, going_start, going_end}
use Rattle.parse_tokens.specs.Place.{At, no_strip}
use Rattle.parse_octets.specs.declared.Letter.{Letter}
use Rattle.parse_octets.specs.Octet.{Reads, StopsAt}

-- ---- one at least, and the octet that ends them
module _ {A : Type 0} {I : A → Type 0} {f : A → List ℕ} {F : List ℕ
    → Type 0} (p : Codec I f F) (stop : ℕ) (avoids : Avoids I f stop) (empty : p.parse [] ≡ failed [])
    (fits₁ : (r : List ℕ) → F (stop ∷ r)) (fits₂ : (b : A) (r : List ℕ) → I b → F (f b ++ r)) where
  abbrev pub some_of : List ℕ → Parsed (List A)
  some_of = (many1 avoids fits₁ fits₂ p).parse

  -- where that octet does not stand at the front: any number
  several_run : (t w : List ℕ) → strip (stop ∷ []) t ≡ failed w → some_of t ≡ run_of stop p t
  several_run t w e = sym (many_once p stop avoids empty t ∙ rw e (go (p.parse t)))
    where
      rest : (a : A) (o : Parsed (List A))
          → and_then o (λ l r. parsed (a ∷ l) r) ≡ and_then {A = A × List A} (and_then o λ l r. parsed (a, l) r)
          (λ u r. parsed (u.0 ∷ u.1) r)
      rest a (parsed l r) = refl
      rest a (failed v) = refl

      go : (o : Parsed A) → and_then o (λ a w. and_then (run_of stop p w) λ l r. parsed (a ∷ l) r)
          ≡ and_then {A = A × List A} (and_then o λ a w. and_then (run_of stop p w) λ l r. parsed (a, l) r)
          (λ u r. parsed (u.0 ∷ u.1) r)
      go (parsed a w) = rest a (run_of stop p w)
      go (failed v) = refl

  -- one after another; before each, one at least is still to come
  module _ {t : List ℕ} {v : Parsed (List A)} {at : ℕ} {l : List A} (g : Going some_of t v at l) where
    pub some_stop : {w : List ℕ} → p.parse (drop at t) ≡ failed w → v ≡ failed w
    some_stop e = g.goes ∙ rw e

    module _ {a : A} {n : ℕ} (e : p.parse (drop at t) ≡ parsed a (drop n t)) where
      next : Going (run_of stop p) t v n (l ++ (a ∷ []))
      next = record { goes = g.goes ∙ rw e (go (run_of stop p (drop n t))) }
        where
          go : (o : Parsed (List A))
              → and_then (and_then {A = A × List A} (and_then o λ l r. parsed (a, l) r) (λ u r. parsed (u.0 ∷ u.1) r))
              (λ u r. parsed (l ++ u) r)
              ≡ and_then o (λ u r. parsed ((l ++ (a ∷ [])) ++ u) r)
          go (parsed u r) = rw append_assoc
          go (failed u) = refl

      pub some_end : At t n stop → v ≡ parsed (l ++ (a ∷ [])) (drop (n + 1) t)
      some_end h = going_end p stop avoids empty next h.inside h.is

      pub some_more : (At t n stop → ⊥) → Going some_of t v n (l ++ (a ∷ []))
      some_more d = record {
        goes = rw (several_run (drop n t) (drop n t) (no_strip stop [] d)) next.goes;
      }

-- the parser stops at a place
pub record Stopped {A : Type 0} (p : List ℕ → Parsed A) (t : List ℕ) (start n : ℕ) : Type 0 where
  pub is : p (drop start t) ≡ failed (drop n t)
  pub onward : start ≤ n
  pub within : n ≤ length t

-- ---- the octets of a label, and the dot
pub dotless : Avoids (λ x. x < 256) spelled 46
unfolding plain?
dotless = spelled_avoids 46 tt tt

octet_empty : spelled_octet.parse [] ≡ failed []
unfolding spelled_octet spelled_at
octet_empty = refl

pub label_empty : label.parse [] ≡ failed []
unfolding label spelled_octet spelled_at
label_empty = refl

-- a label was read up to r.0; its size is r.1, and it was written from `to` on, unless it is too long
pub record Lettered (t : List ℕ) (start : ℕ) (b : List ℕ) (to : ℕ) (b' : List ℕ) (r : ℕ × ℕ) : Type 0 where
  pub l : List ℕ
  pub is : label.parse (drop start t) ≡ parsed l (drop r.0 t)
  pub size : r.1 ≡ length l
  pub wrote : r.1 ≤ 63 → Wrote b to (label_form l) b' (to + 1 + r.1)
  pub onward : start + 2 ≤ r.0
  pub within : r.0 ≤ length t

pub record LabelAt (t : List ℕ) (start : ℕ) (b : List ℕ) (to : ℕ) (r : Result (ℕ × ℕ) ℕ) (b' : List ℕ) : Type 0 where
  pub tells : MatchResult r (Lettered t start b to b') (Stopped label.parse t start)
  pub long : length b' ≡ length b

-- the octet `v` is n places after `to`, unless n is more than 63
pub record Stored (b : List ℕ) (to n v : ℕ) (b' : List ℕ) : Type 0 where
  pub wrote : n ≤ 63 → Wrote b (to + n) (v ∷ []) b' (to + n + 1)
  pub long : length b' ≡ length b

pub stored_not : (b : List ℕ) (to n v : ℕ) → (n ≤ 63 → ⊥) → Stored b to n v b
stored_not b to n v h = record { wrote = λ k. absurd (h k); long = refl }

pub stored : {b b' : List ℕ} {to n v r : ℕ} → Wrote b (to + n) (v ∷ []) b' r → Stored b to n v b'
stored w = record { wrote = λ k. record { place = refl; text = w.text }; long = same_long w }

-- for `store`
pub ruleset store_steps = (stored_not, stored)

-- n octets so far, which stand after the place of the length
pub record Letters (t : List ℕ) (start : ℕ) (b : List ℕ) (to at n : ℕ) (out : List ℕ) : Type 0 where
  pub l : List ℕ
  pub goes : Going label.parse t (label.parse (drop start t)) at l
  pub size : n ≡ length l
  pub wrote : n ≤ 63 → Wrote b (to + 1) l out (to + 1 + n)
  pub within : at ≤ length t
  pub onward : start + n ≤ at
  pub long : length out ≡ length b

pub letters_start : {t : List ℕ} {start : ℕ} (b : List ℕ) (to : ℕ) → start ≤ length t → Letters t start b to start 0 b
letters_start {t} {start} b to h = record {
  l = [];
  goes = going_start label.parse t start;
  size = refl;
  wrote = λ k. record { place = omega arith; text = (nothing b (to + 1)).text };
  within = h;
  onward = omega arith;
  long = refl;
}

module _ {t : List ℕ} {start : ℕ} {b : List ℕ} {to at n : ℕ} {out : List ℕ} (w : Letters t start b to at n out) where
  -- no octet
  pub letters_stop : {m : ℕ} → StopsAt spelled_at t at m → LabelAt t start b to (Err m) out
  unfolding label spelled_octet
  letters_stop q = record {
    tells = record {
      is = some_stop spelled_octet 46 dotless octet_empty (λ r. tt) (λ b r h. tt) w.goes q.is;
      onward = omega (arith, w.onward, q.onward);
      within = q.within;
    };
    long = w.long;
  }

  -- one octet more
  module _ {o : Letter} (q : Reads spelled_at t at o) {out' : List ℕ} (s : Stored out to (n + 1) o.value out') where
    pub letters_less : length t - o.at < length t - at
    letters_less = omega (arith, q.onward, q.within)

    wrote_more : n + 1 ≤ 63 → Wrote b (to + 1) (w.l ++ (o.value ∷ [])) out' (to + 1 + (n + 1))
    wrote_more k =
        let z : to + (n + 1) ≡ to + 1 + n = omega arith in
        let y : to + 1 + n + 1 ≡ to + 1 + (n + 1) = omega arith in
        rw (← y) (then (w.wrote (omega arith)) (rw z at (s.wrote k)))

    pub letters_more : (At t o.at 46 → ⊥) → Letters t start b to o.at (n + 1) out'
    unfolding label spelled_octet
    letters_more d = record {
      l = w.l ++ (o.value ∷ []);
      goes = some_more spelled_octet 46 dotless octet_empty (λ r. tt) (λ b r h. tt) w.goes q.is d;
      size = rw length-append (omega (arith, w.size));
      wrote = wrote_more;
      within = q.within;
      onward = omega (arith, w.onward, q.onward);
      long = s.long ∙ w.long;
    }

    -- the dot after them
    module _ (d : At t o.at 46) where
      ends : label.parse (drop start t) ≡ parsed (w.l ++ (o.value ∷ [])) (drop (o.at + 1) t)
      unfolding label spelled_octet
      ends = some_end spelled_octet 46 dotless octet_empty (λ r. tt) (λ b r h. tt) w.goes q.is d

      lettered : {b' : List ℕ}
          → (n + 1 ≤ 63 → Wrote b to (label_form (w.l ++ (o.value ∷ []))) b' (to + 1 + (n + 1)))
          → Lettered t start b to b' (o.at + 1, n + 1)
      lettered k = record {
        l = w.l ++ (o.value ∷ []);
        is = ends;
        size = rw length-append (omega (arith, w.size));
        wrote = k;
        onward = omega (arith, w.onward, q.onward);
        within = omega (arith, d.inside);
      }

      pub letters_long : (n + 1 ≤ 63 → ⊥) → LabelAt t start b to (Ok (o.at + 1, n + 1)) out'
      letters_long k = record { tells = lettered λ h. absurd (k h); long = s.long ∙ w.long }

      pub letters_end : {b' : List ℕ} {m : ℕ} → Wrote out' to ((n + 1) ∷ []) b' m
          → LabelAt t start b to (Ok (o.at + 1, n + 1)) b'
      letters_end v = record {
        tells = lettered λ h.
            let z : n + 1 ≡ length (w.l ++ (o.value ∷ [])) = rw length-append (omega (arith, w.size)) in
            rw (← z) (wrote_before (omega arith) (wrote_more h) v);
        long = same_long v ∙ s.long ∙ w.long;
      }

-- for `label_at`
pub ruleset label_steps = (letters_start, letters_less, letters_more)
