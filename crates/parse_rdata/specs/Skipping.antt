-- The code's walk over a name in octets by themselves, where no pointer is taken: only the lengths of labels are read.
use Rattle.std.specs.Prelude.{◌≡◌, refl, List, ℕ, ◌+◌, ◌≤◌, ◌<◌, length, get_or, Option, None, Some}
use Rattle.std.proofs.Common.{sym, ap, ◌∙◌, arith}
use Rattle.octets.specs.Loops.{Remains}
use Rattle.names.specs.Walk.{part, rdata, Named, named, faulty, labelled, name_from}
use Rattle.names.specs.NameLaws.{read_sized}
use Rattle.names.specs.Steps.{walk_on, name-walk, LengthOctet, step_past, step_root, step_cut, step_long, step_label}
use Rattle.names.specs.Steps.{step_none}

-- where a name ends, if there is one
abbrev pub skipped : Named → Option ℕ
skipped (named n next) = Some next
skipped (faulty fault) = None

-- the name at a place of octets by themselves, without pointers
unfoldable pub name_end : List ℕ → ℕ → Option ℕ
name_end s at = skipped (name_from s (rdata 0 (length s)) 0 at)

-- it ends within them
pub name_ends : (s : List ℕ) (at : ℕ) {next : ℕ} → Some next ≡ name_end s at → next ≤ length s
unfolding name_end
name_ends s at {next} p = go (name_from s (rdata 0 (length s)) 0 at) refl p
  where
    go : (w : Named) → name_from s (rdata 0 (length s)) 0 at ≡ w → Some next ≡ skipped w → next ≤ length s
    go (named n i) e f =
        let same : i ≡ next = cc in
        let k = read_sized s (rdata 0 (length s)) 0 at n i (omega arith) e in
        omega (arith, k.3)
    go (faulty fault) e f = cc

-- where the walk ends from the length octet at `at` on; `total` counts the octets of the labels so far
abbrev pub skipped_from : List ℕ → ℕ → ℕ → Option ℕ
skipped_from s total at = skipped (walk_on s (rdata 0 (length s)) 0 total at)

pub from_start : (s : List ℕ) (at : ℕ) → Remains (name_end s at) (skipped_from s 0 at)
unfolding name_end
from_start s at = record { goes = ap skipped (name-walk s (rdata 0 (length s)) 0 at) }

-- after a label
skipped-label : (l : List ℕ) (w : Named) → skipped (labelled l w) ≡ skipped w
skipped-label l (named n next) = refl
skipped-label l (faulty fault) = refl

module _ (s : List ℕ) {v : Option ℕ} (total at : ℕ) (w : Remains v (skipped_from s total at)) {size : ℕ}
    (b : size ≡ length s) where
  -- the length octet is past the end
  pub skip_past : size ≤ at → None ≡ v
  skip_past h = sym (w.goes ∙ ap skipped (step_past s (rdata 0 (length s)) 0 total at (omega arith)))

  -- x is the length octet, as a number
  module _ (h : at < size) {x y : ℕ} (g : x ≡ y) (e : y ≡ get_or s at 0) where
    here : LengthOctet s (rdata 0 (length s)) at x
    here = record { within = omega arith; octet = g ∙ e }

    -- the root octet
    pub skip_root : x ≡ 0 → Some (at + 1) ≡ v
    skip_root p = sym (w.goes ∙ ap skipped (step_root here 0 total p))

    -- top bits 01, 10 or 11
    pub skip_bits : 63 < x → None ≡ v
    skip_bits c = sym (w.goes ∙ ap skipped (step_none here total c).1)

    module _ (z : x ≡ 0 → ⊥) (c : x ≤ 63) where
      -- the end comes inside the label
      pub skip_cut : size < at + (x + 1) → None ≡ v
      skip_cut i = sym (w.goes ∙ ap skipped (step_cut here 0 total z c (omega arith)))

      module _ (i : at + (x + 1) ≤ size) where
        -- the name has over 255 octets
        pub skip_long : 254 < total + (x + 1) → None ≡ v
        skip_long j = sym (w.goes ∙ ap skipped (step_long here 0 total z c (omega arith) j))

        -- the walk goes on after the label
        pub skip_label : total + (x + 1) ≤ 254 → Remains v (skipped_from s (total + (x + 1)) (at + (x + 1)))
        skip_label j =
            let rest = walk_on s (rdata 0 (length s)) 0 (total + (x + 1)) (at + (x + 1)) in
            let step = step_label here 0 total z c (omega arith) j in
            record { goes = w.goes ∙ ap skipped step ∙ skipped-label (part s (at + 1) x) rest }
