-- The code's walk over a name, way by way: what is read from a length octet on gives the whole answer.
use Rattle.std.specs.Prelude.{◌≡◌, refl, List, [], ◌∷◌, ◌++◌, ℕ, suc, ◌+◌, ◌-◌, ◌*◌, ◌≤◌, ◌<◌, length, get_or, take, drop, slice_set}
use Rattle.std.specs.Prelude.{Result, Ok, Err, Option, None, Some, unwrap_or}
use Rattle.std.proofs.Math.Path.{ap₂}
use Rattle.std.proofs.Common.{sym, ap, ◌∙◌, append_assoc, arith, length-append, length-take}
use Rattle.std.proofs.lemmas.Grind.{common_steps}
use Rattle.std.proofs.Math.Seq.{take-append_seam}
use Rattle.octets.specs.Lists.{each}
use Rattle.octets.specs.Fields.{drop_one}
use Rattle.octets.specs.Loops.{Remains}
use Rattle.octets.specs.Overlay.{Wrote, overlay_fits}
use Rattle.names.specs.Name.{Name, name_form}
use Rattle.names.specs.Walk.{part, end_of, named, faulty, labelled, resumed, name_at}
use Rattle.names.specs.Walk as walk
use Rattle.names.specs.NameLaws.{part-long}
use Rattle.names.specs.Steps.{walk_on, name-walk, LengthOctet, step_past, step_root, step_cut, step_long}
use Rattle.names.specs.Steps.{step_label, step_reserved, step_half, step_low, step_far, step_jump}
use Rattle.names.specs.Answer.{limit_of, fault_of, past_of, name_read}
use Rattle.names.specs.declared.Fault.{Fault}
use Rattle.names.specs.declared.Fault.TheVariants.{Reserved, Target, Long}
use Rattle.names.specs.declared.Limit.{Limit}
use Rattle.names.specs.declared.Limit.TheVariants.{Message}

-- ---- the form without the root octet
-- a label after its length
abbrev pub label_form : List ℕ → List ℕ
label_form label = length label ∷ label

-- the root octet comes after the labels
pub form-labels : (n : Name) → name_form n ≡ each label_form n ++ (0 ∷ [])
unfolding name_form each
form-labels [] = refl
form-labels (label ∷ n) = rw (form-labels n, append_assoc)

-- ---- the whole answer by what is read from here on
-- what the code answers for a name
abbrev pub Answer : Type 0
Answer = Result (List ℕ × ℕ) Fault

-- `labels` are those so far, each after its length; the name ends after its first pointer, or, if there is none, where
-- its labels end
unfoldable pub finished : Option ℕ → List ℕ → walk.Named → Answer
finished next labels (named n end) = Ok (labels ++ name_form n, unwrap_or next end)
finished next labels (faulty fault) = Err (fault_of fault)

-- at the start nothing is read yet
finished-start : (w : walk.Named) → name_read w ≡ finished None [] w
unfolding finished
finished-start (named n next) = refl
finished-start (faulty fault) = refl

-- a label is read
finished-label : (next : Option ℕ) (labels l : List ℕ) (w : walk.Named)
    → finished next labels (labelled l w) ≡ finished next (labels ++ label_form l) w
unfolding finished name_form
finished-label next labels l (named n end) =
    ap (λ (form : List ℕ). Ok (form, unwrap_or next end)) (sym (append_assoc labels (label_form l) (name_form n)))
finished-label next labels l (faulty fault) = refl

-- a pointer is followed
finished_jump : (next : Option ℕ) (labels : List ℕ) (after : ℕ) (w : walk.Named)
    → finished next labels (resumed after w) ≡ finished (Some (unwrap_or next after)) labels w
unfolding finished
finished_jump next labels after (named n end) = refl
finished_jump next labels after (faulty fault) = refl

-- the answer by the walk from the length octet at `at` on, when the labels before it are the first `total` of `octets`
abbrev pub read_from : List ℕ → List ℕ → Limit → ℕ → Option ℕ → ℕ → ℕ → Answer
read_from s octets limit run next total at = finished next (take total octets) (walk_on s (limit_of limit) run total at)

-- before the first length octet
pub from_start : (s octets : List ℕ) (limit : Limit) (at : ℕ)
    → Remains (name_read (name_at s (limit_of limit) at)) (read_from s octets limit at None 0 at)
from_start s octets limit at =
    record {
      goes = finished-start (name_at s (limit_of limit) at)
          ∙ ap (finished None []) (name-walk s (limit_of limit) at at);
    }

-- ---- the octets of labels
-- the root octet comes after the first `total` octets
pub root_kept : (octets : List ℕ) (total : ℕ) → total < length octets
    → take (total + 1) (slice_set octets total 0) ≡ take total octets ++ (0 ∷ [])
root_kept octets total h = grind (arith, common_steps)

-- a label after its length, with length octet x, comes after them
pub label_kept : (s octets : List ℕ) {octets' ys : List ℕ} {total at x r : ℕ} → x ≡ get_or s at 0 → at < length s
    → at + (x + 1) ≤ length s → total + (x + 1) ≤ length octets → ys ≡ take (at + (x + 1) - at) (drop at s)
    → Wrote octets total ys octets' r → take (total + (x + 1)) octets' ≡ take total octets ++ (x ∷ part s (at + 1) x)
label_kept s octets {octets'} {ys = ys} {total = total} {at = at} {x = x} e h room small q w =
    let d : at + (x + 1) - at ≡ suc x = omega arith in
    let p : ys ≡ x ∷ part s (at + 1) x = q ∙ rw (d, drop_one s at h, e) in
    let long = part-long s (at + 1) x (omega arith) in
    let fits : total + length ys ≤ length octets = omega (arith, ap length p) in
    let n : total + (x + 1) ≡ length (take total octets ++ ys) =
    omega (arith, ap length p, length-append (take total octets) ys, length-take total octets) in
    let whole : octets' ≡ (take total octets ++ ys) ++ drop (total + length ys) octets =
    w.text ∙ overlay_fits octets total ys fits in
    ap₂ take n whole ∙ take-append_seam (take total octets ++ ys) (drop (total + length ys) octets)
    ∙ ap (λ l. take total octets ++ l) p

-- ---- the ways
module _ (s octets : List ℕ) {v : Answer} (limit : Limit) (run : ℕ) (next : Option ℕ) (total at : ℕ) {end : ℕ}
    (w : Remains v (read_from s octets limit run next total at)) (b : end ≡ end_of s (limit_of limit)) where
  -- the length octet is past the end
  pub name-past : {f : Fault} → end ≤ at → f ≡ past_of limit at → Err f ≡ v
  unfolding finished
  name-past h p = rw (p, w.goes, step_past s (limit_of limit) run total at (omega arith))

  -- x is the length octet
  module _ {x : ℕ} (h : at < end) (e : x ≡ get_or s at 0) where
    here : LengthOctet s (limit_of limit) at x
    here = record { within = omega arith; octet = e }

    -- the root octet, of a form with room for it
    pub root_read : {form : List ℕ} {last : ℕ} → x ≡ 0 → form ≡ take total octets ++ (0 ∷ [])
        → last ≡ unwrap_or next (at + 1)
        → Ok (form, last) ≡ v
    unfolding finished name_form
    root_read z p q = rw (w.goes, step_root here run total z, p, q)

    -- a label
    module _ (z : x ≡ 0 → ⊥) (c : x ≤ 63) where
      -- the end comes inside it
      pub label_cut : {f : Fault} → end < at + (x + 1) → f ≡ past_of limit at → Err f ≡ v
      unfolding finished
      label_cut i p = rw (p, w.goes, step_cut here run total z c (omega arith))

      module _ (i : at + (x + 1) ≤ end) where
        -- the name has over 255 octets
        pub label-long : 254 < total + (x + 1) → Err (Long at) ≡ v
        unfolding finished
        label-long p = rw (w.goes, step_long here run total z c (omega arith) p)

        -- the walk goes on after it
        pub label_read : (octets' : List ℕ) → end ≤ length s → total + (x + 1) ≤ 254
            → take (total + (x + 1)) octets' ≡ take total octets ++ (x ∷ part s (at + 1) x)
            → Remains v (read_from s octets' limit run next (total + (x + 1)) (at + (x + 1)))
        label_read octets' room p d =
            let l = part s (at + 1) x in
            let long : length l ≡ x = part-long s (at + 1) x (omega arith) in
            let rest = walk_on s (limit_of limit) run (total + (x + 1)) (at + (x + 1)) in
            record {
              goes = w.goes ∙ rw (step_label here run total z c (omega arith) p)
                  (finished-label next (take total octets) l rest
                  ∙ ap (λ (n : ℕ). finished next (take total octets ++ (n ∷ l)) rest) long
                  ∙ ap (λ (m : List ℕ). finished next m rest) (sym d));
            }

    module _ (c : 63 < x) where
      -- top bits 01 or 10
      pub bits_reserved : x < 192 → Err (Reserved at) ≡ v
      unfolding finished
      bits_reserved p = rw (w.goes, step_reserved here run total c p)

      -- a pointer
      module _ (d : 192 ≤ x) where
        -- its second octet is past the end
        pub pointer_cut : {f : Fault} → end ≤ at + 1 → f ≡ past_of limit at → Err f ≡ v
        unfolding finished
        pointer_cut i p = rw (p, w.goes, step_half here run total c d (omega arith))

        -- y is its second octet
        module _ {y : ℕ} (i : at + 1 < end) (j : y ≡ get_or s (at + 1) 0) where
          -- the target is inside the header
          pub target_low : (x - 192) * 256 + y < 12 → Err (Target at) ≡ v
          unfolding finished
          target_low p = rw (w.goes, step_low here run total c d (omega arith) j p)

          module _ (g : 12 ≤ (x - 192) * 256 + y) where
            -- the target is not below the start of the run
            pub target_far : run ≤ (x - 192) * 256 + y → Err (Target at) ≡ v
            unfolding finished
            target_far p = rw (w.goes, step_far here run total c d (omega arith) j g p)

            -- the walk goes on at the target
            pub jump_read : {after : ℕ} → (x - 192) * 256 + y < run → after ≡ unwrap_or next (at + 2)
                → Remains v (read_from s octets Message ((x - 192) * 256 + y) (Some after) total
                ((x - 192) * 256 + y))
            jump_read p q =
                let goal = (x - 192) * 256 + y in
                record {
                  goes = w.goes ∙ rw (step_jump here run total c d (omega arith) j g p, q)
                      (finished_jump next (take total octets) (at + 2) (walk_on s walk.message goal total goal));
                }
