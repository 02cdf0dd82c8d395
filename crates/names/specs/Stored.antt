-- The array of a name's form: after the form it holds 0, so that the form gives the array back.
use Rattle.std.specs.Prelude.{◌≡◌, List, ◌++◌, ℕ, ◌+◌, ◌-◌, ◌≤◌, length, take, drop, replicate, slice_set}
use Rattle.std.proofs.Common.{sym, ap, ap₂, ◌∙◌, arith, length-append, length-take, length-drop, take-append-drop, drop-drop, length-take-le}
use Rattle.std.proofs.Math.Seq.{drop-append_seam}
use Rattle.std.proofs.lemmas.List.{drop-replicate, drop-set-lt}
use Rattle.octets.specs.Overlay.{Wrote, overlay_fits}
use Rattle.names.specs.declared.Name.TheInside.{Inside}

-- the array that a form gives
pub padded_back : (a : Inside) → a.size ≤ 255 → length a.octets ≡ 255 → drop a.size a.octets ≡ replicate (255 - a.size) 0
    → record {
      size = length (take a.size a.octets);
      octets = take a.size a.octets ++ replicate (255 - length (take a.size a.octets)) 0;
    } ≡ a
padded_back a small long zeros =
    let n : length (take a.size a.octets) ≡ a.size = length-take-le a.size a.octets (omega arith) in
    rw (n, sym zeros, take-append-drop a.size a.octets)

-- ---- while a name is read: 0 from the first `total` octets on
abbrev pub Zeros : List ℕ → ℕ → Type 0
Zeros octets total = drop total octets ≡ replicate (255 - total) 0

-- as many octets fewer are 0
fewer : (octets : List ℕ) (total n : ℕ) → Zeros octets total → drop (total + n) octets ≡ replicate (255 - (total + n)) 0
fewer octets total n z =
    let k : 255 - total - n ≡ 255 - (total + n) = omega arith in
    rw (← drop-drop n total octets, z, drop-replicate {X = ℕ} n (255 - total) 0, k)

-- a label after its length, of x + 1 octets
pub zeros_label : (s octets : List ℕ) (total at x : ℕ) {octets' ys : List ℕ} {r : ℕ} → at + (x + 1) ≤ length s
    → total + (x + 1) ≤ length octets → ys ≡ take (at + (x + 1) - at) (drop at s) → Wrote octets total ys octets' r
    → Zeros octets total → Zeros octets' (total + (x + 1))
zeros_label s octets total at x {octets'} {ys} room small q w z =
    let k : length ys ≡ x + 1 = omega (arith, ap length q, length-take (at + (x + 1) - at) (drop at s), length-drop at s) in
    let fits : total + length ys ≤ length octets = omega arith in
    let n : total + (x + 1) ≡ length (take total octets ++ ys) =
    omega (arith, length-append (take total octets) ys, length-take total octets) in
    let whole : octets' ≡ (take total octets ++ ys) ++ drop (total + length ys) octets =
    w.text ∙ overlay_fits octets total ys fits in
    let m : total + length ys ≡ total + (x + 1) = omega arith in
    ap₂ drop n whole ∙ drop-append_seam (take total octets ++ ys) (drop (total + length ys) octets)
    ∙ ap (λ j. drop j octets) m ∙ fewer octets total (x + 1) z

-- the root octet
pub zeros_root : (octets : List ℕ) (total : ℕ) → Zeros octets total → Zeros (slice_set octets total 0) (total + 1)
zeros_root octets total z = drop-set-lt (total + 1) octets total 0 (omega arith) ∙ fewer octets total 1 z
