-- One step of the walk over a name, a law for each way that the length octet can go.
use Rattle.std.specs.Prelude.{◌≡◌, refl, Bool, true, false, List, [], ℕ, suc, ◌+◌, ◌-◌, ◌*◌, ◌≤◌, ◌<◌, leb, ltb, get_or}
use Rattle.std.proofs.Common.{ap, arith}
use borrow.Author.Tests.{le-leb, lt-leb, le-ltb, lt-ltb, ne_eqb, leb-true, leb-false, ltb-true, ltb-false}
use Rattle.names.specs.Name.{reserved, target, long, Fault}
use Rattle.names.specs.Walk.{part, Limit, message, end_of, past, Named, named, faulty, labelled, resumed, walk}
use Rattle.names.specs.Walk.{name_from}
use Rattle.names.specs.NameLaws.{walk_steps}

-- the walk from the length octet at `at` on, after labels of `total` octets, with a number of steps that is never met
abbrev pub walk_on : List ℕ → Limit → ℕ → ℕ → ℕ → Named
walk_on s limit run total at = walk (suc (run + 255)) s limit run total at

-- a name is read from its first length octet on
pub name-walk : (s : List ℕ) (limit : Limit) (run at : ℕ) → name_from s limit run at ≡ walk_on s limit run 0 at
unfolding name_from
name-walk s limit run at = refl

-- the length octet is past the end
pub step_past : (s : List ℕ) (limit : Limit) (run total at : ℕ) → end_of s limit ≤ at
    → walk_on s limit run total at ≡ faulty (past limit at)
unfolding walk
step_past s limit run total at h = rw (le-leb (end_of s limit) at h)

-- x is the length octet at `at`
pub record LengthOctet (s : List ℕ) (limit : Limit) (at x : ℕ) : Type 0 where
  pub within : at < end_of s limit
  pub octet : x ≡ get_or s at 0

module _ {s : List ℕ} {limit : Limit} {at x : ℕ} (o : LengthOctet s limit at x) (run total : ℕ) where
  -- the root octet
  pub step_root : x ≡ 0 → walk_on s limit run total at ≡ named [] (at + 1)
  unfolding walk
  step_root p = rw (lt-leb (end_of s limit) at o.within, ← o.octet, p)

  -- a label
  module _ (z : x ≡ 0 → ⊥) (c : x ≤ 63) where
    -- that runs past the end
    pub step_cut : end_of s limit < at + (x + 1) → walk_on s limit run total at ≡ faulty (past limit at)
    unfolding walk
    step_cut i =
        rw (
          lt-leb (end_of s limit) at o.within,
          ← o.octet,
          ne_eqb x 0 z,
          le-leb x 63 c,
          lt-ltb (end_of s limit) (at + (x + 1)) i,
        )

    module _ (i : at + (x + 1) ≤ end_of s limit) where
      -- that makes the name longer than 255 octets
      pub step_long : 254 < total + (x + 1) → walk_on s limit run total at ≡ faulty (record { kind = long; octet = at })
      unfolding walk
      step_long j =
          rw (
            lt-leb (end_of s limit) at o.within,
            ← o.octet,
            ne_eqb x 0 z,
            le-leb x 63 c,
            le-ltb (end_of s limit) (at + (x + 1)) i,
            lt-ltb 255 (total + (x + 1) + 1) (omega arith),
          )

      -- that is read
      pub step_label : total + (x + 1) ≤ 254
          → walk_on s limit run total at
          ≡ labelled (part s (at + 1) x) (walk_on s limit run (total + (x + 1)) (at + (x + 1)))
      unfolding walk
      step_label j =
          let more = total + (x + 1) in
          let next = at + (x + 1) in
          rw (
            lt-leb (end_of s limit) at o.within,
            ← o.octet,
            ne_eqb x 0 z,
            le-leb x 63 c,
            le-ltb (end_of s limit) (at + (x + 1)) i,
            le-ltb 255 (total + (x + 1) + 1) (omega arith),
          )
          (ap (labelled (part s (at + 1) x))
          (walk_steps (run + 255) (suc (run + 255)) s limit run more next (omega arith) (omega arith)))

  module _ (c : 63 < x) where
    -- top bits 01 or 10
    pub step_reserved : x < 192 → walk_on s limit run total at ≡ faulty (record { kind = reserved; octet = at })
    unfolding walk
    step_reserved d =
        rw (
          lt-leb (end_of s limit) at o.within,
          ← o.octet,
          ne_eqb x 0 (λ z. omega arith),
          lt-leb x 63 c,
          lt-ltb x 192 d,
        )

    -- a pointer
    module _ (d : 192 ≤ x) where
      -- its second octet is past the end
      pub step_half : end_of s limit ≤ at + 1 → walk_on s limit run total at ≡ faulty (past limit at)
      unfolding walk
      step_half i =
          rw (
            lt-leb (end_of s limit) at o.within,
            ← o.octet,
            ne_eqb x 0 (λ z. omega arith),
            lt-leb x 63 c,
            le-ltb x 192 d,
            le-leb (end_of s limit) (at + 1) i,
          )

      -- y is its second octet
      module _ {y : ℕ} (i : at + 1 < end_of s limit) (j : y ≡ get_or s (at + 1) 0) where
        -- the target is inside the header
        pub step_low : (x - 192) * 256 + y < 12
            → walk_on s limit run total at ≡ faulty (record { kind = target; octet = at })
        unfolding walk
        step_low g =
            rw (
              lt-leb (end_of s limit) at o.within,
              ← o.octet,
              ← j,
              ne_eqb x 0 (λ z. omega arith),
              lt-leb x 63 c,
              le-ltb x 192 d,
              lt-leb (end_of s limit) (at + 1) i,
              lt-leb 12 ((x - 192) * 256 + y) g,
            )

        module _ (g : 12 ≤ (x - 192) * 256 + y) where
          -- the target is not below the start of the run
          pub step_far : run ≤ (x - 192) * 256 + y
              → walk_on s limit run total at ≡ faulty (record { kind = target; octet = at })
          unfolding walk
          step_far p =
              rw (
                lt-leb (end_of s limit) at o.within,
                ← o.octet,
                ← j,
                ne_eqb x 0 (λ z. omega arith),
                lt-leb x 63 c,
                le-ltb x 192 d,
                lt-leb (end_of s limit) (at + 1) i,
                le-leb 12 ((x - 192) * 256 + y) g,
                le-ltb ((x - 192) * 256 + y) run p,
              )

          -- the pointer is followed
          pub step_jump : (x - 192) * 256 + y < run
              → walk_on s limit run total at
              ≡ resumed (at + 2) (walk_on s message ((x - 192) * 256 + y) total ((x - 192) * 256 + y))
          unfolding walk
          step_jump p =
              let goal = (x - 192) * 256 + y in
              rw (
                lt-leb (end_of s limit) at o.within,
                ← o.octet,
                ← j,
                ne_eqb x 0 (λ z. omega arith),
                lt-leb x 63 c,
                le-ltb x 192 d,
                lt-leb (end_of s limit) (at + 1) i,
                le-leb 12 ((x - 192) * 256 + y) g,
                lt-ltb ((x - 192) * 256 + y) run p,
              )
              (ap (resumed (at + 2))
              (walk_steps (run + 255) (suc (goal + 255)) s message goal total goal (omega arith) (omega arith)))

-- where no pointer is taken, an octet over 63 is a fault
pub step_none : {s : List ℕ} {limit : Limit} {at x : ℕ} → LengthOctet s limit at x → (total : ℕ) → 63 < x
    → (fault : Fault) × (walk_on s limit 0 total at ≡ faulty fault)
step_none {s} {limit} {at} {x} o total c = bits (ltb x 192) refl
  where
    goal : ℕ
    goal = (x - 192) * 256 + get_or s (at + 1) 0

    aim : 192 ≤ x → at + 1 < end_of s limit → (b : Bool) → leb 12 goal ≡ b
        → (fault : Fault) × (walk_on s limit 0 total at ≡ faulty fault)
    aim d i true e = (_, step_far o 0 total c d i refl (leb-true 12 goal e) (omega arith))
    aim d i false e = (_, step_low o 0 total c d i refl (leb-false 12 goal e))

    half : 192 ≤ x → (b : Bool) → leb (end_of s limit) (at + 1) ≡ b
        → (fault : Fault) × (walk_on s limit 0 total at ≡ faulty fault)
    half d true e = (_, step_half o 0 total c d (leb-true (end_of s limit) (at + 1) e))
    half d false e = aim d (leb-false (end_of s limit) (at + 1) e) (leb 12 goal) refl

    bits : (b : Bool) → ltb x 192 ≡ b → (fault : Fault) × (walk_on s limit 0 total at ≡ faulty fault)
    bits true e = (_, step_reserved o 0 total c (ltb-true x 192 e))
    bits false e = half (ltb-false x 192 e) (leb (end_of s limit) (at + 1)) refl
