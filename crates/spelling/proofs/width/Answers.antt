-- `spelling::width` meets its contract. Its six ways, in order: a dot, a backslash, an octet that stands for itself, the
-- quote, an octet below 0x21, one above 0x7E.
use borrow.Author.Rules.{rules}
use borrow.Author.Tests.{le-leb, lt-leb, ne_eqb}
use mathlib.Core.Path.{◌≡◌, sym, ap, ◌∙◌}
use Prim.Native.Nat.{ℕ, ◌≤◌, ◌<◌}
use native.Mathlib.Omega.{arith}
use lib.ListN.{length}
use Rattle.spelling.specs.Spelling.{plain?, spelled}
use Rattle.spelling.specs.Width.{width, spelled-width}
use Rattle.spelling.proofs.width.Goals as goal

module _ {x : ℕ} where
  -- an octet that has an arm of its own
  by_key : {k : ℕ} → x ≡ k → width k ≡ length (spelled x)
  by_key e = ap width (sym e) ∙ sym (spelled-width x)

  -- outside 0x21 to 0x7E
  below : x < 33 → 5 ≡ length (spelled x)
  unfolding width plain?
  below h = rw (spelled-width x, lt-leb 33 x h, ne_eqb x 46 (omega arith), ne_eqb x 92 (omega arith))

  above : 127 ≤ x → 5 ≡ length (spelled x)
  unfolding width plain?
  above h =
      rw (
        spelled-width x,
        le-leb 33 x (omega arith),
        lt-leb x 126 (omega arith),
        ne_eqb x 46 (omega arith),
        ne_eqb x 92 (omega arith),
      )

  -- inside, and none of the three exceptions
  inside : 33 ≤ x → x < 127 → (x ≡ 34 → ⊥) → (x ≡ 46 → ⊥) → (x ≡ 92 → ⊥) → 1 ≡ length (spelled x)
  unfolding width plain?
  inside h k quote dot backslash =
      rw (
        spelled-width x,
        le-leb 33 x h,
        le-leb x 126 (omega arith),
        ne_eqb x 34 quote,
        ne_eqb x 46 dot,
        ne_eqb x 92 backslash,
      )

pub returns-in-46 : goal.returns-in-46
unfolding width plain?
returns-in-46 c = record {
  value = by_key c.in-46.is;
  lower_bound = search rules;
}

pub returns-in-92 : goal.returns-in-92
unfolding width plain?
returns-in-92 c = record {
  value = by_key c.in-92.is;
  lower_bound = search rules;
}

pub returns-in_default : goal.returns-in_default
returns-in_default c = record {
  value = search (inside, rules);
  lower_bound = search rules;
}

pub returns-in-34 : goal.returns-in-34
unfolding width plain?
returns-in-34 c = record {
  value = search (by_key, rules);
  lower_bound = search rules;
}

pub returns-in-34-2 : goal.returns-in-34-2
returns-in-34-2 c = record {
  value = search (below, rules);
  lower_bound = search rules;
}

pub returns-in-34-3 : goal.returns-in-34-3
returns-in-34-3 c = record {
  value = search (above, rules);
  lower_bound = search rules;
}
