use borrow.Author.Rules.{rules}
use mathlib.Core.Path.{refl}
use Prim.Native.Nat.{◌<◌}
use native.Mathlib.Omega.{arith}
use lib.ListN.{length}
use Rattle.octets.specs.Writes.{left_start, left_as, left_step, left_end, writes_then, writes_none}
use Rattle.print_edns.proofs.Writing.{rise_divides, options_done, after_four, option_room, option_more}
use Rattle.print_edns.proofs.put_options.Goals as goal

pub loop-rest-init : goal.loop-rest-init
loop-rest-init c = record {
  divides = rise_divides _ (search rules);
  left = left_start _ _;
  room = search rules;
}

pub be16_at-code-requires : goal.be16_at-code-requires
be16_at-code-requires c = omega (arith, option_room c.loop-rest.rest.now c.loop-rest.invariant.divides (search rules))

pub be16_at-size-requires : goal.be16_at-size-requires
be16_at-size-requires c = omega (arith, option_room c.loop-rest.rest.now c.loop-rest.invariant.divides (search rules))

pub slice_bounds-split_at-count : goal.slice_bounds-split_at-count
slice_bounds-split_at-count c =
    omega (arith, option_room c.loop-rest.rest.now c.loop-rest.invariant.divides (search rules))

pub slice_bounds-split_at-start : goal.slice_bounds-split_at-start
slice_bounds-split_at-start c =
    omega (arith, option_room c.loop-rest.rest.now c.loop-rest.invariant.divides (search rules))

pub split_at-requires : goal.split_at-requires
split_at-requires c =
    let l = c.loop-rest.rest.now in
    omega (arith, option_room l c.loop-rest.invariant.divides (search rules), after_four l)

pub loop-rest-preserved : goal.loop-rest-preserved
loop-rest-preserved c =
    let l = c.loop-rest.rest.now in
    let h : 0 < length l = search rules in
    let (divides, text) =
    option_more l c.loop-rest.invariant.divides h c.be16_at-size.ensures.value refl c.split_at.ensures.front
    c.split_at.ensures.back in
    record {
      divides = divides;
      left =
          left_step (left_as text c.loop-rest.invariant.left)
          (writes_then c.put.ensures (rw c.be16_at-code.ensures.value at c.put_member.ensures.wrote));
      room =
          let split = c.split_at.ensures in
          omega (arith, option_room l c.loop-rest.invariant.divides h, after_four l, split.front_len, split.back_len);
    }

pub returns-clause-wrote : goal.returns-clause-wrote
returns-clause-wrote c =
    left_end (left_as (options_done c.loop-rest.rest.now (search rules)) c.loop-rest.invariant.left) (writes_none _)
