-- `spelling::put_name` meets its contract: what is left is the text from a length octet on.
use Prim.Native.Nat.{◌≤◌, ◌+◌, ◌*◌}
use lib.ListN.{length}
use Rattle.octets.specs.Writes.{Left}
use Rattle.spelling.specs.Form.{labels, form_text}
use Rattle.spelling.proofs.put_name.Given as goal

abbrev pub invariant-loop-left : goal.invariant-loop-left
invariant-loop-left l = record {
  left : Left l.fn.w (form_text l.form) l.w (labels l.left);
  room : l.w.to + 5 * length l.left ≤ l.fn.w.to + 2 + 5 * length l.form;
}

abbrev pub decreases-loop-left : goal.decreases-loop-left
decreases-loop-left l = length l.left
