use borrow.Author.Rules.{rules}
use mathlib.Core.Path.{◌≡◌}
use mathlib.Core.List.{[], ◌∷◌, ◌++◌}
use Rattle.octets.specs.Writes.{left_start, left_as, left_step, left_end}
use Rattle.spelling.specs.Spelling.{label_text}
use Rattle.spelling.specs.Form.{labels, form-labels}
use Rattle.spelling.proofs.Writing.{form_root, labels_more, labels_end}
use Rattle.spelling.proofs.put_name.Goals as goal
use Rattle.spelling.proofs.put_name.Goals.{then-form-lt1, in-0, else-form-lt1+in_default-1}

pub loop-left-init : goal.loop-left-init
loop-left-init c = elim c.if-form-lt1.branch [
  | then-form-lt1 w ↦ record {
    left = rw w.w-is (left_step (left_as (search (form-labels, rules)) (left_start _ _)) c.put.ensures);
    room = search rules;
  }
  | in-0 w ↦ record {
    left =
        let o = left_step (left_as (search (form_root, rules)) (left_start _ _)) c.put.ensures in
        rw w.w-is (left_step o w.put-in-0.ensures);
    room = search rules;
  }
  | else-form-lt1+in_default-1 w ↦ record {
    left = rw w.w-is (left_step (left_as (search (form-labels, rules)) (left_start _ _)) c.put.ensures);
    room = search rules;
  }
]

pub loop-left-preserved : goal.loop-left-preserved
loop-left-preserved c =
    let e : labels c.loop-left.left.now ≡ label_text c.split_at.result.0.now ++ labels c.split_at.result.1.now =
    search (labels_more, rules) in
    record {
      left = left_step (left_as e c.loop-left.invariant.left) c.put_label.ensures.wrote;
      room = search rules;
    }

pub returns-clause-wrote : goal.returns-clause-wrote
returns-clause-wrote c =
    let e : labels c.loop-left.left.now ≡ 34 ∷ [] = search (labels_end, rules) in
    left_end (left_as e c.loop-left.invariant.left) c.put-2.ensures
