-- `parse_rdata::put_octets` meets its contract: past the end nothing is written; else the octets one after another.
use Rattle.std.proofs.Common.{ap, sym, ◌∙◌, append_assoc}
use Rattle.std.specs.Prelude.{◌+◌, [], ◌∷◌, ◌++◌}
use Rattle.octets.specs.Overlay.{nothing, then, wrote_past}
use Rattle.parse_rdata.proofs.put_octets.Goals as goal

pub returns-then-to-out : goal.returns-then-to-out
returns-then-to-out g c = wrote_past _ _ _ c.if-to-out.true (ap (λ n. c.args.to + n) c.count.ensures)

pub loop-octet-init : goal.loop-octet-init
loop-octet-init g c = (nothing _ _, cc)

pub loop-octet-preserved : goal.loop-octet-preserved
loop-octet-preserved g c =
    let y = c.loop-octet.yielded in
    let x = c.in-Some.octet in
    let left = g.O.Octets.octets c.next.new.self.rest in (
      then c.loop-octet.invariant.0 c.put-next.ensures,
      append_assoc y (x ∷ []) left ∙ ap (λ r. y ++ r) (sym (c.in-Some.ensures {u = tt}).steps) ∙ c.loop-octet.invariant.1,
    )
