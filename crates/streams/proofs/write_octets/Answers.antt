-- What a write took follows what was written before it; and an error without number is no interruption.
use Rattle.std.proofs.Common.{refl, ◌<◌, ◌++◌, take, length, rules, sym, ◌∙◌}
use Rattle.std.specs.IoError.{os_error_kind}
use Rattle.std.proofs.KnownBytes.{Appends-kept, Appends-trans}
use Rattle.streams.proofs.Lines.{other_kind, any_err, written_part, rest_after, none_more}
use Rattle.streams.proofs.write_octets.Goals as goal

pub returns-in_err-put-clause-some : goal.returns-in_err-put-clause-some
returns-in_err-put-clause-some g c =
    let (done, e, written) = c.loop-rest.invariant in
    let left : 0 < length c.loop-rest.rest.now = search rules in
    any_err _ _ (written_part _ _ done _ _ e left (Appends-kept _ _ _ _ written c.in_err-put.ensures.bytes))

pub returns-then-put-eq0-clause-some : goal.returns-then-put-eq0-clause-some
returns-then-put-eq0-clause-some g c =
    let (done, e, written) = c.loop-rest.invariant in
    let left : 0 < length c.loop-rest.rest.now = search rules in
    let same = none_more _ _ done _ c.if-put-eq0.true (Appends-trans _ _ _ _ _ written c.in_ok-put.ensures.bytes) in
    written_part _ _ done _ _ e left same

pub returns-then-put-eq0-clause-retried : goal.returns-then-put-eq0-clause-retried
unfolding os_error_kind
returns-then-put-eq0-clause-retried g c =
    rw c.failed.ensures record { call_is = refl; lasts = λ e. other_kind (sym c.from_raw_os_error.ensures.kind ∙ e) }

pub loop-rest-preserved : goal.loop-rest-preserved
loop-rest-preserved g c =
    let (done, e, written) = c.loop-rest.invariant in (
      done ++ take c.in_ok-put.put c.loop-rest.rest.now,
      rest_after done _ _ c.in_ok-put.put e,
      Appends-trans _ _ _ _ _ written c.in_ok-put.ensures.bytes,
    )
