-- `forms::put_message` meets its contract: the header's octets and four sections, of which each may stop.
use borrow.Author.Rules.{rules}
use Rattle.forms.specs.Putting.{message_join, runs_halt, runs_join}
use Rattle.forms.proofs.put_message.Goals as goal

pub returns-in_err-questions : goal.returns-in_err-questions
returns-in_err-questions c =
    let first = rw c.be16_at.ensures.value at c.in_err-questions.ensures.writes_section in
    let all = message_join _ c.put_all-header.ensures (runs_halt _ first) in
    search (all, rules)

pub returns-in_err-answers : goal.returns-in_err-answers
returns-in_err-answers c =
    let first = rw c.be16_at.ensures.value at c.in_ok-questions.ensures.writes_section in
    let second = rw c.be16_at-2.ensures.value at c.in_err-answers.ensures.writes_section in
    let all = message_join _ c.put_all-header.ensures (runs_join _ first (runs_halt _ second)) in
    search (all, rules)

pub returns-in_err-authority : goal.returns-in_err-authority
returns-in_err-authority c =
    let first = rw c.be16_at.ensures.value at c.in_ok-questions.ensures.writes_section in
    let second = rw c.be16_at-2.ensures.value at c.in_ok-answers.ensures.writes_section in
    let third = rw c.be16_at-3.ensures.value at c.in_err-authority.ensures.writes_section in
    let all = message_join _ c.put_all-header.ensures (runs_join _ first (runs_join _ second (runs_halt _ third))) in
    search (all, rules)

pub returns : goal.returns
returns c =
    let first = rw c.be16_at.ensures.value at c.in_ok-questions.ensures.writes_section in
    let second = rw c.be16_at-2.ensures.value at c.in_ok-answers.ensures.writes_section in
    let third = rw c.be16_at-3.ensures.value at c.in_ok-authority.ensures.writes_section in
    let fourth = rw c.be16_at-4.ensures.value at c.put_section-4.ensures.writes_section in
    message_join _ c.put_all-header.ensures (runs_join _ first (runs_join _ second (runs_join _ third fourth)))
