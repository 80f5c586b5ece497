use Rattle.std.proofs.Common.{get_or, sym, ap, ◌∙◌}
use Rattle.ace_sysck.proofs.Terms.{implies, is_some_and, pair_of, may_answer, Idle}
use Rattle.ace_model.proofs.Trace.Growth.{named-issued}
use Rattle.ace_model.proofs.Trace.Issued.{outstanding-named}
use Rattle.ace_sysck.proofs.BarrierAnswers.{answer_is}
use Rattle.ace_sysck.proofs.system.SysCheck.may_answer.Goals as goal

pub returns : goal.returns
returns c = λ r port id chan s out half unordered incomplete.
    let x = c.args.half.now in
    let past = r.past in
    let b = get_or c.args.self.now.barriers.ports.items x.port Idle in
    let issued = named-issued past port chan id x (outstanding-named r.header past port chan id x out) in
    let is = answer_is past x c.args.unordered c.args.incomplete issued half unordered incomplete b (s.barriers.ports x.port) in
    c.may_answer.ensures ∙ sym (ap (λ v. implies v (is_some_and (pair_of past x) (may_answer past x.port))) half ∙ is)
