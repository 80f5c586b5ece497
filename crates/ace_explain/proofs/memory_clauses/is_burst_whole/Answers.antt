use Rattle.std.proofs.Common.{option_copied, sym, ap, ◌∙◌, is_some}
use Rattle.ace_model.specs.Copies.{zero_line}
use Rattle.ace_portck.specs.declared.target.Progress.{Progress}
use Rattle.ace_explain.proofs.Written.{burst-whole, whole-written}
use Rattle.ace_explain.proofs.memory_clauses.is_burst_whole.Goals as goal

pub returns-then-x : goal.returns-then-x
returns-then-x c = λ r p chan i q out made writes sends.
    let x = c.args.x.now.transaction in
    sym (whole-written r.header r.past q.accepted p chan i x out writes (sym (ap (λ (v : Progress). v.written) made) ∙ c.if-x.true))

pub returns-in-None : goal.returns-in-None
returns-in-None c = λ r p chan i q out made writes sends.
    let x = c.args.x.now.transaction in
    sym (ap is_some (ap option_copied c.in-None.is))
    ∙ burst-whole r.header r.past p chan i x out sends (sym (ap (λ (v : Progress). v.written) made) ∙ c.if-x.false) zero_line _ (c.burst.ensures r zero_line q)

pub returns-in-Some : goal.returns-in-Some
returns-in-Some c = λ r p chan i q out made writes sends.
    let x = c.args.x.now.transaction in
    sym (ap is_some (ap option_copied c.in-Some.is))
    ∙ burst-whole r.header r.past p chan i x out sends (sym (ap (λ (v : Progress). v.written) made) ∙ c.if-x.false) zero_line _ (c.burst.ensures r zero_line q)
