use Rattle.std.specs.List.{list_any}
use Rattle.std.proofs.Common.{not, ◌&&◌, ◌==◌, sym, ap, ◌∙◌}
use Rattle.ace_runs.specs.Retiring.{tells_completion, unanswered}
use Rattle.ace_master_state.proofs.NoneFound.{none-counted}
use Rattle.ace_master_state.proofs.syncs.Syncs.has_answered_completion.Goals as goal

pub returns-then-self : goal.returns-then-self
returns-then-self c = λ past p s.
    ap (λ n. n == 0) s.unanswered ∙ none-counted tells_completion (unanswered past p)
    ∙ ap (λ b. b && not (list_any tells_completion (unanswered past p))) (sym (sym s.completed ∙ c.if-self.true))
