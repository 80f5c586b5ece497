use Rattle.std.proofs.Common.{sym, ap, option_map, unwrap_or, ◌∙◌}
use Rattle.ace_codes.specs.declared.state.LineState.TheVariants.{I}
use Rattle.ace_model.specs.States.{state_of}
use Rattle.ace_master_state.proofs.kept.Kept.state_named.Goals as goal

pub returns-in-Some : goal.returns-in-Some
returns-in-Some c = λ plan past p k.
    c.state.ensures plan.header plan.ways past p k.lines ∙ ap (λ o. unwrap_or (option_map (state_of plan.header past p) o) I) (sym (sym c.line.ensures ∙ c.in-Some.is))
