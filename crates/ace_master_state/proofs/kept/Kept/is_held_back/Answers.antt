use Rattle.std.proofs.Common.{not, ap, ◌∙◌}
use Rattle.ace_tables.specs.StartStates.{starts_write}
use Rattle.ace_master_state.proofs.kept.Kept.is_held_back.Goals as goal

pub returns : goal.returns
returns c = λ plan past p k. ap not (c.start_write_ok.ensures ∙ ap (starts_write c.args.kind) (c.state.ensures plan.header plan.ways past p k.lines))
