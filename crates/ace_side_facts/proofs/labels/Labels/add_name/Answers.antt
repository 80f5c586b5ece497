use Rattle.std.proofs.Common.{◌∙◌}
use Rattle.ace_side_facts.proofs.LabelSteps.{said_nothing}
use Rattle.ace_side_facts.proofs.Lookups.{first_among_more}
use Rattle.ace_side_facts.proofs.labels.Labels.add_name.Goals as goal

pub returns-in-Ok : goal.returns-in-Ok
returns-in-Ok c query past stands = record {
  unit = stands.unit ∙ said_nothing _;
  names = λ port. rw c.in-Ok.ensures.items (rw first_among_more (rw (stands.names port)));
  reals = λ line asked. stands.reals line asked ∙ said_nothing _;
  notes = λ event asked. stands.notes event asked ∙ said_nothing _;
}
