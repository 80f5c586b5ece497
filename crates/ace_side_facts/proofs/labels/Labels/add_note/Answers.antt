use Rattle.std.proofs.Common.{◌∙◌}
use Rattle.ace_side_facts.proofs.LabelSteps.{said_nothing}
use Rattle.ace_side_facts.proofs.Lookups.{first_among_more}
use Rattle.ace_side_facts.proofs.labels.Labels.add_note.Goals as goal

pub returns-in-Ok : goal.returns-in-Ok
returns-in-Ok c past stands = record {
  unit = stands.unit ∙ said_nothing _;
  names = λ port. stands.names port ∙ said_nothing _;
  reals = λ line asked. stands.reals line asked ∙ said_nothing _;
  notes = λ event asked. rw c.in-Ok.ensures.items (rw first_among_more (rw (stands.notes event asked)));
}
