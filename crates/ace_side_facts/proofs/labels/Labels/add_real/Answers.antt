use Rattle.std.proofs.Common.{sym, ◌∙◌}
use Rattle.ace_side_facts.proofs.LabelSteps.{not_asked, said_nothing}
use Rattle.ace_side_facts.proofs.Lookups.{first_among_more}
use Rattle.ace_side_facts.proofs.labels.Labels.add_real.Goals as goal

pub returns-then-not-contains : goal.returns-then-not-contains
returns-then-not-contains c past stands = record {
  unit = stands.unit ∙ said_nothing _;
  names = λ port. stands.names port ∙ said_nothing _;
  reals = λ line asked. stands.reals line asked ∙ not_asked _ c.args.line line _ _ (sym c.contains.ensures.value ∙ c.if-not-contains.true) asked;
  notes = λ event asked. stands.notes event asked ∙ said_nothing _;
}

pub returns-in-Ok : goal.returns-in-Ok
returns-in-Ok c past stands = record {
  unit = stands.unit ∙ said_nothing _;
  names = λ port. stands.names port ∙ said_nothing _;
  reals = λ line asked. rw c.in-Ok.ensures.items (rw first_among_more (rw (stands.reals line asked)));
  notes = λ event asked. stands.notes event asked ∙ said_nothing _;
}
