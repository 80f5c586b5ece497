use Rattle.std.proofs.Common.{refl}
use Rattle.std.specs.Fmt.{digits}
use Rattle.ace_event.specs.Text.{hex_text}
use Rattle.ace_side.proofs.laws.worked_texts.Goals as goal

pub returns-clause-time : goal.returns-clause-time
unfolding digits hex_text
returns-clause-time c = refl

pub returns-clause-id : goal.returns-clause-id
unfolding digits hex_text
returns-clause-id c = refl

pub returns-clause-note : goal.returns-clause-note
unfolding digits hex_text
returns-clause-note c = refl

pub returns-clause-end : goal.returns-clause-end
unfolding digits hex_text
returns-clause-end c = refl

pub returns-clause-broken : goal.returns-clause-broken
unfolding digits hex_text
returns-clause-broken c = refl

pub returns-clause-cut : goal.returns-clause-cut
unfolding digits hex_text
returns-clause-cut c = refl

pub returns-clause-file : goal.returns-clause-file
unfolding digits hex_text
returns-clause-file c = refl
