use Rattle.std.proofs.Common.{refl}
use Rattle.std.specs.Fmt.{digits}
use Rattle.ace_event.specs.Text.{hex_text}
use Rattle.ace_script.proofs.laws.worked_texts.Goals as goal

pub returns-clause-header : goal.returns-clause-header
unfolding digits hex_text
returns-clause-header c = refl

pub returns-clause-plan : goal.returns-clause-plan
unfolding digits hex_text
returns-clause-plan c = refl

pub returns-clause-eager : goal.returns-clause-eager
unfolding digits hex_text
returns-clause-eager c = refl
