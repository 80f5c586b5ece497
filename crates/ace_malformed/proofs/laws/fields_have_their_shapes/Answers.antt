use Rattle.ace_malformed.proofs.Shapes.{fields_shaped}
use Rattle.ace_malformed.proofs.laws.fields_have_their_shapes.Goals as goal

pub returns : goal.returns
returns c = fields_shaped
