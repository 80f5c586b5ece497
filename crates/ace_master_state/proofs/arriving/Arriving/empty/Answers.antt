use Rattle.std.proofs.Common.{List, [], ◌∷◌, refl}
use Rattle.ace_event.specs.declared.line.Line.{Line}
use Rattle.ace_model.specs.Copies.{zero_line}
use Rattle.ace_master_state.proofs.ArrivingLists.{four-under}
use Rattle.ace_master_state.proofs.arriving.Arriving.empty.Goals as goal

zeros : List Line
zeros =
    zero_line ∷ zero_line ∷ zero_line ∷ zero_line ∷ zero_line ∷ zero_line ∷ zero_line ∷ zero_line ∷ zero_line ∷ zero_line ∷ zero_line ∷ zero_line ∷ zero_line ∷ zero_line ∷ zero_line ∷ zero_line ∷ []

pub returns : goal.returns
unfolding zeros
returns c = λ i low. four-under zeros i refl
