use Rattle.ace_model.proofs.Coherence.{accepted_coherent}
use Rattle.ace_model.proofs.laws.accepted_trace_is_coherent.Goals as goal

pub returns : goal.returns
returns c = accepted_coherent
