use Rattle.std.proofs.Common.{not, sym, ◌∙◌}
use Rattle.ace_runs.specs.Requests.{is_free}
use Rattle.ace_master_state.specs.Identifiers.{has}
use Rattle.ace_master_state.proofs.LeastIdentifiers.{least-same}
use Rattle.ace_master_state.proofs.identifiers.Identifiers.free_on.Goals as goal

pub returns : goal.returns
returns c = λ h past p s.
    c.least_other.ensures ∙ least-same 16 (λ i. not (has c.on.result i)) (is_free h past p c.args.chan) (λ i low. sym (c.on.ensures h past p s i low))
