use Rattle.ace_explain.proofs.TransferLetters.{k18_of_others}
use Rattle.ace_portck.specs.Targets.{Recording}
use Rattle.ace_explain.proofs.transfer_clauses.clause_of_k18.Goals as goal

pub returns-in_default : goal.returns-in_default
returns-in_default c = λ h past tell.
    let r : Recording = record { header = h; past = past } in
    k18_of_others r _ c.in_default.not-R
