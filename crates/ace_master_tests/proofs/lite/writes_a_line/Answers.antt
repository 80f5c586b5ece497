use Rattle.std.proofs.Common.{[], ◌∷◌}
use Rattle.ace_model.specs.declared.plans.Op.TheVariants.{Wu}
use Rattle.ace_runs.specs.Bursts.{onto}
use Rattle.ace_master_tests.proofs.lite.writes_a_line.Goals as goal

-- after the first step it stands for the trace with its burst
pub step-requires-2-clause-stands : goal.step-requires-2-clause-stands
step-requires-2-clause-stands g c =
    let write = Wu 64 18446462599001210881 (record { words = 5 ∷ 6 ∷ 7 ∷ 8 ∷ [] }) in
    (write, onto c.in_ok-issued.issued [], c.in_ok-issued.ensures.stands write [] c.in_ok-master.ensures.stands)
