use Rattle.ace_bin.proofs.Readings.Fronts.{reads_back, only_bytes}
use Rattle.ace_bin.proofs.laws.one_spelling.Goals as goal

pub returns-clause-reads_back : goal.returns-clause-reads_back
returns-clause-reads_back c = reads_back

pub returns-clause-only : goal.returns-clause-only
returns-clause-only c = only_bytes
