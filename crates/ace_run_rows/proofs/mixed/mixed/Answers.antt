use Rattle.std.proofs.Common.{refl}
use Rattle.ace_codes.specs.Reads.{ar_kind_of}
use Rattle.ace_codes.specs.Snoops.{ac_kind_of}
use Rattle.ace_codes.specs.Writes.{aw_kind_of}
use Rattle.ace_event.specs.Bytes.{merged, number_of_bytes}
use Rattle.ace_tables.specs.Answers.{snoop_rows, rows_to, rows_among}
use Rattle.ace_runs.specs.Bursts.{is_kept}
use Rattle.ace_runs.specs.Closing.{closing_of}
use Rattle.ace_run_rows.proofs.mixed.mixed.Goals as goal

pub returns-clause-enabled : goal.returns-clause-enabled
unfolding ar_kind_of ac_kind_of aw_kind_of merged number_of_bytes snoop_rows rows_to rows_among is_kept closing_of
returns-clause-enabled c = refl
