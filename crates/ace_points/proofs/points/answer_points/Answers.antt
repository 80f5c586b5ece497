use Rattle.std.proofs.Common.{refl}
use Rattle.ace_tables.specs.Answers.{rows_among, rows_to, snoop_rows}
use Rattle.ace_points.proofs.points.answer_points.Goals as goal

pub returns : goal.returns
unfolding snoop_rows rows_to rows_among
returns c = refl
