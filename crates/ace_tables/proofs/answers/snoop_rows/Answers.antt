use Rattle.std.proofs.Common.{sym, ◌∙◌}
use Rattle.ace_tables.proofs.RowsAmong.{invalid-rows}
use Rattle.ace_tables.proofs.answers.snoop_rows.Goals as goal

pub returns-then-is_invalid : goal.returns-then-is_invalid
returns-then-is_invalid c = c.plain_rows.ensures ∙ sym (invalid-rows c.args.snoop c.args.held c.args.update (sym c.is_invalid.ensures ∙ c.if-is_invalid.true))
