use Rattle.std.proofs.Common.{sym, ◌∙◌}
use Rattle.ace_journal.specs.Journals.{lines_of}
use Rattle.ace_origins.proofs.Least.{least_end}
use Rattle.ace_origins.proofs.search.lesser_at.Goals as goal

pub returns-in-None : goal.returns-in-None
returns-in-None c r lines since s =
    least_end (lines_of c.args.journal.now) c.args.place r.header r.past c.args.word c.args.least (sym c.line_at.ensures ∙ c.in-None.is) s
