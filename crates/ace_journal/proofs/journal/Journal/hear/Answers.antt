use Rattle.std.proofs.Common.{sym, ◌∙◌}
use Rattle.ace_journal.proofs.Hearing.{line_heard, lineless_heard}
use Rattle.ace_journal.proofs.journal.Journal.hear.Goals as goal

pub returns-in-Some : goal.returns-in-Some
returns-in-Some c =
    rw c.in-Some.is
    (line_heard c.put_on.result c.args.self.now c.put_on.new.self c.args.event.now c.args.next c.in-Some.line (sym c.is_kept.ensures ∙ c.if-not-is_kept.false)
    c.put_on.ensures.here c.put_on.ensures.heard c.put_on.ensures.others c.put_on.ensures.lineless)

pub returns-in-None : goal.returns-in-None
returns-in-None c =
    rw c.in-None.is
    (lineless_heard c.put.result c.args.self.now c.put.new.rows c.args.event.now c.args.next (sym c.is_kept.ensures ∙ c.if-not-is_kept.false)
    c.put.ensures.kept c.put.ensures.heard)
