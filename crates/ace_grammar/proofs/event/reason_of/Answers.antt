use Rattle.std.proofs.Common.{sym, ◌∙◌}
use Rattle.ace_grammar.proofs.Reasons.LineReasons.{has_reason, unread_has_reason}
use Rattle.ace_grammar.proofs.event.reason_of.Goals as goal

pub unreachable-requires : goal.unreachable-requires
unreachable-requires c = unread_has_reason c.args.version c.args.line.now c.requires (sym c.line_reason.ensures ∙ c.in-None.is)

pub returns : goal.returns
returns c = has_reason c.args.version c.args.line.now c.in-Some.reason (sym c.line_reason.ensures ∙ c.in-Some.is)
