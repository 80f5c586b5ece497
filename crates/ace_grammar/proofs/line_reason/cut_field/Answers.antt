use Rattle.std.proofs.Common.{◌-◌, ◌+◌, length, refl}
use Rattle.ace_grammar.proofs.Reasons.CutFields.{cut_none, cut_first}
use Rattle.ace_grammar.proofs.line_reason.cut_field.Goals as goal

pub returns-in-Some : goal.returns-in-Some
returns-in-Some c =
    cut_first c.args.bytes.now c.in-Some.at (length c.args.bytes.now - (c.in-Some.at + 1)) c.in-Some.ensures.0 c.in-Some.ensures.1 c.in-Some.ensures.2 refl

pub returns-in-None : goal.returns-in-None
returns-in-None c = cut_none c.args.bytes.now c.in-None.ensures
