use Rattle.std.proofs.Common.{◌-◌, ◌+◌, length, refl}
use Rattle.ace_grammar.proofs.Reasons.CutFields.{cut_none, cut_first}
use Rattle.ace_malformed.proofs.wrong_field.cut_field.Goals as goal

pub returns-in-Some-clause-fields : goal.returns-in-Some-clause-fields
returns-in-Some-clause-fields c =
    cut_first c.args.bytes.now c.in-Some.at (length c.args.bytes.now - (c.in-Some.at + 1)) c.in-Some.ensures.0 c.in-Some.ensures.1 c.in-Some.ensures.2 refl

pub returns-in-None-clause-fields : goal.returns-in-None-clause-fields
returns-in-None-clause-fields c = cut_none c.args.bytes.now c.in-None.ensures
