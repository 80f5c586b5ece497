use Rattle.std.proofs.Common.{◌∙◌, ap, take}
use Rattle.std.proofs.lemmas.List.{take_rest}
use Rattle.ace_bin.proofs.Numbers.{four_is}
use Rattle.ace_bin.proofs.fields.four_at.Goals as goal

pub returns-clause-value : goal.returns-clause-value
returns-clause-value c =
    c.from_be_bytes.ensures ∙ four_is c.args.place c.args.bytes.now _ c.requires (c.in-Some.ensures.cases.same ∙ ap (take 4) (take_rest c.args.bytes.now c.args.place))
