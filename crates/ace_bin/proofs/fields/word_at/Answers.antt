use Rattle.std.proofs.Common.{◌∙◌, ap, take}
use Rattle.std.proofs.lemmas.List.{take_rest}
use Rattle.ace_bin.proofs.Numbers.{sixteen_is}
use Rattle.ace_bin.proofs.fields.word_at.Goals as goal

pub returns-clause-value : goal.returns-clause-value
returns-clause-value c =
    c.from_be_bytes.ensures ∙ sixteen_is c.args.place c.args.bytes.now _ c.requires (c.in-Some.ensures.cases.same ∙ ap (take 16) (take_rest c.args.bytes.now c.args.place))
