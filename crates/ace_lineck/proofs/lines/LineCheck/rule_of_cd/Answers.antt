use Rattle.std.proofs.Common.{◌∙◌, Some, ap}
use Rattle.ace_lineck.proofs.Asked.{asked}
use Rattle.ace_lineck.proofs.SnoopData.{sent-law}
use Rattle.ace_lineck.proofs.lines.LineCheck.rule_of_cd.Goals as goal

pub returns : goal.returns
returns c = λ r z last s first is beat at.
    let a = c.args in
    c.unless.ensures
    ∙ ap (asked 17) (c.is_word_sent.ensures ∙ sent-law a.self.now r a.port last a.word z a.beat c.record.result.now s is beat (c.record.ensures (Some z.addr) at))
