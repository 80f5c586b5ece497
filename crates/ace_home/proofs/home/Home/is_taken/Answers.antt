use Rattle.std.proofs.Common.{is_some, ap, ◌∙◌}
use Rattle.ace_model.specs.Grants.{granted}
use Rattle.ace_lineck.specs.Records.{name_of}
use Rattle.ace_home.proofs.AtRest.{some-mapped}
use Rattle.ace_home.proofs.Kept.{lines-stand, recording}
use Rattle.ace_home.proofs.home.Home.is_taken.Goals as goal

pub returns : goal.returns
returns c = λ plan past s.
    let lines = lines-stand c.args.self.now plan past c.lines-lines.result.now s c.lines-lines.ensures in
    c.is_some.ensures ∙ ap (λ o. is_some o) (c.granted.ensures (recording plan past) c.args.line lines c.place.ensures)
    ∙ some-mapped name_of (granted plan.header past c.args.line)
