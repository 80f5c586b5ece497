use Rattle.std.proofs.Common.{◌≡◌, Bool, true, false, not, refl, ap, ◌∙◌}
use Rattle.ace_lineck.specs.Kept.{is_unsnooped}
use Rattle.ace_lineck.proofs.GrantLaws.{unsnooped-is}
use Rattle.ace_lineck.proofs.lines.LineCheck.was_snooped.Goals as goal

twice : (b : Bool) → not (not b) ≡ b
twice true = refl
twice false = refl

pub returns : goal.returns
returns c r l x s at there =
    ap not (c.is_unsnooped.ensures ∙ ap is_unsnooped (c.stage.ensures r l x s at there) ∙ unsnooped-is r.header r.past s.accepted c.args.port l) ∙ twice _
