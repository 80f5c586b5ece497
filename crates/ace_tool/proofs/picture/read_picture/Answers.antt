use Rattle.std.proofs.Common.{subst}
use Rattle.ace_tool.proofs.ChartSideSteps.{of_whole}
use Rattle.ace_tool.specs.ChartTold.{chart_of}
use Rattle.ace_tool.specs.Pictures.{IsPictureIn}
use Rattle.ace_tool.proofs.picture.read_picture.Goals as goal

pub returns-in-Ok-clause-right : goal.returns-in-Ok-clause-right
returns-in-Ok-clause-right g c =
    of_whole (λ bytes. IsPictureIn (g.F.Folder.holds c.args.files.now) (chart_of c.args.call.now) bytes c.picture_in.result) _ c.in-Ok.bytes.items
    c.in-Ok.ensures
    (subst (λ bytes. IsPictureIn (g.F.Folder.holds c.args.files.now) (chart_of c.args.call.now) bytes c.picture_in.result) c.as_slice.ensures.value
    c.picture_in.ensures.right)
