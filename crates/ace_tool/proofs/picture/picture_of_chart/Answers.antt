use Rattle.ace_tool.proofs.picture.picture_of_chart.Goals as goal

pub returns-in-Ok-clause-right : goal.returns-in-Ok-clause-right
returns-in-Ok-clause-right g c bytes drawn = c.picture_with.ensures.right (g.F.Folder.holds c.args.files.now) bytes drawn c.in-Ok.ensures
