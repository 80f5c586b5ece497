use Rattle.ace_tool.proofs.picture.picture_in.Goals as goal

pub returns-in-None-clause-right : goal.returns-in-None-clause-right
returns-in-None-clause-right g c =
    c.picture_of.ensures.right c.args.bytes.now (rw c.no_limits.ensures at c.drawing_of-drawing.ensures.right)
