use Rattle.ace_tool.specs.Told.{explain_of}
use Rattle.ace_tool.proofs.Without.{found_part, found_whole}
use Rattle.ace_tool.proofs.explain.tell_found.Goals as goal

pub returns-in-Ok-clause-whole : goal.returns-in-Ok-clause-whole
returns-in-Ok-clause-whole g c =
    found_whole c.tell_as.result c.in-Ok.facts (g.F.Folder.holds c.args.files.now) (explain_of c.args.call.now) c.args.finding
    (g.K.Sink.held c.args.out.now) (g.K.Sink.held c.tell_as.new.out) c.in-Ok.ensures c.tell_as.ensures.whole

pub returns-in-Ok-clause-part : goal.returns-in-Ok-clause-part
returns-in-Ok-clause-part g c =
    found_part c.tell_as.result c.in-Ok.facts (g.F.Folder.holds c.args.files.now) (explain_of c.args.call.now) c.args.finding
    (g.K.Sink.held c.args.out.now) (g.K.Sink.held c.tell_as.new.out) c.in-Ok.ensures c.tell_as.ensures.part
