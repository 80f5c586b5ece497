use Rattle.ace_tool.specs.declared.finding.Finding.TheVariants.{Explained}
use Rattle.ace_tool.proofs.Without.{without_part, without_whole}
use Rattle.ace_tool.proofs.explain.tell_explanation.Goals as goal

pub returns-clause-whole : goal.returns-clause-whole
returns-clause-whole g c =
    without_whole c.tell_with.result c.none-facts.result c.args.name.now c.args.short (Explained c.args.explanation)
    (g.K.Sink.held c.args.out.now) (g.K.Sink.held c.tell_with.new.out) c.none-facts.ensures.nothing c.none-facts.ensures.no_fault
    c.tell_with.ensures.whole

pub returns-clause-part : goal.returns-clause-part
returns-clause-part g c =
    without_part c.tell_with.result c.none-facts.result c.args.name.now c.args.short (Explained c.args.explanation)
    (g.K.Sink.held c.args.out.now) (g.K.Sink.held c.tell_with.new.out) c.none-facts.ensures.nothing c.none-facts.ensures.no_fault
    c.tell_with.ensures.part
