use Rattle.ace_top.proofs.RunTexts.{front_given, on_failure}
use Rattle.ace_top.proofs.run.give_events.Goals as goal

pub returns-in-Ok-clause-part : goal.returns-in-Ok-clause-part
returns-in-Ok-clause-part g c before text w =
    on_failure c.flush.result (front_given g.K.Sink.held before _ _ (c.flush.ensures.text before _ (c.in-Ok.ensures.text before text w)))
