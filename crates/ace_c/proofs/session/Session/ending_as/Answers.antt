use Rattle.std.proofs.Common.{ℕ, Option, IfSome, sym, subst}
use Rattle.ace_event.specs.declared.event.Event.{Event}
use Rattle.ace_model.specs.declared.breaks.Break.{Break}
use Rattle.ace_check.specs.Run.{StandsWithin}
use Rattle.ace_c.specs.Names.{named}
use Rattle.ace_c.specs.Records.{event_as}
use Rattle.ace_c.specs.Sessions.{IsEnding}
use Rattle.ace_c.proofs.session.Session.ending_as.Goals as goal

pub returns-in-Some-clause-ends : goal.returns-in-Some-clause-ends
returns-in-Some-clause-ends c = λ most h past s.
    subst (λ (k : ℕ). IfSome c.ending_of.result (λ ending. IsEnding most h past (event_as k c.args.given.now) ending × ((x : Option Break) × StandsWithin most c.ending_of.new.self.checker h (named past) x))) (sym c.requires)
    (subst (λ (o : Option Event). IfSome c.ending_of.result (λ ending. IsEnding most h past o ending × ((x : Option Break) × StandsWithin most c.ending_of.new.self.checker h (named past) x))) c.in-Some.ensures (c.ending_of.ensures.ends most h past s))
