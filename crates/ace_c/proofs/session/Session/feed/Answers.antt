use Rattle.std.proofs.Common.{◌∷◌, sym, subst}
use Rattle.ace_check.specs.Run.{StandsWithin}
use Rattle.ace_check.specs.declared.checker.Checker.{Checker}
use Rattle.ace_c.proofs.Sound.{event_then, heard_sound}
use Rattle.ace_c.specs.Names.{named}
use Rattle.ace_c.specs.Records.{event_of}
use Rattle.ace_c.proofs.session.Session.feed.Goals as goal

pub returns-in-None-clause-fine : goal.returns-in-None-clause-fine
returns-in-None-clause-fine c = λ most h past s zero.
    event_then h _ _ (λ e heard. (heard, heard_sound _ most h (e ∷ past) heard)) (event_of c.args.given.now) (c.in-None.ensures.fine most h past s)

pub returns-in-Some-ending_at-clause-ends : goal.returns-in-Some-ending_at-clause-ends
returns-in-Some-ending_at-clause-ends c = λ most h past s other.
    let f = c.in-Some-ending_at.ensures.ends most h past s in (
      c.in-Some-ending_at.ending,
      record { break = f.1.0; stands = subst (λ (k : Checker). StandsWithin most k h (named past) f.1.0) (sym c.end.ensures.2) f.1.1; ended = c.end.ensures.1 },
      f.0,
      c.end.ensures.0,
    )
