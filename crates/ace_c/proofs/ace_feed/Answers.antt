use Rattle.std.proofs.Common.{◌∷◌, Option, sym, subst}
use Rattle.ace_check.specs.Run.{IsSound}
use Rattle.ace_c.specs.declared.session.Session.{Session}
use Rattle.ace_c.specs.Names.{named}
use Rattle.ace_c.specs.Records.{event_of}
use Rattle.ace_c.specs.Sessions.{IsEventThat}
use Rattle.ace_c.specs.Sessions as session
use Rattle.std.specs.Option.{MatchOption}
use Rattle.ace_c.proofs.ace_feed.Goals as goal

pub returns-in-Some-clause-fine : goal.returns-in-Some-clause-fine
returns-in-Some-clause-fine c = λ most h past s zero.
    let heard : session.Hears c.in-Some.session.value most h past = subst (λ (o : Option Session). MatchOption o ⊥ (λ x. session.Hears x most h past)) c.in-Some.ensures.taken s in
    subst (λ (o : Option Session). IsEventThat h (event_of c.args.event.now) (λ e. MatchOption o ⊥ (λ x. session.Hears x most h (e ∷ past)) × IsSound h (named (e ∷ past)))) (sym c.put.ensures)
    (c.feed-status.ensures.fine most h past (subst (λ (x : Session). session.Hears x most h past) (sym c.deref_mut.ensures.value) heard) zero)

pub returns-in-Some-clause-ends : goal.returns-in-Some-clause-ends
returns-in-Some-clause-ends c = λ most h past s other.
    let heard : session.Hears c.in-Some.session.value most h past = subst (λ (o : Option Session). MatchOption o ⊥ (λ x. session.Hears x most h past)) c.in-Some.ensures.taken s in
    let ends = c.feed-status.ensures.ends most h past (subst (λ (x : Session). session.Hears x most h past) (sym c.deref_mut.ensures.value) heard) other in
    (ends.0, subst (λ (o : Option Session). MatchOption o ⊥ (λ x. session.HasEnded x most h past ends.0)) (sym c.put.ensures) ends.1, ends.2, ends.3)
