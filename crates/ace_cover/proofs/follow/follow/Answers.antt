use Rattle.std.proofs.Common.{◌∙◌, arith, refl}
use Rattle.ace_cover.proofs.Ends.{failed, round_comes, round_stops, whole}
use Rattle.ace_cover.proofs.follow.follow.Goals as goal

pub events-preserved : goal.events-preserved
events-preserved g c =
    let before = c.events.invariant in
    let next = rw c.in-Ok-Some.field-0-is at c.in-Ok-Some.ensures.next in
    record {
      few = omega (arith, next.0);
      same_source = c.in-Ok-Some.ensures.same_source ∙ before.same_source;
      comes = λ limits same fresh. round_comes limits _ _ _ _ _ _ _ _ _ _ _ _ _ (rw same c.requires.counted) c.in_default.is refl (rw same next.0) next.1 next.2
          c.hear.ensures.heard (before.comes limits same fresh);
      faults = c.in-Ok-Some.ensures.cause ∙ before.faults;
    }

pub returns-in-Some-clause-right : goal.returns-in-Some-clause-right
returns-in-Some-clause-right g c limits told same fresh s =
    let before = c.events.invariant in
    let next = rw c.in-Ok-Some.field-0-is at c.in-Ok-Some.ensures.next in
    round_stops limits told _ _ _ _ _ _ _ _ _ _ _ _ c.in-Some.stop (rw same c.requires.counted) c.in-Some.is (rw same next.0) next.1 next.2
    c.hear.ensures.heard (before.comes limits same fresh) s

pub returns-in-Ok-None-clause-right : goal.returns-in-Ok-None-clause-right
returns-in-Ok-None-clause-right g c limits told same fresh s =
    let come = c.events.invariant.comes limits same fresh in
    let next = rw c.in-Ok-None.field-0-is at c.in-Ok-None.ensures.next in
    whole limits told _ come.0 _ _ _ _ (rw (← come.2, same) c.events.invariant.few) next.0 come.2 come.1.1 (come.3 told s)

pub returns-in-Err-clause-right : goal.returns-in-Err-clause-right
returns-in-Err-clause-right g c limits told same fresh s =
    let come = c.events.invariant.comes limits same fresh in
    failed limits _ told _ come.0 _ _ _ _ _ _ _ _ same come.2 c.refusal_of.ensures c.in-Err.ensures.next (come.3 told s)
