use Rattle.std.proofs.Common.{◌∙◌, IfSome, arith, refl, subst, sym}
use Rattle.ace_explanation.proofs.Ends.{failed, round_comes, round_line, round_stops, whole}
use Rattle.ace_explanation.proofs.follow.follow.Goals as goal
use Rattle.ace_explanation.specs.Explanations.{IsExplanationWithin}

pub events-preserved : goal.events-preserved
events-preserved g c =
    let before = c.events.invariant in
    let next = rw c.in-Ok-Some.field-0-is at c.in-Ok-Some.ensures.next in
    record {
      few = omega (arith, next.0);
      same_source = c.in-Ok-Some.ensures.same_source ∙ before.same_source;
      comes = λ limits same fresh. round_comes limits _ _ _ _ _ _ _ _ _ _ (rw same c.requires.counted) (rw c.if-not-hear.false refl) refl (rw same next.0) next.1 next.2
          c.hear.ensures.heard (before.comes limits same fresh);
      faults = c.in-Ok-Some.ensures.cause ∙ before.faults;
    }

pub returns-then-not-hear-clause-right : goal.returns-then-not-hear-clause-right
returns-then-not-hear-clause-right g c limits told same fresh s =
    let before = c.events.invariant in
    let next = rw c.in-Ok-Some.field-0-is at c.in-Ok-Some.ensures.next in
    round_stops limits told _ _ _ _ _ _ _ _ _ c.hear.new.told (rw same c.requires.counted) (rw c.if-not-hear.true refl) (rw same next.0) next.1 next.2
    c.hear.ensures.heard (before.comes limits same fresh) s

pub returns-then-not-hear-clause-line : goal.returns-then-not-hear-clause-line
returns-then-not-hear-clause-line g c limits same fresh header =
    let before = c.events.invariant in
    let next = rw c.in-Ok-Some.field-0-is at c.in-Ok-Some.ensures.next in
    round_line limits _ _ _ _ _ _ _ _ c.hear.new.told (rw same c.requires.counted) (rw c.if-not-hear.true refl) (rw same next.0) next.1
    c.hear.ensures.heard (before.comes limits same fresh) header

pub returns-in-Ok-None-clause-right : goal.returns-in-Ok-None-clause-right
returns-in-Ok-None-clause-right g c limits told same fresh s =
    let come = c.events.invariant.comes limits same fresh in
    let next = rw c.in-Ok-None.field-0-is at c.in-Ok-None.ensures.next in
    subst (λ x. IfSome told (λ bytes. IsExplanationWithin limits bytes x)) (sym (c.accepted.ensures.value limits.lines c.args.header come.0 come.1))
    (whole limits told _ come.0 _ _ (rw (← come.2, same) c.events.invariant.few) next.0 come.2 (come.3 told s))

pub returns-in-Err-clause-right : goal.returns-in-Err-clause-right
returns-in-Err-clause-right g c limits told same fresh s =
    let come = c.events.invariant.comes limits same fresh in
    failed limits _ told _ come.0 _ _ _ _ _ _ _ same come.2 c.unreadable.ensures.verdict c.in-Err.ensures.next c.in-Err.ensures.cut c.unreadable.ensures.place
    (come.3 told s)
