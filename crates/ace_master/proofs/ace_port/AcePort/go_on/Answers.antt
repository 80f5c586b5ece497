use Rattle.std.proofs.Common.{◌≡◌, false, sym, ap, subst, ◌∙◌}
use Rattle.ace_runs.specs.Closing.{closing_of}
use Rattle.ace_runs.specs.MasterSteps.{may_send}
use Rattle.ace_master.specs.declared.ace_port.AcePort.{AcePort}
use Rattle.ace_master.specs.AcePort.{AcePortStands, IsGoingOn}
use Rattle.ace_master.proofs.ace_port.AcePort.go_on.Goals as goal

pub returns-then-end-clause-turn : goal.returns-then-end-clause-turn
returns-then-end-clause-turn c = λ done plan past s none.
    let same = (c.complete.ensures.unchanged c.if-complete.false).0 in
    let m = c.complete.new.self in
    let now : AcePortStands m plan past = subst (λ (m : AcePort). AcePortStands m plan past) (sym same) s in
    let g : IsGoingOn m plan past c.in-Some.op =
    record { stands = now; next = sym (c.next.ensures plan past now) ∙ c.in-Some.is; goes = sym (c.is_waiting.ensures plan past m.port now.kept) ∙ c.if-is_waiting.false } in
    c.end.ensures.turn done plan past g

pub returns-else-end-clause-turn : goal.returns-else-end-clause-turn
returns-else-end-clause-turn c = λ done plan past s none.
    let same = (c.complete.ensures.unchanged c.if-complete.false).0 in
    let m = c.complete.new.self in
    let now : AcePortStands m plan past = subst (λ (m : AcePort). AcePortStands m plan past) (sym same) s in
    let g : IsGoingOn m plan past c.in-Some.op =
    record { stands = now; next = sym (c.next.ensures plan past now) ∙ c.in-Some.is; goes = sym (c.is_waiting.ensures plan past m.port now.kept) ∙ c.if-is_waiting.false } in
    let kept = (c.end.ensures.unchanged c.if-end.false).0 in
    let later : IsGoingOn c.end.new.self plan past c.in-Some.op = subst (λ (m : AcePort). IsGoingOn m plan past c.in-Some.op) (sym kept) g in
    let unclosed = c.end.ensures.none c.if-end.false plan past g in
    let idle : may_send plan.header past c.end.new.self.port ≡ false =
    ap (λ (m : AcePort). may_send plan.header past m.port) (kept ∙ same) ∙ none in
    c.ask.ensures.turn done plan past later
    (ap (λ (m : AcePort). closing_of plan.header past m.port c.in-Some.op) kept ∙ unclosed) idle
