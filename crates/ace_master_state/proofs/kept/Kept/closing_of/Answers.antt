use Rattle.std.proofs.Common.{◌≡◌, ◌∷◌, [], true, false, if◌then◌else◌, List, Some, None, sym, ap, ◌∙◌}
use Rattle.ace_event.specs.declared.event.Event.{Event}
use Rattle.ace_runs.specs.Closing.{access_and_retirement, access_of, gives_access, state_named}
use Rattle.ace_master_state.proofs.Closings.{closes-access, closes-fail, closes-ok, closes-skip}
use Rattle.ace_master_state.proofs.kept.Kept.closing_of.Goals as goal

pub returns-then-may_retire : goal.returns-then-may_retire
returns-then-may_retire c = λ plan past p k fields told.
    let ok = sym (c.may_retire.ensures plan past p k told) ∙ c.if-may_retire.true in
    c.retirement.ensures plan past p k ∙ sym (closes-ok plan.header past p c.args.op ok)

pub returns-then-may_retire-2 : goal.returns-then-may_retire-2
returns-then-may_retire-2 c = λ plan past p k fields told.
    let ok = sym (c.may_retire.ensures plan past p k told) ∙ c.if-may_retire.false in
    let skip = sym (c.may_retire-2.ensures plan past p k told) ∙ c.if-may_retire-2.true in
    c.retirement-then-may_retire-2.ensures plan past p k ∙ sym (closes-skip plan.header past p c.args.op ok skip)

pub returns-then-may_retire-3 : goal.returns-then-may_retire-3
returns-then-may_retire-3 c = λ plan past p k fields told.
    let ok = sym (c.may_retire.ensures plan past p k told) ∙ c.if-may_retire.false in
    let skip = sym (c.may_retire-2.ensures plan past p k told) ∙ c.if-may_retire-2.false in
    let fail = sym (c.may_retire-3.ensures plan past p k told) ∙ c.if-may_retire-3.true in
    c.retirement-then-may_retire-3.ensures plan past p k ∙ sym (closes-fail plan.header past p c.args.op ok skip fail)

pub returns-then-not-gives_access : goal.returns-then-not-gives_access
returns-then-not-gives_access c = λ plan past p k fields told.
    let ok = sym (c.may_retire.ensures plan past p k told) ∙ c.if-may_retire.false in
    let skip = sym (c.may_retire-2.ensures plan past p k told) ∙ c.if-may_retire-2.false in
    let fail = sym (c.may_retire-3.ensures plan past p k told) ∙ c.if-may_retire-3.false in
    let gives : gives_access c.args.op (state_named plan.header past p c.args.op) ≡ false =
    ap (gives_access c.args.op) (sym (c.state_named.ensures plan past p k)) ∙ sym c.gives_access.ensures ∙ c.if-not-gives_access.true in
    sym (closes-access plan.header past p c.args.op ok skip fail ∙ ap (λ b. if b then access_and_retirement past p (access_of past p c.args.op) else []) gives)

pub returns-in-Some : goal.returns-in-Some
returns-in-Some c = λ plan past p k fields told.
    let ok = sym (c.may_retire.ensures plan past p k told) ∙ c.if-may_retire.false in
    let skip = sym (c.may_retire-2.ensures plan past p k told) ∙ c.if-may_retire-2.false in
    let fail = sym (c.may_retire-3.ensures plan past p k told) ∙ c.if-may_retire-3.false in
    let gives : gives_access c.args.op (state_named plan.header past p c.args.op) ≡ true =
    ap (gives_access c.args.op) (sym (c.state_named.ensures plan past p k)) ∙ sym c.gives_access.ensures ∙ c.if-not-gives_access.false in
    let access : access_of past p c.args.op ≡ Some c.in-Some.access = sym (c.access_of.ensures plan past p k fields gives) ∙ c.in-Some.is in
    ap (λ (es : List Event). c.in-Some.access ∷ es) (c.retirement-in-Some.ensures plan past p k)
    ∙ sym
    (closes-access plan.header past p c.args.op ok skip fail ∙ ap (λ b. if b then access_and_retirement past p (access_of past p c.args.op) else []) gives
    ∙ ap (access_and_retirement past p) access)

pub returns-in-None : goal.returns-in-None
returns-in-None c = λ plan past p k fields told.
    let ok = sym (c.may_retire.ensures plan past p k told) ∙ c.if-may_retire.false in
    let skip = sym (c.may_retire-2.ensures plan past p k told) ∙ c.if-may_retire-2.false in
    let fail = sym (c.may_retire-3.ensures plan past p k told) ∙ c.if-may_retire-3.false in
    let gives : gives_access c.args.op (state_named plan.header past p c.args.op) ≡ true =
    ap (gives_access c.args.op) (sym (c.state_named.ensures plan past p k)) ∙ sym c.gives_access.ensures ∙ c.if-not-gives_access.false in
    let access : access_of past p c.args.op ≡ None = sym (c.access_of.ensures plan past p k fields gives) ∙ c.in-None.is in
    sym
    (closes-access plan.header past p c.args.op ok skip fail ∙ ap (λ b. if b then access_and_retirement past p (access_of past p c.args.op) else []) gives
    ∙ ap (access_and_retirement past p) access)
