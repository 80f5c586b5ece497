use Rattle.std.proofs.Common.{◌≡◌, ◌∙◌, true, false, is_some, nat_eq, refl, sym, ap}
use Rattle.ace_portck.proofs.Terms.{same_test, sending}
use Rattle.ace_portck.proofs.SnoopSteps.{cd-burst}
use Rattle.ace_portck.proofs.snoops.SnoopQueues.may_send.Goals as goal

pub returns-then-is_some : goal.returns-then-is_some
returns-then-is_some c = λ h past p word s.
    let last = c.args.last in
    let some : is_some (sending past p) ≡ true = ap is_some (sym (c.sending.ensures past p s)) ∙ sym c.is_some.ensures ∙ c.if-is_some.true in
    c.says_last.ensures ∙ ap (λ v. same_test last (nat_eq v 3)) (c.beat.ensures past p s) ∙ sym (cd-burst h past p last word ∙ rw some refl)

pub returns-else-is_some : goal.returns-else-is_some
returns-else-is_some c = λ h past p word s.
    let none : is_some (sending past p) ≡ false = ap is_some (sym (c.sending.ensures past p s)) ∙ sym c.is_some.ensures ∙ c.if-is_some.false in
    c.if-is_some.false ∙ sym (cd-burst h past p c.args.last word ∙ rw none refl)
