use Rattle.std.proofs.Common.{◌∷◌, refl, sym, subst}
use Rattle.ace_lineck.proofs.Terms.{Cr, GrantFits, GrantStands, IsGrantStep}
use Rattle.ace_lineck.proofs.GrantHear.{answer_heard, none_heard}
use Rattle.ace_lineck.proofs.snoop_answers.hear_in_grant.Goals as goal

pub returns-in-None : goal.returns-in-None
returns-in-None c = λ h past l st t xs memory s is.
    let e = Cr c.args.port c.args.resp st in
    subst (GrantStands h (e ∷ past) l) (sym c.in-None.is) (none_heard h past l e refl (subst (GrantStands h past l) c.in-None.is s.grant))

pub returns-in-Some : goal.returns-in-Some
returns-in-Some c = λ h past l st t xs memory s is.
    let e = Cr c.args.port c.args.resp st in
    subst (GrantFits h (e ∷ past) l) (sym c.hear_answer.ensures.rest)
    (answer_heard h past l t c.in-Some.g xs memory c.args.port c.args.resp st (subst (λ v. IsGrantStep h past l e t v xs memory) c.in-Some.is s) c.hear_answer.new.self.stages c.args.copy.now
    c.hear_answer.ensures.stages is)
