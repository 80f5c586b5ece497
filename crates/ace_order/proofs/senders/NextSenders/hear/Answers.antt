use Rattle.std.proofs.Common.{◌∷◌, length, refl, inl, inr, sym, subst, ◌∙◌}
use Rattle.ace_model.specs.Snoops.{snoop_at}
use Rattle.ace_model.specs.Trace.{is_some_and}
use Rattle.ace_model.proofs.General.Options.{Some-injective}
use Rattle.std.proofs.lemmas.Bool.{false_from_ne_true}
use Rattle.ace_order.specs.Senders.{IsSender, forwards_part}
use Rattle.ace_order.proofs.NextSenders.{sender-stays, the-same}
use Rattle.ace_order.proofs.senders.NextSenders.hear.Goals as goal

pub returns-then-issues_part : goal.returns-then-issues_part
returns-then-issues_part c = λ past stands was q. c.find_all.ensures (c.args.event.now ∷ past) stands q

pub returns-in-Some : goal.returns-in-Some
returns-in-Some c = λ past stands was q.
    let h = c.args.header.now in
    let e = c.args.event.now in
    let n = c.find.new.self in
    let p = c.in-Some.port in
    elim (the-same q p) [
      | inl own ↦ subst (IsSender h (e ∷ past) n) (sym own) (c.find.ensures.own (e ∷ past) stands)
      | inr apart ↦
          let other = false_from_ne_true (is_some_and (snoop_at (length past) e q) forwards_part) (λ t. apart (sym (Some-injective p q (sym c.in-Some.is ∙ c.receiver.ensures (length past) q t)))) in
          sender-stays h past e c.args.self.now n q (c.issues_part.ensures c.if-issues_part.false (length past)) other (c.find.ensures.others q apart) (was q)
    ]

pub returns-in_default : goal.returns-in_default
returns-in_default c = λ past stands was q.
    let e = c.args.event.now in
    let s = c.args.self.now in
    let other = false_from_ne_true (is_some_and (snoop_at (length past) e q) forwards_part) (λ t. c.in_default.not-Some q (c.receiver.ensures (length past) q t)) in
    sender-stays c.args.header.now past e s s q (c.issues_part.ensures c.if-issues_part.false (length past)) other refl (was q)
