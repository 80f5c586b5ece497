use Rattle.std.proofs.Common.{inl, inr, sym, subst, ◌∙◌, arith}
use Rattle.std.proofs.lemmas.Bool.{cases_eq}
use Rattle.ace_order.specs.Senders.{IsSender}
use Rattle.ace_order.proofs.senders.NextSenders.find_all.Goals as goal

pub returns : goal.returns
returns c = λ past stands q m low next.
    let end = c.loop-q-test.false in
    c.loop-q.invariant past q stands (omega (arith, end, low)) m low next

pub loop-q-preserved : goal.loop-q-preserved
loop-q-preserved c = λ past r stands low m few next.
    elim (cases_eq r c.loop-q.q) [
      | inl here ↦ subst (IsSender c.args.header.now past c.find.new.self) (sym here) (c.find.ensures.own past stands) m few next
      | inr earlier ↦ c.find.ensures.others r earlier ∙ c.loop-q.invariant past r stands (omega (arith, low, earlier)) m few next
    ]
