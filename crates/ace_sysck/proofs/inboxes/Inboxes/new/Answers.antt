use Rattle.std.proofs.Common.{◌≡◌, ◌+◌, ◌++◌, [], ◌∷◌, length, slice_get, arith, sym, ap, subst, ◌∙◌, length-append}
use Rattle.std.proofs.lemmas.Grind.{common_steps}
use Rattle.ace_sysck.proofs.Terms.{IsEmptyInbox}
use Rattle.ace_sysck.proofs.Forwarding.InboxSteps.{fresh_more}
use Rattle.ace_sysck.proofs.inboxes.Inboxes.new.Goals as goal

pub loop-port-preserved : goal.loop-port-preserved
loop-port-preserved c =
    let i = c.loop-port.invariant in
    let h = c.args.header.now in
    let all = c.loop-port.all.items in
    let n = c.in_ok-empty_inbox.field-0 in
    let items : c.push.new.self.items ≡ all ++ n ∷ [] = grind (arith, common_steps) in
    let len = i.len in
    let more : length (all ++ n ∷ []) ≡ length all + 1 = length-append all (n ∷ []) in
    let empty : IsEmptyInbox h (length all) n = subst (λ k. IsEmptyInbox h k n) (sym len) c.in_ok-empty_inbox.ensures in
    record {
      len = ap length items ∙ omega (arith, more, len);
      fresh = λ q b at. fresh_more h all n i.fresh empty q b (ap (λ v. slice_get v q) (sym items) ∙ at);
    }
