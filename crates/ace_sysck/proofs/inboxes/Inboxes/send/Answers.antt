use Rattle.std.proofs.Common.{◌≡◌, slice_get, Some, arith, inl, inr, sym, ap, ◌∙◌, subst}
use Rattle.std.proofs.lemmas.Bool.{cases_eq}
use Rattle.std.proofs.lemmas.Grind.{common_steps}
use Rattle.std.proofs.lemmas.Option.{slice_get_within}
use Rattle.ace_sysck.proofs.Terms.{Receives, sent_to, sent_list}
use Rattle.ace_sysck.proofs.inboxes.Inboxes.send.Goals as goal

pub returns-clause-all : goal.returns-clause-all
returns-clause-all c = λ k b at.
    let i = c.loop-q.invariant in
    let within = slice_get_within c.args.self.now.ports.items k b at in
    let done = c.loop-q-test.false in
    let most = c.loop-q.auto.q-end in
    let size = i.size in
    i.done k b (grind (arith, common_steps)) at

pub loop-q-preserved : goal.loop-q-preserved
loop-q-preserved c =
    let i = c.loop-q.invariant in
    let one = c.send_one.ensures in
    record {
      size = one.size ∙ i.size;
      done = λ k b low at. elim (cases_eq k c.loop-q.q) [
        | inl same ↦
            let here : slice_get c.loop-q.self.ports.items c.loop-q.q ≡ Some b = i.rest c.loop-q.q (omega arith) ∙ ap (slice_get c.args.self.now.ports.items) (sym same) ∙ at in
            let d = one.one b here in
            (d.0, ap (slice_get c.send_one.new.self.ports.items) same ∙ d.1, subst (λ n. Receives (sent_to n c.args.sender (sent_list c.args.sent.now)) b d.0) (sym same) d.2)
        | inr off ↦
            let d = i.done k b (omega (arith, low, off)) at in
            (d.0, one.others k off ∙ d.1, d.2)
      ];
      rest = λ k high. one.others k (λ same. absurd (omega (arith, high, same))) ∙ i.rest k (omega (arith, high));
    }
