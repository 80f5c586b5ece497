use Rattle.std.specs.List.{count_by}
use Rattle.std.proofs.Common.{◌≡◌, ◌+◌, ◌∷◌, true, false, ◌||◌, if◌then◌else◌, length, is_some, sym, ap, subst, ◌∙◌, arith}
use Rattle.std.proofs.lemmas.Bool.{eqb-true}
use Rattle.ace_event.specs.declared.event.Event.TheVariants.{Ac, Cr}
use Rattle.ace_model.specs.Messages.{first_waiting, is_sync_completed}
use Rattle.ace_runs.specs.Retiring.{tells_completion}
use Rattle.ace_runs.specs.Segments.{is_at_port}
use Rattle.ace_master_state.specs.Syncs.{SyncsStand, is_completion, stays_complete, waits_with}
use Rattle.ace_master_state.proofs.SyncMoves.{completed-here, completed-more, few-unanswered, no-completion, unanswered-fewer, unanswered-more, unanswered-stay, waits-here}
use Rattle.ace_master_state.proofs.Elsewhere.{syncs-unmoved}
use Rattle.ace_master_state.proofs.syncs.Syncs.hear.Goals as goal

pub returns-then-not-is_at : goal.returns-then-not-is_at
returns-then-not-is_at c = λ plan past p port legal s.
    let e = c.args.event.now in
    let apart : is_at_port p e ≡ false = ap (λ q. is_at_port q e) (sym s.port) ∙ sym c.is_at.ensures ∙ c.if-not-is_at.true in
    syncs-unmoved plan past p e legal apart c.args.self.now s

pub returns-in-Ac : goal.returns-in-Ac
returns-in-Ac c = λ plan past p port legal s.
    let e = c.args.event.now in
    let at : is_at_port p e ≡ true = ap (λ q. is_at_port q e) (sym s.port) ∙ sym c.is_at.ensures ∙ c.if-not-is_at.false in
    let same = eqb-true c.in-Ac.port p (ap (is_at_port p) (sym c.in-Ac.is) ∙ at) in
    let addr = c.in-Ac.addr in
    let snoop = c.in-Ac.snoop in
    let is : e ≡ Ac p addr snoop = c.in-Ac.is ∙ ap (λ q. Ac q addr snoop) same in
    let few = few-unanswered plan past p (record { right = legal.right; accepted = legal.accepted.0; follows = legal.follows.0; lean = legal.lean.0 }) in
    let was = s.unanswered in
    subst (λ d. SyncsStand (d ∷ past) p c.complete.new.self) (sym is)
    (record {
      port = c.complete.ensures.port ∙ s.port;
      second = c.complete.ensures.second ∙ s.second;
      completed = c.complete.ensures.completed ∙ ap (λ b. is_completion snoop || b) s.completed ∙ sym (completed-more past p addr snoop);
      unanswered =
          c.complete.ensures.unanswered (omega (arith, few, was)) ∙ ap (λ n. n + (if is_completion snoop then 1 else 0)) s.unanswered
          ∙ sym (unanswered-more plan.header past p addr snoop legal.accepted.0);
    })

pub returns-in-Some : goal.returns-in-Some
returns-in-Some c = λ plan past p port legal s.
    let e = c.args.event.now in
    let at : is_at_port p e ≡ true = ap (λ q. is_at_port q e) (sym s.port) ∙ sym c.is_at.ensures ∙ c.if-not-is_at.false in
    let same = eqb-true c.in-Cr.port p (ap (is_at_port p) (sym c.in-Cr.is) ∙ at) in
    let is : e ≡ Cr p c.in-Cr.resp c.in-Cr.st = c.in-Cr.is ∙ ap (λ q. Cr q c.in-Cr.resp c.in-Cr.st) same in
    let fewer = unanswered-fewer past p c.in-Cr.resp c.in-Cr.st c.in-Some.snoop (sym (c.answered.ensures plan.header past p port) ∙ c.in-Some.is) in
    subst (λ d. SyncsStand (d ∷ past) p c.answer.new.self) (sym is)
    (record {
      port = c.answer.ensures.port ∙ s.port;
      second = c.answer.ensures.second ∙ s.second;
      completed = c.answer.ensures.completed ∙ s.completed;
      unanswered = c.answer.ensures.unanswered _ (s.unanswered ∙ fewer);
    })

pub returns-in_default : goal.returns-in_default
returns-in_default c = λ plan past p port legal s.
    let e = c.args.event.now in
    let at : is_at_port p e ≡ true = ap (λ q. is_at_port q e) (sym s.port) ∙ sym c.is_at.ensures ∙ c.if-not-is_at.false in
    let word = c.word_issued.ensures (length past) in
    record {
      port = c.issue.ensures.port ∙ s.port;
      second = c.issue.ensures.second ∙ ap (λ b. waits_with b c.word_issued.result) s.second ∙ ap (waits_with (is_some (first_waiting past p))) word ∙ sym (waits-here past e p at);
      completed =
          c.issue.ensures.completed ∙ ap (λ b. stays_complete b c.args.self.now.completed c.word_issued.result) s.second ∙ ap (λ b. stays_complete (is_some (first_waiting past p)) b c.word_issued.result) s.completed
          ∙ ap (stays_complete (is_some (first_waiting past p)) (is_sync_completed past p)) word ∙ sym (completed-here past e p at (no-completion e p c.in_default.not-Ac));
      unanswered = c.issue.ensures.unanswered ∙ s.unanswered ∙ sym (ap (count_by tells_completion) (unanswered-stay past e p c.in_default.not-Ac c.in_default.not-Cr));
    }
