use Rattle.std.proofs.Common.{◌≡◌, ◌∷◌, true, false, ◌==◌, Some, sym, ap, subst, ◌∙◌}
use Rattle.std.proofs.lemmas.Bool.{eqb-true}
use Rattle.ace_event.specs.declared.event.Event.TheVariants.{Cr}
use Rattle.ace_model.specs.Trace.{port_of}
use Rattle.ace_model.proofs.General.Options.{is_some_and-is}
use Rattle.ace_runs.specs.Segments.{is_at_port}
use Rattle.ace_engine.specs.Engines.{IsLegal}
use Rattle.ace_master_state.specs.Completions.{CompletionsStand}
use Rattle.ace_master_state.proofs.SyncsAnswered.{answered-stay}
use Rattle.ace_master_state.proofs.Elsewhere.{completions-stay}
use Rattle.ace_master_state.proofs.completions.Completions.hear.Goals as goal

pub returns-then-not-is_at : goal.returns-then-not-is_at
returns-then-not-is_at c = λ plan past p port legal s.
    let e = c.args.event.now in
    let apart : is_at_port p e ≡ false = ap (λ q. is_at_port q e) (sym s.port) ∙ sym c.is_at.ensures ∙ c.if-not-is_at.true in
    completions-stay plan past p e legal apart c.args.self.now s

pub returns-in-Some : goal.returns-in-Some
returns-in-Some c = λ plan past p port legal s.
    let e = c.args.event.now in
    let at : is_at_port p e ≡ true = ap (λ q. is_at_port q e) (sym s.port) ∙ sym c.is_at.ensures ∙ c.if-not-is_at.false in
    let same : c.in-Cr.port ≡ p = eqb-true c.in-Cr.port p (ap (is_at_port p) (sym c.in-Cr.is) ∙ at) in
    let is : e ≡ Cr p c.in-Cr.resp c.in-Cr.st = c.in-Cr.is ∙ ap (λ q. Cr q c.in-Cr.resp c.in-Cr.st) same in
    subst (λ d. CompletionsStand (d ∷ past) p c.answer.new.self) (sym is)
    (c.answer.ensures plan past p c.in-Cr.resp c.in-Cr.st (subst (λ d. IsLegal plan (d ∷ past)) is legal) (sym (c.answered.ensures plan.header past p port) ∙ c.in-Some.is) s)

pub returns-in_default : goal.returns-in_default
returns-in_default c = λ plan past p port legal s.
    let e = c.args.event.now in
    let at : is_at_port p e ≡ true = ap (λ q. is_at_port q e) (sym s.port) ∙ sym c.is_at.ensures ∙ c.if-not-is_at.false in
    let named = is_some_and-is (port_of e) (λ q. q == p) at in
    let own : port_of e ≡ Some p = named.1 ∙ ap Some (eqb-true named.0 p named.2) in
    c.issue.ensures plan past p legal own (answered-stay plan.header past e p legal.accepted (λ q resp st is. absurd (c.in_default.not-Cr q resp st is))) s
