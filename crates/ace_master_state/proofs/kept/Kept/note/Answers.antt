use Rattle.std.proofs.Common.{◌≡◌, false, true, sym, ap, ◌∙◌}
use Rattle.ace_runs.specs.Segments.{is_at_port}
use Rattle.ace_master_state.proofs.Elsewhere.{rest-stays}
use Rattle.ace_master_state.proofs.kept.Kept.note.Goals as goal

pub returns-then-not-is_at-clause-rest : goal.returns-then-not-is_at-clause-rest
returns-then-not-is_at-clause-rest c = λ plan past p k legal low.
    let e = c.args.event.now in
    let mine = c.port.ensures ∙ k.port.port in
    let apart : is_at_port p e ≡ false = ap (λ q. is_at_port q e) (sym mine) ∙ sym c.is_at.ensures ∙ c.if-not-is_at.true in
    rest-stays plan past p e legal apart c.every_event_fits.ensures low c.args.self.now k

pub returns-clause-rest : goal.returns-clause-rest
returns-clause-rest c = λ plan past p k legal low.
    let e = c.args.event.now in
    let mine = c.port.ensures ∙ k.port.port in
    let at : is_at_port p e ≡ true = ap (λ q. is_at_port q e) (sym mine) ∙ sym c.is_at.ensures ∙ c.if-not-is_at.false in
    c.note_own.ensures.rest plan past p k legal low at
