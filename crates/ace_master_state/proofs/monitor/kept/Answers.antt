use Rattle.std.proofs.Common.{ℕ, sym, ap, ◌∙◌}
use Rattle.ace_tables.specs.States.{is_invalid}
use Rattle.ace_model.specs.States.{state_of}
use Rattle.ace_master_state.proofs.MonitorMoves.{keeps-line, loses-line}
use Rattle.ace_master_state.proofs.monitor.kept.Goals as goal

pub returns : goal.returns
returns c = λ h ways past p s. keeps-line c.args.line c.in-Some.own (λ (k : ℕ). is_invalid (state_of h past p k)) c.in-Some.is (ap is_invalid (sym (c.state.ensures h ways past p s)) ∙ sym c.is_invalid.ensures ∙ c.if-is_invalid.false)

pub returns-then-is_invalid : goal.returns-then-is_invalid
returns-then-is_invalid c = λ h ways past p s. loses-line c.args.line c.in-Some.own (λ (k : ℕ). is_invalid (state_of h past p k)) c.in-Some.is (ap is_invalid (sym (c.state.ensures h ways past p s)) ∙ sym c.is_invalid.ensures ∙ c.if-is_invalid.true)
