use Rattle.std.proofs.Common.{◌∷◌, ℕ, sym, ap, ◌∙◌}
use Rattle.ace_tables.specs.States.{is_invalid}
use Rattle.ace_model.specs.States.{state_of}
use Rattle.ace_master_state.specs.Monitor.{kept_line, line_after}
use Rattle.ace_master_state.proofs.MonitorMoves.{monitored-after, names}
use Rattle.ace_master_state.proofs.monitor.Monitor.hear.Goals as goal

pub returns : goal.returns
returns c = λ h ways past p s m.
    let e = c.args.event.now in
    let line = c.args.self.now.line in
    record {
      port = m.port;
      set = λ l.
          monitored-after h past p e line m.set l
          ∙ ap (λ o. names o l)
          (sym (c.kept-self.ensures h ways (e ∷ past) p s ∙ ap (λ o. kept_line o (λ (k : ℕ). is_invalid (state_of h (e ∷ past) p k))) (c.line_after.ensures ∙ ap (λ q. line_after line q e) m.port)));
    }
