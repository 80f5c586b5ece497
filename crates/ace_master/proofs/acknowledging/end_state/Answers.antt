use Rattle.std.proofs.Common.{◌≡◌, List, Option, Some, None, find, sym, ap, ◌∙◌}
use Rattle.ace_codes.specs.declared.state.LineState.{LineState}
use Rattle.ace_tables.specs.EndStates.{end_states_of_read, end_states_of_write}
use Rattle.ace_tables.specs.States.{is_among}
use Rattle.ace_model.specs.Transactions.{read_kind, write_kind}
use Rattle.ace_runs.specs.MasterSteps.{end_order}
use Rattle.ace_master.proofs.AcePorts.Due.{due-port, read-ends, write-ends}
use Rattle.ace_master.proofs.acknowledging.end_state.Goals.{in-Some, in-None+in_ok-write_kind-in-None}
use Rattle.ace_master.proofs.acknowledging.end_state.Goals as goal

-- the first state of the order that is one of these
abbrev first : List LineState → Option LineState
first states = find (λ st. is_among st states) end_order

pub returns : goal.returns
returns c = λ h ways past p lines a ace s.
    let d = c.args.due.now in
    let x = d.transaction in
    let held = c.held-held.ensures h ways past p lines (due-port h past p d a ace s) in
    elim c.match-read_kind.branch [
      | in-Some w ↦
          let k = w.in-Some.kind in
          let is : read_kind x ≡ Some k = sym c.read_kind.ensures ∙ w.in-Some.is in
          c.first_of.ensures ∙ ap first w.states-is ∙ ap first w.end_read-states.ensures
          ∙ ap (λ v. first (end_states_of_read k v w.is_shared.result w.passes_dirty.result w.has_failed.result)) held
          ∙ ap (λ b. first (end_states_of_read k _ b w.passes_dirty.result w.has_failed.result)) w.is_shared.ensures
          ∙ ap (λ b. first (end_states_of_read k _ _ b w.has_failed.result)) w.passes_dirty.ensures
          ∙ ap (λ b. first (end_states_of_read k _ _ _ b)) (w.has_failed.ensures h past p a ace s) ∙ sym (ap first (read-ends h past p d a ace s k is))
      | in-None+in_ok-write_kind-in-None w ↦
          let k = w.in_ok-write_kind-in-None.field-0 in
          let none : read_kind x ≡ None = sym c.read_kind.ensures ∙ w.in-None.is in
          let is : write_kind x ≡ Some k = sym w.write_kind.ensures ∙ w.in_ok-write_kind-in-None.was in
          c.first_of.ensures ∙ ap first w.states-is ∙ ap first w.end_write-states.ensures
          ∙ ap (λ v. first (end_states_of_write k v)) held ∙ sym (ap first (write-ends h past p d a ace s k none is))
    ]
