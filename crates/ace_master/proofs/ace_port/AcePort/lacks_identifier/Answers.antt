use Rattle.std.proofs.Common.{◌≡◌, [], not, if◌then◌else◌, inl, inr, sym, ap, ◌∙◌}
use Rattle.std.proofs.lemmas.Bool.{cases_Bool}
use Rattle.ace_model.proofs.General.Options.{none_is}
use Rattle.ace_runs.specs.Closing.{closing_of}
use Rattle.ace_runs.specs.Requests.{ends_or_asks, is_waiting}
use Rattle.ace_runs.proofs.NeverStuck.Operations.Lines.OfPlan.{next-planned}
use Rattle.ace_master_state.specs.Closing.{events_of}
use Rattle.ace_master.specs.AcePort.{IsGoingOn}
use Rattle.ace_master.proofs.AcePorts.Ends.{not-told}
use Rattle.ace_master.proofs.ace_port.AcePort.lacks_identifier.Goals as goal

pub returns-in-Nothing : goal.returns-in-Nothing
returns-in-Nothing c = λ lacks plan past s next.
    let m = c.args.self.now in
    let h = plan.header in
    let p = m.port in
    let op = c.args.op in
    elim (cases_Bool (is_waiting h past p op)) [
      | inl waits ↦ ap (λ b. if b then [] else ends_or_asks plan.ways h past p op (closing_of h past p op)) waits
      | inr goes ↦
          let g : IsGoingOn m plan past op = record { stands = s; next = next; goes = goes } in
          let fields = (next-planned plan past p op s.kept.legal.right next).fields in
          let told = not-told plan past p op s.tells.orderly next goes in
          let unclosed : closing_of h past p op ≡ [] = sym (c.closing_of.ensures plan past p s.kept fields told) ∙ ap events_of c.in-Nothing.is in
          c.asking_for.ensures.none plan past g unclosed (none_is c.asking_for.result (ap not (c.is_none.ensures ∙ ap not lacks)))
    ]
