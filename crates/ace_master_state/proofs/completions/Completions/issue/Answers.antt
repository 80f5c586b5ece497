use Rattle.std.proofs.Common.{◌≡◌, ℕ, ◌∷◌, Bool, true, false, ◌&&◌, ◌==◌, if◌then◌else◌, length, Option, Some, None, refl, sym, ap, ◌∙◌, arith}
use Rattle.std.proofs.lemmas.Bool.{eq-eqb}
use Rattle.ace_model.specs.declared.transactions.Transaction.{Transaction}
use Rattle.ace_model.specs.Messages.{is_dvm_completion}
use Rattle.ace_model.specs.Trace.{is_some_and}
use Rattle.ace_model.specs.Transactions.{issued}
use Rattle.ace_model.proofs.General.Options.{Some-injective}
use Rattle.ace_sysck.proofs.SyncSteps.{completes-few}
use Rattle.ace_engine.proofs.Rooms.{few-events-there}
use Rattle.ace_master_state.proofs.LinesHeard.{issued-port}
use Rattle.ace_master_state.proofs.SyncsAnswered.{awaits-stays, completes-more, syncs-stay}
use Rattle.ace_master_state.proofs.completions.Completions.issue.Goals as goal

pub returns : goal.returns
returns c = λ plan past p legal own same s.
    let e = c.args.event.now in
    let few = few-events-there plan (e ∷ past) legal in
    let most = completes-few (e ∷ past) p in
    let mine : is_some_and (issued (length past) e) (λ x. is_dvm_completion x && (x.port == p)) ≡ is_some_and (issued (length past) e) is_dvm_completion =
    by (issued (length past) e) (λ x is. Some-injective x.port p (sym (issued-port past e x is) ∙ own)) in
    let count = c.one.ensures ∙ ap (λ b. if b then 1 else 0) (c.completes.ensures (length past) ∙ sym mine) in
    let more_by = completes-more past e p in
    let was = s.issued in
    record {
      port = s.port;
      answered = s.answered ∙ sym (syncs-stay past e p same);
      issued = omega (arith, few, most, count, more_by, was);
      second = s.second ∙ sym (awaits-stays past e p same);
    }
  where
    by : {p : ℕ} (o : Option Transaction) → ((x : Transaction) → o ≡ Some x → x.port ≡ p) → is_some_and o (λ x. is_dvm_completion x && (x.port == p)) ≡ is_some_and o is_dvm_completion
    by None port = refl
    by {p} (Some x) port = ap (λ b. is_dvm_completion x && b) (eq-eqb x.port p (port x refl)) ∙ all (is_dvm_completion x)
      where
        all : (b : Bool) → (b && true) ≡ b
        all true = refl
        all false = refl
