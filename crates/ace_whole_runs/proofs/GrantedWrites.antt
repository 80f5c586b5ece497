-- Step 9: a granted write that may write memory has its M and its B.
use Rattle.std.proofs.Common.{◌≡◌, ℕ, Bool, true, false, not, ◌&&◌, if◌then◌else◌, List, [], ◌∷◌, ◌++◌, map, Some, refl, sym, ap, subst, ◌∙◌, arith}
use Rattle.std.specs.Option.{option_to_list}
use Rattle.std.proofs.lemmas.Bool.{and_from, and_parts, not-true}
use Rattle.ace_event.specs.declared.event.Event.{Event}
use Rattle.ace_event.specs.declared.event.Event.TheVariants.{B, M}
use Rattle.ace_event.specs.declared.header.Header.{Header}
use Rattle.ace_event.specs.declared.line.Line.{Line}
use Rattle.ace_model.specs.declared.transactions.Transaction.{Transaction}
use Rattle.ace_model.specs.Plans.{Plan}
use Rattle.ace_model.specs.Trace.{Trace}
use Rattle.ace_model.specs.Transactions.{is_read, takes_grant}
use Rattle.ace_model.specs.WriteRules.{data_of_write}
use Rattle.ace_model.proofs.Grants.Granted.{granted_write}
use Rattle.ace_runs.specs.Bursts.{is_kept, may_begin, may_serve}
use Rattle.ace_runs.specs.LineSteps.{memory_write, response, write_burst}
use Rattle.ace_runs.proofs.NeverStuck.Updates.UpdatesMove.{data-there}
use Rattle.ace_runs.specs.Steps.{has_number, service}
use Rattle.ace_engine.specs.Engines.{IsLegal}
use Rattle.ace_home.specs.Among.{all_ports}
use Rattle.ace_home.specs.Home.{IsOf}
use Rattle.ace_home.specs.Services.{first_kept}
use Rattle.ace_home.proofs.Outstanding.{of-port}
use Rattle.ace_home.proofs.Serving.{response-kept-after}
use Rattle.ace_whole_runs.proofs.Interconnect.{GivesStep}
use Rattle.ace_whole_runs.proofs.Services.{IsGiven, MayServe, gives-given}

module _ (plan : Plan) (past : Trace) (p : ℕ) (legal : IsLegal plan past) where
  abbrev h : Header
  h = plan.header

  module _ (s : MayServe write_burst plan.header past p) where
    abbrev x : Transaction
    x = s.of

    o : IsOf plan.header past p s.of
    o = subst (λ q. IsOf h past q x) s.port (of-port h past x s.issued s.is_out)

    given : (line : Line) → write_burst plan.header past s.of ≡ M s.of.port s.of.chan s.of.id line ∷ B s.of.port s.of.id 0 ∷ []
        → is_kept plan.header past (M s.of.port s.of.chan s.of.id line) ≡ true → IsGiven plan.header past (write_burst plan.header past s.of)
    given line is kept =
        let m : Event = M x.port x.chan x.id line in
        let first : first_kept h past (write_burst h past x) ≡ Some m = ap (first_kept h past) is ∙ rw kept refl in
        let after = response-kept-after all_ports plan past legal p x o m first in
        subst (IsGiven h past) (sym is) (record { some = refl; few = refl; kept = and_from _ _ kept (and_from _ _ after refl); own = refl })

    written : IsGiven plan.header past (write_burst plan.header past s.of)
    written = by (not (is_read x.chan) && takes_grant x) refl s.begins
      where
        by : (b : Bool) → (not (is_read s.of.chan) && takes_grant s.of) ≡ b → may_begin plan.header past (write_burst plan.header past s.of) ≡ true
            → IsGiven plan.header past (write_burst plan.header past s.of)
        by true t begins =
            let both = and_parts (not (is_read x.chan)) (takes_grant x) t in
            let writes = not-true (is_read x.chan) both.0 in
            let k = granted_write x both.1 writes in
            let line = data_of_write h past x k.0 in
            let is : write_burst h past x ≡ M x.port x.chan x.id line ∷ B x.port x.id 0 ∷ [] =
            ap (λ b. if b then memory_write h past x ++ response x else []) t
            ∙ ap (λ d. map (λ l. M x.port x.chan x.id l) (option_to_list d) ++ response x) (data-there h past x k.0 writes k.1) in
            given line is (sym (ap (may_begin h past) is) ∙ begins)
        by false f begins =
            let bad : false ≡ true = sym (ap (λ b. may_begin h past (if b then memory_write h past x ++ response x else [])) f) ∙ begins in cc

  pub gives-write : (numbers : List ℕ) → has_number numbers (service 9 write_burst) ≡ true → may_serve write_burst plan.header past p ≡ true
      → GivesStep numbers plan past p
  gives-write numbers has = gives-given write_burst numbers plan past p 9 8 has (omega arith) refl written
