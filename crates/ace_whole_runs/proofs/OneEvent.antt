-- Bursts of one event: where it breaks no rule, the burst is a step. So steps 5, 7, 8 and 12 have theirs.
use Rattle.std.proofs.Common.{◌≡◌, ℕ, Bool, true, false, not, ◌&&◌, ◌||◌, if◌then◌else◌, List, [], ◌∷◌, map, Option, Some, None, refl, arith}
use Rattle.std.specs.Option.{option_to_list}
use Rattle.std.proofs.lemmas.Bool.{and_from}
use Rattle.ace_event.specs.declared.event.Event.{Event}
use Rattle.ace_event.specs.declared.event.Event.TheVariants.{G, M, R}
use Rattle.ace_event.specs.declared.header.Header.{Header}
use Rattle.ace_event.specs.declared.line.Line.{Line}
use Rattle.ace_model.specs.declared.transactions.Transaction.{Transaction}
use Rattle.ace_model.specs.Grants.{has_passed_data}
use Rattle.ace_model.specs.Messages.{is_dvm_completion, is_message_part}
use Rattle.ace_model.specs.Plans.{Plan}
use Rattle.ace_model.specs.Trace.{Trace, implies}
use Rattle.ace_model.specs.Transactions.{is_line, is_read, takes_grant}
use Rattle.ace_model.specs.WriteRules.{data_of}
use Rattle.ace_runs.specs.Bursts.{may_begin, may_serve}
use Rattle.ace_runs.specs.LineSteps.{grant_burst, is_first_to_wait, is_last_beat, next_word, passed_burst, response_bits, takes_dirt, transfer_burst}
use Rattle.ace_runs.specs.OrderSteps.{dvm_burst, plain_transfer}
use Rattle.ace_runs.specs.Steps.{has_number, service}
use Rattle.ace_engine.specs.Engines.{Order, is_of_interconnect, numbers_of}
use Rattle.ace_whole_runs.proofs.Interconnect.{GivesStep}
use Rattle.ace_whole_runs.proofs.Services.{IsGiven, gives-given}

alone-if : (h : Header) (past : Trace) (b : Bool) (e : Event) → is_of_interconnect e ≡ true → may_begin h past (if b then e ∷ [] else []) ≡ true
    → IsGiven h past (if b then e ∷ [] else [])
alone-if h past true e own begins = record { some = refl; few = refl; kept = and_from _ _ begins refl; own = and_from _ _ own refl }
alone-if h past false e own begins = cc

alone-written : (h : Header) (past : Trace) (b : Bool) (o : Option Line) (x : Transaction)
    → may_begin h past (if b then map (λ l. M x.port x.chan x.id l) (option_to_list o) else []) ≡ true
    → IsGiven h past (if b then map (λ l. M x.port x.chan x.id l) (option_to_list o) else [])
alone-written h past true (Some l) x begins = record { some = refl; few = refl; kept = and_from _ _ begins refl; own = refl }
alone-written h past true None x begins = cc
alone-written h past false o x begins = cc

module _ (plan : Plan) (past : Trace) (p : ℕ) where
  abbrev h : Header
  h = plan.header

  pub gives-grant : (numbers : List ℕ) → has_number numbers (service 5 grant_burst) ≡ true → may_serve grant_burst plan.header past p ≡ true
      → GivesStep numbers plan past p
  gives-grant numbers has =
      gives-given grant_burst numbers plan past p 5 4 has (omega arith) refl
      (λ s. let x = s.of in alone-if h past (takes_grant x && is_first_to_wait h past x) (G x.port x.chan x.id) refl s.begins)

  pub gives-passed : (numbers : List ℕ) → has_number numbers (service 7 passed_burst) ≡ true → may_serve passed_burst plan.header past p ≡ true
      → GivesStep numbers plan past p
  gives-passed numbers has =
      gives-given passed_burst numbers plan past p 7 6 has (omega arith) refl
      (λ s. let x = s.of in alone-written h past (is_read x.chan && has_passed_data h past x && not (takes_dirt h past x)) (data_of h past x) x s.begins)

  pub gives-transfer : (numbers : List ℕ) → has_number numbers (service 8 transfer_burst) ≡ true → may_serve transfer_burst plan.header past p ≡ true
      → GivesStep numbers plan past p
  gives-transfer numbers has =
      gives-given transfer_burst numbers plan past p 8 7 has (omega arith) refl
      (λ s. let x = s.of in alone-if h past (is_read x.chan && is_line x && implies (has_passed_data h past x) (takes_dirt h past x))
      (R x.port x.id (response_bits h past x) (is_last_beat past x) (next_word past x)) refl s.begins)

  pub gives-answer : may_serve dvm_burst plan.header past p ≡ true → GivesStep (numbers_of Order) plan past p
  gives-answer =
      gives-given dvm_burst (numbers_of Order) plan past p 12 11 refl (omega arith) refl
      (λ s. alone-if h past (is_message_part s.of || is_dvm_completion s.of) (plain_transfer s.of) refl s.begins)
