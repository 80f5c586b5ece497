-- A granted write whose burst is whole and whose snoops are done writes memory: its port is enabled by step 9.
use Rattle.std.proofs.Common.{◌≡◌, ℕ, true, false, not, ◌&&◌, ◌||◌, ◌==◌, if◌then◌else◌, [], ◌∷◌, ◌++◌, map, Some, refl, ap, subst, ◌∙◌}
use Rattle.std.specs.Option.{option_to_list}
use Rattle.std.proofs.lemmas.Bool.{and_from, or_left, eq-eqb, false_from_ne_true}
use Rattle.ace_event.specs.declared.event.Channel.TheVariants.{Write}
use Rattle.ace_event.specs.declared.event.Event.TheVariants.{M}
use Rattle.ace_model.specs.declared.transactions.Transaction.{Transaction}
use Rattle.ace_model.specs.Plans.{Plan}
use Rattle.ace_model.specs.States.{are_snoops_done}
use Rattle.ace_model.specs.Trace.{Trace}
use Rattle.ace_model.specs.Transactions.{is_complete, is_outstanding, is_read, takes_grant}
use Rattle.ace_model.specs.WriteRules.{data_of, data_of_write, is_update_due, is_write_due, k24, k25, may_write_data, may_write_passed}
use Rattle.ace_model.specs.Writes.{has_memory_write, is_burst_whole}
use Rattle.ace_model.proofs.Grants.Granted.{granted_given, granted_write}
use Rattle.ace_model.proofs.Trace.Growth.{some_issued-found}
use Rattle.ace_model.proofs.Trace.Looks.{is_write-is}
use Rattle.ace_runs.specs.Bursts.{may_begin, may_serve}
use Rattle.ace_runs.specs.LineSteps.{memory_write, response, write_burst}
use Rattle.ace_runs.specs.Steps.{AreSteps, is_enabled_by}
use Rattle.ace_runs.proofs.Turns.{steps-accepted}
use Rattle.ace_runs.proofs.NeverStuck.Steps.SameEvents.{same-line-self}
use Rattle.ace_runs.proofs.NeverStuck.Updates.UpdatesMove.{data-there, write-kept}
use Rattle.ace_runs.proofs.NeverStuck.Updates.UpdatesOrGranted.{HasLine}
use Rattle.ace_model.proofs.Trace.IssuedTransactions.{issuer-low}
use Rattle.ace_runs.proofs.NeverStuck.Data.WritesAnswered.{writes-answered}

-- a write that isn't complete has written no memory
pub undone-unwritten : (plan : Plan) (past : Trace) (x : Transaction) → AreSteps plan past → is_read x.chan ≡ false → is_complete past x.port x.chan x.id ≡ false
    → has_memory_write past x.port x.chan x.id ≡ false
undone-unwritten plan past x s writes undone =
    let chan = is_write-is x.chan writes in
    false_from_ne_true (has_memory_write past x.port x.chan x.id) (λ m.
    let done = writes-answered plan past s x.port x.id (subst (λ c. has_memory_write past x.port c x.id ≡ true) chan m) in
    let undone_here : is_complete past x.port Write x.id ≡ false = subst (λ c. is_complete past x.port c x.id ≡ false) chan undone in cc)

-- A granted write with a whole burst that isn't complete, with its snoops done: its port is enabled by step 9.
pub granted-write-moves : (plan : Plan) (past : Trace) (l : ℕ) (x : Transaction) → AreSteps plan past → HasLine plan.header past l x → is_read x.chan ≡ false
    → is_complete past x.port x.chan x.id ≡ false → is_burst_whole past x ≡ true → are_snoops_done plan.header past x ≡ true
    → is_enabled_by (9 ∷ []) plan past x.port ≡ true
granted-write-moves plan past l x s has writes undone whole snooped =
    let h = plan.header in
    let a = steps-accepted plan past s in
    let kind = (granted_given h past a l x has.holds).kind in
    let k = granted_write x kind writes in
    let line = data_of_write h past x k.0 in
    let data_is : data_of h past x ≡ Some line = data-there h past x k.0 writes k.1 in
    let unwritten = undone-unwritten plan past x s writes undone in
    let due : (is_write_due h past x || is_update_due h past x) ≡ true = or_left (is_write_due h past x) (is_update_due h past x) (and_from _ _ has.is snooped) in
    let may : may_write_data h past x ≡ true = and_from _ _ (and_from _ _ whole (ap not unwritten)) due in
    let may_m : k24 h past (M x.port x.chan x.id line) ≡ true = rw has.out (ap (λ b. if b then may_write_passed h past x else may_write_data h past x) writes ∙ may) in
    let is_data : k25 h past (M x.port x.chan x.id line) ≡ true = rw has.out (rw data_is (same-line-self line)) in
    let is = write-kept h past x.port x.chan x.id line (and_from _ _ (issuer-low h past x a has.issued) refl) may_m is_data in
    let this : (not (is_read x.chan) && takes_grant x) ≡ true = and_from _ _ (ap not writes) kind in
    let begins : may_begin h past (write_burst h past x) ≡ true =
    ap (λ b. may_begin h past (if b then memory_write h past x ++ response x else [])) this
    ∙ ap (λ o. may_begin h past (map (λ line. M x.port x.chan x.id line) (option_to_list o) ++ response x)) data_is
    ∙ is in
    let serves : may_serve write_burst h past x.port ≡ true =
    some_issued-found past (λ y. (y.port == x.port) && is_outstanding h past y && may_begin h past (write_burst h past y)) x.place x has.issued.there
    (and_from _ _ (and_from _ _ (eq-eqb x.port x.port refl) has.is_out) begins) in
    or_left (may_serve write_burst h past x.port) _ serves
