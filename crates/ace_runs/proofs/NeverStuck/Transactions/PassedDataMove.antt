-- Passed data that a granted read can't take are written to memory: its port is enabled by step 7.
use Rattle.std.proofs.Common.{◌≡◌, true, false, not, ◌&&◌, ◌==◌, if◌then◌else◌, [], ◌∷◌, map, Some, None, is_some, option_and_then, refl, ap, ◌∙◌}
use Rattle.std.specs.Option.{option_map, option_to_list}
use Rattle.std.proofs.lemmas.Bool.{and_parts, and_from, or_left, eq-eqb}
use Rattle.ace_event.specs.declared.event.Event.TheVariants.{M}
use Rattle.ace_event.specs.declared.header.Header.{Header}
use Rattle.ace_event.specs.declared.line.Line.{Line}
use Rattle.ace_model.specs.declared.snoops.Answer.{Answer}
use Rattle.ace_model.specs.declared.transactions.Transaction.{Transaction}
use Rattle.ace_model.specs.Copies.{copy_of}
use Rattle.ace_model.specs.Grants.{answer_of, are_passed_data_whole, granted, has_passed_data, is_granted, owes_data, passer, passes}
use Rattle.ace_model.specs.Plans.{Plan}
use Rattle.ace_model.specs.Replies.{copy_at_answer, passed_data}
use Rattle.ace_codes.specs.Responses.{passes_dirty}
use Rattle.ace_model.specs.Trace.{Trace, at_point, is_some_and}
use Rattle.ace_model.specs.Transactions.{is_outstanding, is_read, transfers, write_kind}
use Rattle.ace_model.specs.WriteRules.{data_of, data_of_write, k24, k25, may_write_data, may_write_passed}
use Rattle.ace_model.proofs.General.Options.{is_some_and-is, some_is}
use Rattle.ace_model.proofs.General.Ports.{found_passes}
use Rattle.ace_model.proofs.Trace.Growth.{some_issued-found}
use Rattle.ace_runs.specs.Bursts.{may_begin, may_serve}
use Rattle.ace_runs.specs.LineSteps.{memory_write, passed_burst, takes_dirt}
use Rattle.ace_runs.specs.Steps.{AreSteps, is_enabled_by}
use Rattle.ace_runs.proofs.Turns.{steps-accepted}
use Rattle.ace_runs.proofs.NeverStuck.Steps.SameEvents.{same-line-self}
use Rattle.ace_runs.proofs.NeverStuck.Data.NoDataOwed.{no-data-owed}
use Rattle.ace_runs.proofs.NeverStuck.Updates.UpdatesMove.{write-kept}
use Rattle.ace_runs.proofs.NeverStuck.Updates.UpdatesOrGranted.{HasLine}
use Rattle.ace_model.proofs.Trace.IssuedTransactions.{issuer-low}

-- the passed data of the granted transaction
pub passed-there : (h : Header) (past : Trace) (x : Transaction) → granted h past x.addr ≡ Some x → has_passed_data h past x ≡ true
    → (d : Line) × (passed_data h past x.addr ≡ Some d)
passed-there h past x g has =
    let some = (and_parts (is_granted h past x) (is_some (passer h past x.addr)) (and_parts (is_granted h past x && is_some (passer h past x.addr)) _ has).0).1 in
    let q = some_is (passer h past x.addr) some in
    let a = is_some_and-is (answer_of past q.0 x.addr) (λ a. passes_dirty a.resp) (found_passes h.ports (passes past x.addr) q.0 q.1) in (
      copy_of (at_point a.0.place past) q.0 x.addr,
      ap (λ o. if is_some_and o (has_passed_data h past) then option_and_then (copy_at_answer past x.addr) (passer h past x.addr) else None) g
          ∙ ap (λ b. if b then option_and_then (copy_at_answer past x.addr) (passer h past x.addr) else None) has
          ∙ ap (λ o. option_and_then (copy_at_answer past x.addr) o) q.1
          ∙ ap (λ o. option_map (λ (a : Answer). copy_of (at_point a.place past) q.0 x.addr) o) a.1,
    )

pub passed-whole : (plan : Plan) (past : Trace) (x : Transaction) → AreSteps plan past → has_passed_data plan.header past x ≡ true → are_passed_data_whole plan.header past x ≡ true
passed-whole plan past x s has =
    let h = plan.header in
    let some = (and_parts (is_granted h past x) (is_some (passer h past x.addr)) (and_parts (is_granted h past x && is_some (passer h past x.addr)) _ has).0).1 in
    let q = some_is (passer h past x.addr) some in
    ap (λ o. is_some_and o (λ p. not (owes_data past p x.addr))) q.1 ∙ ap not (no-data-owed plan past q.0 x.addr s)

-- A granted read without a transfer, with passed data that it can't take: its port is enabled by step 7.
pub passed-data-move : (plan : Plan) (past : Trace) (x : Transaction) → AreSteps plan past → HasLine plan.header past x.addr x → is_read x.chan ≡ true
    → has_passed_data plan.header past x ≡ true → takes_dirt plan.header past x ≡ false → (transfers past x.port x.id == 0) ≡ true
    → is_enabled_by (7 ∷ []) plan past x.port ≡ true
passed-data-move plan past x s line reads has taken none =
    let h = plan.header in
    let a = steps-accepted plan past s in
    let d = passed-there h past x line.holds has in
    let data_is : data_of h past x ≡ Some d.0 = ap (λ b. if b then passed_data h past x.addr else option_map (data_of_write h past x) (write_kind x)) reads ∙ d.1 in
    let may : may_write_passed h past x ≡ true = and_from _ _ (and_from _ _ has (passed-whole plan past x s has)) none in
    let may_m : k24 h past (M x.port x.chan x.id d.0) ≡ true = rw line.out (ap (λ b. if b then may_write_passed h past x else may_write_data h past x) reads ∙ may) in
    let is_data : k25 h past (M x.port x.chan x.id d.0) ≡ true = rw line.out (rw data_is (same-line-self d.0)) in
    let is = write-kept h past x.port x.chan x.id d.0 (and_from _ _ (issuer-low h past x a line.issued) refl) may_m is_data in
    let this : (is_read x.chan && has_passed_data h past x && not (takes_dirt h past x)) ≡ true = and_from _ _ (and_from _ _ reads has) (ap not taken) in
    let begins : may_begin h past (passed_burst h past x) ≡ true =
    ap (λ b. may_begin h past (if b then memory_write h past x else [])) this
    ∙ ap (λ o. may_begin h past (map (λ line. M x.port x.chan x.id line) (option_to_list o))) data_is
    ∙ is in
    let serves : may_serve passed_burst h past x.port ≡ true =
    some_issued-found past (λ y. (y.port == x.port) && is_outstanding h past y && may_begin h past (passed_burst h past y)) x.place x line.issued.there
    (and_from _ _ (and_from _ _ (eq-eqb x.port x.port refl) line.is_out) begins) in
    or_left (may_serve passed_burst h past x.port) _ serves
