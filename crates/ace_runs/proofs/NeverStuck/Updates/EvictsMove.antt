-- An Evict that isn't complete has its response: its port is enabled by step 3.
use Rattle.std.proofs.Common.{◌≡◌, ℕ, true, false, not, ◌&&◌, ◌||◌, ◌==◌, if◌then◌else◌, [], ◌∷◌, ◌++◌, Some, None, refl, ap, subst, ◌∙◌}
use Rattle.std.proofs.lemmas.Bool.{and_from, or_left, eq-eqb, false_from_ne_true}
use Rattle.ace_codes.specs.declared.kind.AwKind.{AwKind}
use Rattle.ace_codes.specs.declared.kind.AwKind.TheVariants as write
use Rattle.ace_event.specs.declared.event.Channel.TheVariants.{Write}
use Rattle.ace_event.specs.declared.event.Event.TheVariants.{B}
use Rattle.ace_event.specs.declared.header.Header.{Header}
use Rattle.ace_model.specs.declared.transactions.Transaction.{Transaction}
use Rattle.ace_model.specs.AddressRules.{k1}
use Rattle.ace_model.specs.Barriers.{is_barrier_half, may_answer, pair_of}
use Rattle.ace_model.specs.Kinds.{has_write_data, is_evict, is_read_barrier, is_update, is_write_barrier}
use Rattle.ace_model.specs.OrderRules.{k34, may_answer_half}
use Rattle.ace_model.specs.Plans.{Plan}
use Rattle.ace_model.specs.Progress.{evicts, updates_memory}
use Rattle.ace_model.specs.Trace.{Trace, implies, is_some_and}
use Rattle.ace_model.specs.Transactions.{is_complete, is_outstanding, is_read, outstanding, read_kind, write_kind}
use Rattle.ace_model.specs.WriteRules.{k26, may_respond}
use Rattle.ace_model.specs.Writes.{has_memory_write}
use Rattle.ace_model.proofs.General.Options.{is_some_and-is}
use Rattle.ace_model.proofs.Trace.Growth.{IsIssued, some_issued-found}
use Rattle.ace_model.proofs.Trace.LineOnce.{outstanding_is}
use Rattle.ace_model.proofs.Trace.Looks.{is_write-is}
use Rattle.ace_runs.specs.Bursts.{is_kept, may_begin, may_serve}
use Rattle.ace_runs.specs.LineSteps.{memory_write, response, update_burst}
use Rattle.ace_runs.specs.Steps.{AreSteps, is_enabled_by}
use Rattle.ace_runs.proofs.Turns.{steps-accepted}
use Rattle.ace_runs.proofs.Accepting.{three-kept}
use Rattle.ace_model.proofs.Trace.IssuedTransactions.{issuer-low}

-- of the rules that look at a response three can be broken by one that is OKAY
pub response-kept : (h : Header) (past : Trace) (p i : ℕ) → k1 h past (B p i 0) ≡ true → k26 h past (B p i 0) ≡ true
    → k34 h past (B p i 0) ≡ true → is_kept h past (B p i 0) ≡ true
unfolding is_kept
response-kept h past p i one may order = three-kept (k1 h past (B p i 0)) (k26 h past (B p i 0)) (k34 h past (B p i 0)) 1 26 34 one may order

pub evict-no-data : (k : AwKind) → is_evict k ≡ true → has_write_data k ≡ false
evict-no-data write.Evict e = refl
evict-no-data k e = cc

evict-no-barrier : (k : AwKind) → is_evict k ≡ true → is_write_barrier k ≡ false
evict-no-barrier write.Evict e = refl
evict-no-barrier k e = cc

pub evict-no-update : (k : AwKind) → is_evict k ≡ true → is_update k ≡ false
evict-no-update write.Evict e = refl
evict-no-update k e = cc

pub evicts-write : (x : Transaction) → evicts x ≡ true → is_read x.chan ≡ false
evicts-write x e = false_from_ne_true (is_read x.chan) (λ t. let bad : false ≡ true = rw t at e in cc)

pub evicts-no-half : (x : Transaction) (k : AwKind) → is_read x.chan ≡ false → write_kind x ≡ Some k → is_evict k ≡ true → is_barrier_half x ≡ false
evicts-no-half x k writes kind e =
    let none : read_kind x ≡ None = rw writes refl in
    ap (λ o. is_some_and o is_read_barrier || is_some_and (write_kind x) is_write_barrier) none
    ∙ ap (λ o. is_some_and o is_write_barrier) kind
    ∙ evict-no-barrier k e

pub may-answer-evict : (past : Trace) (x : Transaction) → is_barrier_half x ≡ false → may_answer_half past x ≡ true
may-answer-evict past x none = ap (λ b. implies b (is_some_and (pair_of past x) (may_answer past x.port))) none

may-respond-evict : (past : Trace) (x : Transaction) → is_complete past x.port x.chan x.id ≡ false → is_some_and (write_kind x) has_write_data ≡ false → may_respond past x ≡ true
may-respond-evict past x undone none =
    and_from _ _ (ap not undone) (ap (λ b. implies b (has_memory_write past x.port x.chan x.id)) none)

-- The port of an Evict that isn't complete is enabled by step 3.
pub evict-moves : (plan : Plan) (past : Trace) (x : Transaction) → AreSteps plan past → IsIssued past x → evicts x ≡ true
    → is_outstanding plan.header past x ≡ true → is_complete past x.port x.chan x.id ≡ false → is_enabled_by (3 ∷ []) plan past x.port ≡ true
evict-moves plan past x s i e is_out undone =
    let h = plan.header in
    let writes = evicts-write x e in
    let chan = is_write-is x.chan writes in
    let k = is_some_and-is (write_kind x) is_evict e in
    let out : outstanding h past x.port Write x.id ≡ Some x = subst (λ c. outstanding h past x.port c x.id ≡ Some x) chan (outstanding_is h past x i is_out) in
    let none : is_some_and (write_kind x) has_write_data ≡ false = ap (λ o. is_some_and o has_write_data) k.1 ∙ evict-no-data k.0 k.2 in
    let no_update : updates_memory x ≡ false = ap (λ o. is_some_and o is_update) k.1 ∙ evict-no-update k.0 k.2 in
    let one : k1 h past (B x.port x.id 0) ≡ true = and_from _ _ (issuer-low h past x (steps-accepted plan past s) i) refl in
    let may : k26 h past (B x.port x.id 0) ≡ true = rw out (may-respond-evict past x undone none) in
    let order : k34 h past (B x.port x.id 0) ≡ true = rw out (may-answer-evict past x (evicts-no-half x k.0 writes k.1 k.2)) in
    let begins : may_begin h past (update_burst h past x) ≡ true =
    ap (λ b. may_begin h past (if b then memory_write h past x ++ response x else if evicts x then response x else [])) no_update
    ∙ ap (λ b. may_begin h past (if b then response x else [])) e
    ∙ response-kept h past x.port x.id one may order in
    let serves : may_serve update_burst h past x.port ≡ true =
    some_issued-found past (λ y. (y.port == x.port) && is_outstanding h past y && may_begin h past (update_burst h past y)) x.place x i.there
    (and_from _ _ (and_from _ _ (eq-eqb x.port x.port refl) is_out) begins) in
    or_left (may_serve update_burst h past x.port) _ serves
