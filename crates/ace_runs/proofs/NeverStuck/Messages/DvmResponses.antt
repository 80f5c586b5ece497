-- A DVM Complete that is outstanding has its response, and so has a part of a DVM message that every other ACE port has answered: the port is
-- enabled by step 12.
use Rattle.std.proofs.Common.{◌≡◌, sym, true, false, ◌&&◌, ◌||◌, ◌==◌, if◌then◌else◌, [], ◌∷◌, Some, refl, ap, ◌∙◌}
use Rattle.std.proofs.lemmas.Bool.{and_from, eq-eqb, or_left, or_right}
use Rattle.ace_codes.specs.declared.kind.ArKind.{ArKind}
use Rattle.ace_codes.specs.declared.kind.ArKind.TheVariants as read
use Rattle.ace_model.specs.declared.transactions.Transaction.{Transaction}
use Rattle.ace_model.specs.Barriers.{is_barrier_half, may_answer, pair_of}
use Rattle.ace_model.specs.Kinds.{is_dvm_complete, is_dvm_message, is_line_read, is_read_barrier, is_write_barrier}
use Rattle.ace_model.specs.Messages.{is_dvm_completion, is_message_part}
use Rattle.ace_model.specs.OrderRules.{is_answered_by_all, may_answer_half}
use Rattle.ace_model.specs.Plans.{Plan}
use Rattle.ace_model.specs.Trace.{Trace, implies, is_some_and}
use Rattle.ace_model.specs.Transactions.{is_complete, is_outstanding, read_kind, write_kind}
use Rattle.ace_model.proofs.General.Options.{is_some_and-is}
use Rattle.ace_model.proofs.Trace.Growth.{IsIssued, some_issued-found}
use Rattle.ace_model.specs.Progress.{is_completed}
use Rattle.ace_model.proofs.Outstanding.Names.{complete_by_name}
use Rattle.ace_model.proofs.Trace.Issued.{outstanding-named}
use Rattle.ace_model.proofs.Trace.LineOnce.{outstanding_is}
use Rattle.ace_model.proofs.Trace.Looks.{read_writes_none}
use Rattle.ace_runs.specs.Bursts.{may_begin, may_serve}
use Rattle.ace_runs.specs.OrderSteps.{dvm_burst, plain_transfer}
use Rattle.ace_runs.specs.Steps.{AreSteps, is_enabled_by}
use Rattle.ace_runs.proofs.Turns.{steps-accepted}
use Rattle.ace_runs.proofs.NeverStuck.Reads.PlainReads.{plain-kept}

complete-kind : (k : ArKind) → is_dvm_complete k ≡ true → (is_line_read k ≡ false) × (is_read_barrier k ≡ false) × (is_dvm_message k ≡ false)
complete-kind read.DvmComplete e = (refl, refl, refl)
complete-kind k e = cc

pub message-kind : (k : ArKind) → is_dvm_message k ≡ true → (is_line_read k ≡ false) × (is_read_barrier k ≡ false)
message-kind read.DvmMessage e = (refl, refl)
message-kind k e = cc

-- ---- step 12 -----------------------------------------------------------------------------------------

-- a DVM transaction that is outstanding and not complete has its response where it keeps the rule on messages
dvm-moves : (plan : Plan) (past : Trace) (x : Transaction) (k : ArKind) → AreSteps plan past → IsIssued past x → is_outstanding plan.header past x ≡ true
    → is_complete past x.port x.chan x.id ≡ false → read_kind x ≡ Some k → is_line_read k ≡ false → is_read_barrier k ≡ false
    → (is_message_part x || is_dvm_completion x) ≡ true → implies (is_message_part x) (is_answered_by_all plan.header past x) ≡ true
    → is_enabled_by (12 ∷ []) plan past x.port ≡ true
dvm-moves plan past x k s i is_out undone kind none no_barrier dvm messages =
    let h = plan.header in
    let writes = read_writes_none x k kind in
    let out = outstanding_is h past x i is_out in
    let no_half : is_barrier_half x ≡ false =
    ap (λ o. is_some_and o is_read_barrier || is_some_and (write_kind x) is_write_barrier) kind ∙ rw (no_barrier, writes.0) refl in
    let half : may_answer_half past x ≡ true = ap (λ b. implies b (is_some_and (pair_of past x) (may_answer past x.port))) no_half in
    let incomplete : is_completed past x ≡ false = sym (complete_by_name past x.port x.chan x.id x (outstanding-named h past x.port x.chan x.id x out)) ∙ undone in
    let kept = plain-kept h past x k (steps-accepted plan past s) i is_out incomplete kind none half messages in
    let begins : may_begin h past (dvm_burst h past x) ≡ true = ap (λ b. may_begin h past (if b then plain_transfer x ∷ [] else [])) dvm ∙ kept in
    let serves : may_serve dvm_burst h past x.port ≡ true =
    some_issued-found past (λ y. (y.port == x.port) && is_outstanding h past y && may_begin h past (dvm_burst h past y)) x.place x i.there
    (and_from _ _ (and_from _ _ (eq-eqb x.port x.port refl) is_out) begins) in
    or_left (may_serve dvm_burst h past x.port) _ serves

-- The port of a DVM Complete that is outstanding and not complete is enabled by step 12.
pub completion-moves : (plan : Plan) (past : Trace) (x : Transaction) → AreSteps plan past → IsIssued past x → is_dvm_completion x ≡ true
    → is_outstanding plan.header past x ≡ true → is_complete past x.port x.chan x.id ≡ false → is_enabled_by (12 ∷ []) plan past x.port ≡ true
completion-moves plan past x s i dvm is_out undone =
    let k = is_some_and-is (read_kind x) is_dvm_complete dvm in
    let of = complete-kind k.0 k.2 in
    let no_part : is_message_part x ≡ false = ap (λ o. is_some_and o is_dvm_message) k.1 ∙ of.2 in
    dvm-moves plan past x k.0 s i is_out undone k.1 of.0 of.1 (or_right (is_message_part x) (is_dvm_completion x) dvm)
    (ap (λ b. implies b (is_answered_by_all plan.header past x)) no_part)

-- The port of a part that every other ACE port has answered, and that is outstanding and not complete, is enabled by step 12.
pub answered-part-moves : (plan : Plan) (past : Trace) (x : Transaction) → AreSteps plan past → IsIssued past x → is_message_part x ≡ true
    → is_outstanding plan.header past x ≡ true → is_complete past x.port x.chan x.id ≡ false → is_answered_by_all plan.header past x ≡ true
    → is_enabled_by (12 ∷ []) plan past x.port ≡ true
answered-part-moves plan past x s i part is_out undone answered =
    let k = is_some_and-is (read_kind x) is_dvm_message part in
    let of = message-kind k.0 k.2 in
    dvm-moves plan past x k.0 s i is_out undone k.1 of.0 of.1 (or_left (is_message_part x) (is_dvm_completion x) part)
    (or_right _ (is_answered_by_all plan.header past x) answered)
