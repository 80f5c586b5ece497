-- The transfers that steps put: a step puts at most one, as its first event, and of a line transaction it is that of step 8.
use Rattle.std.proofs.Common.{◌≡◌, ℕ, true, ◌&&◌, ◌==◌, if◌then◌else◌, List, [], ◌∷◌, length, Some, None, refl, sym, ap, subst, ◌∙◌, inl, inr}
use Rattle.std.specs.List.{list_all, list_any}
use Rattle.std.proofs.lemmas.Bool.{and_parts, cases_Bool}
use Rattle.ace_codes.specs.declared.kind.SnoopKind.{SnoopKind}
use Rattle.ace_event.specs.declared.event.Channel.TheVariants.{Read}
use Rattle.ace_event.specs.declared.event.Event.{Event}
use Rattle.ace_event.specs.declared.event.Event.TheVariants.{R}
use Rattle.ace_event.specs.declared.header.Header.{Header}
use Rattle.ace_model.specs.declared.transactions.Transaction.{Transaction}
use Rattle.ace_model.specs.Grants.{has_passed_data}
use Rattle.ace_model.specs.Plans.{Plan}
use Rattle.ace_model.specs.Trace.{Trace, implies, port_of}
use Rattle.ace_model.specs.Transactions.{is_line, is_read, outstanding}
use Rattle.ace_runs.specs.LineSteps.{grant_burst, is_last_beat, is_snoop_for, next_word, passed_burst, response_bits, takes_dirt, transfer_burst, update_burst, write_burst}
use Rattle.ace_runs.specs.MasterSteps.{is_beat}
use Rattle.ace_runs.specs.Operations.{next_operation}
use Rattle.ace_runs.specs.OrderSteps.{barrier_burst, dvm_burst, sync_completion}
use Rattle.ace_runs.specs.SameEvents.{same_burst, same_event}
use Rattle.ace_runs.specs.Steps.{is_sound, is_step, may_give, steps, steps_of}
use Rattle.ace_runs.proofs.Turns.{step-kept}
use Rattle.ace_runs.proofs.NeverStuck.Steps.SameBursts.{all-as}
use Rattle.ace_runs.proofs.NeverStuck.Steps.Lists.{all-implied}
use Rattle.ace_runs.proofs.NeverStuck.Steps.Serving.{IsServed, grant-all, passed-all, served, served-all, update-all, write-all}
use Rattle.ace_runs.proofs.NeverStuck.Steps.StepEvents.{acknowledges-masters, answers-answering, goes-on-masters, is_answering, is_masters}
use Rattle.ace_runs.proofs.NeverStuck.Steps.StepShapes.{forwards-all, of-any, snoops-all}
use Rattle.ace_runs.proofs.NeverStuck.Reads.InOrder.{FirstInOrder, IsInOrder, begins-in-order, is_other, of-none, others-in-order, read-out, same-name, same-other, same-transfer}
use Rattle.ace_runs.proofs.NeverStuck.Reads.PlainTransfers.{barrier-in-order, dvm-in-order}

-- ---- events that are no transfers --------------------------------------------------------------------

portless-other : (e : Event) → port_of e ≡ None → is_other e ≡ true
portless-other (R p i resp last word) none = cc
portless-other e none = refl

snoop-other : (x : Transaction) (k : SnoopKind) (e : Event) → is_snoop_for x k e ≡ true → is_other e ≡ true
snoop-other x k (R p i resp last word) s = cc
snoop-other x k e s = refl

masters-other : (e : Event) → is_masters e ≡ true → is_other e ≡ true
masters-other (R p i resp last word) m = cc
masters-other e m = refl

answering-other : (e : Event) → is_answering e ≡ true → is_other e ≡ true
answering-other (R p i resp last word) m = cc
answering-other e m = refl

beat-other : (q : ℕ) (e : Event) → is_beat q e ≡ true → is_other e ≡ true
beat-other q (R p i resp last word) m = cc
beat-other q e m = refl

-- ---- step 8 ------------------------------------------------------------------------------------------

next-in-order : (h : Header) (past : Trace) (y : Transaction) (e : Event) → outstanding h past y.port Read y.id ≡ Some y → implies (has_passed_data h past y) (takes_dirt h past y) ≡ true
    → same_event (R y.port y.id (response_bits h past y) (is_last_beat past y) (next_word past y)) e ≡ true → IsInOrder h past e
next-in-order h past y e own takes s p i resp last word x is o line =
    let same = same-transfer y.port y.id (response_bits h past y) (is_last_beat past y) (next_word past y) p i resp last word
    (subst (λ d. same_event (R y.port y.id (response_bits h past y) (is_last_beat past y) (next_word past y)) d ≡ true) is s) in
    let one = same-name h past x y p i own o same.port same.id in
    (sym same.says ∙ ap (response_bits h past) one, subst (λ z. implies (has_passed_data h past z) (takes_dirt h past z) ≡ true) one takes)

transfer-in-order : (h : Header) (past : Trace) (burst : List Event) → IsServed transfer_burst h past burst → FirstInOrder h past burst
transfer-in-order h past burst s =
    let y = s.of in
    elim (cases_Bool (is_read y.chan && is_line y && implies (has_passed_data h past y) (takes_dirt h past y))) [
      | inr f ↦ of-none h past burst (subst (λ b. same_burst (if b then R y.port y.id (response_bits h past y) (is_last_beat past y) (next_word past y) ∷ [] else []) burst ≡ true) f s.same)
      | inl t ↦
          let parts = and_parts (is_read y.chan && is_line y) (implies (has_passed_data h past y) (takes_dirt h past y)) t in
          let reads = (and_parts (is_read y.chan) (is_line y) parts.0).0 in
          begins-in-order h past (R y.port y.id (response_bits h past y) (is_last_beat past y) (next_word past y)) [] burst
          (subst (λ b. same_burst (if b then R y.port y.id (response_bits h past y) (is_last_beat past y) (next_word past y) ∷ [] else []) burst ≡ true) t s.same)
          (λ e same. next-in-order h past y e (read-out h past y s.issued s.out reads) parts.1 same) refl
    ]

-- ---- all steps ---------------------------------------------------------------------------------------

-- Of each burst of a step the first event is in order, and no other is a transfer.
pub step-in-order : (plan : Plan) (past : Trace) (p : ℕ) (burst : List Event) → is_step plan past p burst ≡ true → FirstInOrder plan.header past burst
step-in-order plan past p burst s =
    let h = plan.header in
    let next = next_operation plan past p in
    let sound = and_parts (is_sound h past burst) (list_any (may_give h past p burst) (steps_of plan past p)) s in
    let kept_all = step-kept plan past p burst s in
    let others = λ (m : list_all is_other burst ≡ true). others-in-order h past burst m in
    of-any h past p burst (FirstInOrder h past burst) (steps plan.ways next) (
      (λ g. others (all-implied is_answering is_other answering-other burst (answers-answering h past p burst g))),
      (
        (λ g. others (all-implied (is_beat p) is_other (beat-other p) burst (and_parts (list_all (is_beat p) burst) (length burst == 4) g).0)),
        (
          (λ g. others (served-all is_other same-other update_burst h past p burst (update-all is_other (λ q c i line. refl) (λ q i resp. refl) h past) g)),
          (
            (λ g. others (all-implied is_masters is_other masters-other burst (acknowledges-masters next h past p burst g))),
            (
              (λ g. others (served-all is_other same-other grant_burst h past p burst (grant-all is_other (λ q c i. refl) h past) g)),
              (
                (λ g. others (snoops-all is_other snoop-other h past p burst g)),
                (
                  (λ g. others (served-all is_other same-other passed_burst h past p burst (passed-all is_other (λ q c i line. refl) h past) g)),
                  (
                    (λ g. transfer-in-order h past burst (served transfer_burst h past p burst g)),
                    (
                      (λ g. others (served-all is_other same-other write_burst h past p burst (write-all is_other (λ q c i line. refl) (λ q i resp. refl) h past) g)),
                      (
                        (λ g. barrier-in-order h past burst (served barrier_burst h past p burst g)),
                        (
                          (λ g. others (forwards-all is_other same-other portless-other (λ q addr snoop. refl) h past p burst kept_all g)),
                          (
                            (λ g. dvm-in-order h past burst (served dvm_burst h past p burst g)),
                            (
                              (λ g. others (all-as is_other same-other (sync_completion p) burst g refl)),
                              ((λ g. others (all-implied is_masters is_other masters-other burst (goes-on-masters plan.ways next h past p burst g))), tt),
                            ),
                          ),
                        ),
                      ),
                    ),
                  ),
                ),
              ),
            ),
          ),
        ),
      ),
    )
    sound.1
