-- What a step issues and what it answers: nothing; one transaction that is no barrier; a barrier; or what step 14 issues.
use Rattle.std.proofs.Common.{◌≡◌, ◌⊎◌, ℕ, true, false, not, ◌&&◌, ◌||◌, ◌==◌, List, [], ◌∷◌, ◌++◌, length, Option, Some, None, inl, inr, refl}
use Rattle.std.specs.List.{list_all, list_any}
use Rattle.std.proofs.lemmas.Bool.{and_parts, cases_Bool, not-true}
use Rattle.ace_codes.specs.declared.kind.SnoopKind.{SnoopKind}
use Rattle.ace_event.specs.declared.event.Event.{Event}
use Rattle.ace_event.specs.declared.event.Event.TheVariants.{Ar, R, Aw, B}
use Rattle.ace_event.specs.declared.header.Header.{Header}
use Rattle.ace_model.specs.declared.transactions.Transaction.{Transaction}
use Rattle.ace_model.specs.Barriers.{Pair, is_barrier_half, pair_of}
use Rattle.ace_model.specs.Grants.{has_passed_data}
use Rattle.ace_model.specs.Kinds.{is_read_barrier}
use Rattle.ace_model.specs.Messages.{is_dvm_completion, is_message_part}
use Rattle.ace_model.specs.Plans.{Plan}
use Rattle.ace_model.specs.Progress.{evicts, updates_memory}
use Rattle.ace_model.specs.Trace.{Trace, implies, is_some_and, port_of}
use Rattle.ace_model.specs.Transactions.{is_line, is_outstanding, is_read, read_kind, takes_grant}
use Rattle.ace_model.proofs.GrantLooks.Had.{takes-line}
use Rattle.ace_model.proofs.Trace.Growth.{IsIssued}
use Rattle.ace_runs.specs.LineSteps.{grant_burst, is_last_beat, is_snoop_for, memory_write, next_word, passed_burst, response, response_bits, takes_dirt, transfer_burst, update_burst, write_burst}
use Rattle.ace_runs.specs.MasterSteps.{is_beat}
use Rattle.ace_runs.specs.Operations.{next_operation}
use Rattle.ace_runs.specs.OrderSteps.{barrier_burst, dvm_burst, pair_burst, plain_transfer, sync_completion}
use Rattle.ace_runs.specs.SameEvents.{same_burst}
use Rattle.ace_runs.specs.Steps.{is_sound, is_step, may_give, steps, steps_of}
use Rattle.ace_runs.proofs.Turns.{step-kept}
use Rattle.ace_runs.proofs.NeverStuck.Steps.SameBursts.{all-as}
use Rattle.ace_runs.proofs.NeverStuck.Steps.Lists.{all-implied}
use Rattle.ace_runs.proofs.NeverStuck.Steps.Serving.{IsServed, grant-all, passed-all, served}
use Rattle.ace_runs.proofs.NeverStuck.Updates.EvictsMove.{evicts-write}
use Rattle.ace_runs.proofs.NeverStuck.Steps.StepEvents.{answers-answering, is_answering}
use Rattle.ace_runs.proofs.NeverStuck.Steps.StepShapes.{forwards-all, of-any, snoops-all, updates_write}
use Rattle.ace_runs.proofs.NeverStuck.Updates.UpdatesOrGranted.{updates-line}
use Rattle.ace_runs.proofs.NeverStuck.Barriers.GoesOn.{GoesOn, goes-on-shape}
use Rattle.ace_runs.proofs.NeverStuck.Barriers.Halves.{dvm-no-half, line-no-half}
use Rattle.ace_runs.proofs.NeverStuck.Barriers.Quiet.{acknowledges-quiet, is_quiet, same-quiet}
use Rattle.ace_runs.proofs.NeverStuck.Barriers.Responses.{dvm-reads, evicts-line, is_response_for, response-for, same-response, transfer-for, written-responses}

-- The responses are for one outstanding transaction, which is no barrier.
pub record Responds (h : Header) (past : Trace) (burst : List Event) : Type 0 where
  pub of : Transaction
  pub issued : IsIssued past of
  pub out : is_outstanding h past of ≡ true
  pub no_barrier : is_barrier_half of ≡ false
  pub all : list_all (is_response_for of) burst ≡ true

-- The R and the B of a barrier, whose half on the read channel is outstanding.
pub record AnswersBarrier (h : Header) (past : Trace) (burst : List Event) : Type 0 where
  pub half : Transaction
  pub issued : IsIssued past half
  pub out : is_outstanding h past half ≡ true
  pub reads : is_some_and (read_kind half) is_read_barrier ≡ true
  pub pair : Pair
  pub pair_is : pair_of past half ≡ Some pair
  pub same : same_burst (plain_transfer pair.read ∷ B pair.write.port pair.write.id 0 ∷ []) burst ≡ true

abbrev pub OrderShape : Plan → Trace → ℕ → List Event → Type 0
OrderShape plan past p burst =
    (list_all is_quiet burst ≡ true) ⊎ Responds plan.header past burst ⊎ AnswersBarrier plan.header past burst ⊎ GoesOn (next_operation plan past p) p burst

-- ---- each step ---------------------------------------------------------------------------------------

no-port-quiet : (e : Event) → port_of e ≡ None → is_quiet e ≡ true
no-port-quiet (Ar q i addr snoop dom bar lock) none = cc
no-port-quiet (Aw q i addr snoop dom bar) none = cc
no-port-quiet (R q i resp last word) none = cc
no-port-quiet (B q i resp) none = cc
no-port-quiet e none = refl

answering-quiet : (e : Event) → is_answering e ≡ true → is_quiet e ≡ true
answering-quiet (Ar q i addr snoop dom bar lock) m = cc
answering-quiet (Aw q i addr snoop dom bar) m = cc
answering-quiet (R q i resp last word) m = cc
answering-quiet (B q i resp) m = cc
answering-quiet e m = refl

beat-quiet : (p : ℕ) (e : Event) → is_beat p e ≡ true → is_quiet e ≡ true
beat-quiet p (Ar q i addr snoop dom bar lock) m = cc
beat-quiet p (Aw q i addr snoop dom bar) m = cc
beat-quiet p (R q i resp last word) m = cc
beat-quiet p (B q i resp) m = cc
beat-quiet p e m = refl

snoop-quiet : (x : Transaction) (k : SnoopKind) (e : Event) → is_snoop_for x k e ≡ true → is_quiet e ≡ true
snoop-quiet x k (Ar q i addr snoop dom bar lock) m = cc
snoop-quiet x k (Aw q i addr snoop dom bar) m = cc
snoop-quiet x k (R q i resp last word) m = cc
snoop-quiet x k (B q i resp) m = cc
snoop-quiet x k e m = refl

-- the burst for the transaction is empty, or its responses are for it
module _ (plan : Plan) (past : Trace) (p : ℕ) (burst : List Event) where
  abbrev Shape : Type 0
  Shape = OrderShape plan past p burst

  quiet-as : (ds : List Event) → same_burst ds burst ≡ true → list_all is_quiet ds ≡ true → Shape
  quiet-as ds same m = inl (all-as is_quiet same-quiet ds burst same m)

  quiet-served : (burst_for : Header → Trace → Transaction → List Event) → IsServed burst_for plan.header past burst
      → ((x : Transaction) → list_all is_quiet (burst_for plan.header past x) ≡ true) → Shape
  quiet-served burst_for s quiet = quiet-as (burst_for plan.header past s.of) s.same (quiet s.of)

  responds-as : (x : Transaction) (ds : List Event) → IsIssued past x → is_outstanding plan.header past x ≡ true → is_barrier_half x ≡ false
      → same_burst ds burst ≡ true → list_all (is_response_for x) ds ≡ true → Shape
  responds-as x ds i out none same m =
      inr (inl (record { of = x; issued = i; out = out; no_barrier = none; all = all-as (is_response_for x) (same-response x) ds burst same m }))

  updates-shape : IsServed update_burst plan.header past burst → Shape
  updates-shape s =
      let x : Transaction = s.of in
      elim (cases_Bool (updates_memory x)) [
        | inl u ↦ responds-as x (memory_write plan.header past x ++ response x) s.issued s.out (line-no-half x (updates-line x u)) (rw u at s.same) (written-responses plan.header past x (updates_write x u))
        | inr f ↦ elim (cases_Bool (evicts x)) [
          | inl v ↦ responds-as x (response x) s.issued s.out (line-no-half x (evicts-line x v)) (rw (f, v) at s.same) (response-for x (evicts-write x v))
          | inr g ↦ quiet-as [] (rw (f, g) at s.same) refl
        ]
      ]

  transfer-shape : IsServed transfer_burst plan.header past burst → Shape
  transfer-shape s =
      let h = plan.header in
      let x : Transaction = s.of in
      elim (cases_Bool (is_read x.chan && is_line x && implies (has_passed_data h past x) (takes_dirt h past x))) [
        | inl t ↦
            let both = and_parts (is_read x.chan) (is_line x) (and_parts (is_read x.chan && is_line x) _ t).0 in
            responds-as x (R x.port x.id (response_bits h past x) (is_last_beat past x) (next_word past x) ∷ []) s.issued s.out (line-no-half x both.1) (rw t at s.same)
            (transfer-for x (response_bits h past x) (is_last_beat past x) (next_word past x) both.0)
        | inr f ↦ quiet-as [] (rw f at s.same) refl
      ]

  write-shape : IsServed write_burst plan.header past burst → Shape
  write-shape s =
      let x : Transaction = s.of in
      elim (cases_Bool (not (is_read x.chan) && takes_grant x)) [
        | inl t ↦
            let both = and_parts (not (is_read x.chan)) (takes_grant x) t in
            responds-as x (memory_write plan.header past x ++ response x) s.issued s.out (line-no-half x (takes-line x both.1)) (rw t at s.same)
            (written-responses plan.header past x (not-true (is_read x.chan) both.0))
        | inr f ↦ quiet-as [] (rw f at s.same) refl
      ]

  dvm-shape : IsServed dvm_burst plan.header past burst → Shape
  dvm-shape s =
      let x : Transaction = s.of in
      elim (cases_Bool (is_message_part x || is_dvm_completion x)) [
        | inl t ↦ responds-as x (plain_transfer x ∷ []) s.issued s.out (dvm-no-half x t) (rw t at s.same) (transfer-for x 0 true 0 (dvm-reads x t))
        | inr f ↦ quiet-as [] (rw f at s.same) refl
      ]

  pair-shape : (x : Transaction) → IsIssued past x → is_outstanding plan.header past x ≡ true → is_some_and (read_kind x) is_read_barrier ≡ true
      → (o : Option Pair) → pair_of past x ≡ o → same_burst (pair_burst o) burst ≡ true → Shape
  pair-shape x i out reads None is same = quiet-as [] same refl
  pair-shape x i out reads (Some b) is same =
      inr (inr (inl (record { half = x; issued = i; out = out; reads = reads; pair = b; pair_is = is; same = same })))

  barrier-shape : IsServed barrier_burst plan.header past burst → Shape
  barrier-shape s =
      let x : Transaction = s.of in
      elim (cases_Bool (is_some_and (read_kind x) is_read_barrier)) [
        | inl t ↦ pair-shape x s.issued s.out t (pair_of past x) refl (rw t at s.same)
        | inr f ↦ quiet-as [] (rw f at s.same) refl
      ]

-- What a step issues and answers.
pub order-shape : (plan : Plan) (past : Trace) (p : ℕ) (burst : List Event) → is_step plan past p burst ≡ true → OrderShape plan past p burst
order-shape plan past p burst s =
    let h = plan.header in
    let next = next_operation plan past p in
    let sound = and_parts (is_sound h past burst) (list_any (may_give h past p burst) (steps_of plan past p)) s in
    of-any h past p burst (OrderShape plan past p burst) (steps plan.ways next)
    ((λ g. inl (all-implied is_answering is_quiet answering-quiet burst (answers-answering h past p burst g))), ((λ g. inl (all-implied (is_beat p) is_quiet (beat-quiet p) burst (and_parts (list_all (is_beat p) burst) (length burst == 4) g).0)), ((λ g. updates-shape plan past p burst (served update_burst h past p burst g)), ((λ g. inl (acknowledges-quiet next h past p burst g)), ((λ g. quiet-served plan past p burst grant_burst (served grant_burst h past p burst g) (grant-all is_quiet (λ q c i. refl) h past)), ((λ g. inl (snoops-all is_quiet snoop-quiet h past p burst g)), ((λ g. quiet-served plan past p burst passed_burst (served passed_burst h past p burst g) (passed-all is_quiet (λ q c i line. refl) h past)), ((λ g. transfer-shape plan past p burst (served transfer_burst h past p burst g)), ((λ g. write-shape plan past p burst (served write_burst h past p burst g)), ((λ g. barrier-shape plan past p burst (served barrier_burst h past p burst g)), ((λ g. inl (forwards-all is_quiet same-quiet no-port-quiet (λ q addr code. refl) h past p burst (step-kept plan past p burst s) g)), ((λ g. dvm-shape plan past p burst (served dvm_burst h past p burst g)), ((λ g. inl (all-as is_quiet same-quiet (sync_completion p) burst g refl)), ((λ g. inr (inr (inr (goes-on-shape plan.ways next h past p burst g)))), tt))))))))))))))
    sound.1
