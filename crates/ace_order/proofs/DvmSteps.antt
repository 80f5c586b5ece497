-- The R of a part of a DVM message, or of a DVM Complete, that may have it is a step 12, and the trace with it is one for which an engine may
-- stand. Where no outstanding read of the port is such a one, there is no such step.
use Rattle.std.proofs.Common.{◌≡◌, ℕ, true, false, ◌&&◌, ◌==◌, if◌then◌else◌, [], ◌∷◌, Some, is_none, slice_get, refl, sym, ap, subst, ◌∙◌, inl, inr}
use Rattle.std.proofs.lemmas.Bool.{and_from, cases_Bool, eq-eqb, false_from_ne_true, or_cases}
use Rattle.ace_codes.specs.declared.kind.ArKind.{ArKind}
use Rattle.ace_codes.specs.declared.kind.ArKind.TheVariants as read
use Rattle.ace_event.specs.declared.event.Channel.{Channel}
use Rattle.ace_event.specs.declared.event.Channel.TheVariants.{Read, Write}
use Rattle.ace_event.specs.declared.header.Header.{Header}
use Rattle.ace_model.specs.declared.transactions.Transaction.{Transaction}
use Rattle.ace_model.specs.Accepted.{IsAccepted, least_of}
use Rattle.ace_model.specs.Kinds.{is_dvm_complete, is_dvm_message, is_line_read}
use Rattle.ace_model.specs.Messages.{is_dvm_completion, is_message_part}
use Rattle.ace_model.specs.Plans.{Plan}
use Rattle.ace_model.specs.Progress.{is_completed}
use Rattle.ace_model.specs.Shares.{system_rules}
use Rattle.ace_model.specs.Trace.{Trace}
use Rattle.ace_model.specs.Transactions.{is_complete, is_outstanding, is_read, outstanding, read_kind, same_channel}
use Rattle.ace_model.proofs.General.Options.{is_some_and-is}
use Rattle.ace_model.proofs.Outstanding.Names.{complete_by_name}
use Rattle.ace_model.proofs.Trace.Growth.{some_issued-found}
use Rattle.ace_model.proofs.Trace.Issued.{outstanding-named}
use Rattle.ace_runs.specs.Bursts.{is_kept, may_begin, may_serve, serves}
use Rattle.ace_runs.specs.OrderSteps.{dvm_burst, plain_transfer}
use Rattle.ace_runs.specs.SameEvents.{same_burst}
use Rattle.ace_runs.specs.Steps.{is_sound, is_step_by}
use Rattle.ace_runs.proofs.NeverStuck.Barriers.Halves.{dvm-no-half}
use Rattle.ace_runs.proofs.NeverStuck.Barriers.Responses.{dvm-reads}
use Rattle.ace_runs.proofs.NeverStuck.Steps.SameBursts.{burst-self}
use Rattle.ace_engine.specs.Engines.{IsLegal}
use Rattle.ace_engine.proofs.OfInterconnect.{legal-with}
use Rattle.ace_engine.proofs.Pending.{IsPending, serves-none as none-served}
use Rattle.ace_portck.specs.Pending.{pending_of}
use Rattle.ace_order.specs.Quiet.{is_dvm}
use Rattle.ace_order.proofs.FourSteps.{answers-message}
use Rattle.ace_order.proofs.PlainReads.{IsPlain, kept-undone, named-out, plain-decides}
use Rattle.ace_order.proofs.Together.{CompletesNone, other-response}

message-plain : (k : ArKind) → is_dvm_message k ≡ true → is_line_read k ≡ false
message-plain read.DvmMessage e = refl
message-plain k e = cc

completion-plain : (k : ArKind) → is_dvm_complete k ≡ true → is_line_read k ≡ false
completion-plain read.DvmComplete e = refl
completion-plain k e = cc

dvm-kind : (x : Transaction) → is_dvm x ≡ true → (k : ArKind) × (read_kind x ≡ Some k) × (is_line_read k ≡ false)
dvm-kind x dvm =
    elim (or_cases (is_message_part x) (is_dvm_completion x) dvm) [
      | inl message ↦ let k = is_some_and-is (read_kind x) is_dvm_message message in (k.0, k.1, message-plain k.0 k.2)
      | inr completion ↦ let k = is_some_and-is (read_kind x) is_dvm_complete completion in (k.0, k.1, completion-plain k.0 k.2)
    ]

pub dvm-none : (h : Header) (past : Trace) (x : Transaction) → is_dvm x ≡ false → may_begin h past (dvm_burst h past x) ≡ false
dvm-none h past x none = ap (λ b. may_begin h past (if b then plain_transfer x ∷ [] else [])) none

module _ (h : Header) (past : Trace) (a : IsAccepted h past) (p : ℕ) (x : Transaction) (w : IsPending h past p Read x) where
  pub dvm-is-plain : is_dvm x ≡ true → IsPlain h past x
  dvm-is-plain dvm = let k = dvm-kind x dvm in record { accepted = a; issued = w.issued; out = w.is_out; kind = k.0; kind_is = k.1; plain = k.2 }

  pub begins-as : is_dvm x ≡ true → may_begin h past (dvm_burst h past x) ≡ is_kept h past (plain_transfer x)
  begins-as dvm = ap (λ b. may_begin h past (if b then plain_transfer x ∷ [] else [])) dvm

  pub done-as : is_dvm x ≡ true → is_complete past x.port x.chan x.id ≡ is_completed past x
  done-as dvm =
      let out : outstanding h past x.port x.chan x.id ≡ Some x = subst (λ c. outstanding h past x.port c x.id ≡ Some x) (sym w.chan) (named-out h past x (dvm-is-plain dvm)) in
      complete_by_name past x.port x.chan x.id x (outstanding-named h past x.port x.chan x.id x out)

  -- once it is complete, it has no other R
  pub dvm-done : is_dvm x ≡ true → is_complete past x.port x.chan x.id ≡ true → may_begin h past (dvm_burst h past x) ≡ false
  dvm-done dvm done =
      begins-as dvm ∙ false_from_ne_true (is_kept h past (plain_transfer x)) (λ kept.
      let bad : true ≡ false = sym done ∙ done-as dvm ∙ kept-undone h past x (dvm-is-plain dvm) kept in cc)

  -- before it is, the rules of the system decide
  pub dvm-begins : is_dvm x ≡ true → is_complete past x.port x.chan x.id ≡ false
      → is_none (least_of system_rules h past (plain_transfer x)) ≡ may_begin h past (dvm_burst h past x)
  dvm-begins dvm undone = plain-decides h past x (dvm-is-plain dvm) (sym (done-as dvm) ∙ undone) ∙ sym (begins-as dvm)

-- ---- the step ----------------------------------------------------------------------------------------

begins-dvm : (h : Header) (past : Trace) (x : Transaction) → may_begin h past (dvm_burst h past x) ≡ true → is_dvm x ≡ true
begins-dvm h past x begins =
    elim (cases_Bool (is_dvm x)) [
      | inl dvm ↦ dvm
      | inr none ↦ let bad : false ≡ true = sym (dvm-none h past x none) ∙ begins in cc
    ]

module _ (plan : Plan) (past : Trace) (legal : IsLegal plan past) (p : ℕ) (x : Transaction) (w : IsPending plan.header past p Read x)
    (begins : may_begin plan.header past (dvm_burst plan.header past x) ≡ true) where
  dvm : is_dvm x ≡ true
  dvm = begins-dvm plan.header past x begins

  response-kept : is_kept plan.header past (plain_transfer x) ≡ true
  response-kept = sym (begins-as plan.header past legal.accepted p x w dvm) ∙ begins

  pub legal-response : IsLegal plan (plain_transfer x ∷ past)
  legal-response = legal-with plan past (plain_transfer x) refl legal response-kept

  pub response-completes-none : CompletesNone past (plain_transfer x)
  response-completes-none =
      let out = named-out plan.header past x (dvm-is-plain plan.header past legal.accepted p x w dvm) in
      other-response past x x.port x.id 0 true 0 (outstanding-named plan.header past x.port Read x.id x out) (dvm-no-half x dvm)

  pub response-step : is_step_by (10 ∷ 11 ∷ 12 ∷ 13 ∷ []) plan past p (plain_transfer x ∷ []) ≡ true
  response-step =
      let h = plan.header in
      let gives : dvm_burst h past x ≡ plain_transfer x ∷ [] = ap (λ b. if b then plain_transfer x ∷ [] else []) dvm in
      let same : same_burst (dvm_burst h past x) (plain_transfer x ∷ []) ≡ true = ap (λ v. same_burst v (plain_transfer x ∷ [])) gives ∙ burst-self (plain_transfer x ∷ []) in
      let mine : ((x.port == p) && is_outstanding h past x) ≡ true = and_from _ _ (eq-eqb x.port p w.port) w.is_out in
      let may : may_serve dvm_burst h past p ≡ true =
      some_issued-found past (λ y. (y.port == p) && is_outstanding h past y && may_begin h past (dvm_burst h past y)) x.place x w.issued.there (and_from _ _ mine begins) in
      let served : serves dvm_burst h past p (plain_transfer x ∷ []) ≡ true =
      some_issued-found past (λ y. (y.port == p) && is_outstanding h past y && same_burst (dvm_burst h past y) (plain_transfer x ∷ [])) x.place x w.issued.there (and_from _ _ mine same) in
      let sound : is_sound h past (plain_transfer x ∷ []) ≡ true = and_from _ _ response-kept refl in
      answers-message plan past p (plain_transfer x ∷ []) sound (and_from _ _ may served)

-- ---- whether there is one ----------------------------------------------------------------------------

writes-begin-none : (h : Header) (past : Trace) (x : Transaction) → same_channel x.chan Read ≡ false → may_begin h past (dvm_burst h past x) ≡ false
writes-begin-none h past x writes = dvm-none h past x (false_from_ne_true (is_dvm x) (λ dvm. by x.chan writes (dvm-reads x dvm)))
  where
    by : (c : Channel) → same_channel c Read ≡ false → is_read c ≡ true → ⊥
    by Read writes reads = cc
    by Write writes reads = cc

pub serves-none : (h : Header) (past : Trace) (p : ℕ) → ((k : ℕ) (x : Transaction) → slice_get (pending_of h past p Read) k ≡ Some x → may_begin h past (dvm_burst h past x) ≡ false)
    → may_serve dvm_burst h past p ≡ false
serves-none h past p none = none-served dvm_burst h past p Read (writes-begin-none h past) none
