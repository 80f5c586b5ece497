-- When an outstanding write may have its burst of step 3, and that there is a step exactly where one may.
use Rattle.std.proofs.Common.{◌≡◌, ℕ, Bool, true, false, not, ◌&&◌, ◌||◌, nat_lt, if◌then◌else◌, [], ◌++◌, map, Option, Some, None, is_none, is_some, slice_get, refl, sym, ap, subst, ◌∙◌}
use Rattle.std.specs.Option.{option_to_list}
use Rattle.std.proofs.lemmas.Bool.{and_from, false_from_ne_true}
use Rattle.ace_codes.specs.declared.kind.AwKind.{AwKind}
use Rattle.ace_codes.specs.declared.kind.AwKind.TheVariants as write
use Rattle.ace_event.specs.declared.event.Channel.{Channel}
use Rattle.ace_event.specs.declared.event.Channel.TheVariants.{Read, Write}
use Rattle.ace_event.specs.declared.event.Event.TheVariants.{B, M}
use Rattle.ace_event.specs.declared.header.Header.{Header}
use Rattle.ace_event.specs.declared.line.Line.{Line}
use Rattle.ace_model.specs.declared.transactions.Transaction.{Transaction}
use Rattle.ace_model.specs.Accepted.{IsAccepted}
use Rattle.ace_model.specs.AddressRules.{k1}
use Rattle.ace_model.specs.Barriers.{is_barrier_half}
use Rattle.ace_model.specs.Grants.{granted, has_grant, has_passed_data, is_granted}
use Rattle.ace_model.specs.Kinds.{has_write_data, is_evict, is_granted_write, is_update}
use Rattle.ace_model.specs.OrderRules.{k34}
use Rattle.ace_model.specs.Progress.{evicts, updates_memory}
use Rattle.ace_model.specs.States.{are_snoops_done}
use Rattle.ace_model.specs.Trace.{Trace, implies, is_none_or, is_some_and}
use Rattle.ace_model.specs.Transactions.{is_complete, is_read, outstanding, same_channel, write_kind}
use Rattle.ace_model.specs.WriteRules.{data_of, data_of_write, is_update_due, is_write_due, k24, k25, k26, may_respond, may_write_data, may_write_passed}
use Rattle.ace_model.specs.Writes.{has_memory_write, is_burst_whole}
use Rattle.ace_model.proofs.General.Options.{is_some_and-is}
use Rattle.ace_model.proofs.GrantLooks.Had.{granted_had}
use Rattle.ace_model.proofs.Grants.Granted.{granted_at, granted_given, granted_write, updates_ungranted}
use Rattle.ace_runs.specs.Bursts.{is_kept, may_begin, may_serve}
use Rattle.ace_runs.specs.LineSteps.{memory_write, response, update_burst}
use Rattle.ace_runs.proofs.NeverStuck.Updates.EvictsMove.{evict-no-data, evicts-no-half, evicts-write, may-answer-evict}
use Rattle.ace_runs.proofs.NeverStuck.Steps.StepShapes.{updates_write}
use Rattle.ace_runs.proofs.NeverStuck.Steps.SameEvents.{same-line-self}
use Rattle.ace_runs.proofs.NeverStuck.Updates.UpdatesMove.{data-there, sends-data}
use Rattle.ace_model.proofs.Trace.IssuedTransactions.{issuer-low}
use Rattle.ace_engine.proofs.Pending.{IsPending, pending-at, serves-none as none-served}
use Rattle.ace_portck.specs.Pending.{pending_of}
use Rattle.ace_portck.specs.Targets.{data_of_write as data_sent}
use Rattle.ace_update.specs.Passed.{has_passed_on}

-- ---- the outstanding writes of a port ----------------------------------------------------------------

-- It is one of them.
abbrev pub IsWrite : Header → Trace → ℕ → Transaction → Type 0
IsWrite h past p x = IsPending h past p Write x

pub write-at : (h : Header) (past : Trace) (p k : ℕ) (x : Transaction) → slice_get (pending_of h past p Write) k ≡ Some x → IsWrite h past p x
write-at h past p k x there = pending-at h past p Write k x there

-- ---- when its burst may begin ------------------------------------------------------------------------

second-decides : (a b c : Bool) (k l n : ℕ) → a ≡ true → c ≡ true → is_none {T = ℕ} (if a then (if b then (if c then None else Some k) else Some l) else Some n) ≡ b
second-decides true true true k l n x z = refl
second-decides true false true k l n x z = refl
second-decides false b c k l n x z = cc
second-decides true b false k l n x z = cc

none-not : {A : Type 0} → (o : Option A) (test : A → Bool) → is_none_or o (λ x. not (test x)) ≡ not (is_some_and o test)
none-not None test = refl
none-not (Some x) test = refl

some-if : {A : Type 0} → (b : Bool) (x : A) → is_some (if b then Some x else None) ≡ b
some-if true x = refl
some-if false x = refl

module _ (h : Header) (past : Trace) (a : IsAccepted h past) (p : ℕ) (x : Transaction) (w : IsWrite h past p x) where
  out-own : outstanding h past x.port x.chan x.id ≡ Some x
  out-own = subst (λ c. outstanding h past x.port c x.id ≡ Some x) (sym w.chan) (subst (λ q. outstanding h past q Write x.id ≡ Some x) (sym w.port) w.out)

  low : nat_lt x.port h.ports ≡ true
  low = issuer-low h past x a w.issued

  -- an update is granted no line
  ungranted : updates_memory x ≡ true → is_granted h past x ≡ false
  ungranted u = false_from_ne_true (is_granted h past x) (λ g.
      let kind = (granted_given h past a x.addr x (granted_at h past a x.port x.chan x.id x out-own g)).kind in
      absurd (updates_ungranted x kind (updates_write x u) u))

  memory-kept : (line : Line) → data_of h past x ≡ Some line → is_kept h past (M x.port x.chan x.id line) ≡ k24 h past (M x.port x.chan x.id line)
  unfolding is_kept
  memory-kept line is =
      second-decides (k1 h past (M x.port x.chan x.id line)) (k24 h past (M x.port x.chan x.id line)) (k25 h past (M x.port x.chan x.id line)) 25 24 1
      (and_from _ _ low refl) (let out = out-own in rw out (rw is (same-line-self line)))

  response-kept-as : is_barrier_half x ≡ false → is_kept h past (B x.port x.id 0) ≡ k26 h past (B x.port x.id 0)
  unfolding is_kept
  response-kept-as none =
      let out : outstanding h past x.port Write x.id ≡ Some x = subst (λ q. outstanding h past q Write x.id ≡ Some x) (sym w.port) w.out in
      second-decides (k1 h past (B x.port x.id 0)) (k26 h past (B x.port x.id 0)) (k34 h past (B x.port x.id 0)) 34 26 1
      (and_from _ _ low refl) (rw out (may-answer-evict past x none))

  pub update-begins : updates_memory x ≡ true → (is_some (data_sent past x) && not (has_passed_on h past x.addr)) ≡ may_begin h past (update_burst h past x)
  update-begins u =
      let writes = updates_write x u in
      let k = is_some_and-is (write_kind x) is_update u in
      let line = data_of_write h past x k.0 in
      let data_is : data_of h past x ≡ Some line = data-there h past x k.0 writes k.1 in
      let begins : may_begin h past (update_burst h past x) ≡ is_kept h past (M x.port x.chan x.id line) =
      ap (λ b. may_begin h past (if b then memory_write h past x ++ response x else if evicts x then response x else [])) u
      ∙ ap (λ o. may_begin h past (map (λ v. M x.port x.chan x.id v) (option_to_list o) ++ response x)) data_is in
      let out = out-own in
      let may : k24 h past (M x.port x.chan x.id line) ≡ may_write_data h past x = rw out (ap (λ b. if b then may_write_passed h past x else may_write_data h past x) writes) in
      let none : is_write_due h past x ≡ false = ap (λ b. b && are_snoops_done h past x) (ungranted u) in
      let due : is_update_due h past x ≡ not (has_passed_on h past x.addr) =
      ap (λ b. b && is_none_or (granted h past x.addr) (λ y. not (has_passed_data h past y))) u ∙ none-not (granted h past x.addr) (has_passed_data h past) in
      let sends : is_some (data_sent past x) ≡ (is_some_and (write_kind x) has_write_data && is_burst_whole past x && not (has_memory_write past x.port x.chan x.id)) =
      some-if (is_some_and (write_kind x) has_write_data && is_burst_whole past x && not (has_memory_write past x.port x.chan x.id)) _ in
      let whole : is_some (data_sent past x) ≡ (is_burst_whole past x && not (has_memory_write past x.port x.chan x.id)) =
      sends ∙ ap (λ b. b && is_burst_whole past x && not (has_memory_write past x.port x.chan x.id)) (sends-data x u) in
      ap (λ b. b && not (has_passed_on h past x.addr)) whole
      ∙ sym (ap (λ b. (is_burst_whole past x && not (has_memory_write past x.port x.chan x.id)) && (b || is_update_due h past x)) none
      ∙ ap (λ b. (is_burst_whole past x && not (has_memory_write past x.port x.chan x.id)) && b) due)
      ∙ sym (begins ∙ memory-kept line data_is ∙ may)

  pub evict-begins : updates_memory x ≡ false → evicts x ≡ true → not (is_complete past x.port x.chan x.id) ≡ may_begin h past (update_burst h past x)
  evict-begins f e =
      let writes = evicts-write x e in
      let k = is_some_and-is (write_kind x) is_evict e in
      let none : is_some_and (write_kind x) has_write_data ≡ false = ap (λ o. is_some_and o has_write_data) k.1 ∙ evict-no-data k.0 k.2 in
      let out : outstanding h past x.port Write x.id ≡ Some x = subst (λ q. outstanding h past q Write x.id ≡ Some x) (sym w.port) w.out in
      let begins : may_begin h past (update_burst h past x) ≡ is_kept h past (B x.port x.id 0) =
      ap (λ b. may_begin h past (if b then memory_write h past x ++ response x else if evicts x then response x else [])) f
      ∙ ap (λ b. may_begin h past (if b then response x else [])) e in
      let may : k26 h past (B x.port x.id 0) ≡ may_respond past x = rw out refl in
      let responds : may_respond past x ≡ not (is_complete past x.port x.chan x.id) =
      ap (λ b. not (is_complete past x.port x.chan x.id) && implies b (has_memory_write past x.port x.chan x.id)) none ∙ both (not (is_complete past x.port x.chan x.id)) in
      sym (begins ∙ response-kept-as (evicts-no-half x k.0 writes k.1 k.2) ∙ may ∙ responds)
    where
      both : (b : Bool) → (b && true) ≡ b
      both true = refl
      both false = refl

pub none-begins : (h : Header) (past : Trace) (x : Transaction) → updates_memory x ≡ false → evicts x ≡ false → may_begin h past (update_burst h past x) ≡ false
none-begins h past x f e =
    ap (λ b. may_begin h past (if b then memory_write h past x ++ response x else if evicts x then response x else [])) f
    ∙ ap (λ b. may_begin h past (if b then response x else [])) e

-- a granted write is no update and no Evict
pub granted-begins : (h : Header) (past : Trace) → IsAccepted h past → (p : ℕ) (x : Transaction) → IsWrite h past p x → has_grant past x.port x.chan x.id ≡ true
    → may_begin h past (update_burst h past x) ≡ false
granted-begins h past a p x w had =
    let writes : is_read x.chan ≡ false = ap is_read w.chan in
    let out : outstanding h past x.port x.chan x.id ≡ Some x =
    subst (λ q. outstanding h past q x.chan x.id ≡ Some x) (sym w.port) (subst (λ c. outstanding h past p c x.id ≡ Some x) (sym w.chan) w.out) in
    let takes = (granted_given h past a x.addr x (granted_had h past a x.port x.chan x.id x out had)).kind in
    let k = granted_write x takes writes in
    none-begins h past x (false_from_ne_true (updates_memory x) (updates_ungranted x takes writes))
    (ap (λ o. is_some_and o is_evict) k.1 ∙ no-evict k.0 k.2)
  where
    no-evict : (k : AwKind) → is_granted_write k ≡ true → is_evict k ≡ false
    no-evict write.Evict g = cc
    no-evict k g = refl

read-begins-none : (h : Header) (past : Trace) (x : Transaction) → same_channel x.chan Write ≡ false → may_begin h past (update_burst h past x) ≡ false
read-begins-none h past x reads =
    none-begins h past x (false_from_ne_true _ (λ u. let w = updates_write x u in by x.chan reads w)) (false_from_ne_true _ (λ e. let w = evicts-write x e in by x.chan reads w))
  where
    by : (c : Channel) → same_channel c Write ≡ false → is_read c ≡ false → ⊥
    by Read reads w = cc
    by Write reads w = cc

-- where no outstanding write of the port may have its burst, there is no step
pub serves-none : (h : Header) (past : Trace) (p : ℕ) → ((k : ℕ) (x : Transaction) → slice_get (pending_of h past p Write) k ≡ Some x → may_begin h past (update_burst h past x) ≡ false)
    → may_serve update_burst h past p ≡ false
serves-none h past p none = none-served update_burst h past p Write (read-begins-none h past) none
