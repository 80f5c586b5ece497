-- A memory update whose line's granted transaction has no passed data moves on: its port is enabled by step 2, 3 or 4.
use Rattle.std.proofs.Common.{◌≡◌, ℕ, zero, suc, ◌+◌, ◌*◌, ◌/◌, ◌%◌, ◌<◌, ◌≤◌, true, false, not, ◌&&◌, ◌||◌, ◌==◌, nat_lt, if◌then◌else◌, List, [], ◌∷◌, ◌++◌, length, map, take, drop, Some, is_some, slice_get, refl, sym, ap, subst, ◌∙◌, inl, inr, arith}
use Rattle.std.specs.Option.{option_map, option_to_list}
use Rattle.std.proofs.lemmas.Bool.{and_parts, and_from, or_left, or_right, cases_Bool, eqb-true, eq-eqb, false_from_ne_true, ltb-true, ltb-false}
use Rattle.std.proofs.lemmas.Option.{slice_get_within}
use Rattle.ace_codes.specs.declared.kind.AwKind.{AwKind}
use Rattle.ace_codes.specs.declared.kind.AwKind.TheVariants as write
use Rattle.ace_event.specs.declared.event.Channel.{Channel}
use Rattle.ace_event.specs.declared.event.Channel.TheVariants.{Write}
use Rattle.ace_event.specs.declared.event.Event.TheVariants.{M}
use Rattle.ace_event.specs.declared.header.Header.{Header}
use Rattle.ace_event.specs.declared.line.Line.{Line}
use Rattle.ace_model.specs.declared.transactions.Transaction.{Transaction}
use Rattle.ace_model.specs.AddressRules.{k1}
use Rattle.ace_model.specs.Grants.{granted, has_passed_data}
use Rattle.ace_model.specs.Kinds.{has_write_data, is_update}
use Rattle.ace_model.specs.Plans.{Plan}
use Rattle.ace_model.specs.Progress.{evicts, has_update, is_update_on, updates_memory}
use Rattle.ace_model.specs.Replies.{passed_data}
use Rattle.ace_model.specs.Trace.{Trace, is_none_or, is_some_and}
use Rattle.ace_model.specs.Transactions.{is_ace, is_complete, is_on, is_outstanding, is_read, outstanding, write_kind}
use Rattle.ace_model.specs.WriteRules.{data_of, data_of_write, is_update_due, is_write_due, k24, k25, may_write_data, may_write_passed}
use Rattle.ace_model.specs.Writes.{Beat, beats, burst_of, data_writes, has_memory_write, is_burst_whole, next_write_beat}
use Rattle.ace_model.proofs.General.Options.{is_some_and-is}
use Rattle.ace_model.proofs.Trace.Growth.{IsIssued, some_issued-found, some_issued-is}
use Rattle.ace_model.proofs.Trace.LineOnce.{outstanding_is}
use Rattle.ace_model.proofs.Trace.Looks.{is_write-is}
use Rattle.ace_model.proofs.Trace.WriteBursts.{stands_at, start_of}
use Rattle.ace_runs.specs.Bursts.{is_kept, may_begin, may_serve}
use Rattle.ace_runs.specs.LineSteps.{memory_write, response, update_burst}
use Rattle.ace_runs.specs.MasterSteps.{has_due, is_finished, may_acknowledge, may_send}
use Rattle.ace_runs.specs.Operations.{next_operation}
use Rattle.ace_runs.specs.Steps.{AreSteps, is_enabled_by}
use Rattle.ace_runs.proofs.Few.Beats.{beats-counted}
use Rattle.ace_runs.proofs.Turns.{steps-accepted}
use Rattle.ace_runs.proofs.Accepting.{three-kept}
use Rattle.ace_runs.proofs.NeverStuck.Steps.SameEvents.{same-line-self}
use Rattle.ace_runs.proofs.NeverStuck.Acknowledges.{complete-due}
use Rattle.ace_runs.proofs.NeverStuck.Steps.StepShapes.{updates_write}
use Rattle.ace_runs.proofs.NeverStuck.Data.WholeBursts.{bursts-whole}
use Rattle.ace_runs.proofs.NeverStuck.Data.WritesAnswered.{writes-answered}

-- An outstanding memory update of the port on the line.
pub record IsUpdate (h : Header) (past : Trace) (p l : ℕ) (x : Transaction) : Type 0 where
  pub issued : IsIssued past x
  pub port : x.port ≡ p
  pub chan : x.chan ≡ Write
  pub updates : updates_memory x ≡ true
  pub on : is_on x l ≡ true
  pub is_out : is_outstanding h past x ≡ true
  pub out : outstanding h past p Write x.id ≡ Some x

pub update-there : (h : Header) (past : Trace) (p l : ℕ) → has_update h past p l ≡ true → (x : Transaction) × IsUpdate h past p l x
update-there h past p l has =
    let x = some_issued-is past (is_update_on h past p l) has in
    let three = and_parts ((x.0.port == p) && updates_memory x.0 && is_on x.0 l) (is_outstanding h past x.0) x.2 in
    let two = and_parts ((x.0.port == p) && updates_memory x.0) (is_on x.0 l) three.0 in
    let one = and_parts (x.0.port == p) (updates_memory x.0) two.0 in
    let port = eqb-true x.0.port p one.0 in
    let chan = is_write-is x.0.chan (updates_write x.0 one.1) in
    let out = outstanding_is h past x.0 x.1 three.1 in (
      x.0,
      record {
        issued = x.1;
        port = port;
        chan = chan;
        updates = one.1;
        on = two.1;
        is_out = three.1;
        out = subst (λ c. outstanding h past p c x.0.id ≡ Some x.0) chan (subst (λ q. outstanding h past q x.0.chan x.0.id ≡ Some x.0) port out);
      },
    )

-- ---- step 2 ------------------------------------------------------------------------------------------

update-sends : (k : AwKind) → is_update k ≡ true → has_write_data k ≡ true
update-sends write.WriteBack u = refl
update-sends write.WriteClean u = refl
update-sends write.WriteEvict u = refl
update-sends k u = cc

pub sends-data : (x : Transaction) → updates_memory x ≡ true → is_some_and (write_kind x) has_write_data ≡ true
sends-data x u = let k = is_some_and-is (write_kind x) is_update u in rw k.1 (update-sends k.0 k.2)

four-from : (bs : List Beat) (m : ℕ) → m + 4 ≤ length bs → length (take 4 (drop m bs)) ≡ 4
four-from [] zero low = absurd (omega (arith, low))
four-from (a ∷ []) zero low = absurd (omega (arith, low))
four-from (a ∷ b ∷ []) zero low = absurd (omega (arith, low))
four-from (a ∷ b ∷ c ∷ []) zero low = absurd (omega (arith, low))
four-from (a ∷ b ∷ c ∷ d ∷ bs) zero low = refl
four-from [] (suc m) low = absurd (omega (arith, low))
four-from (a ∷ bs) (suc m) low = four-from bs m (omega (arith, low))

there-is : (xs : List Transaction) (n : ℕ) → n < length xs → is_some (slice_get xs n) ≡ true
there-is [] n low = absurd (omega (arith, low))
there-is (x ∷ xs) zero low = refl
there-is (x ∷ xs) (suc n) low = there-is xs n (omega (arith, low))

-- Where the burst of a write with data isn't whole, its port has one to send.
pub may-send : (plan : Plan) (past : Trace) (p : ℕ) (x : Transaction) → AreSteps plan past → IsIssued past x → x.port ≡ p
    → is_some_and (write_kind x) has_write_data ≡ true → is_burst_whole past x ≡ false → may_send plan.header past p ≡ true
may-send plan past p x s i port sends part =
    let a = steps-accepted plan past s in
    let w = bursts-whole plan past s p in
    let count : length (beats past p) ≡ w.0 * 4 = sym (beats-counted plan.header past p a) ∙ w.1 in
    let stands = stands_at past x i sends in
    let within = slice_get_within (data_writes past x.port) (start_of past x) x stands in
    let here : start_of past x < length (data_writes past p) = subst (λ q. start_of past x < length (data_writes past q)) port within in
    let few : (4 * start_of past x + 4 ≤ length (beats past p)) → ⊥ = λ many.
    let four = four-from (beats past x.port) (4 * start_of past x) (subst (λ q. 4 * start_of past x + 4 ≤ length (beats past q)) (sym port) many) in
    let bad : true ≡ false = sym (eq-eqb (length (burst_of past x)) 4 four) ∙ part in cc in
    let next : length (beats past p) / 4 ≡ w.0 = omega (arith, count) in
    let beat : length (beats past p) % 4 ≡ 0 = omega (arith, count) in
    let low : w.0 < length (data_writes past p) = elim (cases_Bool (nat_lt w.0 (length (data_writes past p)))) [
      | inl t ↦ ltb-true w.0 (length (data_writes past p)) t
      | inr f ↦ let high = ltb-false w.0 (length (data_writes past p)) f in absurd (few (omega (arith, count, here, high)))
    ] in
    and_from _ _ (rw next (there-is (data_writes past p) w.0 low)) (eq-eqb (next_write_beat past p) 0 beat)

-- ---- step 3 ------------------------------------------------------------------------------------------

-- of the rules only three look at a write of memory
pub write-kept : (h : Header) (past : Trace) (p : ℕ) (c : Channel) (i : ℕ) (line : Line) → k1 h past (M p c i line) ≡ true → k24 h past (M p c i line) ≡ true
    → k25 h past (M p c i line) ≡ true → is_kept h past (M p c i line) ≡ true
unfolding is_kept
write-kept h past p c i line one may line_is = three-kept (k1 h past (M p c i line)) (k24 h past (M p c i line)) (k25 h past (M p c i line)) 1 24 25 one may line_is

pub data-there : (h : Header) (past : Trace) (x : Transaction) (k : AwKind) → is_read x.chan ≡ false → write_kind x ≡ Some k → data_of h past x ≡ Some (data_of_write h past x k)
data-there h past x k writes kind =
    ap (λ b. if b then passed_data h past x.addr else option_map (data_of_write h past x) (write_kind x)) writes ∙ ap (option_map (data_of_write h past x)) kind

may-write : (h : Header) (past : Trace) (p l : ℕ) (x : Transaction) → IsUpdate h past p l x → is_ace h p ≡ true → is_burst_whole past x ≡ true
    → has_memory_write past x.port x.chan x.id ≡ false → is_none_or (granted h past x.addr) (λ y. not (has_passed_data h past y)) ≡ true
    → may_begin h past (update_burst h past x) ≡ true
may-write h past p l x u ace whole unwritten clear =
    let writes = updates_write x u.updates in
    let k = is_some_and-is (write_kind x) is_update u.updates in
    let line = data_of_write h past x k.0 in
    let data_is : data_of h past x ≡ Some line = data-there h past x k.0 writes k.1 in
    let out : outstanding h past x.port x.chan x.id ≡ Some x =
    subst (λ c. outstanding h past x.port c x.id ≡ Some x) (sym u.chan) (subst (λ q. outstanding h past q Write x.id ≡ Some x) (sym u.port) u.out) in
    let low : nat_lt x.port h.ports ≡ true = subst (λ q. nat_lt q h.ports ≡ true) (sym u.port) (and_parts (nat_lt p h.ports) _ ace).0 in
    let due : (is_write_due h past x || is_update_due h past x) ≡ true = or_right (is_write_due h past x) (is_update_due h past x) (and_from _ _ u.updates clear) in
    let may : may_write_data h past x ≡ true = and_from _ _ (and_from _ _ whole (ap not unwritten)) due in
    let may_m : k24 h past (M x.port x.chan x.id line) ≡ true = rw out (ap (λ b. if b then may_write_passed h past x else may_write_data h past x) writes ∙ may) in
    let is_data : k25 h past (M x.port x.chan x.id line) ≡ true = rw out (rw data_is (same-line-self line)) in
    let kept = write-kept h past x.port x.chan x.id line (and_from _ _ low refl) may_m is_data in
    ap (λ b. may_begin h past (if b then memory_write h past x ++ response x else if evicts x then response x else [])) u.updates
    ∙ ap (λ o. may_begin h past (map (λ line. M x.port x.chan x.id line) (option_to_list o) ++ response x)) data_is
    ∙ kept

-- ---- all -------------------------------------------------------------------------------------------

-- The port of the update is enabled by step 2, 3 or 4.
pub update-moves : (plan : Plan) (past : Trace) (p l : ℕ) (x : Transaction) → AreSteps plan past → IsUpdate plan.header past p l x → is_ace plan.header p ≡ true
    → is_none_or (granted plan.header past x.addr) (λ y. not (has_passed_data plan.header past y)) ≡ true
    → is_enabled_by (2 ∷ 3 ∷ 4 ∷ 7 ∷ []) plan past p ≡ true
update-moves plan past p l x s u ace clear =
    let h = plan.header in
    let a = steps-accepted plan past s in
    elim (cases_Bool (is_complete past p Write x.id)) [
      | inl done ↦
          let due = complete-due h past p Write x.id x a ace u.out done in
          let may : may_acknowledge (next_operation plan past p) h past p ≡ true = or_left (has_due h past p) (is_finished (next_operation plan past p) h past p) due in
          or_right (may_send h past p) _ (or_right (may_serve update_burst h past p) _ (or_left (may_acknowledge (next_operation plan past p) h past p) _ may))
      | inr undone ↦ elim (cases_Bool (is_burst_whole past x)) [
        | inr part ↦ or_left (may_send h past p) _ (may-send plan past p x s u.issued u.port (sends-data x u.updates) part)
        | inl whole ↦
            let unwritten_here : has_memory_write past p Write x.id ≡ false = false_from_ne_true (has_memory_write past p Write x.id) (λ m. let done = writes-answered plan past s p x.id m in cc) in
            let unwritten : has_memory_write past x.port x.chan x.id ≡ false =
            subst (λ c. has_memory_write past x.port c x.id ≡ false) (sym u.chan) (subst (λ q. has_memory_write past q Write x.id ≡ false) (sym u.port) unwritten_here) in
            let begins = may-write h past p l x u ace whole unwritten clear in
            let serves : may_serve update_burst h past p ≡ true =
            some_issued-found past (λ y. (y.port == p) && is_outstanding h past y && may_begin h past (update_burst h past y)) x.place x u.issued.there
            (and_from _ _ (and_from _ _ (eq-eqb x.port p u.port) u.is_out) begins) in
            or_right (may_send h past p) _ (or_left (may_serve update_burst h past p) _ serves)
      ]
    ]
