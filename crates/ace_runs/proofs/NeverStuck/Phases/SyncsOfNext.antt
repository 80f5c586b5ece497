-- A Sync of a port that has had no AC DVM Complete, or has one without an answer, was issued for the port's next operation, which is a Sync.
use Rattle.std.proofs.Common.{◌≡◌, ℕ, zero, suc, ◌+◌, Bool, true, false, not, ◌&&◌, ◌==◌, if◌then◌else◌, List, [], ◌∷◌, ◌++◌, length, Option, Some, None, is_some, slice_get, inl, inr, refl, sym, ap, subst, ◌∙◌}
use Rattle.std.specs.List.{list_any}
use Rattle.std.proofs.lemmas.Bool.{and_parts, and_from, cases_Bool, eq-eqb, eqb-true, not-true, or_left}
use Rattle.ace_codes.specs.Snoops.{ac_kind_of}
use Rattle.ace_codes.specs.declared.kind.ArKind.{ArKind}
use Rattle.ace_codes.specs.declared.kind.ArKind.TheVariants as read
use Rattle.ace_event.specs.declared.event.Event.{Event}
use Rattle.ace_event.specs.declared.event.Event.TheVariants.{Ac, Op as Retires}
use Rattle.ace_event.specs.declared.event.Outcome.{Outcome}
use Rattle.ace_event.specs.declared.event.Outcome.TheVariants.{Ok, Skip, Fail}
use Rattle.ace_event.specs.declared.header.Header.{Header}
use Rattle.ace_model.specs.declared.plans.Op.{Op}
use Rattle.ace_model.specs.declared.plans.Op.TheVariants as op
use Rattle.ace_model.specs.declared.transactions.Transaction.{Transaction}
use Rattle.ace_model.specs.Accepted.{IsAccepted}
use Rattle.ace_model.specs.Kinds.{is_complete_snoop, is_dvm_complete, is_dvm_message}
use Rattle.ace_model.specs.Messages.{completes_sync, first_waiting, has_second, is_message_part, is_message_word, is_second_part, is_sync, is_sync_completed, is_sync_word, last_sync, sync_in}
use Rattle.ace_model.specs.OrderRules.{completes_next, has_every_completion, may_complete}
use Rattle.ace_model.specs.Plans.{IsRight, Plan, has_right_fields}
use Rattle.ace_model.specs.Progress.{is_completed}
use Rattle.ace_model.specs.Trace.{Trace, at_point, is_some_and, more, newer, option_filter}
use Rattle.ace_model.specs.Transactions.{issued, read_kind}
use Rattle.ace_model.proofs.General.Booleans.{implies-at, not_both}
use Rattle.ace_model.proofs.General.Lists.{any-left, any-right}
use Rattle.ace_model.proofs.General.Options.{is_none_or-at, is_some_and-is, option_filter-is, some_is}
use Rattle.ace_model.proofs.Rules.Keeps.{accepted_keeps}
use Rattle.ace_model.proofs.Trace.Growth.{at_point-end}
use Rattle.ace_model.proofs.Trace.Issued.{issued-place}
use Rattle.ace_runs.specs.Acts.{acts_of, is_act}
use Rattle.ace_runs.specs.Counts.{is_retirement}
use Rattle.ace_runs.specs.Follows.{FollowsSoFar, obeys}
use Rattle.ace_runs.specs.Operations.{next_operation}
use Rattle.ace_runs.specs.Retiring.{has_answered_completion, may_retire}
use Rattle.ace_runs.specs.Segments.{acts_made, is_at_port, is_for_operation, segment}
use Rattle.ace_runs.proofs.NeverStuck.Phases.IssuedActs.{issued-act, issued-port}
use Rattle.ace_runs.proofs.NeverStuck.Messages.IssuedMessages.{next-right}
use Rattle.ace_runs.proofs.NeverStuck.Phases.AnsweredCompletions.{answered-stays, issues_sync, untold-unanswered}
use Rattle.ace_runs.proofs.NeverStuck.Phases.BothParts.{part-acts, waits-as-made}
use Rattle.ace_runs.proofs.NeverStuck.Phases.Finished.{asks_sync}
use Rattle.ace_runs.proofs.NeverStuck.Phases.NextActs.{acts-more, next-stays, next-turn, retires-next, segment-more}
use Rattle.ace_runs.proofs.NeverStuck.Phases.Parts.{is_message_pair, part-of-message, part-word}

-- the transaction is among these
abbrev pub is_among_issued : List Transaction → Transaction → Bool
is_among_issued xs x = list_any (λ y. x.place == y.place) xs

-- The port's next operation is a Sync, whose act is made, and the port's last Sync was issued for it.
pub record IsSyncOfNext (plan : Plan) (past : Trace) (p : ℕ) : Type 0 where
  pub next : is_some_and (next_operation plan past p) asks_sync ≡ true
  pub made : acts_made past p ≡ 1
  pub own : is_some_and (last_sync past p) (is_among_issued (segment past p)) ≡ true

-- ---- the Sync is issued ------------------------------------------------------------------------------

-- an act that issues a Sync is that of a Sync
act-of-sync : (o : Op) (made : ℕ) (fits : Event → Bool) (e : Event) (n : ℕ) (x : Transaction) → issued n e ≡ Some x → is_message_part x ≡ true → is_sync_word x.addr ≡ true
    → has_right_fields o ≡ true → (is_message_pair o && (made == 1)) ≡ false → slice_get (acts_of o) made ≡ Some fits → fits e ≡ true → (asks_sync o ≡ true) × (made ≡ 0)
act-of-sync (op.Sync word) zero fits e n x new part sync right first turn m = (refl, refl)
act-of-sync (op.Sync word) (suc made) fits e n x new part sync right first turn m = cc
act-of-sync (op.Dvm word) zero fits e n x new part sync right first turn m =
    let none = (and_parts (is_message_word word) (not (is_sync_word word)) (and_parts (is_message_word word && not (is_sync_word word)) (not (has_second word)) right).0).1 in
    let bad : false ≡ true = sym (not-true (is_sync_word word) none) ∙ ap is_sync_word (sym (part-word word fits e n x new turn m)) ∙ sync in cc
act-of-sync (op.Dvm word) (suc made) fits e n x new part sync right first turn m = cc
act-of-sync (op.Dvm2 word second) zero fits e n x new part sync right first turn m =
    let parts = and_parts (is_message_word word) (has_second word) right in
    let sync_word : is_sync_word word ≡ true = ap is_sync_word (sym (part-word word fits e n x new turn m)) ∙ sync in
    let bad : false ≡ true = sym (not_both _ (is_sync_word word) (has_second word) parts.0 sync_word) ∙ parts.1 in cc
act-of-sync (op.Dvm2 word second) (suc zero) fits e n x new part sync right first turn m = cc
act-of-sync (op.Dvm2 word second) (suc (suc made)) fits e n x new part sync right first turn m = cc
act-of-sync o made fits e n x new part sync right first turn m =
    let message = part-of-message o made fits e n x new part turn m in cc

-- a part is no DVM Complete, so it is in the segment
part-in-segment : (x : Transaction) (p : ℕ) → is_message_part x ≡ true → (x.port == p) ≡ true → is_for_operation p x ≡ true
part-in-segment x p part here = and_from _ _ here (by (read_kind x) part)
  where
    by : (k : Option ArKind) → is_some_and k is_dvm_message ≡ true → not (is_some_and k is_dvm_complete) ≡ true
    by None m = cc
    by (Some read.DvmMessage) m = refl
    by (Some k) m = cc

sync-event : (plan : Plan) (past : Trace) (p : ℕ) (e : Event) → IsRight plan → FollowsSoFar plan past → obeys plan past e ≡ true → is_retirement e ≡ false → issues_sync past p e ≡ true
    → IsSyncOfNext plan (e ∷ past) p
sync-event plan past p e right f o other some =
    let x = some_is (sync_in past (issued (length past) e) p) some in
    let of = option_filter-is (λ x. is_sync past x && (x.port == p)) (issued (length past) e) x.0 x.1 in
    let own = and_parts (is_sync past x.0) (x.0.port == p) of.1 in
    let sync = and_parts (is_message_part x.0 && is_sync_word x.0.addr) (not (is_second_part past x.0)) own.0 in
    let part = and_parts (is_message_part x.0) (is_sync_word x.0.addr) sync.0 in
    let both = and_from _ _ (issued-port e (length past) p x.0 of.0 ∙ own.1) (issued-act e (length past) x.0 of.0 (part-acts x.0 part.0)) in
    let t = next-turn plan past p e o both in
    let now : at_point x.0.place past ≡ past = at_point-end past x.0.place (issued-place (length past) e x.0 of.0) in
    let alone : is_some (first_waiting past p) ≡ false =
    sym (ap (λ t. is_some (first_waiting t x.0.port)) now ∙ ap (λ q. is_some (first_waiting past q)) (eqb-true x.0.port p own.1)) ∙ not-true (is_second_part past x.0) sync.1 in
    let first : (is_message_pair t.of && (acts_made past p == 1)) ≡ false =
    ap (λ n. is_some_and n is_message_pair && (acts_made past p == 1)) (sym t.next) ∙ sym (waits-as-made plan past p right f) ∙ alone in
    let fields = is_none_or-at (next_operation plan past p) has_right_fields t.of (next-right plan past p right) t.next in
    let a = act-of-sync t.of (acts_made past p) t.fits e (length past) x.0 of.0 part.0 part.1 fields first t.turn t.passes in
    let there : segment (e ∷ past) p ≡ segment past p ++ x.0 ∷ [] =
    segment-more past p e other ∙ ap (λ o. more (segment past p) (option_filter (is_for_operation p) o)) of.0 ∙ ap (λ b. more (segment past p) (if b then Some x.0 else None)) (part-in-segment x.0 p part.0 own.1) in
    record {
      next = ap (λ n. is_some_and n asks_sync) (next-stays plan past p e other ∙ t.next) ∙ a.0;
      made = acts-more past p e other ∙ ap (λ b. if b then acts_made past p + 1 else acts_made past p) both ∙ ap (λ n. n + 1) a.1;
      own = ap (λ o. is_some_and (newer o (last_sync past p)) (is_among_issued (segment (e ∷ past) p))) x.1 ∙ ap (λ l. is_among_issued l x.0) there
          ∙ any-right (λ y. x.0.place == y.place) (segment past p) (x.0 ∷ []) (or_left (x.0.place == x.0.place) false (eq-eqb x.0.place x.0.place refl));
    }

-- ---- it stays so -------------------------------------------------------------------------------------

-- a Sync has one act
no-second : (o : Op) (fits : Event → Bool) → asks_sync o ≡ true → slice_get (acts_of o) 1 ≡ Some fits → ⊥
no-second (op.Sync word) fits sync turn = cc
no-second o fits sync turn = cc

no-act : (plan : Plan) (past : Trace) (p : ℕ) (e : Event) → obeys plan past e ≡ true → IsSyncOfNext plan past p → (is_at_port p e && is_act e) ≡ false
no-act plan past p e o s =
    elim (cases_Bool (is_at_port p e && is_act e)) [
      | inr f ↦ f
      | inl both ↦
          let t = next-turn plan past p e o both in
          let sync : asks_sync t.of ≡ true = ap (λ n. is_some_and n asks_sync) (sym t.next) ∙ s.next in
          let turn : slice_get (acts_of t.of) 1 ≡ Some t.fits = ap (slice_get (acts_of t.of)) (sym s.made) ∙ t.turn in
          absurd (no-second t.of t.fits sync turn)
    ]

more-any : (xs : List Transaction) (o : Option Transaction) (x : Transaction) → is_among_issued xs x ≡ true → is_among_issued (more xs o) x ≡ true
more-any xs None x any = any
more-any xs (Some y) x any = any-left (λ z. x.place == z.place) xs (y ∷ []) any

none-new : (o : Option Transaction) → is_some o ≡ false → o ≡ None
none-new None f = refl
none-new (Some x) f = cc

-- an event that issues no Sync leaves the last one
last-stays : (past : Trace) (p : ℕ) (e : Event) → issues_sync past p e ≡ false → last_sync (e ∷ past) p ≡ last_sync past p
last-stays past p e none = ap (λ o. newer o (last_sync past p)) (none-new (sync_in past (issued (length past) e) p) none)

stays-of-next : (plan : Plan) (past : Trace) (p : ℕ) (e : Event) → obeys plan past e ≡ true → is_retirement e ≡ false → issues_sync past p e ≡ false → IsSyncOfNext plan past p
    → IsSyncOfNext plan (e ∷ past) p
stays-of-next plan past p e o other none s =
    let x = is_some_and-is (last_sync past p) (is_among_issued (segment past p)) s.own in
    record {
      next = ap (λ n. is_some_and n asks_sync) (next-stays plan past p e other) ∙ s.next;
      made = acts-more past p e other ∙ ap (λ b. if b then acts_made past p + 1 else acts_made past p) (no-act plan past p e o s) ∙ s.made;
      own = ap (λ o. is_some_and o (is_among_issued (segment (e ∷ past) p))) (last-stays past p e none ∙ x.1) ∙ ap (λ l. is_among_issued l x.0) (segment-more past p e other)
          ∙ more-any (segment past p) (option_filter (is_for_operation p) (issued (length past) e)) x.0 x.2;
    }

-- an AC DVM Complete comes where the last Sync has had none
completes-untold : (h : Header) (past : Trace) (e : Event) (p : ℕ) → IsAccepted h (e ∷ past) → completes_sync e p ≡ true → is_sync_completed past p ≡ false
completes-untold h past (Ac q addr code) p a c =
    let parts = and_parts (p == q) (is_some_and (ac_kind_of code) is_complete_snoop) c in
    let k = is_some_and-is (ac_kind_of code) is_complete_snoop parts.1 in
    let due : completes_next h past q addr k.0 ≡ true = is_none_or-at (ac_kind_of code) (completes_next h past q addr) k.0 (accepted_keeps h past (Ac q addr code) a).rule_39 k.1 in
    let may = (and_parts (addr == 0) (is_some_and (last_sync past q) (may_complete h past q)) (implies-at (is_complete_snoop k.0) _ due k.2)).1 in
    let x = is_some_and-is (last_sync past q) (may_complete h past q) may in
    let untold = (and_parts (is_completed past x.0) (not (is_sync_completed past q)) (and_parts (is_completed past x.0 && not (is_sync_completed past q)) (has_every_completion h past x.0) x.2).0).1 in
    subst (λ r. is_sync_completed past r ≡ false) (sym (eqb-true p q parts.0)) (not-true (is_sync_completed past q) untold)
completes-untold h past e p a c = cc

was-unanswered : (h : Header) (past : Trace) (e : Event) (p : ℕ) → IsAccepted h (e ∷ past) → issues_sync past p e ≡ false → has_answered_completion (e ∷ past) p ≡ false
    → has_answered_completion past p ≡ false
was-unanswered h past e p a none later =
    elim (cases_Bool (completes_sync e p)) [
      | inl completes ↦ untold-unanswered past p (completes-untold h past e p a completes)
      | inr other ↦ elim (cases_Bool (has_answered_completion past p)) [
        | inr f ↦ f
        | inl t ↦ let bad : false ≡ true = sym later ∙ answered-stays e past p t none other in cc
      ]
    ]

-- ---- traces ------------------------------------------------------------------------------------------

-- a Sync retires once its AC DVM Complete is answered
retires-answered : (h : Header) (past : Trace) (p : ℕ) (o : Op) (res : Outcome) → asks_sync o ≡ true → may_retire h past p o res ≡ true → has_answered_completion past p ≡ true
retires-answered h past p (op.Sync word) Ok sync m = (and_parts (acts_made past p == 1) (has_answered_completion past p) m).1
retires-answered h past p (op.Sync word) Skip sync m = let bad = (and_parts (acts_made past p == 0) false m).1 in cc
retires-answered h past p (op.Sync word) Fail sync m = let bad = (and_parts (acts_made past p == 0) false m).1 in cc
retires-answered h past p o res sync m = cc

event-of-next : (plan : Plan) (past : Trace) (p : ℕ) (e : Event) → IsRight plan → IsAccepted plan.header (e ∷ past) → FollowsSoFar plan past → obeys plan past e ≡ true → is_retirement e ≡ false
    → is_some (last_sync (e ∷ past) p) ≡ true → has_answered_completion (e ∷ past) p ≡ false
    → (is_some (last_sync past p) ≡ true → has_answered_completion past p ≡ false → IsSyncOfNext plan past p) → IsSyncOfNext plan (e ∷ past) p
event-of-next plan past p e right a f o other some later before =
    elim (cases_Bool (issues_sync past p e)) [
      | inl sync ↦ sync-event plan past p e right f o other sync
      | inr none ↦
          stays-of-next plan past p e o other none
          (before (ap is_some (sym (last-stays past p e none)) ∙ some) (was-unanswered plan.header past e p a none later))
    ]

pub sync-of-next : (plan : Plan) (past : Trace) (p : ℕ) → IsRight plan → IsAccepted plan.header past → FollowsSoFar plan past → is_some (last_sync past p) ≡ true
    → has_answered_completion past p ≡ false → IsSyncOfNext plan past p
sync-of-next plan [] p right a f some later = cc
sync-of-next plan (Retires q k res ∷ past) p right a f some later =
    let s = sync-of-next plan past p right a.0 f.0 some later in
    elim (cases_Bool (p == q)) [
      | inr n ↦ record { next = rw n s.next; made = rw n s.made; own = rw n s.own }
      | inl t ↦
          let own : obeys plan past (Retires p k res) ≡ true = subst (λ r. obeys plan past (Retires r k res) ≡ true) (sym (eqb-true p q t)) f.1 in
          let r = retires-next plan past p k res own in
          let sync : asks_sync r.0 ≡ true = ap (λ n. is_some_and n asks_sync) (sym r.1) ∙ s.next in
          let bad : false ≡ true = sym later ∙ retires-answered plan.header past p r.0 res sync r.2 in cc
    ]
sync-of-next plan (e ∷ past) p right a f some later = event-of-next plan past p e right a f.0 f.1 refl some later (sync-of-next plan past p right a.0 f.0)
