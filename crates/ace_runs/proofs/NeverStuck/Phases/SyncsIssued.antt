-- For a right plan a port that has made the act of a Sync has issued one.
use Rattle.std.proofs.Common.{◌≡◌, ℕ, zero, suc, ◌+◌, ◌<◌, Bool, true, false, not, ◌&&◌, ◌==◌, if◌then◌else◌, [], ◌∷◌, length, Option, Some, None, is_some, slice_get, inl, inr, refl, sym, ap, subst, ◌∙◌, arith}
use Rattle.std.proofs.lemmas.Bool.{and_parts, and_from, cases_Bool, eqb-true}
use Rattle.ace_codes.specs.declared.kind.ArKind.TheVariants as read
use Rattle.ace_event.specs.declared.event.Event.{Event}
use Rattle.ace_event.specs.declared.event.Event.TheVariants.{Op as Retires}
use Rattle.ace_model.specs.declared.plans.Op.{Op}
use Rattle.ace_model.specs.declared.plans.Op.TheVariants.{Sync}
use Rattle.ace_model.specs.declared.transactions.Transaction.{Transaction}
use Rattle.ace_model.specs.Messages.{first_waiting, is_message_part, is_message_word, is_second_part, is_sync, is_sync_word, last_sync, sync_in}
use Rattle.ace_model.specs.Plans.{IsRight, Plan, has_right_fields}
use Rattle.ace_model.specs.Trace.{Trace, at_point, is_some_and, newer}
use Rattle.ace_model.specs.Transactions.{issued}
use Rattle.ace_model.proofs.General.Options.{Some-injective, is_none_or-at}
use Rattle.ace_model.proofs.Trace.Growth.{at_point-end}
use Rattle.ace_model.proofs.Trace.Issued.{issued-place}
use Rattle.ace_runs.specs.Acts.{acts_of, is_act, issues_read}
use Rattle.ace_runs.specs.Counts.{is_retirement}
use Rattle.ace_runs.specs.Follows.{FollowsSoFar, obeys}
use Rattle.ace_runs.specs.Operations.{next_operation}
use Rattle.ace_runs.specs.Segments.{acts_made, is_at_port}
use Rattle.ace_runs.proofs.NeverStuck.Phases.IssuedActs.{issued-port}
use Rattle.ace_runs.proofs.NeverStuck.Messages.IssuedMessages.{next-right}
use Rattle.ace_runs.proofs.NeverStuck.Phases.BothParts.{waits-as-made}
use Rattle.ace_runs.proofs.NeverStuck.Phases.NextActs.{acts-more, next-turn}
use Rattle.ace_runs.proofs.NeverStuck.Phases.Parts.{is_message_pair, message-issued}

-- the port has issued a Sync
abbrev pub has_sync : Trace → ℕ → Bool
has_sync past p = is_some (last_sync past p)

newer-some : (new older : Option Transaction) → is_some older ≡ true → is_some (newer new older) ≡ true
newer-some None older some = some
newer-some (Some x) older some = refl

-- the one act of a Sync
one-act : (word made : ℕ) (fits : Event → Bool) → slice_get (issues_read read.DvmMessage word ∷ []) made ≡ Some fits → Some (issues_read read.DvmMessage word) ≡ Some fits
one-act word zero fits turn = turn
one-act word (suc made) fits turn = cc

-- an event that issues a Sync of the port
issues-sync : (past : Trace) (p : ℕ) (e : Event) (x : Transaction) → issued (length past) e ≡ Some x → x.port ≡ p → is_message_part x ≡ true → is_sync_word x.addr ≡ true
    → is_some (first_waiting past p) ≡ false → (x.port == p) ≡ true → has_sync (e ∷ past) p ≡ true
issues-sync past p e x new port part word first here =
    let now : at_point x.place past ≡ past = at_point-end past x.place (issued-place (length past) e x new) in
    let alone : is_second_part past x ≡ false = ap (λ t. is_some (first_waiting t x.port)) now ∙ ap (λ q. is_some (first_waiting past q)) port ∙ first in
    let sync : is_sync past x ≡ true = and_from _ _ (and_from _ _ part word) (ap not alone) in
    let one : sync_in past (issued (length past) e) p ≡ Some x = ap (λ o. sync_in past o p) new ∙ ap (λ b. if b then Some x else None) (and_from _ _ sync here) in
    ap (λ o. is_some (newer o (last_sync past p))) one

event-sync : (plan : Plan) (past : Trace) (p word : ℕ) (e : Event) → IsRight plan → FollowsSoFar plan past → obeys plan past e ≡ true → is_retirement e ≡ false
    → next_operation plan past p ≡ Some (Sync word) → 0 < acts_made (e ∷ past) p → (0 < acts_made past p → has_sync past p ≡ true) → has_sync (e ∷ past) p ≡ true
event-sync plan past p word e right f o other next some before =
    elim (cases_Bool (is_at_port p e && is_act e)) [
      | inr none ↦
          let same : acts_made (e ∷ past) p ≡ acts_made past p = acts-more past p e other ∙ ap (λ b. if b then acts_made past p + 1 else acts_made past p) none in
          newer-some (sync_in past (issued (length past) e) p) (last_sync past p) (before (subst (λ n. 0 < n) same some))
      | inl both ↦
          let t = next-turn plan past p e o both in
          let is : t.of ≡ Sync word = Some-injective t.of (Sync word) (sym t.next ∙ next) in
          let turn : slice_get (issues_read read.DvmMessage word ∷ []) (acts_made past p) ≡ Some t.fits = subst (λ (v : Op). slice_get (acts_of v) (acts_made past p) ≡ Some t.fits) is t.turn in
          let act : issues_read read.DvmMessage word e ≡ true = ap (λ fits. fits e) (Some-injective (issues_read read.DvmMessage word) t.fits (one-act word (acts_made past p) t.fits turn)) ∙ t.passes in
          let x = message-issued word e (length past) act in
          let fields : has_right_fields (Sync word) ≡ true = is_none_or-at (next_operation plan past p) has_right_fields (Sync word) (next-right plan past p right) next in
          let sync : is_sync_word x.0.addr ≡ true = ap is_sync_word x.3 ∙ (and_parts (is_message_word word) (is_sync_word word) fields).1 in
          let here : (x.0.port == p) ≡ true = sym (issued-port e (length past) p x.0 x.1) ∙ (and_parts (is_at_port p e) (is_act e) both).0 in
          let first : is_some (first_waiting past p) ≡ false = waits-as-made plan past p right f ∙ ap (λ n. is_some_and n is_message_pair && (acts_made past p == 1)) next in
          issues-sync past p e x.0 x.1 (eqb-true x.0.port p here) x.2 sync first here
    ]

pub sync-issued : (plan : Plan) (past : Trace) (p word : ℕ) → IsRight plan → FollowsSoFar plan past → next_operation plan past p ≡ Some (Sync word) → 0 < acts_made past p
    → has_sync past p ≡ true
sync-issued plan [] p word right f next some = absurd (omega (arith, some))
sync-issued plan (Retires q k res ∷ past) p word right f next some =
    elim (cases_Bool (p == q)) [
      | inl t ↦ let none : 0 < 0 = rw t at some in absurd (omega (arith, none))
      | inr n ↦ sync-issued plan past p word right f.0 (rw n at next) (rw n at some)
    ]
sync-issued plan (e ∷ past) p word right f next some = event-sync plan past p word e right f.0 f.1 refl next some (sync-issued plan past p word right f.0 next)
