-- DVM messages fit: their words mean what the operations are, and a Sync comes after the port's last one is completed.
use Rattle.std.proofs.Common.{◌≡◌, ℕ, Bool, true, false, not, ◌&&◌, is_some, refl, ap, arith}
use Rattle.std.specs.List.{list_any}
use Rattle.std.proofs.lemmas.Bool.{and_parts}
use Rattle.ace_event.specs.declared.header.Header.{Header}
use Rattle.ace_model.specs.declared.plans.Op.{Op}
use Rattle.ace_model.specs.declared.plans.Op.TheVariants.{Dvm, Sync, Dvm2}
use Rattle.ace_model.specs.Messages.{has_second, is_message_word, is_sync_completed, is_sync_word, last_sync}
use Rattle.ace_model.specs.Plans.{Plan}
use Rattle.ace_model.specs.Trace.{Trace, implies}
use Rattle.ace_runs.specs.Retiring.{has_answered_completion, tells_completion, unanswered}
use Rattle.ace_runs.specs.Segments.{acts_made}
use Rattle.ace_runs.proofs.NeverStuck.Operations.Fits.Asking.{IsAsking, IsSynced}
use Rattle.ace_runs.proofs.NeverStuck.Operations.Kept.MessagesKept.{MessageFits}
use Rattle.ace_runs.proofs.NeverStuck.Operations.Lines.OfPlan.{planned-ace}

not-true-is : (b : Bool) → not b ≡ true → b ≡ false
not-true-is true t = cc
not-true-is false t = refl

no-sync : (sync some done : Bool) → sync ≡ false → implies (sync && some) done ≡ true
no-sync true some done f = cc
no-sync false some done f = refl

any-sync : (sync some done : Bool) → implies some done ≡ true → implies (sync && some) done ≡ true
any-sync true some done t = t
any-sync false some done t = refl

-- no second part follows a Sync
first-no-sync : (word : ℕ) → is_message_word word ≡ true → has_second word ≡ true → is_sync_word word ≡ false
first-no-sync word means two = by (is_sync_word word) (has_second word) two (not-true-is (is_sync_word word && has_second word) (and_parts _ (not (is_sync_word word && has_second word)) means).1)
  where
    by : (s t : Bool) → t ≡ true → (s && t) ≡ false → s ≡ false
    by true true t f = cc
    by true false t f = cc
    by false t two f = refl

module _ (plan : Plan) (past : Trace) (p : ℕ) where
  abbrev h : Header
  h = plan.header

  pub message-fits : (word : ℕ) → IsAsking plan past p (Dvm word) → MessageFits h past p word
  message-fits word q =
      let fields = and_parts (is_message_word word && not (is_sync_word word)) (not (has_second word)) q.planned.fields in
      let two = and_parts (is_message_word word) (not (is_sync_word word)) fields.0 in
      record {
        ace = planned-ace plan p (Dvm word) q.planned refl;
        whole = q.whole;
        means = two.0;
        synced = no-sync (is_sync_word word) (is_some (last_sync past p)) (is_sync_completed past p) (not-true-is (is_sync_word word) two.1);
      }

  pub sync-fits : (word : ℕ) → IsAsking plan past p (Sync word) → MessageFits h past p word
  sync-fits word q =
      record {
        ace = planned-ace plan p (Sync word) q.planned refl;
        whole = q.whole;
        means = (and_parts (is_message_word word) (is_sync_word word) q.planned.fields).0;
        synced = any-sync (is_sync_word word) (is_some (last_sync past p)) (is_sync_completed past p) q.synced;
      }

  pub messages-fit : (word second : ℕ) → IsAsking plan past p (Dvm2 word second) → MessageFits h past p word × (has_second word ≡ true)
  messages-fit word second q =
      let fields = and_parts (is_message_word word) (has_second word) q.planned.fields in (
        record {
          ace = planned-ace plan p (Dvm2 word second) q.planned refl;
          whole = q.whole;
          means = fields.0;
          synced = no-sync (is_sync_word word) (is_some (last_sync past p)) (is_sync_completed past p) (first-no-sync word fields.0 fields.1);
        },
        fields.1,
      )

-- Where a Sync whose completion the port hasn't answered is an act of the next operation, a port without an act has none.
pub synced-by : (past : Trace) (p : ℕ) (op : Op) → (is_some (last_sync past p) ≡ true → has_answered_completion past p ≡ false → acts_made past p ≡ 1) → acts_made past p ≡ 0
    → IsSynced past p op
synced-by past p (Sync word) own none = by (is_some (last_sync past p)) (is_sync_completed past p) refl refl
  where
    by : (some done : Bool) → is_some (last_sync past p) ≡ some → is_sync_completed past p ≡ done → implies some done ≡ true
    by false done s d = refl
    by true true s d = refl
    by true false s d =
        let made = own s (ap (λ b. b && not (list_any tells_completion (unanswered past p))) d) in
        absurd (omega (arith, made, none))
synced-by past p op own none = tt
