-- Each enabled step of the master of an ACE-Lite port has a whole burst, after which the master keeps what it is to keep.
use Rattle.std.proofs.Common.{◌≡◌, ℕ, Bool, true, false, not, ◌&&◌, ◌||◌, List, Option, Some, None, is_some, refl, sym, ap, ◌∙◌, inl, inr}
use Rattle.std.proofs.lemmas.Bool.{cases_Bool}
use Rattle.ace_codes.specs.declared.kind.ArKind.{ArKind}
use Rattle.ace_codes.specs.declared.kind.AwKind.{AwKind}
use Rattle.ace_event.specs.declared.event.Channel.TheVariants.{Read, Write}
use Rattle.ace_event.specs.declared.event.Event.{Event}
use Rattle.ace_model.specs.declared.plans.Op.{Op}
use Rattle.ace_model.specs.declared.transactions.Transaction.{Transaction}
use Rattle.ace_model.specs.Kinds.{is_no_snoop_write}
use Rattle.ace_model.specs.Plans.{Plan, line_named}
use Rattle.ace_model.specs.Trace.{Trace, is_some_and}
use Rattle.ace_model.specs.Transactions.{has_outstanding_on, is_outstanding}
use Rattle.ace_runs.specs.Operations.{next_operation, operations_of}
use Rattle.ace_runs.specs.Requests.{free_on, free_on_both}
use Rattle.ace_runs.specs.Steps.{is_enabled_by}
use Rattle.ace_engine.specs.Engines.{IsLegal}
use Rattle.ace_portck.specs.declared.target.WriteData.{WriteData}
use Rattle.ace_master.specs.declared.lite_requests.LiteRequest.{LiteRequest}
use Rattle.ace_master.specs.declared.lite_requests.LiteRequest.TheVariants as asks
use Rattle.ace_master.specs.Lite.{LiteTells, is_line_busy, own_steps}
use Rattle.ace_master.specs.LiteRequests.{lite_request}
use Rattle.ace_master.proofs.LiteBarriers.{barrier-next, no-barrier}
use Rattle.ace_master.proofs.LiteNext.{IsNext, none-left}
use Rattle.ace_master.proofs.LiteOperations.{IsRead, IsWrite, barrier-of, read-of, write-of}
use Rattle.ace_master.proofs.LiteReads.{no-read, read-next}
use Rattle.ace_master.proofs.LiteRetires.{may-retire, not-done, retire-next}
use Rattle.ace_master.proofs.LiteSends.{send-next}
use Rattle.ace_master.proofs.LiteWaits.{asks-something, for-lite, line-waits}
use Rattle.ace_master.proofs.LiteWrites.{going-write, no-write, waiting-write}
use Rattle.ace_whole_runs.proofs.Masters.Keeping.{LiteKeeps}

-- The port has a step, after which its master keeps that.
pub record LiteMove (plan : Plan) (past : Trace) (p : ℕ) : Type 0 where
  pub burst : List Event
  pub reads : Option Transaction
  pub writes : Option Transaction
  pub unsent : Option WriteData
  pub taken : IsNext plan past p burst (operations_of plan p) reads writes unsent

module _ (plan : Plan) (past : Trace) (p : ℕ) (legal : IsLegal plan past) (some : is_enabled_by own_steps plan past p ≡ true) where
  abbrev Tells : Option Transaction → Option Transaction → Option WriteData → Type 0
  Tells reads writes unsent = LiteTells plan past p (operations_of plan p) reads writes unsent

  moved : (burst : List Event) (reads writes : Option Transaction) (unsent : Option WriteData)
      → IsNext plan past p burst (operations_of plan p) reads writes unsent → LiteMove plan past p
  moved burst reads writes unsent taken = record { burst = burst; reads = reads; writes = writes; unsent = unsent; taken = taken }

  -- a step is enabled
  enabled-not : is_enabled_by own_steps plan past p ≡ false → ⊥
  enabled-not none = let bad : true ≡ false = sym some ∙ none in cc

  -- ---- what the next operation asks for --------------------------------------------------------------

  module _ (t : Tells None None None) (op : Op) (next : next_operation plan past p ≡ Some op) where
    module _ (free : is_line_busy plan.header past p op ≡ false) where
      quiet : (a : ℕ) → line_named op ≡ Some a → has_outstanding_on plan.header past p a ≡ false
      quiet a line = sym (ap (λ o. is_some_and o (has_outstanding_on plan.header past p)) line) ∙ free

      reads-move : (k : ArKind) (a : ℕ) → IsRead op k a → LiteMove plan past p
      reads-move k a r = by (free_on plan.header past p Read) refl
        where
          by : (o : Option ℕ) → free_on plan.header past p Read ≡ o → LiteMove plan past p
          by None full = absurd (enabled-not (no-read plan past p legal (operations_of plan p) t op next k a r (quiet a r.line) full))
          by (Some i) first = moved _ _ _ _ (read-next plan past p legal (operations_of plan p) t op next k a r (quiet a r.line) i first)

      writes-move : (k : AwKind) (a : ℕ) → IsWrite op k a → LiteMove plan past p
      writes-move k a w = by (free_on plan.header past p Write) refl
        where
          by : (o : Option ℕ) → free_on plan.header past p Write ≡ o → LiteMove plan past p
          by None full = absurd (enabled-not (no-write plan past p legal (operations_of plan p) t op next k a w (quiet a w.line) full))
          by (Some i) first = elim (cases_Bool (is_no_snoop_write k)) [
            | inl waits ↦ moved _ _ _ _ (waiting-write plan past p legal (operations_of plan p) t op next k a w (quiet a w.line) i first waits)
            | inr goes ↦ moved _ _ _ _ (going-write plan past p legal (operations_of plan p) t op next k a w (quiet a w.line) i first goes)
          ]

    barriers-move : (bar : ℕ) → lite_request op ≡ Some (asks.Barrier bar) → LiteMove plan past p
    barriers-move bar is = by (free_on_both plan.header past p) refl
      where
        by : (o : Option ℕ) → free_on_both plan.header past p ≡ o → LiteMove plan past p
        by None full = absurd (enabled-not (no-barrier plan past p legal (operations_of plan p) t op next bar (barrier-of op bar is) full))
        by (Some i) first = moved _ _ _ _ (barrier-next plan past p legal (operations_of plan p) t op next bar (barrier-of op bar is) i first)

    asks-move : LiteMove plan past p
    asks-move = elim (cases_Bool (is_line_busy plan.header past p op)) [
      | inl busy ↦ absurd (enabled-not (line-waits plan past p legal (operations_of plan p) op t next busy))
      | inr free ↦ by free (lite_request op) refl
    ]
      where
        by : is_line_busy plan.header past p op ≡ false → (o : Option LiteRequest) → lite_request op ≡ o → LiteMove plan past p
        by free None none = absurd (asks-something op (for-lite plan past p op legal t.lite next) none)
        by free (Some (asks.Read k a)) is = reads-move free k a (read-of op k a is)
        by free (Some (asks.Write k a)) is = writes-move free k a (write-of op k a is)
        by free (Some (asks.Barrier bar)) is = barriers-move bar is

  -- ---- every burst is sent ---------------------------------------------------------------------------

  retires-move : (reads writes : Option Transaction) → Tells reads writes None → (op : Op) → next_operation plan past p ≡ Some op
      → (is_some reads || is_some writes) ≡ true → LiteMove plan past p
  retires-move reads writes t op next issued =
      let done : Bool = not (is_some_and reads (is_outstanding plan.header past)) && not (is_some_and writes (is_outstanding plan.header past)) in
      elim (cases_Bool done) [
        | inl t' ↦
            let may = may-retire plan past p legal (operations_of plan p) reads writes t op next issued ∙ t' in
            moved _ _ _ _ (retire-next plan past p legal t.low op next may (operations_of plan p) reads writes t)
        | inr out ↦ absurd (enabled-not (not-done plan past p legal (operations_of plan p) reads writes t op next issued out))
      ]

  sent-move : (reads writes : Option Transaction) → Tells reads writes None → LiteMove plan past p
  sent-move reads writes t = by (next_operation plan past p) refl
    where
      goes : (r w : Option Transaction) → Tells r w None → (op : Op) → next_operation plan past p ≡ Some op → LiteMove plan past p
      goes None None s op next = asks-move s op next
      goes (Some x) w s op next = retires-move (Some x) w s op next refl
      goes None (Some y) s op next = retires-move None (Some y) s op next refl

      by : (o : Option Op) → next_operation plan past p ≡ o → LiteMove plan past p
      by None none = absurd (enabled-not (none-left plan past p legal (operations_of plan p) reads writes t none))
      by (Some op) next = goes reads writes t op next

  pub lite-moves : LiteKeeps plan past p → LiteMove plan past p
  lite-moves k = by k.unsent k.tells
    where
      by : (unsent : Option WriteData) → Tells k.reads k.writes unsent → LiteMove plan past p
      by None t = sent-move k.reads k.writes t
      by (Some d) t = moved _ _ _ _ (send-next plan past p legal (operations_of plan p) k.reads k.writes d t)
