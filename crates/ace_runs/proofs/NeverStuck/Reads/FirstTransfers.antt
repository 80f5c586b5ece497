-- In a run the first response of a read of a line says what step 8 would say now: PassDirty where there are passed data, which the read can take,
-- and IsShared where it must be.
use Rattle.std.proofs.Common.{◌≡◌, ◌≢◌, ℕ, true, not, ◌&&◌, ◌==◌, List, [], ◌∷◌, Some, refl, sym, ap, ◌∙◌, inl, inr}
use Rattle.std.proofs.Math.Bool.{and-false}
use Rattle.std.specs.List.{list_all}
use Rattle.std.proofs.lemmas.Bool.{and_parts, cases_eq, eq-eqb, ne_eqb}
use Rattle.ace_codes.specs.Responses.{is_shared, passes_dirty}
use Rattle.ace_event.specs.declared.event.Channel.TheVariants.{Read}
use Rattle.ace_event.specs.declared.event.Event.{Event}
use Rattle.ace_event.specs.declared.event.Event.TheVariants.{R}
use Rattle.ace_event.specs.declared.header.Header.{Header}
use Rattle.ace_model.specs.declared.transactions.Transaction.{Transaction}
use Rattle.ace_model.specs.Accepted.{IsAccepted}
use Rattle.ace_model.specs.Grants.{granted, has_passed_data}
use Rattle.ace_model.specs.Kinds.{is_read_not_shared_dirty, may_be_shared, takes_passed_data}
use Rattle.ace_model.specs.Plans.{Plan}
use Rattle.ace_model.specs.ReadRules.{must_be_shared}
use Rattle.ace_model.specs.Trace.{Trace, implies, is_some_and}
use Rattle.ace_model.specs.Transactions.{ended, first_resp, is_ace, is_line, is_read, outstanding, read_kind, transfers}
use Rattle.ace_model.proofs.Grants.Stays.{Stays, granted_after}
use Rattle.ace_model.proofs.Trace.Issued.{Earlier, outstanding-name, outstanding-origin}
use Rattle.ace_model.proofs.Values.FullReads.{Transfer, beat_due, issue_transfers, transfer_moves, under_way}
use Rattle.ace_runs.specs.Bursts.{are_kept, is_kept, onto}
use Rattle.ace_runs.specs.LineSteps.{takes_dirt}
use Rattle.ace_runs.specs.Steps.{AreSteps}
use Rattle.ace_runs.proofs.Accepting.{accepted-after, kept-breaks-none}
use Rattle.ace_runs.proofs.Turns.{of-each-run, step-kept}
use Rattle.ace_runs.proofs.NeverStuck.Reads.InOrder.{FirstInOrder, IsInOrder, is_other, other-in-order}
use Rattle.ace_runs.proofs.NeverStuck.Reads.TransferSteps.{step-in-order}
use Rattle.ace_runs.proofs.NeverStuck.Reads.TransfersKept.{response-says}
use Rattle.ace_runs.proofs.NeverStuck.Reads.UnderTransfers.{Leaves, begun-leaves, transfer-leaves}

-- The response says of the read what step 8 says now, and the read can take the passed data.
pub record SaysNow (h : Header) (past : Trace) (x : Transaction) (resp : ℕ) : Type 0 where
  pub dirty : passes_dirty resp ≡ has_passed_data h past x
  pub shared : is_shared resp ≡ is_some_and (read_kind x) (must_be_shared h past x)
  pub takes : implies (has_passed_data h past x) (takes_dirt h past x) ≡ true

-- The first response of the port's read under the identifier does.
pub record FirstSays (h : Header) (past : Trace) (p i : ℕ) (x : Transaction) : Type 0 where
  pub resp : ℕ
  pub first : first_resp past p i ≡ Some resp
  pub says : SaysNow h past x resp

-- so does that of each outstanding read of a line that has one
abbrev pub FirstsSay : Header → Trace → Type 0
FirstsSay h past =
    (p i : ℕ) (x : Transaction) → outstanding h past p Read i ≡ Some x → is_line x ≡ true → transfers past p i ≢ 0 → FirstSays h past p i x

-- ---- one event ---------------------------------------------------------------------------------------

says-still : (h : Header) (past : Trace) (e : Event) (x : Transaction) (resp : ℕ) → Leaves h past e x → SaysNow h past x resp → SaysNow h (e ∷ past) x resp
says-still h past e x resp leaves says = record {
  dirty = says.dirty ∙ sym leaves.passed;
  shared = says.shared ∙ sym must;
  takes = ap (λ b. implies b (takes_dirt h (e ∷ past) x)) leaves.passed ∙ ap (implies (has_passed_data h past x)) takes ∙ says.takes;
}
  where
    must : is_some_and (read_kind x) (must_be_shared h (e ∷ past) x) ≡ is_some_and (read_kind x) (must_be_shared h past x)
    must = ap (λ b. is_some_and (read_kind x) (λ k. is_ace h x.port && may_be_shared k && b)) leaves.sharer

    takes : takes_dirt h (e ∷ past) x ≡ takes_dirt h past x
    takes = ap (λ b. is_some_and (read_kind x) (λ k. takes_passed_data k && not (is_read_not_shared_dirty k && b))) leaves.sharer

still-granted : (h : Header) (past : Trace) (e : Event) (x : Transaction) → IsAccepted h (e ∷ past) → granted h past x.addr ≡ Some x
    → ((z : Transaction) → ended h past e ≡ Some z → z.place ≢ x.place) → Stays h past e x.addr x
still-granted h past e x a g lasts =
    elim (granted_after h past e a x.addr x g) [
      | inl stays ↦ stays
      | inr z ↦ absurd (lasts z.0 z.1 z.2)
    ]

-- an event that leaves the first response of a read that has one
later-event : (h : Header) (past : Trace) (e : Event) (p i : ℕ) (x : Transaction) → IsAccepted h (e ∷ past) → Earlier h past e p Read i x → is_line x ≡ true
    → transfers past p i ≢ 0 → first_resp (e ∷ past) p i ≡ first_resp past p i → FirstSays h past p i x → FirstSays h (e ∷ past) p i x
later-event h past e p i x a old line some same f =
    let name = outstanding-name h past p Read i x old.was in
    let count : transfers past x.port x.id ≡ transfers past p i = ap (λ q. transfers past q x.id) name.port ∙ ap (transfers past p) name.id in
    let stays = still-granted h past e x a (under_way h past a.0 p i x old.was line some) old.lasts in
    let leaves = begun-leaves h past e x a (ap is_read name.chan) stays (λ z. some (sym count ∙ z)) in
    record { resp = f.resp; first = same ∙ f.first; says = says-still h past e x f.resp leaves f.says }

-- the first transfer
first-event : (h : Header) (past : Trace) (e : Event) (p i : ℕ) (x : Transaction) → IsAccepted h (e ∷ past) → IsInOrder h past e → Earlier h past e p Read i x → is_line x ≡ true
    → transfers past p i ≡ 0 → Transfer e p i → FirstSays h (e ∷ past) p i x
first-event h past e p i x a order old line none t =
    let right = order p i t.resp t.last t.word x t.is old.was line in
    let step = response-says h past x in
    let now : SaysNow h past x t.resp = record {
      dirty = ap passes_dirty right.0 ∙ step.dirty;
      shared = ap is_shared right.0 ∙ step.shared;
      takes = right.1;
    } in
    let stays = still-granted h past e x a (beat_due h past p i x e a t old.was line).stands old.lasts in
    let leaves = transfer-leaves h past e p i t.resp t.last t.word x t.is stays in
    let here : first_resp (R p i t.resp t.last t.word ∷ past) p i ≡ Some t.resp =
    rw (eq-eqb p p (refl {a = p}), eq-eqb i i (refl {a = i}), eq-eqb (transfers past p i) 0 none) refl in
    record { resp = t.resp; first = ap (λ d. first_resp (d ∷ past) p i) t.is ∙ here; says = says-still h past e x t.resp leaves now }

pub event-says : (h : Header) (past : Trace) (e : Event) → IsAccepted h (e ∷ past) → IsInOrder h past e → FirstsSay h past → FirstsSay h (e ∷ past)
event-says h past e a order f p i x o line some =
    elim (outstanding-origin h past e p Read i x o) [
      | inl new ↦ absurd (some (issue_transfers past e p i x new.0 new.1))
      | inr old ↦ elim (transfer_moves past e p i old.other) [
        | inl none ↦
            let before : transfers past p i ≢ 0 = λ z. some (none.count ∙ z) in
            later-event h past e p i x a old line before none.first (f p i x old.was line before)
        | inr t ↦ elim (cases_eq (transfers past p i) 0) [
          | inl zero ↦ first-event h past e p i x a order old line zero t
          | inr before ↦
              let here : first_resp (R p i t.resp t.last t.word ∷ past) p i ≡ first_resp past p i =
              rw (ne_eqb (transfers past p i) 0 before, and-false ((p == p) && (i == i))) refl in
              later-event h past e p i x a old line before (ap (λ d. first_resp (d ∷ past) p i) t.is ∙ here) (f p i x old.was line before)
        ]
      ]
    ]

-- ---- all steps ---------------------------------------------------------------------------------------

others-say : (h : Header) (burst : List Event) (past : Trace) → IsAccepted h past → are_kept h past burst ≡ true → list_all is_other burst ≡ true → FirstsSay h past
    → FirstsSay h (onto burst past)
others-say h [] past a k others f = f
others-say h (e ∷ burst) past a k others f =
    let parts = and_parts (is_kept h past e) (are_kept h (e ∷ past) burst) k in
    let of = and_parts (is_other e) (list_all is_other burst) others in
    let a_now : IsAccepted h (e ∷ past) = (a, kept-breaks-none h past e parts.0) in
    others-say h burst (e ∷ past) a_now parts.1 of.1 (event-says h past e a_now (other-in-order h past e of.0) f)

burst-says : (h : Header) (burst : List Event) (past : Trace) → IsAccepted h past → are_kept h past burst ≡ true → FirstInOrder h past burst → FirstsSay h past
    → FirstsSay h (onto burst past)
burst-says h [] past a k first f = f
burst-says h (e ∷ burst) past a k first f =
    let parts = and_parts (is_kept h past e) (are_kept h (e ∷ past) burst) k in
    let a_now : IsAccepted h (e ∷ past) = (a, kept-breaks-none h past e parts.0) in
    others-say h burst (e ∷ past) a_now parts.1 first.1 (event-says h past e a_now first.0 f)

-- In each run the first responses say so.
pub firsts-say : (plan : Plan) (past : Trace) → AreSteps plan past → FirstsSay plan.header past
firsts-say plan past s =
    (of-each-run plan (λ t. IsAccepted plan.header t × FirstsSay plan.header t) (tt, λ p i x o line some. cc)
    (λ before p burst both step.
    let k = step-kept plan before p burst step in
    (accepted-after plan.header burst before both.0 k, burst-says plan.header burst before both.0 k (step-in-order plan before p burst step) both.1))
    past s).1
