-- A step is one of masters by its number, 1, 4 or 14, or gives nothing but write data and events of the interconnect.
use Rattle.std.proofs.Common.{◌≡◌, ◌⊎◌, ℕ, Bool, true, false, ◌==◌, List, length, None, inl, inr, refl}
use Rattle.std.specs.List.{list_all, list_any}
use Rattle.std.proofs.lemmas.Bool.{and_parts}
use Rattle.ace_codes.specs.declared.kind.SnoopKind.{SnoopKind}
use Rattle.ace_event.specs.declared.header.Header.{Header}
use Rattle.ace_event.specs.declared.event.Event.{Event}
use Rattle.ace_event.specs.declared.event.Event.TheVariants.{R, W, B, Ac, G, M, Mem}
use Rattle.ace_model.specs.declared.transactions.Transaction.{Transaction}
use Rattle.ace_model.specs.Plans.{Plan}
use Rattle.ace_model.specs.Trace.{Trace, port_of}
use Rattle.ace_runs.specs.Bursts.{serves}
use Rattle.ace_runs.specs.LineSteps.{grant_burst, is_snoop_for, passed_burst, transfer_burst, update_burst, write_burst}
use Rattle.ace_runs.specs.MasterSteps.{acknowledges, answers_snoop, goes_on, is_beat}
use Rattle.ace_runs.specs.Operations.{next_operation}
use Rattle.ace_runs.specs.OrderSteps.{barrier_burst, dvm_burst, sync_completion}
use Rattle.ace_runs.specs.Steps.{is_sound, is_step, may_give, steps, steps_of}
use Rattle.ace_runs.proofs.Turns.{step-kept}
use Rattle.ace_runs.proofs.NeverStuck.Steps.SameBursts.{all-as}
use Rattle.ace_runs.proofs.NeverStuck.Steps.SameEvents.{TellsSame, tells-same}
use Rattle.ace_runs.proofs.NeverStuck.Steps.Lists.{all-implied}
use Rattle.ace_runs.proofs.NeverStuck.Steps.Serving.{barrier-all, dvm-all, grant-all, passed-all, served-all, transfer-all, update-all, write-all}
use Rattle.ace_runs.proofs.NeverStuck.Steps.StepShapes.{forwards-all, of-any, snoops-all}

-- write data, or an event of the interconnect
abbrev pub is_beside : Event → Bool
is_beside (R p i resp last word) = true
is_beside (W p strb last word) = true
is_beside (B p i resp) = true
is_beside (Ac p addr snoop) = true
is_beside (G p c i) = true
is_beside (M p c i line) = true
is_beside (Mem addr line) = true
is_beside _ = false

same-beside : TellsSame is_beside
same-beside = tells-same is_beside (λ p c i line. refl) (λ p a s x line. refl) (λ a line. refl)

beat-beside : (q : ℕ) (e : Event) → is_beat q e ≡ true → is_beside e ≡ true
beat-beside q (W p strb last word) m = refl
beat-beside q e m = cc

snoop-beside : (x : Transaction) (k : SnoopKind) (e : Event) → is_snoop_for x k e ≡ true → is_beside e ≡ true
snoop-beside x k (Ac q addr code) s = refl
snoop-beside x k (R q i resp last word) s = refl
snoop-beside x k (W q strb last word) s = refl
snoop-beside x k (B q i resp) s = refl
snoop-beside x k (G q c i) s = refl
snoop-beside x k (M q c i line) s = refl
snoop-beside x k (Mem addr line) s = refl
snoop-beside x k e s = cc

portless-beside : (e : Event) → port_of e ≡ None → is_beside e ≡ true
portless-beside (Mem addr line) none = refl
portless-beside e none = cc

-- The step answers a snoop, acknowledges or goes on, or gives only such events.
abbrev pub MasterStep : Plan → Trace → ℕ → List Event → Type 0
MasterStep plan past p burst =
    (answers_snoop plan.header past p burst ≡ true) ⊎ (acknowledges (next_operation plan past p) plan.header past p burst ≡ true)
    ⊎ (goes_on plan.ways (next_operation plan past p) plan.header past p burst ≡ true) ⊎ (list_all is_beside burst ≡ true)

module _ (plan : Plan) (past : Trace) (p : ℕ) (burst : List Event) where
  beside : list_all is_beside burst ≡ true → MasterStep plan past p burst
  beside all = inr (inr (inr all))

  serves-beside : (burst_for : Header → Trace → Transaction → List Event) → ((x : Transaction) → list_all is_beside (burst_for plan.header past x) ≡ true)
      → serves burst_for plan.header past p burst ≡ true → MasterStep plan past p burst
  serves-beside burst_for each g = beside (served-all is_beside same-beside burst_for plan.header past p burst each g)

pub master-step : (plan : Plan) (past : Trace) (p : ℕ) (burst : List Event) → is_step plan past p burst ≡ true → MasterStep plan past p burst
master-step plan past p burst s =
    let h = plan.header in
    let sound = and_parts (is_sound h past burst) (list_any (may_give h past p burst) (steps_of plan past p)) s in
    let besides = beside plan past p burst in
    let serving = serves-beside plan past p burst in
    of-any h past p burst (MasterStep plan past p burst) (steps plan.ways (next_operation plan past p))
    ((λ g. inl g), ((λ g. besides (all-implied (is_beat p) is_beside (beat-beside p) burst (and_parts (list_all (is_beat p) burst) (length burst == 4) g).0)), ((λ g. serving update_burst (update-all is_beside (λ q c i line. refl) (λ q i resp. refl) h past) g), ((λ g. inr (inl g)), ((λ g. serving grant_burst (grant-all is_beside (λ q c i. refl) h past) g), ((λ g. besides (snoops-all is_beside snoop-beside h past p burst g)), ((λ g. serving passed_burst (passed-all is_beside (λ q c i line. refl) h past) g), ((λ g. serving transfer_burst (transfer-all is_beside (λ q i resp last word. refl) h past) g), ((λ g. serving write_burst (write-all is_beside (λ q c i line. refl) (λ q i resp. refl) h past) g), ((λ g. serving barrier_burst (barrier-all is_beside (λ q i resp last word. refl) (λ q i resp. refl) h past) g), ((λ g. besides (forwards-all is_beside same-beside portless-beside (λ q addr code. refl) h past p burst (step-kept plan past p burst s) g)), ((λ g. serving dvm_burst (dvm-all is_beside (λ q i resp last word. refl) h past) g), ((λ g. besides (all-as is_beside same-beside (sync_completion p) burst g refl)), ((λ g. inr (inr (inl g))), tt))))))))))))))
    sound.1
