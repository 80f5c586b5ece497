-- Steps other than step 14 issue no read, and nor does what ends an operation.
use Rattle.std.proofs.Common.{◌≡◌, ◌⊎◌, ℕ, Bool, true, false, List, inl, inr, refl}
use Rattle.std.specs.List.{list_all}
use Rattle.ace_event.specs.declared.event.Event.{Event}
use Rattle.ace_event.specs.declared.event.Event.TheVariants.{Ar}
use Rattle.ace_event.specs.declared.header.Header.{Header}
use Rattle.ace_model.specs.declared.plans.Op.{Op}
use Rattle.ace_model.specs.Plans.{Plan}
use Rattle.ace_model.specs.Trace.{Trace}
use Rattle.ace_runs.specs.Closing.{closing_of}
use Rattle.ace_runs.specs.MasterSteps.{goes_on}
use Rattle.ace_runs.specs.Operations.{next_operation}
use Rattle.ace_runs.specs.Steps.{is_step}
use Rattle.ace_runs.proofs.NeverStuck.Steps.SameEvents.{TellsSame, tells-same}
use Rattle.ace_runs.proofs.NeverStuck.Steps.Lists.{all-implied}
use Rattle.ace_runs.proofs.NeverStuck.Steps.Concluding.{Concludes, acknowledges-all, closing-all}
use Rattle.ace_runs.proofs.NeverStuck.Steps.MasterSteps.{is_beside, master-step}
use Rattle.ace_runs.proofs.NeverStuck.Steps.StepEvents.{answers-answering, is_answering}

-- the event issues no read
abbrev pub issues_no_read : Event → Bool
issues_no_read (Ar p i addr code dom bar lock) = false
issues_no_read _ = true

pub same-no-read : TellsSame issues_no_read
same-no-read = tells-same issues_no_read (λ p c i line. refl) (λ p a s x line. refl) (λ a line. refl)

answering-no-read : (e : Event) → is_answering e ≡ true → issues_no_read e ≡ true
answering-no-read (Ar p i addr code dom bar lock) m = cc
answering-no-read e m = refl

beside-no-read : (e : Event) → is_beside e ≡ true → issues_no_read e ≡ true
beside-no-read (Ar p i addr code dom bar lock) m = cc
beside-no-read e m = refl

concludes : (p : ℕ) → Concludes p issues_no_read
concludes p = record { reads = λ st. refl; writes = λ st. refl; loads = λ a w x word. refl; stores = λ a s x line. refl; retires = λ k res. refl }

pub closing-no-read : (h : Header) (past : Trace) (p : ℕ) (op : Op) → list_all issues_no_read (closing_of h past p op) ≡ true
closing-no-read h past p op = closing-all p issues_no_read (concludes p) h past op

-- A step issues no read, or is step 14.
pub reads-by-one : (plan : Plan) (past : Trace) (p : ℕ) (burst : List Event) → is_step plan past p burst ≡ true
    → (list_all issues_no_read burst ≡ true) ⊎ (goes_on plan.ways (next_operation plan past p) plan.header past p burst ≡ true)
reads-by-one plan past p burst s =
    elim (master-step plan past p burst s) [
      | inl answers ↦ inl (all-implied is_answering issues_no_read answering-no-read burst (answers-answering plan.header past p burst answers))
      | inr (inl acknowledges) ↦ inl (acknowledges-all p issues_no_read (concludes p) same-no-read (next_operation plan past p) plan.header past burst acknowledges)
      | inr (inr (inl on)) ↦ inr on
      | inr (inr (inr all)) ↦ inl (all-implied is_beside issues_no_read beside-no-read burst all)
    ]
