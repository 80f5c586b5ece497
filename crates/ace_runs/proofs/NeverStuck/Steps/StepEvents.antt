-- Which events the steps of masters give: steps 4 and 14 give events of masters other than write data and answers to snoops, step 1 those with
-- which a snoop is answered. What the other steps of one kind give is in their definitions.
use Rattle.std.proofs.Common.{◌≡◌, ℕ, Bool, true, false, ◌&&◌, ◌==◌, List, [], ◌∷◌, Option, Some, None, refl}
use Rattle.std.specs.List.{list_all}
use Rattle.std.proofs.lemmas.Bool.{and_parts}
use Rattle.ace_codes.specs.Responses.{transfers_data}
use Rattle.ace_event.specs.declared.event.Event.{Event}
use Rattle.ace_event.specs.declared.event.Event.TheVariants.{Ar, Rk, Aw, Wk, Cr, Cd, S, L, D, Op as Retires}
use Rattle.ace_event.specs.declared.header.Header.{Header}
use Rattle.ace_model.specs.declared.plans.Op.{Op}
use Rattle.ace_model.specs.declared.snoops.Snoop.{Snoop}
use Rattle.ace_model.specs.Trace.{Trace, is_some_and}
use Rattle.ace_model.specs.Snoops.{answered, snoops_a_line}
use Rattle.ace_runs.specs.MasterSteps.{after_answer, answers_snoop, acknowledges, goes_on}
use Rattle.ace_runs.specs.Retiring.{tells_completion}
use Rattle.ace_runs.specs.SameEvents.{same_burst}
use Rattle.ace_runs.proofs.NeverStuck.Steps.SameBursts.{all-as}
use Rattle.ace_runs.proofs.NeverStuck.Steps.SameEvents.{TellsSame, tells-same}
use Rattle.ace_runs.proofs.NeverStuck.Steps.Lists.{all-if}
use Rattle.ace_runs.proofs.NeverStuck.Steps.Asking.{goes-on-all}
use Rattle.ace_runs.proofs.NeverStuck.Steps.Concluding.{Concludes, acknowledges-all}

-- an event of a master, but write data and answers to snoops
abbrev pub is_masters : Event → Bool
is_masters (Ar p i addr snoop dom bar lock) = true
is_masters (Aw p i addr snoop dom bar) = true
is_masters (Rk p st) = true
is_masters (Wk p st) = true
is_masters (S p addr st) = true
is_masters (L p addr w x word) = true
is_masters (D p addr strobe x line) = true
is_masters (Retires p k res) = true
is_masters _ = false

abbrev pub are_masters : List Event → Bool
are_masters burst = list_all is_masters burst

same-masters : TellsSame is_masters
same-masters = tells-same is_masters (λ p c i line. refl) (λ p a s x line. refl) (λ a line. refl)

masters-conclude : (p : ℕ) → Concludes p is_masters
masters-conclude p = record { reads = λ st. refl; writes = λ st. refl; loads = λ a w x word. refl; stores = λ a s x line. refl; retires = λ k res. refl }

-- ---- step 1 ------------------------------------------------------------------------------------------

-- an event with which a snoop is answered: the CR, data, or the OP of a Sync
abbrev pub is_answering : Event → Bool
is_answering (Cr p resp st) = true
is_answering (Cd p last word) = true
is_answering (Retires p k res) = true
is_answering _ = false

same-answering : TellsSame is_answering
same-answering = tells-same is_answering (λ p c i line. refl) (λ p a s x line. refl) (λ a line. refl)

after-answering : (past : Trace) (p : ℕ) (s : Snoop) (resp : ℕ) → list_all is_answering (after_answer past p s resp) ≡ true
after-answering past p s resp =
    all-if is_answering (tells_completion s) _ _ refl (all-if is_answering (snoops_a_line s.snoop && transfers_data resp) _ [] refl refl)

answer-answering : (past : Trace) (p resp : ℕ) (o : Option Snoop) (rest : List Event)
    → is_some_and o (λ s. same_burst (after_answer past p s resp) rest) ≡ true → list_all is_answering rest ≡ true
answer-answering past p resp None rest s = cc
answer-answering past p resp (Some a) rest s = all-as is_answering same-answering (after_answer past p a resp) rest s (after-answering past p a resp)

pub answers-answering : (h : Header) (past : Trace) (p : ℕ) (burst : List Event) → answers_snoop h past p burst ≡ true → list_all is_answering burst ≡ true
answers-answering h past p (Cr q resp st ∷ rest) s = answer-answering past p resp (answered past p) rest (and_parts (p == q) _ s).1
answers-answering h past p _ s = cc

-- ---- step 4 ------------------------------------------------------------------------------------------

pub acknowledges-masters : (next : Option Op) (h : Header) (past : Trace) (p : ℕ) (burst : List Event) → acknowledges next h past p burst ≡ true → are_masters burst ≡ true
acknowledges-masters next h past p burst s = acknowledges-all p is_masters (masters-conclude p) same-masters next h past burst s

-- ---- step 14 -----------------------------------------------------------------------------------------

pub goes-on-masters : (ways : ℕ) (next : Option Op) (h : Header) (past : Trace) (p : ℕ) (burst : List Event) → goes_on ways next h past p burst ≡ true → are_masters burst ≡ true
goes-on-masters ways next h past p burst s =
    goes-on-all p is_masters (record { reads = λ i a code dom lock. refl; writes = λ i a code dom. refl; drops = λ a st. refl }) (masters-conclude p) same-masters
    (λ r bar i is. refl) ways next h past burst s
