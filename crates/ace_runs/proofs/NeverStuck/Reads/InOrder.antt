-- Bursts whose transfers are in order: at most the first event is a transfer, and of a line transaction it says what step 8 says.
use Rattle.std.proofs.Common.{◌≡◌, ℕ, Bool, true, false, List, [], ◌∷◌, Some, refl, sym, ap, subst, ◌∙◌}
use Rattle.std.specs.Bool.{⊤}
use Rattle.std.specs.List.{list_all}
use Rattle.std.proofs.lemmas.Bool.{and_parts}
use Rattle.ace_event.specs.declared.event.Channel.TheVariants.{Read}
use Rattle.ace_event.specs.declared.event.Event.{Event}
use Rattle.ace_event.specs.declared.event.Event.TheVariants.{R}
use Rattle.ace_event.specs.declared.header.Header.{Header}
use Rattle.ace_model.specs.declared.transactions.Transaction.{Transaction}
use Rattle.ace_model.specs.Grants.{has_passed_data}
use Rattle.ace_model.specs.Trace.{Trace, implies}
use Rattle.ace_model.specs.Transactions.{is_line, is_outstanding, is_read, outstanding}
use Rattle.ace_model.proofs.General.Options.{Some-injective}
use Rattle.ace_model.proofs.Trace.Growth.{IsIssued}
use Rattle.ace_model.proofs.Trace.LineOnce.{outstanding_is}
use Rattle.ace_model.proofs.Trace.Looks.{is_read-is}
use Rattle.ace_runs.specs.LineSteps.{response_bits, takes_dirt}
use Rattle.ace_runs.specs.SameEvents.{same_burst, same_event}
use Rattle.ace_runs.proofs.NeverStuck.Steps.SameBursts.{all-as}
use Rattle.ace_runs.proofs.NeverStuck.Steps.SameEvents.{TellsSame, same-without, tells-same}

-- no transfer
abbrev pub is_other : Event → Bool
is_other (R p i resp last word) = false
is_other _ = true

-- A transfer says what step 8 says, if it is one of an outstanding line transaction.
abbrev pub IsInOrder : Header → Trace → Event → Type 0
IsInOrder h past e =
    (p i resp : ℕ) (last : Bool) (word : ℕ) (x : Transaction) → e ≡ R p i resp last word → outstanding h past p Read i ≡ Some x → is_line x ≡ true
    → (resp ≡ response_bits h past x) × (implies (has_passed_data h past x) (takes_dirt h past x) ≡ true)

-- the first event of the burst is in order, and no other is a transfer
abbrev pub FirstInOrder : Header → Trace → List Event → Type 0
FirstInOrder h past [] = ⊤
FirstInOrder h past (e ∷ burst) = IsInOrder h past e × (list_all is_other burst ≡ true)

pub other-in-order : (h : Header) (past : Trace) (e : Event) → is_other e ≡ true → IsInOrder h past e
other-in-order h past e other p i resp last word x is o line =
    let bad : false ≡ true = ap is_other (sym is) ∙ other in cc

pub others-in-order : (h : Header) (past : Trace) (burst : List Event) → list_all is_other burst ≡ true → FirstInOrder h past burst
others-in-order h past [] m = tt
others-in-order h past (e ∷ burst) m =
    let parts = and_parts (is_other e) (list_all is_other burst) m in (other-in-order h past e parts.0, parts.1)

pub same-other : TellsSame is_other
same-other = tells-same is_other (λ p c i line. refl) (λ p a s x line. refl) (λ a line. refl)

-- a burst of a transfer in order and other events
pub begins-in-order : (h : Header) (past : Trace) (d : Event) (ds burst : List Event) → same_burst (d ∷ ds) burst ≡ true → ((e : Event) → same_event d e ≡ true → IsInOrder h past e)
    → list_all is_other ds ≡ true → FirstInOrder h past burst
begins-in-order h past d ds [] s each others = cc
begins-in-order h past d ds (e ∷ burst) s each others =
    let parts = and_parts (same_event d e) (same_burst ds burst) s in (each e parts.0, all-as is_other same-other ds burst parts.1 others)

pub of-none : (h : Header) (past : Trace) (burst : List Event) → same_burst [] burst ≡ true → FirstInOrder h past burst
of-none h past burst s = others-in-order h past burst (all-as is_other same-other [] burst s refl)

-- ---- outstanding reads -----------------------------------------------------------------------------

pub read-out : (h : Header) (past : Trace) (x : Transaction) → IsIssued past x → is_outstanding h past x ≡ true → is_read x.chan ≡ true → outstanding h past x.port Read x.id ≡ Some x
read-out h past x i out reads = subst (λ c. outstanding h past x.port c x.id ≡ Some x) (is_read-is x.chan reads) (outstanding_is h past x i out)

-- an outstanding transaction under the name of another is that one
pub same-name : (h : Header) (past : Trace) (x y : Transaction) (p i : ℕ) → outstanding h past y.port Read y.id ≡ Some y → outstanding h past p Read i ≡ Some x
    → y.port ≡ p → y.id ≡ i → y ≡ x
same-name h past x y p i own o port id =
    let here : outstanding h past p Read i ≡ Some y = subst (λ j. outstanding h past p Read j ≡ Some y) id (subst (λ q. outstanding h past q Read y.id ≡ Some y) port own) in
    Some-injective y x (sym here ∙ o)

-- The same transfer.
pub record SameTransfer (q j resp : ℕ) (p i r : ℕ) : Type 0 where
  pub port : q ≡ p
  pub id : j ≡ i
  pub says : resp ≡ r

pub same-transfer : (q j resp : ℕ) (last : Bool) (word : ℕ) (p i r : ℕ) (l : Bool) (w : ℕ) → same_event (R q j resp last word) (R p i r l w) ≡ true → SameTransfer q j resp p i r
same-transfer q j resp last word p i r l w s =
    let same : R q j resp last word ≡ R p i r l w = same-without (R q j resp last word) (R p i r l w) s in
    record { port = cc; id = cc; says = cc }
