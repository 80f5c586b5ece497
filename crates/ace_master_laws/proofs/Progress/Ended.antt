-- What ends an operation leaves nothing of it, where no outstanding read of the port brings a line in.
use Rattle.ace_model.specs.Transactions.{issued}
use Rattle.std.proofs.Common.{◌≡◌, ◌⊎◌, ℕ, true, false, List, [], ◌∷◌, Some, None, inl, inr, refl, sym, ap, subst, ◌∙◌, length}
use Rattle.ace_event.specs.declared.event.Event.{Event}
use Rattle.ace_event.specs.declared.event.Outcome.TheVariants.{Ok}
use Rattle.ace_event.specs.declared.event.Channel.TheVariants.{Read}
use Rattle.ace_event.specs.declared.header.Header.{Header}
use Rattle.ace_model.specs.declared.plans.Op.{Op}
use Rattle.ace_model.specs.declared.transactions.Transaction.{Transaction}
use Rattle.ace_master_laws.proofs.Progress.Endings.{Ending, IsAccess, retirement-same, loads, stores, not_now, by_op, by_access, access-is, ending}
use Rattle.ace_master_laws.proofs.Progress.Come.{HasCome, NoneBrought, retired-come}
use Rattle.ace_model.specs.Plans.{Plan}
use Rattle.ace_model.specs.Trace.{Trace}
use Rattle.std.proofs.lemmas.Bool.{and_parts}
use Rattle.ace_runs.specs.Closing.{closing_of, retirement}
use Rattle.ace_model.proofs.Trace.Issued.{outstanding-origin}
use Rattle.ace_runs.specs.SameEvents.{same_burst, same_event}
use Rattle.ace_runs.specs.Bursts.{onto}
use Rattle.ace_model.specs.OrderRules.{retired}

pub nothing-new : (x : Transaction) → None ≡ Some x → ⊥
nothing-new x bad = cc

-- an event that issues nothing brings nothing
pub none-later : (h : Header) (past : Trace) (p : ℕ) (e : Event) → issued (length past) e ≡ None → NoneBrought h past p → NoneBrought h (e ∷ past) p
none-later h past p e no_new none i x out b =
    elim (outstanding-origin h past e p Read i x out) [
      | inl new ↦ nothing-new x (sym no_new ∙ new.0)
      | inr old ↦ none i x old.was b
    ]

access-new : (p : ℕ) (o : Op) (d : Event) (n : ℕ) → IsAccess p o d → issued n d ≡ None
access-new p o d n (loads a w x word is fits) = ap (issued n) is
access-new p o d n (stores a s x line is fits) = ap (issued n) is

-- After what ends the operation it has come to nothing; or nothing ends it.
pub ended-come : (plan : Plan) (past : Trace) (p : ℕ) (o : Op) (burst : List Event) → same_burst (closing_of plan.header past p o) burst ≡ true → NoneBrought plan.header past p
    → ((closing_of plan.header past p o ≡ []) × (burst ≡ [])) ⊎ HasCome plan (onto burst past) p
ended-come plan past p o burst same none = by (ending plan.header past p o) burst same
  where
    by : Ending plan.header past p o → (later : List Event) → same_burst (closing_of plan.header past p o) later ≡ true
        → ((closing_of plan.header past p o ≡ []) × (later ≡ [])) ⊎ HasCome plan (onto later past) p
    by (not_now is) [] same = inl (is, refl)
    by (not_now is) (e ∷ later) same = let bad : false ≡ true = ap (λ l. same_burst l (e ∷ later)) (sym is) ∙ same in cc
    by (by_op res may is) later same =
        let one = retirement-same past p res later (ap (λ l. same_burst l later) (sym is) ∙ same) in
        inr (subst (λ l. HasCome plan (onto l past) p) (sym one) (retired-come plan past p (retired past p) res none))
    by (by_access e is stays gives cl) [] same = let bad : false ≡ true = ap (λ l. same_burst l []) (sym cl) ∙ same in cc
    by (by_access e is stays gives cl) (d ∷ later) same =
        let parts = and_parts (same_event e d) (same_burst (retirement past p Ok) later) (ap (λ l. same_burst l (d ∷ later)) (sym cl) ∙ same) in
        let one = retirement-same past p Ok later parts.1 in
        let access = access-is past p o e d is parts.0 in
        inr (subst (λ l. HasCome plan (onto (d ∷ l) past) p) (sym one)
        (retired-come plan (d ∷ past) p (retired past p) Ok (none-later plan.header past p d (access-new p o d (length past) access) none)))
