-- Where no transaction is outstanding, a port that owes a DVM Complete may issue it: the AR breaks no rule, and is a step.
use Rattle.std.proofs.Common.{◌≡◌, ℕ, true, false, not, ◌==◌, nat_lt, List, [], ◌∷◌, ◌++◌, length, is_none, refl, ap, ◌∙◌}
use Rattle.std.specs.List.{flat_map, list_any}
use Rattle.std.specs.Option.{option_to_list}
use Rattle.std.proofs.lemmas.Bool.{and_parts, and_from, eq-eqb, or_left}
use Rattle.ace_codes.specs.declared.kind.ArKind.TheVariants as read
use Rattle.ace_codes.specs.Reads.{ar_code, ar_kind_of}
use Rattle.ace_event.specs.declared.event.Channel.TheVariants.{Read}
use Rattle.ace_event.specs.declared.event.Event.{Event}
use Rattle.ace_event.specs.declared.event.Event.TheVariants.{Ar}
use Rattle.ace_event.specs.declared.header.Header.{Header}
use Rattle.ace_model.specs.AddressRules.{k2}
use Rattle.ace_model.specs.Plans.{Plan}
use Rattle.ace_model.specs.Trace.{Trace}
use Rattle.ace_model.specs.Transactions.{is_ace, is_outstanding, some_issued}
use Rattle.ace_runs.specs.Bursts.{is_kept}
use Rattle.ace_runs.specs.Follows.{owes_completion}
use Rattle.ace_runs.specs.MasterSteps.{goes_on, may_go_on}
use Rattle.ace_runs.specs.Operations.{next_operation}
use Rattle.ace_runs.specs.Requests.{moves_of, is_free}
use Rattle.ace_runs.specs.SameEvents.{same_burst}
use Rattle.ace_runs.specs.Steps.{AreSteps, is_sound, is_step_by}
use Rattle.ace_runs.proofs.NeverStuck.Operations.Kept.AsksKept.{ar-kept}
use Rattle.ace_runs.proofs.NeverStuck.Messages.OwedCompletions.{found-completion, none-outstanding, not-empty, ower-ace}

-- the DVM Complete that a port owes breaks no rule
pub completion-kept : (h : Header) (past : Trace) (p i : ℕ) → is_ace h p ≡ true → owes_completion past p ≡ true → is_free h past p Read i ≡ true
    → is_kept h past (Ar p i 0 (ar_code read.DvmComplete) 1 0 false) ≡ true
unfolding ar_kind_of
completion-kept h past p i ace owes free =
    let two : k2 h past (Ar p i 0 (ar_code read.DvmComplete) 1 0 false) ≡ true = or_left (is_ace h p) false ace in
    ar-kept h past p i 0 (ar_code read.DvmComplete) 1 0 false (and_parts (nat_lt p h.ports) _ ace).0 two refl free refl refl refl refl refl owes

-- Where nothing is outstanding, a port that owes a DVM Complete has a burst by step 14.
pub owed-step : (plan : Plan) (past : Trace) (p : ℕ) → AreSteps plan past → some_issued past (is_outstanding plan.header past) ≡ false → owes_completion past p ≡ true
    → (burst : List Event) × (is_step_by (14 ∷ []) plan past p burst ≡ true)
owed-step plan past p s none owes =
    let h = plan.header in
    let next = next_operation plan past p in
    let f = found-completion plan past p s none owes in
    let e = Ar p f.0 0 (ar_code read.DvmComplete) 1 0 false in
    let ace = ower-ace plan past p s owes in
    let kept : is_kept h past (Ar p f.0 0 (ar_code read.DvmComplete) 1 0 false) ≡ true = completion-kept h past p f.0 ace owes (ap is_none (none-outstanding h past p Read f.0 none)) in
    let sound : is_sound h past (Ar p f.0 0 (ar_code read.DvmComplete) 1 0 false ∷ []) ≡ true = and_from _ _ refl (and_from _ _ kept refl) in
    let others = flat_map (moves_of plan.ways h past p) (option_to_list next) in
    let same : same_burst (Ar p f.0 0 (ar_code read.DvmComplete) 1 0 false ∷ []) (Ar p f.0 0 (ar_code read.DvmComplete) 1 0 false ∷ []) ≡ true =
    rw (eq-eqb p p (refl {a = p}), eq-eqb f.0 f.0 (refl {a = f.0})) refl in
    let goes : goes_on plan.ways next h past p (e ∷ []) ≡ true =
    ap (λ bursts. list_any (λ move. same_burst move (e ∷ [])) (bursts ++ flat_map (moves_of plan.ways h past p) (option_to_list next))) f.1
    ∙ or_left (same_burst (e ∷ []) (e ∷ [])) _ same in
    let may : may_go_on plan.ways next h past p ≡ true =
    ap (λ bursts. not (length (bursts ++ flat_map (moves_of plan.ways h past p) (option_to_list next)) == 0)) f.1 ∙ not-empty (e ∷ []) others in
    (e ∷ [], and_from _ _ sound (or_left _ false (and_from _ _ may goes)))
