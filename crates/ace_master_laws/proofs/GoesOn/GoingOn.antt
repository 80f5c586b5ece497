-- Going on: what a master does by step 14 obeys the plan and stays lean, and leaves how far its operations have come.
use Rattle.std.proofs.Common.{◌≡◌, ℕ, Bool, true, false, not, ◌&&◌, ◌||◌, ◌==◌, if◌then◌else◌, List, [], ◌∷◌, map, Option, Some, None, inl, inr, refl, sym, ap, ◌∙◌}
use Rattle.std.specs.List.{list_any}
use Rattle.std.specs.Option.{option_to_list}
use Rattle.ace_codes.specs.Reads.{ar_code, ar_kind_of}
use Rattle.ace_codes.specs.declared.kind.ArKind.TheVariants as read
use Rattle.ace_event.specs.declared.event.Channel.TheVariants.{Read}
use Rattle.ace_event.specs.declared.event.Event.{Event}
use Rattle.ace_event.specs.declared.event.Event.TheVariants.{Ar}
use Rattle.ace_model.specs.declared.plans.Op.{Op}
use Rattle.ace_model.specs.Transactions.{has_outstanding_on, is_outstanding, is_outstanding_on, same_channel}
use Rattle.ace_runs.specs.Bursts.{are_kept}
use Rattle.ace_runs.specs.Segments.{segment, acts_made}
use Rattle.ace_runs.specs.Follows.{FollowsSoFar}
use Rattle.ace_master_laws.proofs.Progress.Come.{HasCome, NoneBrought, brought-for, leaves-come, out-stays}
use Rattle.ace_model.specs.Accepted.{IsAccepted}
use Rattle.ace_master_laws.proofs.GoesOn.Ready.{IsReady, wanted-named}
use Rattle.ace_model.specs.Plans.{IsRight, Plan, line_named}
use Rattle.ace_master_laws.proofs.Answers.Answering.{KeepsOn, accepted-one}
use Rattle.ace_model.proofs.General.Options.{Some-injective}
use Rattle.ace_model.specs.Trace.{Trace, is_some_and, more}
use Rattle.std.proofs.Math.Bool.{and-false}
use Rattle.std.proofs.lemmas.Bool.{and_from, and_parts, eqb-true, or_cases}
use Rattle.ace_runs.specs.Requests.{awaits_update, is_waiting}
use Rattle.ace_master_laws.proofs.Acknowledges.Due.{brings-on-line}
use Rattle.ace_master_laws.specs.Orderly.{brings_line}
use Rattle.ace_runs.proofs.NeverStuck.Operations.Fits.Ends.{can-not-end}
use Rattle.ace_runs.specs.Closing.{closing_of}
use Rattle.ace_master_laws.proofs.Progress.Wells.{gentle-room, obeys-from}
use Rattle.ace_runs.specs.Operations.{next_operation}
use Rattle.ace_master_laws.proofs.Acknowledges.Acknowledging.{on-line, read-of-line}
use Rattle.ace_model.proofs.Outstanding.Only.{outstanding_at-from}
use Rattle.ace_model.proofs.Trace.Outstanding.{read_issued}
use Rattle.ace_runs.specs.SameEvents.{same_burst}
use Rattle.ace_model.proofs.Trace.Growth.{some_issued-found}
use Rattle.ace_master_laws.proofs.Lines.Gentle.{gentle}

-- ---- a DVM Complete ----------------------------------------------------------------------------------

abbrev pub completes : ℕ → ℕ → Event
completes p i = Ar p i 0 (ar_code read.DvmComplete) 1 0 false

pub completion-keeps : (plan : Plan) (past : Trace) (p i : ℕ) → IsAccepted plan.header past → FollowsSoFar plan past → HasCome plan past p → are_kept plan.header past (completes p i ∷ []) ≡ true
    → KeepsOn plan past p (completes p i ∷ [])
unfolding ar_kind_of
completion-keeps plan past p i a f c kept =
    let e = completes p i in
    let now = accepted-one plan past e [] a kept in
    let g = gentle plan.header past p e now refl tt in
    record {
      well = (record { obeying = obeys-from plan past e refl refl refl refl (gentle-room plan past p e f refl g.raises); lean = refl }, tt);
      come = leaves-come plan past p e
          (record {
            still = record {
              accepted = now;
              same = ap (λ b. more (segment past p) (if b then Some (read_issued past p i 0 (ar_code read.DvmComplete) 1 0 false) else None)) (and-false (p == p));
              silent = refl;
              gentle = g;
            };
            next = refl;
            new = λ x new port. ap brings_line (sym (Some-injective (read_issued past p i 0 (ar_code read.DvmComplete) 1 0 false) x new));
          })
          (λ o next k x there was out. let same = out-stays plan.header past p e now k x there refl in let bad : true ≡ false = sym was ∙ sym same ∙ out in cc) c;
    }

pub completion-is : (b : Bool) (p : ℕ) (o : Option ℕ) (burst : List Event)
    → list_any (λ move. same_burst move burst) (if b then map (λ i. completes p i ∷ []) (option_to_list o) else []) ≡ true → (i : ℕ) × (same_burst (completes p i ∷ []) burst ≡ true)
completion-is true p (Some i) burst s =
    elim (or_cases (same_burst (completes p i ∷ []) burst) false s) [
      | inl same ↦ (i, same)
      | inr none ↦ cc
    ]
completion-is true p None burst s = cc
completion-is false p o burst s = cc

-- ---- an operation ------------------------------------------------------------------------------------

or-none : (a b : Bool) → (a || b) ≡ false → (a ≡ false) × (b ≡ false)
or-none true b f = cc
or-none false b f = (refl, f)

not-shown : (b : Bool) → not b ≡ false → b ≡ true
not-shown true n = refl
not-shown false n = cc

pub is-ready : (plan : Plan) (past : Trace) (p : ℕ) (o : Op) → next_operation plan past p ≡ Some o → is_waiting plan.header past p o ≡ false → closing_of plan.header past p o ≡ [] → IsReady plan past p o
is-ready plan past p o next f none =
    let h = plan.header in
    let outer = or-none (is_some_and (line_named o) (has_outstanding_on h past p) || awaits_update h past p) (not (acts_made past p == 0)) f in
    let inner = or-none (is_some_and (line_named o) (has_outstanding_on h past p)) (awaits_update h past p) outer.0 in
    record {
      next = next;
      free = λ l line. ap (λ v. is_some_and v (has_outstanding_on h past p)) (sym line) ∙ inner.0;
      quiet = inner.1;
      made = eqb-true (acts_made past p) 0 (not-shown (acts_made past p == 0) outer.1);
      stays = can-not-end h past p o none;
    }

-- where the operation ends, no outstanding read of the port brings a line in
pub ends-none : (plan : Plan) (past : Trace) (p : ℕ) (o : Op) → IsRight plan → HasCome plan past p → next_operation plan past p ≡ Some o → is_waiting plan.header past p o ≡ false → NoneBrought plan.header past p
ends-none plan past p o right c next f i y out b =
    let h = plan.header in
    let of = c.brought i y out b in
    let for = brought-for of.0 y ((c.under_way of.0 of.2).asked of.1 y of.3) b in
    let same : of.0 ≡ o = Some-injective of.0 o (sym of.2 ∙ next) in
    let line : line_named o ≡ Some for.line = ap line_named (sym same) ∙ wanted-named of.0 for.kind for.line for.wanted in
    let outer = or-none (is_some_and (line_named o) (has_outstanding_on h past p) || awaits_update h past p) (not (acts_made past p == 0)) f in
    let none : has_outstanding_on h past p for.line ≡ false = ap (λ v. is_some_and v (has_outstanding_on h past p)) (sym line) ∙ (or-none (is_some_and (line_named o) (has_outstanding_on h past p)) (awaits_update h past p) outer.0).0 in
    let at = outstanding_at-from h past p Read i y out in
    let parts = and_parts ((y.port == p) && same_channel y.chan Read) (is_outstanding h past y) at.1 in
    let port = (and_parts (y.port == p) (same_channel y.chan Read) parts.0).0 in
    let on = on-line y for.line (brings-on-line y b) (read-of-line for.kind for.line y for.of) in
    let some = some_issued-found past (is_outstanding_on h past p for.line) y.place y at.0.there (and_from _ _ (and_from _ _ port on) parts.1) in
    let bad : false ≡ true = sym none ∙ some in cc
