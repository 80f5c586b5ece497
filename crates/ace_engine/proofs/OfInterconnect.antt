-- What the interconnect gives obeys any plan and is lean: where it breaks no rule, engines may stand for the trace with it.
use Rattle.std.proofs.Common.{◌≡◌, ℕ, Bool, true, false, ◌==◌, nat_le, if◌then◌else◌, List, [], ◌∷◌, length, refl, ap, subst, ◌∙◌, inl, inr, arith}
use Rattle.std.proofs.lemmas.Bool.{and_parts, cases_Bool, eqb-true, le-leb}
use Rattle.ace_event.specs.declared.event.Event.{Event}
use Rattle.ace_event.specs.declared.event.Event.TheVariants.{R, B, Ac, G, M, Mem}
use Rattle.ace_model.specs.Plans.{Plan}
use Rattle.ace_model.specs.Trace.{Trace, is_some_and, port_of}
use Rattle.ace_model.proofs.General.Options.{is_none_or-at, is_some_and-is}
use Rattle.ace_runs.specs.Bursts.{is_kept}
use Rattle.ace_runs.specs.Follows.{FollowsSoFar, has_room_after, obeys}
use Rattle.ace_runs.specs.HeldLines.{held_lines}
use Rattle.ace_runs.specs.Lean.{stays_lean}
use Rattle.ace_runs.specs.Segments.{is_at_port}
use Rattle.ace_engine.specs.Engines.{IsLegal, is_of_interconnect}
use Rattle.ace_engine.proofs.LegalSteps.{legal-more}

-- Each port holds no more lines than the plan has ways.
held-few : (plan : Plan) (past : Trace) (p : ℕ) → FollowsSoFar plan past → nat_le (length (held_lines plan.header past p)) plan.ways ≡ true
held-few plan [] p f = le-leb 0 plan.ways (omega arith)
held-few plan (e ∷ past) p f =
    elim (cases_Bool (is_at_port p e)) [
      | inr other ↦ rw other (held-few plan past p f.0)
      | inl own ↦
          let q = is_some_and-is (port_of e) (λ q. q == p) own in
          let room : has_room_after plan past e ≡ true = (and_parts _ (has_room_after plan past e) f.1).1 in
          subst (λ r. nat_le (length (held_lines plan.header (e ∷ past) r)) plan.ways ≡ true) (eqb-true q.0 p q.2)
          (is_none_or-at (port_of e) (λ r. nat_le (length (held_lines plan.header (e ∷ past) r)) plan.ways) q.0 room q.1)
    ]

either-same : {A : Type 0} → (b : Bool) (x : A) → (if b then x else x) ≡ x
either-same true x = refl
either-same false x = refl

-- an event that changes no state leaves its port the lines that it holds
pub still-few : (plan : Plan) (past : Trace) (p : ℕ) → FollowsSoFar plan past
    → nat_le (length (if p == p then held_lines plan.header past p else held_lines plan.header past p)) plan.ways ≡ true
still-few plan past p f =
    ap (λ (ls : List ℕ). nat_le (length ls) plan.ways) (either-same (p == p) (held_lines plan.header past p)) ∙ held-few plan past p f

interconnect-obeys : (plan : Plan) (past : Trace) (e : Event) → is_of_interconnect e ≡ true → FollowsSoFar plan past → obeys plan past e ≡ true
interconnect-obeys plan past (R p i resp last word) own f = still-few plan past p f
interconnect-obeys plan past (B p i resp) own f = still-few plan past p f
interconnect-obeys plan past (Ac p addr snoop) own f = still-few plan past p f
interconnect-obeys plan past (G p c i) own f = still-few plan past p f
interconnect-obeys plan past (M p c i line) own f = still-few plan past p f
interconnect-obeys plan past (Mem addr line) own f = refl
interconnect-obeys plan past e own f = cc

interconnect-lean : (plan : Plan) (past : Trace) (e : Event) → is_of_interconnect e ≡ true → stays_lean plan past e ≡ true
interconnect-lean plan past (R p i resp last word) own = refl
interconnect-lean plan past (B p i resp) own = refl
interconnect-lean plan past (Ac p addr snoop) own = refl
interconnect-lean plan past (G p c i) own = refl
interconnect-lean plan past (M p c i line) own = refl
interconnect-lean plan past (Mem addr line) own = refl
interconnect-lean plan past e own = cc

pub legal-with : (plan : Plan) (past : Trace) (e : Event) → is_of_interconnect e ≡ true → IsLegal plan past → is_kept plan.header past e ≡ true → IsLegal plan (e ∷ past)
legal-with plan past e own legal kept = legal-more plan past e legal kept (interconnect-obeys plan past e own legal.follows) (interconnect-lean plan past e own)
