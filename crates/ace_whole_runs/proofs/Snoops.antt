-- Step 6: a granted transaction has the snoop of one port that may be snooped for it.
use Rattle.std.proofs.Common.{◌≡◌, ℕ, Bool, true, ◌&&◌, ◌==◌, List, [], ◌∷◌, Some, refl, ap, ◌∙◌, arith, inl, inr}
use Rattle.std.specs.List.{list_all, list_any}
use Rattle.std.proofs.lemmas.Bool.{and_from, and_parts, or_cases}
use Rattle.std.proofs.lemmas.List.Folds.{list_any_at}
use Rattle.ace_codes.specs.declared.kind.SnoopKind.{SnoopKind}
use Rattle.ace_event.specs.declared.event.Event.{Event}
use Rattle.ace_model.specs.declared.transactions.Transaction.{Transaction}
use Rattle.ace_model.specs.Grants.{is_granted, ports_below}
use Rattle.ace_model.specs.Plans.{Plan}
use Rattle.ace_model.specs.Trace.{Trace, is_some_and}
use Rattle.ace_model.specs.Transactions.{is_outstanding, snoop_of}
use Rattle.ace_model.proofs.General.Options.{is_some_and-is}
use Rattle.ace_model.proofs.Trace.Growth.{IsIssued, some_issued-found, some_issued-is}
use Rattle.ace_runs.specs.Bursts.{is_kept}
use Rattle.ace_runs.specs.LineSteps.{may_snoop, snoop_for}
use Rattle.ace_runs.specs.SameEvents.{same_event}
use Rattle.ace_runs.specs.Steps.{StepKind, has_number, is_sound, may_give, step}
use Rattle.ace_runs.proofs.NeverStuck.Steps.SameBursts.{burst-self}
use Rattle.ace_engine.specs.Engines.{Home, numbers_of}
use Rattle.ace_home.specs.Among.{PortSets, all_ports, are_snoops_among, gives_snoops_among, has_snoop_among, is_snoop_among, may_snoop_among, steps_among}
use Rattle.ace_home.proofs.Among.{step-of-any}
use Rattle.ace_whole_runs.proofs.Interconnect.{GivesAmong, GivesStep}

pub some-port : (n : ℕ) (test : ℕ → Bool) → list_any test (ports_below n) ≡ true → (q : ℕ) × (test q ≡ true)
some-port n test t = some (ports_below n) t
  where
    some : (ps : List ℕ) → list_any test ps ≡ true → (q : ℕ) × (test q ≡ true)
    some [] t = cc
    some (q ∷ ps) t = elim (or_cases (test q) (list_any test ps) t) [ inl here ↦ (q, here) | inr later ↦ some ps later ]

module _ (among : PortSets) (plan : Plan) (past : Trace) (p : ℕ) where
  -- the snoop of a port of the set for the transaction
  snoop-step : (x : Transaction) (k : SnoopKind) (q : ℕ) → may_snoop_among among plan.header past p ≡ true → IsIssued past x
      → ((x.port == p) && is_outstanding plan.header past x) ≡ true → is_granted plan.header past x ≡ true → snoop_of x ≡ Some k
      → among x.addr q ≡ true → is_kept plan.header past (snoop_for x k q) ≡ true → GivesAmong among (numbers_of Home) plan past p
  snoop-step x k q may issued mine granted caused within kept =
      let h = plan.header in
      let snoop : Event = snoop_for x k q in
      let burst : List Event = snoop ∷ [] in
      let same = (and_parts (same_event snoop snoop) true (burst-self burst)).0 in
      let all : list_all (is_snoop_among among x k) burst ≡ true = and_from _ _ (and_from _ _ within same) refl in
      let snoops : are_snoops_among among h past x burst ≡ true =
      and_from _ _ granted (ap (λ v. is_some_and v (λ k. list_all (is_snoop_among among x k) burst)) caused ∙ all) in
      let gives : gives_snoops_among among h past p burst ≡ true =
      some_issued-found past (λ x. (x.port == p) && is_outstanding h past x && are_snoops_among among h past x burst) x.place x issued.there
      (and_from _ _ mine snoops) in
      let sound : is_sound h past burst ≡ true = and_from _ _ refl (and_from _ _ kept refl) in
      let test = λ (r : StepKind). has_number (numbers_of Home) r && may_give h past p burst r in
      record {
        burst = burst;
        step = and_from _ _ sound
            (list_any_at test (steps_among among plan past p) 5 (step 6 (may_snoop_among among) (gives_snoops_among among)) (omega arith)
            (and_from _ _ may gives));
        own = refl;
      }

  pub gives-snoop-among : may_snoop_among among plan.header past p ≡ true → GivesAmong among (numbers_of Home) plan past p
  gives-snoop-among may =
      let h = plan.header in
      let x = some_issued-is past (λ x. (x.port == p) && is_outstanding h past x && has_snoop_among among h past x) may in
      let two = and_parts ((x.0.port == p) && is_outstanding h past x.0) (has_snoop_among among h past x.0) x.2 in
      let some = is_some_and (snoop_of x.0) (λ k. list_any (λ q. among x.0.addr q && is_kept h past (snoop_for x.0 k q)) (ports_below h.ports)) in
      let has = and_parts (is_granted h past x.0) some two.1 in
      let k = is_some_and-is (snoop_of x.0) (λ k. list_any (λ q. among x.0.addr q && is_kept h past (snoop_for x.0 k q)) (ports_below h.ports)) has.1 in
      let q = some-port h.ports (λ q. among x.0.addr q && is_kept h past (snoop_for x.0 k.0 q)) k.2 in
      let both = and_parts (among x.0.addr q.0) (is_kept h past (snoop_for x.0 k.0 q.0)) q.1 in
      snoop-step x.0 k.0 q.0 may x.1 two.0 has.0 k.1 both.0 both.1

-- where each port may be snooped
pub gives-snoop : (plan : Plan) (past : Trace) (p : ℕ) → may_snoop plan.header past p ≡ true → GivesStep (numbers_of Home) plan past p
gives-snoop plan past p may =
    let g = gives-snoop-among all_ports plan past p may in
    record { burst = g.burst; step = step-of-any all_ports plan past p g.burst (numbers_of Home) g.step; own = g.own }
