-- A run goes on until it is done: where some port is enabled it has a burst, and a run has at most 256 events for each operation. So each right
-- plan has a whole run, and one in which only ports of sets are snooped that have each holder of a line.
use Rattle.std.proofs.Common.{◌≡◌, ℕ, zero, suc, true, false, ◌+◌, ◌*◌, ◌<◌, ◌≤◌, List, [], ◌∷◌, length, refl, sym, ◌∙◌, arith, inl, inr}
use Rattle.std.specs.List.{list_all}
use Rattle.std.proofs.lemmas.Bool.{and_parts, cases_Bool}
use Rattle.ace_event.specs.declared.event.Event.{Event}
use Rattle.ace_model.specs.Accepted.{IsAccepted}
use Rattle.ace_model.specs.Plans.{IsRight, Plan}
use Rattle.ace_model.specs.Trace.{Trace}
use Rattle.ace_runs.specs.Bursts.{onto}
use Rattle.ace_runs.specs.Follows.{is_done}
use Rattle.ace_runs.specs.Steps.{AreSteps, IsStep, Turn}
use Rattle.ace_runs.proofs.Few.Bound.{few-events}
use Rattle.ace_runs.proofs.Turns.{step-kept}
use Rattle.ace_engine.specs.Engines.{EngineKind, Home, IsLegal, Master, Order, Update, is_master, is_of_interconnect, numbers_of}
use Rattle.ace_engine.proofs.Heard.{legal-before}
use Rattle.ace_fabric.specs.Runs.{Run, continued}
use Rattle.ace_fabric.proofs.Continued.{longer-then}
use Rattle.ace_home.specs.Among.{EnabledAmong, IsStepAmong, PortSets, all_ports, is_enabled_by_among}
use Rattle.ace_home.proofs.Among.{step-among-by, step-is, step-stays}
use Rattle.ace_home.proofs.GoesOnAmong.{goes-on-among}
use Rattle.ace_fabric.proofs.Taken.{no-kind-enabled, steps-after}
use Rattle.ace_whole_runs.specs.Runs.{AreStepsAmong, AreTurnsAmong, HaveHolders, IsRunOf, SetsAt}
use Rattle.ace_whole_runs.proofs.Interconnect.{legal-burst}
use Rattle.ace_whole_runs.proofs.InterconnectMoves.{interconnect-moves-among}
use Rattle.ace_whole_runs.proofs.Masters.AllPorts.{keeps-first, keeps-heard, masters-move}
use Rattle.ace_whole_runs.proofs.Masters.Keeping.{Keeps}

-- ---- which step is enabled ---------------------------------------------------------------------------

-- an enabled port is enabled for an engine of some kind
engine-enabled : (among : PortSets) (plan : Plan) (past : Trace) (p : ℕ) → EnabledAmong among plan past p
    → (kind : EngineKind) × (is_enabled_by_among among (numbers_of kind) plan past p ≡ true)
engine-enabled among plan past p t =
    elim (cases_Bool (is_enabled_by_among among (numbers_of Master) plan past p)) [
      | inl on ↦ (Master, on)
      | inr m ↦ elim (cases_Bool (is_enabled_by_among among (numbers_of Update) plan past p)) [
        | inl on ↦ (Update, on)
        | inr u ↦ elim (cases_Bool (is_enabled_by_among among (numbers_of Home) plan past p)) [
          | inl on ↦ (Home, on)
          | inr h ↦ elim (cases_Bool (is_enabled_by_among among (numbers_of Order) plan past p)) [
            | inl on ↦ (Order, on)
            | inr o ↦ let bad : false ≡ true = sym (no-kind-enabled among plan past p m u h o) ∙ t in cc
          ]
        ]
      ]
    ]

-- a step makes the trace longer
longer-with : (plan : Plan) (past : Trace) (p : ℕ) (burst : List Event) → IsStep plan past p burst → length past < length (onto burst past)
longer-with plan past p burst s =
    let now : Run = record { plan = plan; room = 0; past = past } in
    longer-then [] burst now now (continued burst now) p refl refl s

-- ---- how far a run goes ------------------------------------------------------------------------------

-- A right plan has a whole run in which only ports of the sets are snooped.
module _ (sets : SetsAt) (plan : Plan) (right : IsRight plan) (holders : HaveHolders sets plan) where
  all-heard : (burst : List Event) (past : Trace) → IsLegal plan (onto burst past) → list_all is_of_interconnect burst ≡ true
      → Keeps plan past → Keeps plan (onto burst past)
  all-heard [] past legal own keeps = keeps
  all-heard (e ∷ burst) past legal own keeps =
      let both = and_parts (is_of_interconnect e) (list_all is_of_interconnect burst) own in
      all-heard burst (e ∷ past) legal both.1 (keeps-heard plan past e (legal-before plan burst (e ∷ past) legal) both.0 keeps)

  -- The port has a step with a whole burst, after which the run can go on.
  record Moves (past : Trace) (p : ℕ) : Type 0 where
    burst : List Event
    step : IsStepAmong (sets past) plan past p burst
    legal : IsLegal plan (onto burst past)
    keeps : Keeps plan (onto burst past)

  of-master : (past : Trace) (p : ℕ) → p < plan.header.ports → IsLegal plan past → Keeps plan past
      → is_enabled_by_among (sets past) (numbers_of Master) plan past p ≡ true → Moves past p
  of-master past p low legal keeps t =
      let s = masters-move plan past p low legal keeps t in
      let stays = step-stays (sets past) plan past p s.0.burst (numbers_of Master) refl s.0.step in
      record { burst = s.0.burst; step = step-among-by (sets past) plan past p s.0.burst (numbers_of Master) stays; legal = s.0.legal; keeps = s.1 }

  of-interconnect : (past : Trace) (p : ℕ) (kind : EngineKind) → is_master kind ≡ false → AreSteps plan past → IsLegal plan past → Keeps plan past
      → is_enabled_by_among (sets past) (numbers_of kind) plan past p ≡ true → Moves past p
  of-interconnect past p kind other steps legal keeps t =
      let g = interconnect-moves-among plan past p legal (sets past) kind other steps t in
      let step = step-among-by (sets past) plan past p g.1.burst g.0 g.1.step in
      let kept = step-kept plan past p g.1.burst (step-is (sets past) plan past p g.1.burst step) in
      let after = legal-burst plan g.1.burst past g.1.own kept legal in
      record { burst = g.1.burst; step = step; legal = after; keeps = all-heard g.1.burst past after g.1.own keeps }

  -- an engine that has a step enabled has a burst
  moves : (past : Trace) (p : ℕ) (kind : EngineKind) → p < plan.header.ports → AreSteps plan past → IsLegal plan past → Keeps plan past
      → is_enabled_by_among (sets past) (numbers_of kind) plan past p ≡ true → Moves past p
  moves past p Master low steps legal keeps t = of-master past p low legal keeps t
  moves past p Update low steps legal keeps t = of-interconnect past p Update refl steps legal keeps t
  moves past p Home low steps legal keeps t = of-interconnect past p Home refl steps legal keeps t
  moves past p Order low steps legal keeps t = of-interconnect past p Order refl steps legal keeps t

  -- A run of such steps, which can go on.
  record Goes (past : Trace) : Type 0 where
    steps : AreSteps plan past
    among : AreStepsAmong sets plan past
    legal : IsLegal plan past
    keeps : Keeps plan past

  -- A legal run is whole when it is done.
  pub record IsWholeAmong (past : Trace) : Type 0 where
    pub run : IsRunOf plan past
    pub among : AreStepsAmong sets plan past
    pub legal : IsLegal plan past

  whole : (past : Trace) → Goes past → is_done plan past ≡ true → IsWholeAmong past
  whole past g done = record {
    run = record {
      accepted = g.legal.accepted;
      follows = (g.legal.follows, done);
      steps = g.steps;
      few = few-events plan past right g.legal.accepted g.legal.follows g.legal.lean;
    };
    among = g.among;
    legal = g.legal;
  }

  further : (past : Trace) → Goes past → is_done plan past ≡ false → (later : Trace) × Goes later × (length past < length later)
  further past g undone =
      let p = goes-on-among (sets past) plan past g.steps (holders past g.legal.accepted) right g.legal.follows (λ d. let bad : true ≡ false = sym d ∙ undone in cc) in
      let kind = engine-enabled (sets past) plan past p.0 p.2 in
      let m = moves past p.0 kind.0 p.1 g.steps g.legal g.keeps kind.1 in
      let step = step-is (sets past) plan past p.0 m.burst m.step in
      let turn : Turn = record { port = p.0; burst = m.burst } in
      let turns : AreTurnsAmong sets plan (turn ∷ g.among.0) (onto m.burst past) = (past, g.among.1, m.step, refl) in
      let goes : Goes (onto m.burst past) = record {
        steps = steps-after plan past p.0 m.burst g.steps step;
        among = (turn ∷ g.among.0, turns);
        legal = m.legal;
        keeps = m.keeps;
      } in
      (onto m.burst past, goes, longer-with plan past p.0 m.burst step)

  -- at most n events are left
  whole-from : (n : ℕ) (past : Trace) → Goes past → length plan.operations * 256 ≤ length past + n → (t : Trace) × IsWholeAmong t
  whole-from zero past g left =
      elim (cases_Bool (is_done plan past)) [
        | inl done ↦ (past, whole past g done)
        | inr undone ↦
            let f = further past g undone in
            let long = f.2 in
            let few = few-events plan f.0 right f.1.legal.accepted f.1.legal.follows f.1.legal.lean in
            absurd (omega (arith, long, few, left))
      ]
  whole-from (suc n) past g left =
      elim (cases_Bool (is_done plan past)) [
        | inl done ↦ (past, whole past g done)
        | inr undone ↦
            let f = further past g undone in
            let long = f.2 in
            whole-from n f.0 f.1 (omega (arith, long, left))
      ]

  pub whole-run-among : (past : Trace) × IsWholeAmong past
  whole-run-among =
      let goes : Goes [] = record {
        steps = ([], refl);
        among = ([], refl);
        legal = record { right = right; accepted = tt; follows = tt; lean = tt };
        keeps = keeps-first plan;
      } in
      whole-from (length plan.operations * 256) [] goes (omega arith)

-- each port may be snooped
pub whole-run : (plan : Plan) → IsRight plan → (past : Trace) × IsRunOf plan past
whole-run plan right =
    let w = whole-run-among (λ past. all_ports) plan right (λ past accepted l p ace held. refl) in
    (w.0, w.1.run)
