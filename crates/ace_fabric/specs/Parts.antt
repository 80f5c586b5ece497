-- How engines take part in a run: for what they stand, and what they are once they have heard the
-- steps of the others.
use Rattle.std.specs.Prelude.{ℕ, ◌≡◌, ◌≢◌, ◌<◌, ◌≤◌, ◌==◌, true, List, length, slice_get, Some}
use Rattle.ace_event.specs.declared.event.Event.{Event}
use Rattle.ace_model.specs.Plans.{Plan}
use Rattle.ace_model.specs.Trace.{Trace}
use Rattle.ace_runs.specs.Bursts.{onto}
use Rattle.ace_runs.specs.Steps.{AreSteps}
use Rattle.ace_engine.specs.Engines.{EngineKind, Home, IsLegal, Master, Order, Update, is_given_by}
use Rattle.ace_engine.specs.Heard.{none_passes}
use Rattle.ace_engine.specs.declared.engine.Engine.{Ghosts}
use Rattle.ace_home.specs.Among.{IsStepAmong, PortSets}

-- none of the events, which come after the trace, is one that an engine of this kind gives for the
-- port
abbrev pub NoneGiven : EngineKind → ℕ → Trace → List Event → Type 0
NoneGiven kind p past burst =
    none_passes (λ before e. is_given_by kind before p e) past burst ≡ true

-- The engine has heard the burst: it takes the steps that it took, and stands for the longer trace,
-- unless some event was its own.
pub record HasHeard {E : Type 0} (g : Ghosts E) (burst : List Event) (old new : E) : Type 0 where
  pub serves : (p : ℕ) → g.serves new p ≡ g.serves old p
  pub stands : (plan : Plan) (past : Trace) → g.stands old plan past
      → IsLegal plan (onto burst past)
      → ((p : ℕ) → g.serves old p ≡ true → NoneGiven g.kind p past burst)
      → g.stands new plan (onto burst past)

-- Of the first n engines each but one has heard the burst; the others are as they were.
pub record HaveHeard {E : Type 0} (g : Ghosts E) (burst : List Event)
    (but n : ℕ) (olds news : List E) : Type 0 where
  pub each : (k : ℕ) (x y : E) → slice_get olds k ≡ Some x → slice_get news k ≡ Some y
      → k < n → k ≢ but → HasHeard g burst x y
  pub rest : (k : ℕ) → n ≤ k → slice_get news k ≡ slice_get olds k
  pub same : slice_get news but ≡ slice_get olds but
  pub len : length news ≡ length olds

-- An engine of the interconnect takes part in the run: it is of the kind, takes steps of each port,
-- and stands for the plan and the trace.
pub record TakesPart {E : Type 0} (g : Ghosts E) (kind : EngineKind)
    (plan : Plan) (past : Trace) (engine : E) : Type 0 where
  pub kind_is : g.kind ≡ kind
  pub serves : (p : ℕ) → p < plan.header.ports → g.serves engine p ≡ true
  pub stands : g.stands engine plan past

-- The masters are those of the ports of the header, in order, and stand for the plan and the trace.
pub record AreMasters {E : Type 0} (g : Ghosts E) (plan : Plan)
    (past : Trace) (masters : List E) : Type 0 where
  pub kind_is : g.kind ≡ Master
  pub count : length masters ≡ plan.header.ports
  pub serve : (k : ℕ) (m : E) → slice_get masters k ≡ Some m → (p : ℕ) → g.serves m p ≡ (p == k)
  pub stand : (k : ℕ) (m : E) → slice_get masters k ≡ Some m → g.stands m plan past

-- The engines of a run of the plan, which has come as far as the trace.
pub record AreEngines {H U O M : Type 0} (h : Ghosts H) (u : Ghosts U) (o : Ghosts O) (m : Ghosts M)
    (plan : Plan) (past : Trace) (home : H) (update : U) (order : O)
    (masters : List M) : Type 0 where
  pub legal : IsLegal plan past
  pub steps : AreSteps plan past
  pub home_is : TakesPart h Home plan past home
  pub update_is : TakesPart u Update plan past update
  pub order_is : TakesPart o Order plan past order
  pub masters_are : AreMasters m plan past masters

-- From each run for which the first engines are, the burst is a step of the port, which snoops only
-- ports of the sets, after which the others are.
abbrev pub HaveMoved : {H U O M : Type 0} → PortSets → Ghosts H → Ghosts U
    → Ghosts O → Ghosts M → ℕ → List Event → H → U → O → List M → H → U → O → List M → Type 0
HaveMoved among h u o m p burst home update order masters home' update' order' masters' =
    (plan : Plan) (past : Trace) → AreEngines h u o m plan past home update order masters
    → IsStepAmong among plan past p burst
    × AreEngines h u o m plan (onto burst past) home' update' order' masters'
