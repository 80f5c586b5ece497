-- An enabled step of the interconnect has a burst.
use Rattle.std.proofs.Common.{◌≡◌, ℕ, Bool, true, false, ◌||◌, ◌==◌, List, [], ◌∷◌, refl, inl, inr}
use Rattle.std.specs.List.{list_any}
use Rattle.std.proofs.lemmas.Bool.{or_cases}
use Rattle.ace_event.specs.declared.header.Header.{Header}
use Rattle.ace_model.specs.Plans.{Plan}
use Rattle.ace_model.specs.Trace.{Trace}
use Rattle.ace_runs.specs.Bursts.{may_serve}
use Rattle.ace_runs.specs.LineSteps.{grant_burst, may_snoop, passed_burst, transfer_burst, update_burst, write_burst}
use Rattle.ace_runs.specs.OrderSteps.{barrier_burst, dvm_burst, may_forward, may_give_completion}
use Rattle.ace_runs.specs.Steps.{AreSteps, is_enabled_by}
use Rattle.ace_engine.specs.Engines.{EngineKind, Home, IsLegal, Master, Order, Update, is_master, numbers_of}
use Rattle.ace_home.specs.Among.{PortSets, is_enabled_by_among, may_snoop_among}
use Rattle.ace_whole_runs.proofs.Barriers.{gives-barrier}
use Rattle.ace_whole_runs.proofs.Forwarding.{gives-completion, gives-message}
use Rattle.ace_whole_runs.proofs.GrantedWrites.{gives-write}
use Rattle.ace_whole_runs.proofs.Interconnect.{GivesAmong, GivesStep, unsnooping}
use Rattle.ace_whole_runs.proofs.OneEvent.{gives-answer, gives-grant, gives-passed, gives-transfer}
use Rattle.ace_whole_runs.proofs.Snoops.{gives-snoop, gives-snoop-among}
use Rattle.ace_whole_runs.proofs.Updates.{gives-update}

-- an enabled step is one of these
of-each : {P : Type 0} (a b : Bool) → (a || b) ≡ true → (a ≡ true → P) → (b ≡ true → P) → P
of-each {P} a b t f g = elim (or_cases a b t) [ inl s ↦ f s | inr s ↦ g s ]

only : (a : Bool) → (a || false) ≡ true → a ≡ true
only true t = refl
only false t = cc

module _ (plan : Plan) (past : Trace) (p : ℕ) (legal : IsLegal plan past) where
  abbrev h : Header
  h = plan.header

  update-moves : is_enabled_by (3 ∷ []) plan past p ≡ true → GivesStep (numbers_of Update) plan past p
  update-moves t = gives-update plan past p legal (only (may_serve update_burst h past p) t)

  home-moves : is_enabled_by (5 ∷ 6 ∷ 7 ∷ 8 ∷ 9 ∷ []) plan past p ≡ true → GivesStep (numbers_of Home) plan past p
  home-moves t =
      of-each (may_serve grant_burst h past p) _ t (gives-grant plan past p (numbers_of Home) refl)
      (λ t. of-each (may_snoop h past p) _ t (gives-snoop plan past p)
      (λ t. of-each (may_serve passed_burst h past p) _ t (gives-passed plan past p (numbers_of Home) refl)
      (λ t. of-each (may_serve transfer_burst h past p) _ t (gives-transfer plan past p (numbers_of Home) refl)
      (λ t. gives-write plan past p legal (numbers_of Home) refl (only (may_serve write_burst h past p) t)))))

  order-moves : AreSteps plan past → is_enabled_by (10 ∷ 11 ∷ 12 ∷ 13 ∷ []) plan past p ≡ true → GivesStep (numbers_of Order) plan past p
  order-moves steps t =
      of-each (may_serve barrier_burst h past p) _ t (gives-barrier plan past p steps legal)
      (λ t. of-each (may_forward h past p) _ t (gives-message plan past p steps legal)
      (λ t. of-each (may_serve dvm_burst h past p) _ t (gives-answer plan past p)
      (λ t. gives-completion plan past p legal (only (may_give_completion h past p) t))))

  pub interconnect-moves : (kind : EngineKind) → is_master kind ≡ false → AreSteps plan past → is_enabled_by (numbers_of kind) plan past p ≡ true
      → GivesStep (numbers_of kind) plan past p
  interconnect-moves Master other steps t = cc
  interconnect-moves Home other steps t = home-moves t
  interconnect-moves Update other steps t = update-moves t
  interconnect-moves Order other steps t = order-moves steps t

  -- ---- where only ports of sets are snooped ----

  module _ (among : PortSets) where
    -- of some numbers there is a step in which only ports of the sets are snooped
    abbrev pub SomeAmong : Type 0
    SomeAmong = (numbers : List ℕ) × GivesAmong among numbers plan past p

    unsnooping-moves : (numbers : List ℕ) → list_any (λ n. n == 6) numbers ≡ false → GivesStep numbers plan past p → SomeAmong
    unsnooping-moves numbers none g = (numbers, unsnooping among numbers plan past p none g)

    home-moves-among : is_enabled_by_among among (5 ∷ 6 ∷ 7 ∷ 8 ∷ 9 ∷ []) plan past p ≡ true → SomeAmong
    home-moves-among t =
        of-each (may_serve grant_burst h past p) _ t (λ t. unsnooping-moves (5 ∷ []) refl (gives-grant plan past p (5 ∷ []) refl t))
        (λ t. of-each (may_snoop_among among h past p) _ t (λ t. (numbers_of Home, gives-snoop-among among plan past p t))
        (λ t. of-each (may_serve passed_burst h past p) _ t (λ t. unsnooping-moves (7 ∷ []) refl (gives-passed plan past p (7 ∷ []) refl t))
        (λ t. of-each (may_serve transfer_burst h past p) _ t (λ t. unsnooping-moves (8 ∷ []) refl (gives-transfer plan past p (8 ∷ []) refl t))
        (λ t. unsnooping-moves (9 ∷ []) refl (gives-write plan past p legal (9 ∷ []) refl (only (may_serve write_burst h past p) t))))))

    pub interconnect-moves-among : (kind : EngineKind) → is_master kind ≡ false → AreSteps plan past → is_enabled_by_among among (numbers_of kind) plan past p ≡ true
        → SomeAmong
    interconnect-moves-among Master other steps t = cc
    interconnect-moves-among Home other steps t = home-moves-among t
    interconnect-moves-among Update other steps t = unsnooping-moves (numbers_of Update) refl (update-moves t)
    interconnect-moves-among Order other steps t = unsnooping-moves (numbers_of Order) refl (order-moves steps t)
