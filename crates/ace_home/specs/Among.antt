-- The steps of a run in which, for each line, only the ports of a set are snooped.
use Rattle.std.specs.Prelude.{ℕ, ◌≡◌, ◌≢◌, Bool, true, ◌&&◌, ◌==◌, if◌then◌else◌, List, map}
use Rattle.std.specs.List.{list_all, list_any}
use Rattle.ace_codes.specs.declared.kind.SnoopKind.{SnoopKind}
use Rattle.ace_codes.specs.declared.state.LineState.TheVariants.{I}
use Rattle.ace_event.specs.declared.event.Event.{Event}
use Rattle.ace_event.specs.declared.header.Header.{Header}
use Rattle.ace_model.specs.declared.transactions.Transaction.{Transaction}
use Rattle.ace_model.specs.Grants.{is_granted, ports_below}
use Rattle.ace_model.specs.Plans.{Plan}
use Rattle.ace_model.specs.States.{state_of}
use Rattle.ace_model.specs.Trace.{Trace, is_some_and, port_of}
use Rattle.ace_model.specs.Transactions.{is_ace, snoop_of}
use Rattle.ace_runs.specs.Bursts.{is_kept, some_outstanding}
use Rattle.ace_runs.specs.LineSteps.{snoop_for}
use Rattle.ace_runs.specs.SameEvents.{same_event}
use Rattle.ace_runs.specs.Steps.{StepKind, has_number, is_sound, may_give, step, steps_of}

-- the ports of each line that may be snooped for it: first the line's address, then the port
abbrev pub PortSets : Type 0
PortSets = ℕ → ℕ → Bool

abbrev pub all_ports : PortSets
all_ports l p = true

-- The set of each line has each ACE port whose state of the line isn't I.
abbrev pub HasHolders : PortSets → Header → Trace → Type 0
HasHolders among h past =
    (l p : ℕ) → is_ace h p ≡ true → state_of h past p l ≢ I → among l p ≡ true

-- a port of the set may be snooped for the granted transaction
abbrev pub has_snoop_among : PortSets → Header → Trace → Transaction → Bool
has_snoop_among among h past x =
    is_granted h past x
    && is_some_and (snoop_of x)
    (λ k. list_any (λ q. among x.addr q && is_kept h past (snoop_for x k q)) (ports_below h.ports))

-- the event is the snoop of a port of the set for the transaction
abbrev pub is_snoop_among : PortSets → Transaction → SnoopKind → Event → Bool
is_snoop_among among x k e =
    is_some_and (port_of e) (λ q. among x.addr q && same_event e (snoop_for x k q))

-- the events are such snoops for the granted transaction
abbrev pub are_snoops_among : PortSets → Header → Trace → Transaction → List Event → Bool
are_snoops_among among h past x burst =
    is_granted h past x && is_some_and (snoop_of x) (λ k. list_all (is_snoop_among among x k) burst)

-- step 6: AC to any one or more of the ports of the set that may be snooped
abbrev pub may_snoop_among : PortSets → Header → Trace → ℕ → Bool
may_snoop_among among h past p = some_outstanding h past p (has_snoop_among among h past)

abbrev pub gives_snoops_among : PortSets → Header → Trace → ℕ → List Event → Bool
gives_snoops_among among h past p burst =
    some_outstanding h past p (λ x. are_snoops_among among h past x burst)

-- the step, where only ports of the sets are snooped: all steps but step 6 stay
abbrev pub step_among : PortSets → StepKind → StepKind
step_among among s =
    if s.number == 6 then step 6 (may_snoop_among among) (gives_snoops_among among) else s

abbrev pub steps_among : PortSets → Plan → Trace → ℕ → List StepKind
steps_among among plan past p = map (step_among among) (steps_of plan past p)

-- such a step of one of these numbers is enabled for the port
abbrev pub is_enabled_by_among : PortSets → List ℕ → Plan → Trace → ℕ → Bool
is_enabled_by_among among numbers plan past p =
    list_any (λ s. has_number numbers s && s.is_enabled plan.header past p)
    (steps_among among plan past p)

-- such a step is enabled for the port
abbrev pub is_enabled_among : PortSets → Plan → Trace → ℕ → Bool
is_enabled_among among plan past p =
    list_any (λ s. s.is_enabled plan.header past p) (steps_among among plan past p)

-- the burst is one that such a step of one of these numbers gives which is enabled for the port
abbrev pub is_step_by_among : PortSets → List ℕ → Plan → Trace → ℕ → List Event → Bool
is_step_by_among among numbers plan past p burst =
    is_sound plan.header past burst
    && list_any (λ s. has_number numbers s && may_give plan.header past p burst s)
    (steps_among among plan past p)

-- the burst is one that such a step gives which is enabled for the port
abbrev pub is_step_among : PortSets → Plan → Trace → ℕ → List Event → Bool
is_step_among among plan past p burst =
    is_sound plan.header past burst
    && list_any (may_give plan.header past p burst) (steps_among among plan past p)

-- Such a step is enabled for the port.
abbrev pub EnabledAmong : PortSets → Plan → Trace → ℕ → Type 0
EnabledAmong among plan past p = is_enabled_among among plan past p ≡ true

-- The burst is such a step for the port.
abbrev pub IsStepAmong : PortSets → Plan → Trace → ℕ → List Event → Type 0
IsStepAmong among plan past p burst = is_step_among among plan past p burst ≡ true
