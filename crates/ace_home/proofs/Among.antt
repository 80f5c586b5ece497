-- The steps of a run in which only ports of sets are snooped, beside those in which any port may be.
use Rattle.std.proofs.Common.{◌≡◌, ◌⊎◌, ℕ, Bool, true, false, ◌&&◌, ◌==◌, List, [], ◌∷◌, Option, Some, None, inl, inr, sym, ◌∙◌}
use Rattle.std.specs.Bool.{⊤}
use Rattle.std.specs.List.{list_all, list_any}
use Rattle.std.proofs.lemmas.Bool.{and_from, and_parts, cases_Bool, false_from_ne_true, or_cases, or_left, or_right}
use Rattle.ace_codes.specs.declared.kind.SnoopKind.{SnoopKind}
use Rattle.ace_event.specs.declared.event.Event.{Event}
use Rattle.ace_event.specs.declared.header.Header.{Header}
use Rattle.ace_model.specs.declared.transactions.Transaction.{Transaction}
use Rattle.ace_model.specs.Grants.{is_granted, ports_below}
use Rattle.ace_model.specs.Plans.{Plan}
use Rattle.ace_model.specs.Trace.{Trace, is_some_and, port_of}
use Rattle.ace_model.specs.Transactions.{is_outstanding, snoop_of}
use Rattle.ace_model.proofs.Trace.Growth.{some_issued-found, some_issued-is}
use Rattle.ace_runs.specs.Bursts.{is_kept, some_outstanding}
use Rattle.ace_runs.specs.LineSteps.{gives_snoops, is_snoop_for, may_snoop, snoop_for}
use Rattle.ace_runs.specs.SameEvents.{same_event}
use Rattle.ace_runs.specs.Steps.{Enabled, IsStep, StepKind, has_number, is_enabled_by, is_sound, is_step_by, may_give, steps_of}
use Rattle.ace_runs.proofs.NeverStuck.Steps.Lists.{all-implied}
use Rattle.ace_home.specs.Among.{EnabledAmong, IsStepAmong, PortSets, are_snoops_among, gives_snoops_among, has_snoop_among, is_snoop_among, is_step_by_among, may_snoop_among, step_among, steps_among}
use Rattle.ace_home.specs.Services.{has_snoop}

-- ---- snoops ------------------------------------------------------------------------------------------

any-port : (one other : ℕ → Bool) → ((q : ℕ) → one q ≡ true → other q ≡ true) → (ports : List ℕ) → list_any one ports ≡ true → list_any other ports ≡ true
any-port one other each [] t = cc
any-port one other each (q ∷ ports) t =
    elim (or_cases (one q) (list_any one ports) t) [
      | inl here ↦ or_left (other q) _ (each q here)
      | inr later ↦ or_right (other q) _ (any-port one other each ports later)
    ]

module _ (among : PortSets) (h : Header) (past : Trace) (x : Transaction) where
  any-of-kind : (o : Option SnoopKind) → is_some_and o (λ k. list_any (λ q. among x.addr q && is_kept h past (snoop_for x k q)) (ports_below h.ports)) ≡ true
      → is_some_and o (λ k. list_any (λ q. is_kept h past (snoop_for x k q)) (ports_below h.ports)) ≡ true
  any-of-kind None t = cc
  any-of-kind (Some k) t =
      any-port (λ q. among x.addr q && is_kept h past (snoop_for x k q)) (λ q. is_kept h past (snoop_for x k q))
      (λ q both. (and_parts (among x.addr q) (is_kept h past (snoop_for x k q)) both).1) (ports_below h.ports) t

  any-snoop : has_snoop_among among h past x ≡ true → has_snoop h past x ≡ true
  any-snoop t =
      let parts = and_parts (is_granted h past x) _ t in
      and_from (is_granted h past x) _ parts.0 (any-of-kind (snoop_of x) parts.1)

  -- where no port may be snooped, none of the set may
  pub fewer-snoops : has_snoop h past x ≡ false → has_snoop_among among h past x ≡ false
  fewer-snoops none =
      false_from_ne_true (has_snoop_among among h past x) (λ t. let some = any-snoop t in let bad : true ≡ false = sym some ∙ none in cc)

some-implied : (h : Header) (past : Trace) (p : ℕ) (one other : Transaction → Bool) → ((x : Transaction) → one x ≡ true → other x ≡ true)
    → some_outstanding h past p one ≡ true → some_outstanding h past p other ≡ true
some-implied h past p one other each some =
    let x = some_issued-is past (λ y. (y.port == p) && is_outstanding h past y && one y) some in
    let parts = and_parts ((x.0.port == p) && is_outstanding h past x.0) (one x.0) x.2 in
    some_issued-found past (λ y. (y.port == p) && is_outstanding h past y && other y) x.0.place x.0 x.1.there (and_from _ _ parts.0 (each x.0 parts.1))

of-one-port : (among : PortSets) (x : Transaction) (k : SnoopKind) (e : Event) → is_snoop_among among x k e ≡ true → is_snoop_for x k e ≡ true
of-one-port among x k e t = by (port_of e) t
  where
    by : (o : Option ℕ) → is_some_and o (λ q. among x.addr q && same_event e (snoop_for x k q)) ≡ true → is_some_and o (λ q. same_event e (snoop_for x k q)) ≡ true
    by None t = cc
    by (Some q) t = (and_parts (among x.addr q) (same_event e (snoop_for x k q)) t).1

of-any-port : (among : PortSets) (x : Transaction) (burst : List Event) (o : Option SnoopKind) → is_some_and o (λ k. list_all (is_snoop_among among x k) burst) ≡ true
    → is_some_and o (λ k. list_all (is_snoop_for x k) burst) ≡ true
of-any-port among x burst None t = cc
of-any-port among x burst (Some k) t = all-implied (is_snoop_among among x k) (is_snoop_for x k) (of-one-port among x k) burst t

gives-any : (among : PortSets) (h : Header) (past : Trace) (p : ℕ) (burst : List Event) → gives_snoops_among among h past p burst ≡ true → gives_snoops h past p burst ≡ true
gives-any among h past p burst gives =
    some-implied h past p (λ x. are_snoops_among among h past x burst) (λ x. is_granted h past x && is_some_and (snoop_of x) (λ k. list_all (is_snoop_for x k) burst))
    (λ x t.
    let parts = and_parts (is_granted h past x) (is_some_and (snoop_of x) (λ k. list_all (is_snoop_among among x k) burst)) t in
    and_from (is_granted h past x) _ parts.0 (of-any-port among x burst (snoop_of x) parts.1))
    gives

pub may-any : (among : PortSets) (h : Header) (past : Trace) (p : ℕ) → may_snoop_among among h past p ≡ true → may_snoop h past p ≡ true
may-any among h past p may = some-implied h past p (has_snoop_among among h past) (has_snoop h past) (any-snoop among h past) may

-- ---- steps -------------------------------------------------------------------------------------------

-- each step of the list that passes the one test passes the other
abbrev EachTo : (StepKind → Bool) → (StepKind → Bool) → List StepKind → Type 0
EachTo one other [] = ⊤
EachTo one other (s ∷ steps) = (one s ≡ true → other s ≡ true) × EachTo one other steps

any-to : (one other : StepKind → Bool) (steps : List StepKind) → EachTo one other steps → list_any one steps ≡ true → list_any other steps ≡ true
any-to one other [] each t = cc
any-to one other (s ∷ steps) each t =
    elim (or_cases (one s) (list_any one steps) t) [
      | inl now ↦ or_left (other s) _ (each.0 now)
      | inr later ↦ or_right (other s) _ (any-to one other steps each.1 later)
    ]

-- a step of some numbers is a step
any-numbered : (numbers : List ℕ) (test : StepKind → Bool) (steps : List StepKind) → list_any (λ s. has_number numbers s && test s) steps ≡ true → list_any test steps ≡ true
any-numbered numbers test [] t = cc
any-numbered numbers test (s ∷ steps) t =
    elim (or_cases (has_number numbers s && test s) (list_any (λ s. has_number numbers s && test s) steps) t) [
      | inl now ↦ or_left (test s) _ (and_parts (has_number numbers s) (test s) now).1
      | inr later ↦ or_right (test s) _ (any-numbered numbers test steps later)
    ]

module _ (among : PortSets) (plan : Plan) (past : Trace) (p : ℕ) (burst : List Event) where
  abbrev gives_it : StepKind → Bool
  gives_it s = may_give plan.header past p burst s

  six : (may_snoop_among among plan.header past p && gives_snoops_among among plan.header past p burst) ≡ true
      → (may_snoop plan.header past p && gives_snoops plan.header past p burst) ≡ true
  six t =
      let one = and_parts (may_snoop_among among plan.header past p) (gives_snoops_among among plan.header past p burst) t in
      and_from _ _ (may-any among plan.header past p one.0) (gives-any among plan.header past p burst one.1)

  -- it is a step of those numbers in which any port may be snooped
  pub step-of-any : (numbers : List ℕ) → is_step_by_among among numbers plan past p burst ≡ true → is_step_by numbers plan past p burst ≡ true
  step-of-any numbers t =
      let parts = and_parts (is_sound plan.header past burst) _ t in
      and_from (is_sound plan.header past burst) _ parts.0
      (any-to (λ s. has_number numbers s && gives_it (step_among among s)) (λ s. has_number numbers s && gives_it s) (steps_of plan past p)
      ((λ t. t), ((λ t. t), ((λ t. t), ((λ t. t), ((λ t. t), (counted, ((λ t. t), ((λ t. t), ((λ t. t), ((λ t. t), ((λ t. t), ((λ t. t), ((λ t. t), ((λ t. t), tt)))))))))))))) parts.1)
    where
      counted : (list_any (λ n. n == 6) numbers && (may_snoop_among among plan.header past p && gives_snoops_among among plan.header past p burst)) ≡ true
          → (list_any (λ n. n == 6) numbers && (may_snoop plan.header past p && gives_snoops plan.header past p burst)) ≡ true
      counted t = let two = and_parts (list_any (λ n. n == 6) numbers) _ t in and_from _ _ two.0 (six two.1)

  pub step-is : IsStepAmong among plan past p burst → IsStep plan past p burst
  step-is t =
      let parts = and_parts (is_sound plan.header past burst) _ t in
      and_from (is_sound plan.header past burst) _ parts.0
      (any-to (λ s. gives_it (step_among among s)) gives_it (steps_of plan past p)
      ((λ t. t), ((λ t. t), ((λ t. t), ((λ t. t), ((λ t. t), (six, ((λ t. t), ((λ t. t), ((λ t. t), ((λ t. t), ((λ t. t), ((λ t. t), ((λ t. t), ((λ t. t), tt)))))))))))))) parts.1)

  -- it is one of all those steps
  pub step-among-by : (numbers : List ℕ) → is_step_by_among among numbers plan past p burst ≡ true → IsStepAmong among plan past p burst
  step-among-by numbers t =
      let parts = and_parts (is_sound plan.header past burst) _ t in
      and_from (is_sound plan.header past burst) _ parts.0 (any-numbered numbers gives_it (steps_among among plan past p) parts.1)

  -- a step of other numbers than step 6 stays
  pub step-stays : (numbers : List ℕ) → list_any (λ n. n == 6) numbers ≡ false → is_step_by numbers plan past p burst ≡ true → is_step_by_among among numbers plan past p burst ≡ true
  step-stays numbers none t =
      let parts = and_parts (is_sound plan.header past burst) _ t in
      and_from (is_sound plan.header past burst) _ parts.0
      (any-to (λ s. has_number numbers s && gives_it s) (λ s. has_number numbers s && gives_it (step_among among s)) (steps_of plan past p)
      ((λ t. t), ((λ t. t), ((λ t. t), ((λ t. t), ((λ t. t), ((λ t. let six = (and_parts (list_any (λ n. n == 6) numbers) _ t).0 in let bad : true ≡ false = sym six ∙ none in cc), ((λ t. t), ((λ t. t), ((λ t. t), ((λ t. t), ((λ t. t), ((λ t. t), ((λ t. t), ((λ t. t), tt)))))))))))))) parts.1)

-- ---- ports that are enabled --------------------------------------------------------------------------

module _ (among : PortSets) (plan : Plan) (past : Trace) (p : ℕ) where
  abbrev is_on : StepKind → Bool
  is_on s = s.is_enabled plan.header past p

  -- by a step of other numbers than step 6
  pub enabled-stays : (numbers : List ℕ) → list_any (λ n. n == 6) numbers ≡ false → is_enabled_by numbers plan past p ≡ true → EnabledAmong among plan past p
  enabled-stays numbers none t =
      any-numbered numbers is_on (steps_among among plan past p)
      (any-to (λ s. has_number numbers s && is_on s) (λ s. has_number numbers s && is_on (step_among among s)) (steps_of plan past p)
      ((λ t. t), ((λ t. t), ((λ t. t), ((λ t. t), ((λ t. t), ((λ t. let six = (and_parts (list_any (λ n. n == 6) numbers) _ t).0 in let bad : true ≡ false = sym six ∙ none in cc), ((λ t. t), ((λ t. t), ((λ t. t), ((λ t. t), ((λ t. t), ((λ t. t), ((λ t. t), ((λ t. t), tt)))))))))))))) t)

  -- by a snoop of a port of the set
  pub enabled-by-snoops : may_snoop_among among plan.header past p ≡ true → EnabledAmong among plan past p
  enabled-by-snoops may = any-numbered (6 ∷ []) is_on (steps_among among plan past p) (or_left (may_snoop_among among plan.header past p) _ may)

  -- by another step, or by a snoop of any port
  pub enabled-but-snoops : Enabled plan past p → EnabledAmong among plan past p ⊎ (may_snoop plan.header past p ≡ true)
  enabled-but-snoops t = elim (cases_Bool (may_snoop plan.header past p)) [
    | inl may ↦ inr may
    | inr none ↦
        inl (any-to is_on (λ s. is_on (step_among among s)) (steps_of plan past p)
        ((λ t. t), ((λ t. t), ((λ t. t), ((λ t. t), ((λ t. t), ((λ t. let bad : true ≡ false = sym t ∙ none in cc), ((λ t. t), ((λ t. t), ((λ t. t), ((λ t. t), ((λ t. t), ((λ t. t), ((λ t. t), ((λ t. t), tt)))))))))))))) t)
  ]
