-- A step that snoops only kept ports snoops lines at no other, and its snoops change no set.
use Rattle.std.proofs.Common.{◌≡◌, ◌⊎◌, ℕ, Bool, true, false, not, ◌&&◌, ◌==◌, List, [], ◌∷◌, Option, Some, None, inl, inr, refl, sym, subst, ◌∙◌}
use Rattle.std.specs.Bool.{⊤}
use Rattle.std.specs.List.{list_all, list_any}
use Rattle.std.proofs.lemmas.Bool.{and_from, and_parts, eqb-true, or_cases, or_right}
use Rattle.ace_codes.specs.declared.kind.SnoopKind.{SnoopKind}
use Rattle.ace_codes.specs.Snoops.{ac_code}
use Rattle.ace_event.specs.declared.event.Event.{Event}
use Rattle.ace_event.specs.declared.event.Event.TheVariants.{Ac}
use Rattle.ace_event.specs.declared.header.Header.{Header}
use Rattle.ace_model.specs.declared.transactions.Transaction.{Transaction}
use Rattle.ace_model.specs.Grants.{is_granted}
use Rattle.ace_model.specs.Kept.{kept_ports}
use Rattle.ace_model.specs.Plans.{Plan}
use Rattle.ace_model.specs.Snoops.{snoops_a_line}
use Rattle.ace_model.specs.Trace.{Trace, implies, is_some_and, port_of}
use Rattle.ace_model.specs.Transactions.{is_outstanding, snoop_of}
use Rattle.ace_model.proofs.General.Options.{is_some_and-is}
use Rattle.ace_model.proofs.Trace.Growth.{some_issued-is}
use Rattle.ace_runs.specs.LineSteps.{grant_burst, passed_burst, transfer_burst, update_burst, write_burst}
use Rattle.ace_runs.specs.Operations.{next_operation}
use Rattle.ace_runs.specs.OrderSteps.{barrier_burst, dvm_burst}
use Rattle.ace_runs.specs.Segments.{is_at_port}
use Rattle.ace_runs.specs.Steps.{StepKind, is_sound, may_give}
use Rattle.ace_runs.proofs.NeverStuck.Steps.Lists.{all-implied}
use Rattle.ace_runs.proofs.NeverStuck.Steps.SameEvents.{TellsSame, tells-same}
use Rattle.ace_runs.proofs.NeverStuck.Steps.Serving.{barrier-all, dvm-all, grant-all, passed-all, served-all, transfer-all, update-all, write-all}
use Rattle.ace_runs.proofs.Turns.{step-kept}
use Rattle.ace_engine.specs.Engines.{IsLegal, is_of_interconnect, is_of_order}
use Rattle.ace_home.specs.Among.{IsStepAmong, PortSets, are_snoops_among, gives_snoops_among, is_snoop_among, steps_among}
use Rattle.ace_home.proofs.Among.{step-is}
use Rattle.ace_fabric.proofs.MasterEvents.{acknowledges-own, answers-own, goes-on-own, is_own, sends-own}
use Rattle.ace_fabric.proofs.OrderEvents.{completion-own, forwards-own}
use Rattle.ace_filter.specs.Drain.{are_kept_snoops, is_kept_snoop}

-- the event is no snoop of a line
abbrev pub is_no_snoop : Event → Bool
is_no_snoop (Ac p addr snoop) = not (snoops_a_line snoop)
is_no_snoop _ = true

-- the event is a snoop of a port of the set
abbrev pub goes_among : PortSets → Event → Bool
goes_among among (Ac p addr snoop) = among addr p
goes_among among _ = false

-- no event is a snoop of a line, or each is a snoop of a port of the set
abbrev pub SnoopsAmong : PortSets → List Event → Type 0
SnoopsAmong among burst = (list_all is_no_snoop burst ≡ true) ⊎ (list_all (goes_among among) burst ≡ true)

-- ---- each step ---------------------------------------------------------------------------------------

-- what holds where any step of the list gives the burst
abbrev EachGiven : Header → Trace → ℕ → List Event → Type 0 → List StepKind → Type 0
EachGiven h past p burst P [] = ⊤
EachGiven h past p burst P (s ∷ steps) = (s.gives h past p burst ≡ true → P) × EachGiven h past p burst P steps

of-given : (h : Header) (past : Trace) (p : ℕ) (burst : List Event) (P : Type 0) (steps : List StepKind) → EachGiven h past p burst P steps
    → list_any (may_give h past p burst) steps ≡ true → P
of-given h past p burst P [] each t = cc
of-given h past p burst P (s ∷ steps) each t =
    elim (or_cases (may_give h past p burst s) (list_any (may_give h past p burst) steps) t) [
      | inl now ↦ each.0 (and_parts (s.is_enabled h past p) (s.gives h past p burst) now).1
      | inr later ↦ of-given h past p burst P steps each.1 later
    ]

same : TellsSame is_no_snoop
same = tells-same is_no_snoop (λ p c i line. refl) (λ p a s x line. refl) (λ a line. refl)

of-master : (p : ℕ) (e : Event) → is_own p e ≡ true → is_no_snoop e ≡ true
of-master p (Ac q addr snoop) own = let bad = (and_parts (is_at_port p (Ac q addr snoop)) (not (is_of_interconnect (Ac q addr snoop))) own).1 in cc
of-master p e own = refl

of-order : (past : Trace) (e : Event) → is_of_order past e ≡ true → is_no_snoop e ≡ true
of-order past (Ac q addr snoop) own = own
of-order past e own = refl

module _ (among : PortSets) where
  of-snoop : (x : Transaction) (k : SnoopKind) (e : Event) → is_snoop_among among x k e ≡ true → goes_among among e ≡ true
  of-snoop x k (Ac q addr snoop) t =
      let two = and_parts (among x.addr q) _ t in
      let at = (and_parts (q == q) (addr == x.addr) (and_parts ((q == q) && (addr == x.addr)) (snoop == ac_code k) two.1).0).1 in
      subst (λ l. among l q ≡ true) (sym (eqb-true addr x.addr at)) two.0
  of-snoop x k e t = by (port_of e) t
    where
      by : (o : Option ℕ) → is_some_and o (λ q. among x.addr q && false) ≡ true → goes_among among e ≡ true
      by None t = cc
      by (Some q) t = let bad = (and_parts (among x.addr q) false t).1 in cc

  snoops-among : (h : Header) (past : Trace) (p : ℕ) (burst : List Event) → gives_snoops_among among h past p burst ≡ true → list_all (goes_among among) burst ≡ true
  snoops-among h past p burst t =
      let x = some_issued-is past (λ x. (x.port == p) && is_outstanding h past x && are_snoops_among among h past x burst) t in
      let of = (and_parts (is_granted h past x.0) _ (and_parts ((x.0.port == p) && is_outstanding h past x.0) (are_snoops_among among h past x.0 burst) x.2).1).1 in
      let k = is_some_and-is (snoop_of x.0) (λ k. list_all (is_snoop_among among x.0 k) burst) of in
      all-implied (is_snoop_among among x.0 k.0) (goes_among among) (of-snoop x.0 k.0) burst k.2

  -- what a step snoops in which only ports of the sets are snooped
  step-snoops : (plan : Plan) (past : Trace) (p : ℕ) (burst : List Event) → IsLegal plan past → IsStepAmong among plan past p burst → SnoopsAmong among burst
  step-snoops plan past p burst legal s =
      let h = plan.header in
      let next = next_operation plan past p in
      let test = is_no_snoop in
      let kept = step-kept plan past p burst (step-is among plan past p burst s) in
      let master : list_all (is_own p) burst ≡ true → SnoopsAmong among burst = λ all. inl (all-implied (is_own p) is_no_snoop (of-master p) burst all) in
      let order : list_all (is_of_order past) burst ≡ true → SnoopsAmong among burst = λ all. inl (all-implied (is_of_order past) is_no_snoop (of-order past) burst all) in
      of-given h past p burst (SnoopsAmong among burst) (steps_among among plan past p) (
        (λ g. master (answers-own h past p burst g)),
        (
          (λ g. master (sends-own h past p burst g)),
          (
            (λ g. inl (served-all test same update_burst h past p burst (update-all test (λ q c i line. refl) (λ q i resp. refl) h past) g)),
            (
              (λ g. master (acknowledges-own next h past p burst g)),
              (
                (λ g. inl (served-all test same grant_burst h past p burst (grant-all test (λ q c i. refl) h past) g)),
                (
                  (λ g. inr (snoops-among h past p burst g)),
                  (
                    (λ g. inl (served-all test same passed_burst h past p burst (passed-all test (λ q c i line. refl) h past) g)),
                    (
                      (λ g. inl (served-all test same transfer_burst h past p burst (transfer-all test (λ q i resp last word. refl) h past) g)),
                      (
                        (λ g. inl (served-all test same write_burst h past p burst (write-all test (λ q c i line. refl) (λ q i resp. refl) h past) g)),
                        (
                          (λ g. inl (served-all test same barrier_burst h past p burst (barrier-all test (λ q i resp last word. refl) (λ q i resp. refl) h past) g)),
                          (
                            (λ g. order (forwards-own h past p burst legal.right.version legal.accepted kept g)),
                            (
                              (λ g. inl (served-all test same dvm_burst h past p burst (dvm-all test (λ q i resp last word. refl) h past) g)),
                              ((λ g. order (completion-own h past p burst g)), ((λ g. master (goes-on-own plan.ways next h past p burst g)), tt)),
                            ),
                          ),
                        ),
                      ),
                    ),
                  ),
                ),
              ),
            ),
          ),
        ),
      )
      (and_parts (is_sound h past burst) (list_any (may_give h past p burst) (steps_among among plan past p)) s).1

-- ---- at each point -----------------------------------------------------------------------------------

none-snooped : (h : Header) (past : Trace) (burst : List Event) → list_all is_no_snoop burst ≡ true → are_kept_snoops h past burst ≡ true
none-snooped h past [] all = refl
none-snooped h past (e ∷ burst) all =
    let parts = and_parts (is_no_snoop e) (list_all is_no_snoop burst) all in
    and_from _ _ (kept e parts.0) (none-snooped h (e ∷ past) burst parts.1)
  where
    by : (b c : Bool) → not b ≡ true → implies b c ≡ true
    by true c n = cc
    by false c n = refl

    kept : (e : Event) → is_no_snoop e ≡ true → is_kept_snoop h past e ≡ true
    kept (Ac q addr snoop) n = by (snoops_a_line snoop) (kept_ports h past addr q) n
    kept e n = refl

-- a snoop changes no set
all-snooped : (among : PortSets) (h : Header) (past : Trace) (burst : List Event) → ((l p : ℕ) → kept_ports h past l p ≡ among l p) → list_all (goes_among among) burst ≡ true
    → are_kept_snoops h past burst ≡ true
all-snooped among h past [] is all = refl
all-snooped among h past (Ac q addr snoop ∷ burst) is all =
    let parts = and_parts (among addr q) (list_all (goes_among among) burst) all in
    and_from _ _ (or_right (not (snoops_a_line snoop)) (kept_ports h past addr q) (is addr q ∙ parts.0)) (all-snooped among h (Ac q addr snoop ∷ past) burst is parts.1)
all-snooped among h past (e ∷ burst) is all = cc

-- a step that snoops only kept ports
pub step-kept-snoops : (among : PortSets) (plan : Plan) (past : Trace) (p : ℕ) (burst : List Event) → IsLegal plan past → ((l p : ℕ) → kept_ports plan.header past l p ≡ among l p)
    → IsStepAmong among plan past p burst → are_kept_snoops plan.header past burst ≡ true
step-kept-snoops among plan past p burst legal is s =
    elim (step-snoops among plan past p burst legal s) [
      | inl none ↦ none-snooped plan.header past burst none
      | inr all ↦ all-snooped among plan.header past burst is all
    ]
