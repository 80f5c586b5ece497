use Rattle.std.proofs.Common.{◌≡◌, ◌≤◌, ◌∙◌, ℕ, true, length, arith, ap, inl, inr}
use Rattle.std.proofs.lemmas.Grind.{common_steps}
use Rattle.std.proofs.lemmas.Bool.{cases_lt}
use Rattle.ace_lineck.proofs.Terms.{list_all, ports_below, is_done_at}
use Rattle.ace_lineck.proofs.GrantLaws.{all-below, done-beyond}
use Rattle.ace_lineck.proofs.grant_rules.is_one_by_one_done.Goals as goal

pub returns : goal.returns
returns c =
    let h = c.args.header.now in
    let g = c.args.g.now in
    let xs = c.args.kept.now.states in
    let end : c.loop-port.port ≡ c.kept_ports-port-end.result = grind (arith, common_steps) in
    let stages : length g.stages ≡ 32 = assumption c.well_formed in
    let states : length xs ≡ 32 = assumption c.well_formed in
    let beyond : (q : ℕ) → 32 ≤ q → is_done_at h g xs q ≡ true = λ q low. done-beyond h g xs q (omega (arith, stages, low)) (omega (arith, states, low)) in
    let all : list_all (is_done_at h g xs) (ports_below c.kept_ports-port-end.result) ≡ list_all (is_done_at h g xs) (ports_below h.ports) =
    elim (cases_lt 32 h.ports) [
      | inr few ↦ ap (λ n. list_all (is_done_at h g xs) (ports_below n)) (c.kept_ports-port-end.ensures.all few)
      | inl many ↦
          let low : 32 ≤ h.ports = omega (arith, many) in
          ap (λ n. list_all (is_done_at h g xs) (ports_below n)) (c.kept_ports-port-end.ensures.some many) ∙ all-below (is_done_at h g xs) 32 beyond h.ports low
    ] in
    c.loop-port.invariant ∙ ap (λ n. list_all (is_done_at h g xs) (ports_below n)) end ∙ all
