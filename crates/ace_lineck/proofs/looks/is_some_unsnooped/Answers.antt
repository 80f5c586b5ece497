use Rattle.std.proofs.Common.{◌≡◌, ◌≤◌, ℕ, false, not, ◌&&◌, ◌==◌, sym, ◌∙◌, arith, nat_lt}
use Rattle.std.proofs.lemmas.Bool.{and_parts, false_from_ne_true, ltb-true}
use Rattle.ace_model.specs.Transactions.{is_ace}
use Rattle.ace_event.specs.declared.header.Header.{Header}
use Rattle.ace_lineck.specs.declared.grant.Grant.{Grant}
use Rattle.ace_lineck.specs.Grants.{stage_at}
use Rattle.ace_lineck.specs.Kept.{is_unsnooped}
use Rattle.ace_lineck.specs.Waiting.{is_unsnooped_at}
use Rattle.ace_lineck.proofs.WaitingLooks.{some-at, some-within}
use Rattle.ace_lineck.proofs.looks.is_some_unsnooped.Goals as goal

-- it is an ACE port
of-ace : (h : Header) (g : Grant) (q : ℕ) → is_ace h q ≡ false → is_unsnooped_at h g q ≡ false
of-ace h g q f =
    false_from_ne_true (is_unsnooped_at h g q) (λ t.
    let ace = (and_parts (is_unsnooped (stage_at g.stages q)) (is_ace h q) (and_parts (is_unsnooped (stage_at g.stages q) && is_ace h q) (not (q == g.transaction.port)) t).0).1 in cc)

-- no port beyond those of the header is
absent : (h : Header) (q : ℕ) → h.ports ≤ q → is_ace h q ≡ false
absent h q high = false_from_ne_true (is_ace h q) (λ t. let low = ltb-true q h.ports (and_parts (nat_lt q h.ports) _ t).0 in absurd (omega (arith, low, high)))

pub returns-then-is_unsnooped_at : goal.returns-then-is_unsnooped_at
returns-then-is_unsnooped_at c =
    let h = c.args.header.now in
    let g = c.args.g.now in
    let q = c.loop-port.port in
    let t = sym c.is_unsnooped_at.ensures ∙ c.if-is_unsnooped_at.true in
    let ace = (and_parts (is_unsnooped (stage_at g.stages q)) (is_ace h q) (and_parts (is_unsnooped (stage_at g.stages q) && is_ace h q) (not (q == g.transaction.port)) t).0).1 in
    sym (some-at h.ports (is_unsnooped_at h g) q t (ltb-true q h.ports (and_parts (nat_lt q h.ports) _ ace).0))

pub returns : goal.returns
returns c =
    let h = c.args.header.now in
    let g = c.args.g.now in
    let high = c.loop-port-test.false in
    let within = some-within (is_unsnooped_at h g) c.loop-port.port h.ports (λ q above. of-ace h g q (c.ace_end-port-end.ensures q (omega (arith, above, high)))) (λ q above. of-ace h g q (absent h q above)) in
    sym c.loop-port.invariant ∙ within
