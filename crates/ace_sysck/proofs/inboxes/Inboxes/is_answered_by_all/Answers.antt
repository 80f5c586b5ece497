use Rattle.std.proofs.Common.{◌≡◌, ◌||◌, ℕ, suc, ◌+◌, Bool, not, true, false, refl, sym, ap, subst, ◌∙◌, arith}
use Rattle.std.proofs.lemmas.Bool.{and_from, false_from_ne_true}
use Rattle.ace_model.proofs.General.Ports.{each_at}
use Rattle.ace_sysck.proofs.Terms.{implies, list_all, ports_below, is_other_ace, awaits}
use Rattle.ace_sysck.proofs.inboxes.Inboxes.is_answered_by_all.Goals as goal

from-not : (b : Bool) → not b ≡ false → b ≡ true
from-not true e = refl
from-not false e = cc

pub returns-then-lacks : goal.returns-then-lacks
returns-then-lacks c =
    let test : ℕ → Bool = λ q. implies (is_other_ace c.args.header.now c.args.x.now.port q) (not (c.args.waiting || awaits c.args.self.now q c.args.x.now.place)) in
    let ports = c.args.header.now.ports in
    sym (false_from_ne_true (list_all test (ports_below ports)) (λ all.
    let bad : true ≡ false = sym c.if-lacks.true ∙ c.lacks.ensures ∙ ap not (each_at ports test c.loop-port.port all c.loop-port-test.true) in cc))

pub loop-port-preserved : goal.loop-port-preserved
loop-port-preserved c =
    let test : ℕ → Bool = λ q. implies (is_other_ace c.args.header.now c.args.x.now.port q) (not (c.args.waiting || awaits c.args.self.now q c.args.x.now.place)) in
    let here = from-not (test c.loop-port.port) (sym c.lacks.ensures ∙ c.if-lacks.false) in
    let next : c.loop-port.port + 1 ≡ suc c.loop-port.port = omega arith in
    subst (λ n. list_all test (ports_below n) ≡ true) (sym next) (and_from (test c.loop-port.port) _ here c.loop-port.invariant)

pub returns : goal.returns
returns c =
    let test : ℕ → Bool = λ q. implies (is_other_ace c.args.header.now c.args.x.now.port q) (not (c.args.waiting || awaits c.args.self.now q c.args.x.now.place)) in
    let end : c.loop-port.port ≡ c.args.header.now.ports = omega (arith, c.loop-port-test.false, c.loop-port.auto.port-end) in
    sym (subst (λ n. list_all test (ports_below n) ≡ true) end c.loop-port.invariant)
