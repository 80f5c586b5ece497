use Rattle.std.proofs.Common.{◌≡◌, ◌∷◌, ◌++◌, [], true, false, if◌then◌else◌, List, Some, length, sym, ap, subst, ◌∙◌, arith}
use Rattle.ace_event.specs.declared.event.Event.{Event}
use Rattle.ace_event.specs.declared.event.Event.TheVariants.{B}
use Rattle.ace_runs.specs.LineSteps.{response}
use Rattle.ace_home.specs.Home.{HomeStands}
use Rattle.ace_home.specs.Services.{first_of, number_of, responds}
use Rattle.ace_home.specs.Turns.{IsServing}
use Rattle.ace_home.proofs.Serving.{Serves, legal-first, legal-second, served-by, serves-step, snoops-caused, snoops-served}
use Rattle.ace_home.proofs.home.Home.serve.Goals as goal

pub returns-in_default : goal.returns-in_default
returns-in_default g c = λ plan past p s due.
    let d = c.args.due.now in
    let among = g.F.Among.has c.args.among.now in
    let none = sym c.first.ensures ∙ c.in_default.is in
    let k = snoops-caused among plan past p d due none in
    snoops-served among plan past s.legal p d due none c.put_snoops.new.self k.0 k.1 c.put_snoops.new.out (c.put_snoops.ensures plan past k.0 s k.1)

pub returns-then-responds : goal.returns-then-responds
returns-then-responds g c = λ plan past p s due.
    let d = c.args.due.now in
    let among = g.F.Among.has c.args.among.now in
    let x = d.transaction in
    let v = d.service in
    let e = c.in-Some.first in
    let after : Event = B x.port x.id 0 in
    let is : first_of v ≡ Some e = sym c.first.ensures ∙ c.in-Some.is in
    let has : responds v ≡ true = sym c.responds.ensures ∙ c.if-responds.true in
    let first : HomeStands c.put.new.self plan (e ∷ past) = c.put.ensures.stands plan past s (legal-first among plan past s.legal p x due.pending v e is due.serves) in
    let second = c.put-then-responds.ensures.stands plan (e ∷ past) first (legal-second among plan past s.legal p x due.pending v e is due.serves has) in
    let begun = ap length c.requires in
    let one : c.put.new.out ≡ e ∷ [] = c.put.ensures.burst (omega (arith, begun)) ∙ ap (λ (es : List Event). es ++ e ∷ []) c.requires in
    let few = ap length one in
    let both : c.put-then-responds.new.out ≡ e ∷ after ∷ [] = c.put-then-responds.ensures.burst (omega (arith, few)) ∙ ap (λ (es : List Event). es ++ after ∷ []) one in
    let step = subst (λ b. Serves among plan past s.legal p x due.pending (number_of v) (e ∷ (if b then response x else []))) has (serves-step among plan past s.legal p x due.pending v e is due.serves) in
    subst (IsServing among c.put-then-responds.new.self plan past p d) (sym both) (served-by among plan past s.legal p d due e is c.put-then-responds.new.self (e ∷ after ∷ []) step second)

pub returns-else-responds : goal.returns-else-responds
returns-else-responds g c = λ plan past p s due.
    let d = c.args.due.now in
    let among = g.F.Among.has c.args.among.now in
    let x = d.transaction in
    let v = d.service in
    let e = c.in-Some.first in
    let is : first_of v ≡ Some e = sym c.first.ensures ∙ c.in-Some.is in
    let none : responds v ≡ false = sym c.responds.ensures ∙ c.if-responds.false in
    let first : HomeStands c.put.new.self plan (e ∷ past) = c.put.ensures.stands plan past s (legal-first among plan past s.legal p x due.pending v e is due.serves) in
    let begun = ap length c.requires in
    let one : c.put.new.out ≡ e ∷ [] = c.put.ensures.burst (omega (arith, begun)) ∙ ap (λ (es : List Event). es ++ e ∷ []) c.requires in
    let step = subst (λ b. Serves among plan past s.legal p x due.pending (number_of v) (e ∷ (if b then response x else []))) none (serves-step among plan past s.legal p x due.pending v e is due.serves) in
    subst (IsServing among c.put.new.self plan past p d) (sym one) (served-by among plan past s.legal p d due e is c.put.new.self (e ∷ []) step first)
