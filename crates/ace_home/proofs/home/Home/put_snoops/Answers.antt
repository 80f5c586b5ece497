use Rattle.std.proofs.Common.{◌≡◌, ◌+◌, ◌<◌, ◌&&◌, [], ◌∷◌, ◌++◌, length, sym, ap, subst, ◌∙◌, refl, arith}
use Rattle.std.proofs.lemmas.Bool.{and_parts}
use Rattle.ace_event.specs.declared.event.Event.{Event}
use Rattle.ace_event.specs.declared.header.Header.{Header}
use Rattle.ace_model.proofs.General.Options.{Some-injective}
use Rattle.ace_runs.specs.Bursts.{is_kept, onto}
use Rattle.ace_runs.specs.LineSteps.{snoop_for}
use Rattle.ace_engine.proofs.OfInterconnect.{legal-with}
use Rattle.ace_engine.specs.Engines.{IsLegal}
use Rattle.ace_home.specs.declared.home.Home.{Home}
use Rattle.ace_home.specs.Home.{HomeStands}
use Rattle.ace_home.specs.Turns.{AreSnoops}
use Rattle.ace_home.proofs.FewPorts.{few-ports}
use Rattle.ace_home.proofs.Snoops.{no-snoops, snoops-as-before, snoops-looked, snoops-with}
use Rattle.ace_home.proofs.home.Home.put_snoops.Goals as goal
use Rattle.ace_home.proofs.home.Home.put_snoops.Goals.{then-may_snoop_of, else-may_snoop_of}

pub returns-in_default : goal.returns-in_default
returns-in_default g c = λ plan past kind s caused. let none = sym c.snoop_of.ensures ∙ c.in_default.is in let bad = sym caused ∙ none in cc

pub loop-port-init : goal.loop-port-init
loop-port-init g c = λ plan past s caused.
    subst (AreSnoops (g.F.Among.has c.args.among.now) c.args.self.now plan past c.args.x.now c.in-Some.kind 0) (sym c.requires) (no-snoops (g.F.Among.has c.args.among.now) plan past c.args.x.now c.in-Some.kind c.args.self.now s)

pub loop-port-preserved : goal.loop-port-preserved
loop-port-preserved g c = λ plan past s caused.
    let h = plan.header in
    let x = c.args.x.now in
    let k = c.in-Some.kind in
    let q = c.loop-port.port in
    let b = c.loop-port.invariant plan past s caused in
    let t = onto c.loop-port.out past in
    let among = g.F.Among.has c.args.among.now in
    let most = few-ports h s.legal.right.header s.legal.right.version in
    let ports = ap (λ (g : Header). g.ports) s.header in
    let low = c.loop-port-test.true in
    let low32 : q < 32 = omega (arith, ports, most, low) in
    let asked : c.may_snoop_of.result ≡ (among x.addr q && is_kept h t (snoop_for x k q)) =
    c.may_snoop_of.ensures plan t b.stands low32 ∙ ap (λ v. v && is_kept h t (snoop_for x k q)) (c.may-ports.ensures q low32) in
    elim c.if-may_snoop_of.branch [
      | else-may_snoop_of w ↦
          subst (AreSnoops among c.if-may_snoop_of.self plan past x k (q + 1)) (sym w.out-is)
          (subst (λ (v : Home). AreSnoops among v plan past x k (q + 1) c.loop-port.out) (sym w.self-is)
          (snoops-as-before among plan past x k c.loop-port.self q c.loop-port.out b (sym asked ∙ w.if-may_snoop_of.false)))
      | then-may_snoop_of w ↦
          let both = and_parts (among x.addr q) (is_kept h t (snoop_for x k q)) (sym asked ∙ w.if-may_snoop_of.true) in
          let kept = both.1 in
          let legal : IsLegal plan (snoop_for x k q ∷ t) = legal-with plan t (snoop_for x k q) refl b.stands.legal kept in
          let put : HomeStands w.put.new.self plan (snoop_for x k q ∷ t) =
          subst (λ (e : Event). HomeStands w.put.new.self plan (e ∷ t)) w.snoop_for.ensures
          (w.put.ensures.stands plan t b.stands (subst (λ (e : Event). IsLegal plan (e ∷ t)) (sym w.snoop_for.ensures) legal)) in
          let few = b.few in
          let room : length c.loop-port.out < 16 = omega (arith, few, ports, most, low) in
          let out = w.put.ensures.burst room ∙ ap (λ (e : Event). c.loop-port.out ++ e ∷ []) w.snoop_for.ensures in
          subst (AreSnoops among c.if-may_snoop_of.self plan past x k (q + 1)) (sym (w.out-is ∙ out))
          (subst (λ (v : Home). AreSnoops among v plan past x k (q + 1) (c.loop-port.out ++ snoop_for x k q ∷ [])) (sym w.self-is)
          (snoops-with among plan past x k c.loop-port.self w.put.new.self q c.loop-port.out caused b both.0 kept put))
    ]

pub returns : goal.returns
returns g c = λ plan past kind s caused.
    let own = sym c.snoop_of.ensures ∙ c.in-Some.is in
    let same = Some-injective c.in-Some.kind kind (sym own ∙ caused) in
    let ports = ap (λ (g : Header). g.ports) s.header in
    let high = c.loop-port-test.false in
    let most = c.loop-port.auto.port-end in
    let end : c.loop-port.port ≡ plan.header.ports = omega (arith, ports, high, most) in
    let put =
    subst (λ k. AreSnoops (g.F.Among.has c.args.among.now) c.loop-port.self plan past c.args.x.now k plan.header.ports c.loop-port.out) same
    (subst (λ n. AreSnoops (g.F.Among.has c.args.among.now) c.loop-port.self plan past c.args.x.now c.in-Some.kind n c.loop-port.out) end (c.loop-port.invariant plan past s own)) in
    snoops-looked (g.F.Among.has c.args.among.now) plan past c.args.x.now kind c.loop-port.self c.look_at_unsnooped.new.self plan.header.ports c.loop-port.out put
    (c.look_at_unsnooped.ensures plan (onto c.loop-port.out past) put.stands)
