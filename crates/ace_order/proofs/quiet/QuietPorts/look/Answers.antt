use Rattle.std.proofs.Common.{◌≡◌, false, slice_index_or, sym, ap, subst, ◌∙◌, inl, inr}
use Rattle.std.proofs.lemmas.Bool.{not-true}
use Rattle.ace_order.specs.Quiet.{has_dvm}
use Rattle.ace_order.proofs.Waits.{set-cases}
use Rattle.ace_order.proofs.WithoutDvm.{dvm-told}
use Rattle.ace_order.proofs.quiet.QuietPorts.look.Goals as goal

pub returns-then-not-has : goal.returns-then-not-has
returns-then-not-has c = λ h past ports was p now.
    let q = c.args.port in
    let set = ap (λ xs. slice_index_or xs p false) (sym c.set.ensures) ∙ now in
    elim (set-cases c.args.self.now.ports q p _ set) [
      | inl own ↦
          let told = c.has_dvm-quiet.ensures ∙ dvm-told h past q c.reads.result.now (c.reads.ensures (record { header = h; past = past }) ports) in
          subst (λ r. has_dvm h past r ≡ false) own.0 (sym told ∙ not-true c.has_dvm-quiet.result own.1)
      | inr old ↦ was p old.1
    ]
