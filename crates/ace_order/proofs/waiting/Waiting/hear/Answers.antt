use Rattle.std.proofs.Common.{false, ◌∷◌, slice_index_or, sym, ap, subst, ◌∙◌, inl, inr}
use Rattle.std.proofs.lemmas.Bool.{false_from_ne_true}
use Rattle.ace_model.proofs.General.Options.{Some-injective}
use Rattle.ace_order.specs.Waiting.{HasToWait, may_end_wait}
use Rattle.ace_order.proofs.Waits.{set-cases, waits-on}
use Rattle.ace_order.proofs.waiting.Waiting.hear.Goals as goal

pub returns-in-Some : goal.returns-in-Some
returns-in-Some c = λ h past ports system was p now.
    let e = c.args.event.now in
    let q = c.in-Some.port in
    let set = ap (λ xs. slice_index_or xs p false) (sym c.set.ensures) ∙ now in
    elim (set-cases c.args.self.now.ports q p c.has_to_wait-waits.result set) [
      | inl own ↦
          subst (HasToWait (e ∷ past)) own.0 (c.has_to_wait-waits.ensures own.1 (record { header = h; past = e ∷ past }) ports system)
      | inr old ↦
          let other = false_from_ne_true (may_end_wait e p) (λ ends. old.0 (Some-injective q p (sym c.in-Some.is ∙ c.moved_port.ensures p ends))) in
          waits-on past e p other (was p old.1)
    ]

pub returns-in_default : goal.returns-in_default
returns-in_default c = λ h past ports system was p now.
    let e = c.args.event.now in
    let other = false_from_ne_true (may_end_wait e p) (λ ends. c.in_default.not-Some p (c.moved_port.ensures p ends)) in
    waits-on past e p other (was p now)
