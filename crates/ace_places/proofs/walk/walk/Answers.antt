use Rattle.std.proofs.Common.{◌≡◌, ◌+◌, ◌-◌, ◌/◌, ◌<◌, sym, ◌∙◌, arith}
use Rattle.ace_places.specs.declared.walk.Look.TheVariants.{LeadsTo}
use Rattle.ace_places.specs.Walks.{link_at, steps, walk}
use Rattle.ace_places.proofs.Walks.{step}
use Rattle.ace_places.proofs.walk.walk.Goals as goal

pub loop-step-preserved : goal.loop-step-preserved
loop-step-preserved c =
    let lines = c.args.lines.now in
    let link = link_at c.args.links.now in
    let n = steps - c.loop-step._step in
    let some : 0 < n = omega arith in
    let less : steps - (c.loop-step._step + 1) ≡ n - 1 = omega arith in
    (λ i. walk lines link c.args.line (less i) (c.slot_below-slot.ensures i) (c.loop-step.digits / 16))
    ∙ sym (step lines link c.args.line n c.loop-step.slot c.loop-step.digits some (LeadsTo c.in-LeadsTo.place) (sym c.in-LeadsTo.is ∙ c.read_slot.ensures))
    ∙ c.loop-step.invariant
