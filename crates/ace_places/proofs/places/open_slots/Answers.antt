use Rattle.std.proofs.Common.{ap, ◌∙◌}
use Rattle.ace_places.specs.Walks.{link_at}
use Rattle.ace_places.proofs.Slots.{link-stays}
use Rattle.ace_places.proofs.places.open_slots.Goals as goal

pub returns-clause-links : goal.returns-clause-links
returns-clause-links c s =
    ap (λ l. link_at l s) c.add_slots.ensures.items ∙ link-stays _ 1024 s ∙ ap (λ l. link_at l s) c.in_ok-reserve.ensures.items
