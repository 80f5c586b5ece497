use Rattle.std.proofs.Common.{◌≡◌, option_copied, Some, sym, ap, ◌∙◌}
use Rattle.ace_check.proofs.AcknowledgeLaws.{read-outstanding}
use Rattle.ace_event.specs.declared.event.Event.TheVariants.{Rk}
use Rattle.ace_portck.specs.Targets.{transaction_in}
use Rattle.ace_points.proofs.ends.read_end_shown.Goals as goal

pub returns-in-Some-read_kind : goal.returns-in-Some-read_kind
returns-in-Some-read_kind c = λ r p l s.
    let x = c.in-Some.x.now in
    let own : transaction_in r.header r.past (Rk c.args.port c.args.st) ≡ Some x = sym (c.acknowledged.ensures r p) ∙ ap option_copied c.in-Some.is in
    rw (own, sym c.read_kind.ensures ∙ c.in-Some-read_kind.is) (c.read_end_of.ensures r l s (read-outstanding r.header r.past c.args.port c.args.st l.accepted x own))
