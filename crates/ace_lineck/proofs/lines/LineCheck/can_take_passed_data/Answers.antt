use Rattle.std.proofs.Common.{Bool, not, ◌&&◌, sym, ap, ◌∙◌}
use Rattle.ace_lineck.proofs.Terms.{ArKind, Header, Transaction, has_sharer, is_read_not_shared_dirty, takes_passed_data, Trace, is_some_and}
use Rattle.ace_lineck.proofs.lines.LineCheck.can_take_passed_data.Goals as goal

abbrev can_take : Header → Trace → Transaction → ArKind → Bool
can_take h past x k = takes_passed_data k && not (is_read_not_shared_dirty k && has_sharer h past x.addr)

pub returns-in-None : goal.returns-in-None
returns-in-None c r s q there = sym (ap (λ o. is_some_and o (can_take r.header r.past c.args.x.now)) (sym c.read_kind.ensures ∙ c.in-None.is))

pub returns-in-Some : goal.returns-in-Some
returns-in-Some c r s q there =
    let x = c.args.x.now in
    let k = c.in-Some.kind in
    c.can_take.ensures ∙ ap (λ b. takes_passed_data k && not (is_read_not_shared_dirty k && b)) (c.has_sharer.ensures r x.addr x s q there)
    ∙ sym (ap (λ o. is_some_and o (can_take r.header r.past x)) (sym c.read_kind.ensures ∙ c.in-Some.is))
