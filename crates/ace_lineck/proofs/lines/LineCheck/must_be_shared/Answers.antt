use Rattle.std.proofs.Common.{◌&&◌, sym, ap, ◌∙◌}
use Rattle.ace_lineck.proofs.Terms.{has_sharer, may_be_shared, must_be_shared, is_some_and, is_ace}
use Rattle.ace_lineck.proofs.lines.LineCheck.must_be_shared.Goals as goal

pub returns-in-None : goal.returns-in-None
returns-in-None c r s q there = sym (ap (λ o. is_some_and o (must_be_shared r.header r.past c.args.x.now)) (sym c.read_kind.ensures ∙ c.in-None.is))

pub returns-in-Some : goal.returns-in-Some
returns-in-Some c r s q there =
    let x = c.args.x.now in
    let k = c.in-Some.kind in
    c.must_be_shared.ensures ∙ ap (λ b. (is_ace c.args.self.now.header x.port && may_be_shared k) && b) (c.has_sharer.ensures r x.addr x s q there)
    ∙ ap (λ h. (is_ace h x.port && may_be_shared k) && has_sharer r.header r.past x.addr) s.header
    ∙ sym (ap (λ o. is_some_and o (must_be_shared r.header r.past x)) (sym c.read_kind.ensures ∙ c.in-Some.is))
