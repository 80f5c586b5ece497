use Rattle.std.proofs.Common.{◌≡◌, ◌<◌, ◌∷◌, ◌++◌, [], sym, ap, ◌∙◌, arith, true, false}
use Rattle.std.proofs.lemmas.Grind.{common_steps}
use Rattle.ace_portck.proofs.Terms.{deque_capacity, deque_len, has_write_data, is_some_and, write_kind}
use Rattle.ace_portck.proofs.WriteSteps.{writes_aw, writes_aw_none}
use Rattle.ace_portck.proofs.write_data.WriteBursts.begin.Goals as goal

pub returns-then-has_write_data : goal.returns-then-has_write_data
returns-then-has_write_data c = λ h past p i addr snoop dom bar a new s.
    let q = c.args.self.now in
    let x = c.args.write in
    let sends : is_some_and (write_kind x) has_write_data ≡ true =
    ap (λ o. is_some_and o has_write_data) (sym c.write_kind.ensures ∙ c.in-Some.is) ∙ sym c.has_write_data.ensures ∙ c.if-has_write_data.true in
    let low : x.id < 256 = omega arith in
    let step = writes_aw h past p q s i addr snoop dom bar x a new sends low in
    let k = c.push_back-full.ensures in
    let long = q.filling.ok.0 in
    let room = step.0 in
    let fit = s.filling_fit in
    let fits : deque_len q.filling < deque_capacity q.filling = omega (arith, long, room, fit) in
    let items : c.push_back-full.new.self.items ≡ q.filling.items ++ x ∷ [] = grind (arith, common_steps, k.succeeds fits, k.items) in
    let capacity = k.in_place fits in
    rw (items, capacity) step.1

pub returns-else-has_write_data : goal.returns-else-has_write_data
returns-else-has_write_data c = λ h past p i addr snoop dom bar a new s.
    let none : is_some_and (write_kind c.args.write) has_write_data ≡ false =
    ap (λ o. is_some_and o has_write_data) (sym c.write_kind.ensures ∙ c.in-Some.is) ∙ sym c.has_write_data.ensures ∙ c.if-has_write_data.false in
    writes_aw_none h past p c.args.self.now s i addr snoop dom bar c.args.write a new none
