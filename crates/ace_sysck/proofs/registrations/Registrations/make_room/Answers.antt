use Rattle.std.proofs.Common.{◌≡◌, None, nat_eq, true, false, arith}
use Rattle.ace_sysck.proofs.Terms.{get}
use Rattle.ace_portck.proofs.LineMaps.{room-for-line}
use Rattle.ace_sysck.proofs.registrations.Registrations.make_room.Goals as goal

pub returns-in_err-add-clause-succeeds : goal.returns-in_err-add-clause-succeeds
returns-in_err-add-clause-succeeds c = λ n past known room few.
    let m = c.args.self.now.lines in
    let none : get nat_eq m c.args.line ≡ None = c.in_err-add.ensures.absent in
    let low = room-for-line n past m c.args.line room none known few in
    let places = room.places in
    let bad : false ≡ true = c.in_err-add.ensures.succeeds (omega (arith, low, places)) in cc
