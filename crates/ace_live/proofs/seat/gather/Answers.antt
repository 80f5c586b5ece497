use Rattle.std.proofs.Common.{rules, ◌≡◌, ap, ◌∙◌}
use Rattle.ace_live.specs.Seats.{LiveId, Token}
use Rattle.ace_live.proofs.Gathering.{joins_at, gather_more, own_last, idle_here}
use Rattle.ace_live.proofs.seat.gather.Goals as goal

pub join_seat-requires : goal.join_seat-requires
join_seat-requires c = let here : LiveId = record {
  table = c.args.board.now.table_id;
  setting = c.args.board.now.key;
} in let inv = c.loop-seat.invariant in let seat = c.in-Some-pop.seat in
    let own : seat.live ≡ here = own_last
    (λ (t : Token). t.live ≡ here) c.args.seats.items _ inv.2.0 _ seat c.requires.own inv.2.1 c.in-Some-pop.ensures.items in
    let at = idle_here seat.live here _ _ _ own c.into_place.ensures.1 in
    (inv.0, c.into_place.ensures.0 ∙ ap (λ (l : LiveId). l.table) own, ap (λ m. m.1) at, search rules, joins_at _ _ _ _ _ _ _ inv.1 at)

pub loop-seat-preserved : goal.loop-seat-preserved
loop-seat-preserved c = let inv = c.loop-seat.invariant in let e = c.join_seat.ensures in
    let more = gather_more c.args.seats.items _ _ c.in-Some-pop.seat c.args.board.now.key _ _ _ _ c.in-Some-pop.ensures.items
    c.into_place.ensures.1 inv.1 e.2 inv.2 in (e.0 ∙ inv.0, more.0, more.1)
