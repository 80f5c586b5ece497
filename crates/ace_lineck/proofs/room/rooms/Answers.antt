use Rattle.std.proofs.Common.{◌≡◌, ◌+◌, ◌++◌, [], ◌∷◌, length, sym, ap, subst, ◌∙◌, arith, length-append}
use Rattle.std.proofs.lemmas.Grind.{common_steps}
use Rattle.std.proofs.lemmas.List.Elements.{All-push}
use Rattle.ace_lineck.proofs.Terms.{AreRoomFor}
use Rattle.ace_lineck.proofs.room.rooms.Goals as goal

pub loop-line-preserved : goal.loop-line-preserved
loop-line-preserved c =
    let room = c.in_ok-room.room in
    let items : c.push.new.self.items ≡ c.loop-line.rooms.items ++ room ∷ [] = grind (arith, common_steps) in
    let count = c.loop-line.invariant.count in
    let more : length (c.loop-line.rooms.items ++ room ∷ []) ≡ length c.loop-line.rooms.items + 1 = length-append c.loop-line.rooms.items (room ∷ []) in
    record {
      count = ap length items ∙ omega (arith, more, count);
      each = subst (AreRoomFor c.args.ports) (sym items) (All-push (λ n. n ≡ c.args.ports) c.loop-line.rooms.items room c.loop-line.invariant.each c.in_ok-room.ensures);
    }
