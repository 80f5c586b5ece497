use Rattle.std.proofs.Common.{if◌then◌else◌, sym, subst, ◌∙◌}
use Rattle.ace_runs.specs.Requests.{read_bursts, room_bursts}
use Rattle.ace_master.specs.Asking.{IsOneOf}
use Rattle.ace_master.proofs.AskedBursts.OneBurst.{only-one}
use Rattle.ace_master.proofs.bursts.miss_burst.Goals as goal

pub returns-then-has_room : goal.returns-then-has_room
returns-then-has_room c = λ h ways past p s ids lines.
    let room = sym (c.has_room.ensures h ways past p lines) ∙ c.if-has_room.true in
    subst (λ b. IsOneOf c.read_burst.result (if b then read_bursts h past p c.args.kind c.args.addr c.args.lock else room_bursts h past p)) (sym room)
    (only-one c.read_burst.result _ (c.read_burst.ensures h past p s ids))
