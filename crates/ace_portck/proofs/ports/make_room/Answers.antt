use Rattle.std.proofs.Common.{◌≡◌, ◌<◌, ◌≤◌, length, Some, slice_get, slice_set, slice_index_or, sym, subst, arith}
use Rattle.std.proofs.lemmas.Grind.{common_steps}
use Rattle.std.proofs.lemmas.List.{get_or_read}
use Rattle.std.proofs.lemmas.Option.{slice_get_within}
use Rattle.ace_portck.proofs.Terms.{PortRecord, PortStands, HasRoomForOne, record_at}
use Rattle.ace_portck.proofs.AllPorts.{on_ok, on_err, set_there, ports_set}
use Rattle.ace_portck.proofs.ports.make_room.Goals as goal

pub returns-in-Some-clause-stands : goal.returns-in-Some-clause-stands
returns-in-Some-clause-stands c = λ h past outside s.
    let i = c.args.port in
    let items = c.args.ports.now.items in
    let at : c.from.result ≡ i = c.from.ensures in
    let within : i < length items = grind (arith, common_steps) in
    let value : c.in-Some.kept.now ≡ slice_index_or items i c.in-Some.kept.now = grind (arith, common_steps) in
    let is : c.in-Some.kept.now ≡ record_at items outside i = get_or_read items i c.in-Some.kept.now within value outside in
    let here = c.make_snoop_room.ensures.stands h past i (subst (PortStands h past i) (sym is) (s i)) in
    rw at (ports_set h past items outside c.make_snoop_room.new.self i within here (λ p off. s p))

pub returns-in-Some-clause-room : goal.returns-in-Some-clause-room
returns-in-Some-clause-room c =
    let i = c.args.port in
    let items = c.args.ports.now.items in
    let at : c.from.result ≡ i = c.from.ensures in
    let within : i < length items = grind (arith, common_steps) in
    let value : c.in-Some.kept.now ≡ slice_index_or items i c.in-Some.kept.now = grind (arith, common_steps) in
    let new = c.make_snoop_room.new.self in
    on_ok c.make_snoop_room.result c.make_snoop_room.ensures.room
    (λ room k there.
    let same : new ≡ k = set_there items i new k within (subst (λ n. slice_get (slice_set items n new) i ≡ Some k) at there) in
    subst (λ (v : PortRecord). HasRoomForOne v.snoops) same room)

pub returns-in-Some-clause-cause : goal.returns-in-Some-clause-cause
returns-in-Some-clause-cause c =
    let i = c.args.port in
    let items = c.args.ports.now.items in
    let at : c.from.result ≡ i = c.from.ensures in
    let within : i < length items = grind (arith, common_steps) in
    let value : c.in-Some.kept.now ≡ slice_index_or items i c.in-Some.kept.now = grind (arith, common_steps) in
    on_err c.make_snoop_room.result c.make_snoop_room.ensures.cause
    (λ rises h past outside addr snoop s.
    let is : c.in-Some.kept.now ≡ record_at items outside i = get_or_read items i c.in-Some.kept.now within value outside in
    rises h past i addr snoop (subst (PortStands h past i) (sym is) (s i)))

pub returns-in-None-clause-room : goal.returns-in-None-clause-room
returns-in-None-clause-room c = λ k there.
    let low = slice_get_within c.args.ports.now.items c.args.port k there in
    let at : c.from.result ≡ c.args.port = c.from.ensures in
    let past_end : length c.args.ports.now.items ≤ c.args.port = grind (arith, common_steps) in
    absurd (omega (arith, low, past_end))
