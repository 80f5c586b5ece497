use Rattle.std.proofs.Common.{ap, ℕ, map}
use Rattle.std.proofs.lemmas.Map.Iter.{rest_more, rest_all}
use Rattle.ace_cert_make.specs.declared.track.LineTrack.{LineTrack}
use Rattle.ace_cert_make.specs.Tracks.{order_of}
use Rattle.ace_cert_make.proofs.Listing.{listed-all, listed-next}
use Rattle.ace_cert_make.proofs.lines.list_lines.Goals as goal

pub loop-addr-init : goal.loop-addr-init
loop-addr-init c = rw c.new-list.ensures (ap (map order_of) c.into_iter-addr-iterator.ensures.into_iter_gives.0)

pub loop-addr-preserved : goal.loop-addr-preserved
loop-addr-preserved c =
    listed-next order_of c.loop-addr.list c.add.new.list c.loop-addr.addr-iterator c.next.new.self (c.in-Some.addr, c.in-Some.track) _
    (rest_more (λ (p : ℕ × LineTrack). p) c.loop-addr.addr-iterator c.next.new.self c.next.result (c.in-Some.addr, c.in-Some.track)
    c.in-Some.is c.next.ensures.steps)
    c.in-Ok.ensures c.loop-addr.invariant

pub returns-clause-listed : goal.returns-clause-listed
returns-clause-listed c =
    listed-all order_of c.loop-addr.list c.loop-addr.addr-iterator _
    (rest_all (λ (p : ℕ × LineTrack). p) c.loop-addr.addr-iterator c.next.new.self c.next.result c.in-None.is c.next.ensures.steps) c.loop-addr.invariant
