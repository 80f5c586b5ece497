use Rattle.std.proofs.Common.{ap, ◌∙◌, map}
use Rattle.std.proofs.lemmas.Map.Iter.{rest_more, rest_all}
use Rattle.std.specs.Map.Iter.{deref_pair}
use Rattle.ace_cert_make.specs.Tracks.{read_of}
use Rattle.ace_cert_make.proofs.Listing.{listed-all, listed-next}
use Rattle.ace_cert_make.proofs.reads.list_reads.Goals as goal

pub loop-number-init : goal.loop-number-init
loop-number-init c = rw c.new-list.ensures (ap (map read_of) (c.into_iter-number-iterator.ensures.into_iter_gives ∙ c.iter-number-items.ensures.rest))

pub loop-number-preserved : goal.loop-number-preserved
loop-number-preserved c =
    listed-next read_of c.loop-number.list c.add.new.list c.loop-number.number-iterator c.next.new.self (deref_pair (c.in-Some.number, c.in-Some.place)) _
    (rest_more deref_pair c.loop-number.number-iterator c.next.new.self c.next.result (c.in-Some.number, c.in-Some.place) c.in-Some.is c.next.ensures.steps)
    c.in-Ok.ensures c.loop-number.invariant

pub returns-clause-listed : goal.returns-clause-listed
returns-clause-listed c =
    listed-all read_of c.loop-number.list c.loop-number.number-iterator _
    (rest_all deref_pair c.loop-number.number-iterator c.next.new.self c.next.result c.in-None.is c.next.ensures.steps) c.loop-number.invariant
