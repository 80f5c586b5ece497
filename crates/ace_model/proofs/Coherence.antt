-- An accepted trace is coherent [Coherent]: at every point a unique line has one holder and a dirty line one
-- owner, as Holders proves; data newer than memory have a place and every valid copy is the value, as Values proves from
-- that; and all reads follow one order of the stores, as ReadsFollow proves from the place of the data.
use Rattle.std.specs.List.{AllByRecursion}
use Rattle.ace_model.proofs.Terms.{Header, FitsFields, Trace, IsAccepted, Coherent}
use Rattle.ace_model.proofs.Holders.Law.{accepted_unique, accepted_one_dirty}
use Rattle.ace_model.proofs.Values.Law.{dirty_data_placed}
use Rattle.ace_model.proofs.ReadsFollow.Law.{reads_follow}

pub accepted_coherent : (h : Header) (past : Trace) → IsAccepted h past → AllByRecursion FitsFields past → Coherent h past
accepted_coherent h past a r = record {
  unique = accepted_unique h past a;
  one_dirty = accepted_one_dirty h past a;
  dirty_place = dirty_data_placed h past a r;
  reads_follow = reads_follow h past a r;
}
