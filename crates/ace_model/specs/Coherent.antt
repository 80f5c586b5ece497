-- Coherence: what an accepted trace is to have.
use Rattle.ace_event.specs.declared.header.Header.{Header}
use Rattle.ace_model.specs.Trace.{Trace}
use Rattle.ace_model.specs.DirtyPlace.{DirtyPlace}
use Rattle.ace_model.specs.ReadsFollow.{ReadsFollow}
use Rattle.ace_model.specs.Unique.{Unique, OneDirty}

-- At every point a unique line has one holder, a line has at most one dirty holder, and data newer
-- than memory are with that holder or in flight; and all reads follow one order of the line's
-- stores.
pub record Coherent (h : Header) (past : Trace) : Type 0 where
  pub unique : Unique h past
  pub one_dirty : OneDirty h past
  pub dirty_place : DirtyPlace h past
  pub reads_follow : ReadsFollow past
