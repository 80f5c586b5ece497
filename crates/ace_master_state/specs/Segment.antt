-- What is kept of the segment of a port says of a trace.
use Rattle.std.specs.Prelude.{ℕ, ◌≡◌, ◌≤◌, vec_capacity}
use Rattle.ace_model.specs.Trace.{Trace}
use Rattle.ace_runs.specs.Segments.{acts_made, segment}
use Rattle.ace_master_state.specs.declared.segment.Segment.{Segment}

pub record SegmentStands (past : Trace) (p : ℕ) (s : Segment) : Type 0 where
  pub port : s.port ≡ p
  pub issued : s.issued.items ≡ segment past p
  pub acts : s.acts ≡ acts_made past p
  pub room : 3 ≤ vec_capacity s.issued
