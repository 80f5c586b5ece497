-- What the master of an ACE port keeps says of a trace.
use Rattle.std.specs.Prelude.{ℕ, ◌≡◌, true}
use Rattle.ace_model.specs.Plans.{Plan}
use Rattle.ace_model.specs.Trace.{Trace}
use Rattle.ace_model.specs.Transactions.{is_ace}
use Rattle.ace_engine.specs.Engines.{IsLegal}
use Rattle.ace_engine.specs.Rooms.{most_snoops}
use Rattle.ace_portck.specs.OnePort.{IsRoomy, OnePortStands}
use Rattle.ace_master_state.specs.declared.kept.Kept.{Kept}
use Rattle.ace_master_state.specs.Cached.{CachedStands}
use Rattle.ace_master_state.specs.Completions.{CompletionsStand}
use Rattle.ace_master_state.specs.Identifiers.{IdentifiersStand}
use Rattle.ace_master_state.specs.Monitor.{MonitorStands}
use Rattle.ace_master_state.specs.Segment.{SegmentStands}
use Rattle.ace_master_state.specs.Syncs.{SyncsStand}

-- What is kept beside the port's transactions and snoops says what there is to say of the port
-- after the trace.
pub record RestStands (plan : Plan) (past : Trace) (p : ℕ) (s : Kept) : Type 0 where
  pub identifiers : IdentifiersStand plan.header past p s.identifiers
  pub lines : CachedStands plan.header plan.ways past p s.lines
  pub monitor : MonitorStands plan.header past p s.monitor
  pub segment : SegmentStands past p s.segment
  pub completions : CompletionsStand past p s.completions
  pub syncs : SyncsStand past p s.syncs

-- Each part says what there is to say of the port, after a trace for which an engine may stand, and
-- there is room for all snoops of a plan.
pub record KeptStands (plan : Plan) (past : Trace) (p : ℕ) (s : Kept) : Type 0 where
  pub legal : IsLegal plan past
  pub ace : is_ace plan.header p ≡ true
  pub port : OnePortStands s.port plan.header past p
  pub room : IsRoomy most_snoops s.port
  pub identifiers : IdentifiersStand plan.header past p s.identifiers
  pub lines : CachedStands plan.header plan.ways past p s.lines
  pub monitor : MonitorStands plan.header past p s.monitor
  pub segment : SegmentStands past p s.segment
  pub completions : CompletionsStand past p s.completions
  pub syncs : SyncsStand past p s.syncs
