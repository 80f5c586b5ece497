use Rattle.std.proofs.Common.{◌≡◌, ◌++◌, List, ℕ, Option, take, false}
use Rattle.ace_event.specs.Text.{events_text}
use Rattle.ace_writer.specs.Given.{GivesFront, sink_of, version_of, has_failed}
use Rattle.ace_top.proofs.run.put_events.Given as goal

abbrev pub invariant-loop-event : goal.invariant-loop-event
invariant-loop-event g l = record {
  given : (before : Option (List ℕ)) (text : List ℕ) → GivesFront g.K.Sink.held before text l.initial.writer
      → GivesFront g.K.Sink.held before (text ++ events_text (version_of l.initial.writer) (take l.event-index l.events)) l.writer;
  same_version : version_of l.writer ≡ version_of l.initial.writer;
  same_sink : (sink_of l.writer).ghost_name ≡ (sink_of l.initial.writer).ghost_name;
  unfailed : has_failed l.writer ≡ false;
  faults : g.K.Sink.faults (sink_of l.writer).now ≡ g.K.Sink.faults (sink_of l.initial.writer).now;
}
