use Rattle.std.proofs.Common.{◌≡◌, ◌-◌, None, false}
use Rattle.ace_grammar.specs.Reading.{most_events}
use Rattle.ace_grammar.specs.Reader.{source_of, header_of, most_of, count_of, last_answer, HasRead}
use Rattle.ace_writer.specs.Given.{sink_of, version_of, has_failed, GivesFront}
use Rattle.ace_convert.specs.Spelling.{header_written}
use Rattle.ace_convert.proofs.ConvertLemmas.{Copied}
use Rattle.ace_convert.proofs.copy.respell.Given as goal

abbrev pub invariant-events : goal.invariant-events
invariant-events g l = record {
  reads_on : last_answer l.reader ≡ None;
  copied : Copied (g.S.Source.left l.fn.input) l.fn.conversion (header_of l.initial.reader) (λ bytes events. HasRead g.S.Source.left bytes events l.reader)
      (λ bytes. GivesFront g.K.Sink.held (g.K.Sink.held l.fn.out) bytes l.writer);
  most : most_of l.reader ≡ most_events;
  same_read : header_of l.reader ≡ header_of l.initial.reader;
  same_written : version_of l.writer ≡ (header_written l.fn.conversion (header_of l.initial.reader)).version;
  same_source : (source_of l.reader).ghost_name ≡ (source_of l.initial.reader).ghost_name;
  same_sink : (sink_of l.writer).ghost_name ≡ (sink_of l.initial.writer).ghost_name;
  faults : g.S.Source.faults (source_of l.reader).now ≡ g.S.Source.faults (source_of l.initial.reader).now;
  unfailed : has_failed l.writer ≡ false;
  write_faults : g.K.Sink.faults (sink_of l.writer).now ≡ g.K.Sink.faults (sink_of l.initial.writer).now;
}

abbrev pub decreases-events : goal.decreases-events
decreases-events g l = most_events - count_of l.reader
