use Rattle.std.proofs.Common.{rules, refl, ap, ◌∙◌, Err}
use Rattle.ace_grammar.specs.Reader.{header_of, unread, HasRead}
use Rattle.ace_bin.specs.Given.{GivesFront}
use Rattle.ace_convert.specs.declared.conversion.Conversion.TheVariants.{Pack}
use Rattle.ace_convert.specs.Form.{Binary, Text}
use Rattle.ace_convert.specs.Spelling.{converted}
use Rattle.ace_convert.proofs.ConvertLemmas.{copied_more, part_given, all_given, all_read, ended, nothing_left, failed_cause, whole_cause, read_cause, none_text, text_read, as_error}
use Rattle.ace_convert.proofs.copy.pack.Goals as goal

pub returns-in-Err : goal.returns-in-Err
returns-in-Err g c = none_text g.S.Source.left g.S.Source.faults Pack _ _ _ _ _ c.in-Err.failed.error _ refl c.text_end.ensures (search rules) c.in-Err.ensures.none

pub events-preserved : goal.events-preserved
events-preserved g c = record {
  reads_on = c.in-Ok-next_in_text.ensures.reads_on;
  copied = copied_more _ (g.K.Sink.held c.args.out.now) Pack (header_of c.in-Ok.reader) (λ bytes events. HasRead g.S.Source.left bytes events c.events.reader) (λ bytes events. HasRead g.S.Source.left bytes events c.next_in_text.new.reader)
      (λ before bytes. GivesFront g.K.Sink.held before bytes c.events.writer) (λ before bytes. GivesFront g.K.Sink.held before bytes c.put.new.self) c.next_in_text.new.event Binary _ refl c.events.invariant.same_written c.events.invariant.copied c.in-Ok-next_in_text.ensures.reads
      c.in-Ok-put.ensures.bytes;
  most = c.next_in_text.ensures.same_most ∙ c.events.invariant.most;
  same_read = c.next_in_text.ensures.same_header ∙ c.events.invariant.same_read;
  same_written = c.put.ensures.same_version ∙ c.events.invariant.same_written;
  same_source = c.next_in_text.ensures.same_source ∙ c.events.invariant.same_source;
  same_sink = c.put.ensures.same_sink ∙ c.events.invariant.same_sink;
  faults = c.in-Ok-next_in_text.ensures.steady ∙ c.events.invariant.faults;
  unfailed = c.in-Ok-put.ensures.failed;
  write_faults = (c.in-Ok-put.ensures.cause c.events.invariant.unfailed).steady ∙ c.events.invariant.write_faults;
}

pub returns-in-Err-put : goal.returns-in-Err-put
returns-in-Err-put g c = record {
  given = tt;
  part = part_given g.K.Sink.held _ (unread g.S.Source.left c.next_in_text.new.reader) _ Pack (header_of c.in-Ok.reader) (λ bytes events. HasRead g.S.Source.left bytes events c.next_in_text.new.reader) (λ bytes. GivesFront g.K.Sink.held (g.K.Sink.held c.args.out.now) bytes c.put.new.self) _ _ (search rules)
      (λ bytes events h. text_read g.S.Source.left bytes events c.next_in_text.new.reader (header_of c.in-Ok.reader) (c.next_in_text.ensures.same_header ∙ c.events.invariant.same_read) (c.next_in_text.ensures.same_most ∙ c.events.invariant.most) h) (λ text f. (f.front, f.rest, f.cut, f.taken))
      (copied_more _ (g.K.Sink.held c.args.out.now) Pack (header_of c.in-Ok.reader) (λ bytes events. HasRead g.S.Source.left bytes events c.events.reader) (λ bytes events. HasRead g.S.Source.left bytes events c.next_in_text.new.reader)
      (λ before bytes. GivesFront g.K.Sink.held before bytes c.events.writer) (λ before bytes. GivesFront g.K.Sink.held before bytes c.put.new.self) c.next_in_text.new.event Binary _ refl c.events.invariant.same_written c.events.invariant.copied c.in-Ok-next_in_text.ensures.reads
      c.in-Err-put.ensures.bytes);
  whole = λ is. absurd (cc);
  cause = tt;
  write_cause = failed_cause g.K.Sink.faults _ _ _ _ _ _ (c.events.invariant.write_faults ∙ ap g.K.Sink.faults c.in-Ok-start.ensures.kept) (search rules) (c.in-Err-put.ensures.cause c.events.invariant.unfailed);
}

pub returns-in-Ok-flush : goal.returns-in-Ok-flush
returns-in-Ok-flush g c =
    let copied = c.events.invariant.copied in
    record {
      given = (
        converted Pack (header_of c.in-Ok.reader) copied.0,
        all_given g.K.Sink.held _ _ _ _ (search rules) (c.in-Ok-flush.ensures.whole _ _ copied.2),
        λ is. absurd (c.in-Err-next_in_text.ensures.memory (ap Err is)),
        ended g.S.Source.left _ Pack (header_of c.in-Ok.reader) _ copied.0 (λ bytes events. HasRead g.S.Source.left bytes events c.events.reader) (λ bytes events. HasRead g.S.Source.left bytes events c.next_in_text.new.reader) _ Text _ _ refl c.events.invariant.same_read (search rules) copied.1
            c.in-Err-next_in_text.ensures.reads,
      );
      part = tt;
      whole = λ is.
          nothing_left g.S.Source.left _ (unread g.S.Source.left c.events.reader) Text (header_of c.in-Ok.reader) copied.0 _ _ (search rules)
          (all_read _ _ Text (header_of c.in-Ok.reader) copied.0 (λ bytes events. HasRead g.S.Source.left bytes events c.events.reader) (λ bytes events h. text_read g.S.Source.left bytes events c.events.reader (header_of c.in-Ok.reader) (c.events.invariant.same_read) c.events.invariant.most h) copied.1)
          (c.in-Err-next_in_text.ensures.leaves_nothing (as_error _ _ is));
      cause = read_cause g.S.Source.faults _ _ _ _ _ (c.events.invariant.faults ∙ c.in-Ok.ensures.steady) (search rules) c.in-Err-next_in_text.ensures.cause;
      write_cause = whole_cause g.K.Sink.faults _ _ _ _ _ _ (c.events.invariant.write_faults ∙ ap g.K.Sink.faults c.in-Ok-start.ensures.kept) (search rules) (c.in-Ok-flush.ensures.cause c.events.invariant.unfailed);
    }

pub returns-in-Err-flush : goal.returns-in-Err-flush
returns-in-Err-flush g c =
    let copied = c.events.invariant.copied in
    record {
      given = tt;
      part = part_given g.K.Sink.held _ (unread g.S.Source.left c.events.reader) _ Pack (header_of c.in-Ok.reader) (λ bytes events. HasRead g.S.Source.left bytes events c.events.reader) (λ bytes. GivesFront g.K.Sink.held (g.K.Sink.held c.args.out.now) bytes c.flush.new.self) _ _ (search rules)
          (λ bytes events h. text_read g.S.Source.left bytes events c.events.reader (header_of c.in-Ok.reader) (c.events.invariant.same_read) c.events.invariant.most h) (λ text f. (f.front, f.rest, f.cut, f.taken)) (copied.0, copied.1, c.in-Err-flush.ensures.bytes _ _ copied.2);
      whole = λ is. absurd (cc);
      cause = tt;
      write_cause = failed_cause g.K.Sink.faults _ _ _ _ _ _ (c.events.invariant.write_faults ∙ ap g.K.Sink.faults c.in-Ok-start.ensures.kept) (search rules) (c.in-Err-flush.ensures.cause c.events.invariant.unfailed);
    }
