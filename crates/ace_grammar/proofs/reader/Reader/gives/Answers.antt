use Rattle.std.proofs.Common.{Ok, Some, refl, sym, subst}
use Rattle.ace_grammar.specs.Reader.{HasRead}
use Rattle.ace_grammar.proofs.Readings.Progress.{reading_next}
use Rattle.ace_grammar.proofs.reader.Reader.gives.Goals as goal

pub returns-then-read_event-clause-reads : goal.returns-then-read_event-clause-reads
returns-then-read_event-clause-reads g c reads_on bytes events read =
    let same = (c.if-hands_over.ensures.stays refl).0 in
    reading_next g.S.Source.left bytes events c.hands_over.new.self _ (Ok (Some c.read_event.new.event)) refl refl refl c.if-read_event.ensures.next
    (subst (HasRead g.S.Source.left bytes events) (sym same) read)
