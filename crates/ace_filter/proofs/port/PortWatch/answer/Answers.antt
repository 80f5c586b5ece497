use Rattle.std.proofs.Common.{option_map, sym, ap, subst, ◌∙◌, arith}
use Rattle.ace_filter.proofs.Terms.{Drops, QueueStands, answers, is_dropped, is_taken, snooped_lines}
use Rattle.ace_filter.proofs.Ports.{answered-drop, answers-more, drop-takes, few-lines, some-snoop}
use Rattle.ace_filter.proofs.port.PortWatch.answer.Goals as goal

pub returns-clause-stands : goal.returns-clause-stands
returns-clause-stands c = λ h past p resp heard s.
    let few = heard.few in
    let count = few-lines past p in
    let ended = c.end-line.ensures.stands (snooped_lines past p) (answers past p) s.snoops (some-snoop h past p resp c.args.st heard.accepted)
    (omega (arith, few, count)) in
    record {
      reads = s.reads;
      writes = s.writes;
      complete = s.complete;
      snoops = subst (λ n. QueueStands (snooped_lines past p) n c.end-line.new.self) (sym (answers-more past p resp c.args.st)) ended;
    }

pub returns-clause-change : goal.returns-clause-change
returns-clause-change c = λ h past p resp heard s.
    let line = c.end-line.ensures.line (snooped_lines past p) (answers past p) s.snoops (some-snoop h past p resp c.args.st heard.accepted) in
    record {
      takes_it = λ l. sym (ap (λ o. is_taken o l) c.drop_of.ensures ∙ drop-takes c.if_invalid.result l);
      drops_it = λ l. answered-drop past p resp c.args.st c.end-line.result line l
          ∙ ap (λ o. is_dropped o l) (sym (c.drop_of.ensures ∙ ap (option_map Drops) c.if_invalid.ensures));
    }
