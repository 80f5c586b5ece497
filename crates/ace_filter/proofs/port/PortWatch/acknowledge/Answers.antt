use Rattle.std.proofs.Common.{sym, ap, subst, ◌∙◌, arith}
use Rattle.ace_filter.proofs.Terms.{Write, QueueStands, acknowledgements, completed_lines, is_dropped, is_taken}
use Rattle.ace_filter.proofs.Ports.{acknowledged-drop, acknowledged-more, drop-takes, some-write}
use Rattle.ace_filter.proofs.Waiting.{lines-few}
use Rattle.ace_filter.proofs.port.PortWatch.acknowledge.Goals as goal

pub returns-clause-stands : goal.returns-clause-stands
returns-clause-stands c = λ h past p st heard s.
    let few = heard.few in
    let count = lines-few past p in
    let ended = c.end.ensures.stands (completed_lines past p) (acknowledgements past p Write) s.complete (some-write h past p st heard.accepted)
    (omega (arith, few, count)) in
    record {
      reads = s.reads;
      writes = s.writes;
      complete = subst (λ n. QueueStands (completed_lines past p) n c.end.new.self) (sym (acknowledged-more past p st)) ended;
      snoops = s.snoops;
    }

pub returns-clause-change : goal.returns-clause-change
returns-clause-change c = λ h past p st heard s.
    let line = c.end.ensures.line (completed_lines past p) (acknowledgements past p Write) s.complete (some-write h past p st heard.accepted) in
    record {
      takes_it = λ l. sym (ap (λ o. is_taken o l) c.drop_of.ensures ∙ drop-takes c.end.result l);
      drops_it = λ l. acknowledged-drop h past p st heard.accepted c.end.result line l ∙ ap (λ o. is_dropped o l) (sym c.drop_of.ensures);
    }
