use Rattle.std.proofs.Common.{◌≡◌, ◌<◌, ◌++◌, ◌∷◌, [], length, IsSome, sym, ap, subst, ◌∙◌, arith}
use Rattle.ace_filter.proofs.Terms.{Write, QueueStands, acknowledgements, completed_lines, dropped_line, transaction_of}
use Rattle.ace_filter.proofs.Completed.{few-writes}
use Rattle.ace_filter.proofs.Ports.{completed-more}
use Rattle.ace_filter.proofs.Waiting.{lines-few}
use Rattle.ace_model.proofs.General.Options.{some_is}
use Rattle.ace_filter.proofs.port.PortWatch.complete.Goals as goal

pub returns-clause-stands : goal.returns-clause-stands
returns-clause-stands c = λ h past p resp lines heard known room s.
    let i = c.args.id in
    let w = c.args.self.now in
    let line : c.line_under.result ≡ dropped_line (transaction_of past p Write i) = c.line_under.ensures ∙ s.writes i (grind arith) in
    let few = heard.few in
    let count = lines-few past p in
    let fits : IsSome c.line_under.result → length w.complete.lines.items < lines = λ some.
    let l = some_is c.line_under.result some in
    let low = few-writes h past p i resp l.0 heard.accepted (sym line ∙ l.1) in
    let long = ap length s.complete.lines in
    omega (arith, low, long, known) in
    let began = c.begin.ensures.stands (completed_lines past p) (acknowledgements past p Write) lines s.complete room.complete fits
    (omega (arith, few, count)) in
    record {
      reads = s.reads;
      writes = s.writes;
      complete =
          subst (λ all. QueueStands all (acknowledgements past p Write) c.begin.new.self)
          (ap (λ o. completed_lines past p ++ o ∷ []) line ∙ sym (completed-more past p i resp)) began;
      snoops = s.snoops;
    }
