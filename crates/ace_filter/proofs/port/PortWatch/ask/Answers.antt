use Rattle.std.proofs.Common.{◌≡◌, ◌<◌, ◌++◌, ◌∷◌, [], length, true, IsSome, sym, ap, subst, ◌∙◌, arith}
use Rattle.ace_filter.proofs.Terms.{QueueStands, answers, snooped_lines, snoops_a_line}
use Rattle.ace_filter.proofs.Snooped.{few-snoops}
use Rattle.ace_filter.proofs.Ports.{few-lines, snooped-more}
use Rattle.ace_model.proofs.General.Options.{some_is, some_if-is}
use Rattle.ace_filter.proofs.port.PortWatch.ask.Goals as goal

pub returns-clause-stands : goal.returns-clause-stands
returns-clause-stands c = λ h past p lines heard known room s.
    let addr = c.args.addr in
    let code = c.args.snoop in
    let w = c.args.self.now in
    let few = heard.few in
    let count = few-lines past p in
    let fits : IsSome c.snooped_line.result → length w.snoops.lines.items < lines = λ some.
    let l = some_is c.snooped_line.result some in
    let line : snoops_a_line code ≡ true = (some_if-is (snoops_a_line code) addr l.0 (sym c.snooped_line.ensures ∙ l.1)).0 in
    let low = few-snoops h past p addr code heard.accepted line in
    let long = ap length s.snoops.lines in
    omega (arith, low, long, known) in
    let began = c.begin.ensures.stands (snooped_lines past p) (answers past p) lines s.snoops room.snoops fits (omega (arith, few, count)) in
    record {
      reads = s.reads;
      writes = s.writes;
      complete = s.complete;
      snoops =
          subst (λ all. QueueStands all (answers past p) c.begin.new.self)
          (ap (λ o. snooped_lines past p ++ o ∷ []) c.snooped_line.ensures ∙ sym (snooped-more past p addr code)) began;
    }
