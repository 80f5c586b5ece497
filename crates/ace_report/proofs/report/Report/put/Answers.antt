use Rattle.std.proofs.Common.{OnOk, OnErr, subst, ap, ◌++◌, ◌∙◌}
use Rattle.std.specs.Io.KnownBytes.{Appends}
use Rattle.std.specs.List.{flat_map}
use Rattle.ace_report.specs.Lines.{ports_text, line_line, load_line}
use Rattle.ace_report.specs.Put.{AppendsPart}
use Rattle.ace_report.proofs.Texts.{report_is}
use Rattle.ace_report.proofs.report.Report.put.Goals as goal

pub returns-clause-whole : goal.returns-clause-whole
returns-clause-whole g c = λ h past s.
    subst (λ text. OnOk c.put_all.result (Appends (g.K.Sink.held c.args.sink.now) (g.K.Sink.held c.put_all.new.sink) text))
    (ap (λ es. ports_text 0 c.args.self.now.ports.items ++ (flat_map line_line es ++ flat_map load_line c.args.self.now.loads.items)) c.iter.ensures.rest
    ∙ report_is h past c.args.self.now s c.iter.ensures.ordered)
    (rw (c.deref.ensures.value, c.deref-2.ensures.value) at c.put_all.ensures.whole)

pub returns-clause-part : goal.returns-clause-part
returns-clause-part g c = λ h past s.
    subst (λ text. OnErr c.put_all.result (AppendsPart (g.K.Sink.held c.args.sink.now) (g.K.Sink.held c.put_all.new.sink) text))
    (ap (λ es. ports_text 0 c.args.self.now.ports.items ++ (flat_map line_line es ++ flat_map load_line c.args.self.now.loads.items)) c.iter.ensures.rest
    ∙ report_is h past c.args.self.now s c.iter.ensures.ordered)
    (rw (c.deref.ensures.value, c.deref-2.ensures.value) at c.put_all.ensures.part)
