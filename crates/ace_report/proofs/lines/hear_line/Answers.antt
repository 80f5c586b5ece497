use Rattle.std.proofs.Common.{Option, ℕ, refl, subst, inl, inr}
use Rattle.std.specs.Option.{option_copied}
use Rattle.std.proofs.lemmas.Result.{on_err_weaker}
use Rattle.ace_portck.specs.Targets.{Recording}
use Rattle.ace_report.specs.Next.{IsNewLine}
use Rattle.ace_report.proofs.HeardLines.{adds_new, heard_discarded, heard_store, heard_written}
use Rattle.ace_report.proofs.Tallies.{Named, absent-new, heard_named, heard_nothing, not_told, on_ok}
use Rattle.ace_report.proofs.lines.hear_line.Goals as goal

pub returns-in_default-clause-stands : goal.returns-in_default-clause-stands
returns-in_default-clause-stands c = λ h past t line s n.
    let d = c.in_default in
    heard_nothing h past c.args.event.now c.args.memory c.args.lines.now (not_told c.args.event.now d.not-Ar d.not-Aw d.not-R d.not-M d.not-D) s n

pub returns-in-R-clause-stands : goal.returns-in-R-clause-stands
returns-in-R-clause-stands c = λ h past t line s n.
    let r = c.in-R in
    heard_discarded h past c.args.event.now r.port r.id r.resp r.last r.word c.args.memory c.args.line c.whole.result c.args.lines.now c.add_store.new.lines r.is
    c.whole.ensures line s n c.add_store.ensures

pub returns-in-M-clause-stands : goal.returns-in-M-clause-stands
returns-in-M-clause-stands c = λ h past t line s n.
    let r : Recording = record { header = h; past = past } in
    let m = c.in-M in
    heard_written h past c.args.event.now m.port m.chan m.id m.line c.args.memory (option_copied c.outstanding.result) (option_copied c.burst.result)
    c.args.lines.now c.store_burst.new.lines m.is (c.outstanding.ensures r t) (c.burst.ensures r m.line t) s n c.store_burst.ensures

pub returns-in-D-clause-stands : goal.returns-in-D-clause-stands
returns-in-D-clause-stands c = λ h past t line s n.
    let d = c.in-D in
    heard_store h past c.args.event.now d.port d.addr d.strobe d.x d.value c.args.memory c.args.lines.now c.add_store-in-D.new.lines d.is s n c.add_store-in-D.ensures

pub returns-in-Ar-clause-stands : goal.returns-in-Ar-clause-stands
returns-in-Ar-clause-stands c = λ h past t line s n.
    let a = c.args in
    on_ok c.name_line.result
    (λ named. heard_named h past a.event.now a.memory a.lines.now c.name_line.new.lines
    (elim c.in-Ar.is [
      | inl x ↦ rw x.7 refl
      | inr y ↦ rw y.6 refl
    ]) s n (subst (λ (o : Option ℕ). Named o a.memory a.lines.now c.name_line.new.lines) line named)) c.name_line.ensures.named

pub returns-in-Ar-clause-cause : goal.returns-in-Ar-clause-cause
returns-in-Ar-clause-cause c =
    on_err_weaker c.name_line.result
    (λ none h past line s. adds_new h past c.args.event.now
    (elim c.in-Ar.is [
      | inl x ↦ rw x.7 refl
      | inr y ↦ rw y.6 refl
    ]) (subst (λ (o : Option ℕ). IsNewLine past o) line (absent-new past c.args.lines.now c.args.line s none))) c.name_line.ensures.cause
