use Rattle.std.proofs.Common.{Result, Ok, Err, OnOk, sym, subst}
use Rattle.ace_side.specs.declared.line.SideLine.{SideLine}
use Rattle.ace_side.specs.Kept.{KeepsOne}
use Rattle.ace_side.proofs.order.Order.note.Goals as goal

at_one : {A E X : Type 0} (r : Result A E) (P : X → Type 0) (x : X) → OnOk r ((x : X) → P x) → OnOk r (P x)
at_one (Ok a) P x all = all x
at_one (Err e) P x all = tt

pub returns-in-Port : goal.returns-in-Port
returns-in-Port c =
    subst (λ (line : SideLine). OnOk c.note_port.result (KeepsOne line c.args.self.now c.note_port.new.self)) (sym c.in-Port.is)
    (at_one c.note_port.result _ c.in-Port.name c.note_port.ensures)

pub returns-in-TimeUnit : goal.returns-in-TimeUnit
returns-in-TimeUnit c =
    subst (λ (line : SideLine). KeepsOne line c.args.self.now c.note_unit.new.self) (sym c.in-TimeUnit.is) (c.note_unit.ensures c.in-TimeUnit.word)

pub returns-in-Note : goal.returns-in-Note
returns-in-Note c =
    subst (λ (line : SideLine). KeepsOne line c.args.self.now c.note_remark.new.self) (sym c.in-Note.is) (c.note_remark.ensures c.in-Note.text)
