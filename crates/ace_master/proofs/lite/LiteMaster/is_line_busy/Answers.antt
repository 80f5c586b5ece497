use Rattle.std.proofs.Common.{◌≡◌, Bool, true, false, not, refl, ap, sym, ◌∙◌}
use Rattle.ace_model.specs.Trace.{is_some_and}
use Rattle.ace_model.specs.Transactions.{has_outstanding_on}
use Rattle.ace_master.specs.Lite.{port_of}
use Rattle.ace_master.proofs.lite.LiteMaster.is_line_busy.Goals as goal

twice : (b : Bool) → not (not b) ≡ b
twice true = refl
twice false = refl

pub returns-in-Some : goal.returns-in-Some
returns-in-Some c = λ plan past s.
    let p = port_of c.args.self.now in
    ap not (c.is_line_free.ensures plan.header past p s.port.kept) ∙ twice (has_outstanding_on plan.header past p c.in-Some.line)
    ∙ sym (ap (λ o. is_some_and o (has_outstanding_on plan.header past p)) (sym c.line.ensures ∙ c.in-Some.is))

pub returns-in-None : goal.returns-in-None
returns-in-None c = λ plan past s.
    sym (ap (λ o. is_some_and o (has_outstanding_on plan.header past (port_of c.args.self.now))) (sym c.line.ensures ∙ c.in-None.is))
