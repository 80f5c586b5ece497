use Rattle.std.proofs.Common.{◌≡◌, ◌++◌, ◌∷◌, [], List, Some, sym, ap, subst, ◌∙◌}
use Rattle.ace_event.specs.declared.event.Event.{Event}
use Rattle.ace_event.specs.declared.event.Event.TheVariants.{Cr}
use Rattle.ace_model.specs.Plans.{Plan}
use Rattle.ace_model.specs.Trace.{Trace}
use Rattle.ace_portck.specs.OnePort.{port_of}
use Rattle.ace_master.specs.Answering.{IsAnswer, IsRowFor, Stands, asked_of, comes_with}
use Rattle.ace_master_laws.specs.Chosen.{AreChosen}
use Rattle.ace_master.proofs.AnsweredSnoops.Answers.{announces-held, answer-chosen, answer-is}
use Rattle.ace_master.proofs.answering.answer.Given as given
use Rattle.ace_master.proofs.answering.answer.Goals as goal

module _ (g : given.Over) (c : goal.After-put_rest g) (plan : Plan) (past : Trace) (s : Stands plan past c.args.port.now c.args.cached.now) where
  asked-is : asked_of plan.header past (port_of c.args.port.now) ≡ Some c.in-Some.asked
  asked-is = sym (c.oldest_snoop.ensures plan past s) ∙ c.in-Some.is

  fit : IsRowFor (g.P.Policy.rows c.args.policy.now) c.in-Some.asked c.in-Some-row_for.row
  fit = c.row_for.ensures.row c.in-Some-row_for.row c.in-Some-row_for.is

  burst : c.put_rest.new.out ≡ Cr (port_of c.args.port.now) c.in-Some-row_for.row.resp c.in-Some-row_for.row.next ∷ comes_with past (port_of c.args.port.now) c.in-Some.asked c.in-Some-row_for.row.resp
  burst =
      let p = port_of c.args.port.now in
      let a = c.in-Some.asked in
      let r = c.in-Some-row_for.row in
      let rest = comes_with past p a r.resp in
      c.put_rest.ensures plan past s (announces-held plan.header past p a asked-is (g.P.Policy.rows c.args.policy.now) r fit)
      ∙ ap (λ (es : List Event). es ++ rest) (c.push.ensures ∙ ap (λ (es : List Event). es ++ Cr c.port.result r.resp r.next ∷ []) c.requires)
      ∙ ap (λ q. Cr q r.resp r.next ∷ rest) c.port.ensures

pub returns-clause-answer : goal.returns-clause-answer
returns-clause-answer g c = λ done plan past s.
    let p = port_of c.args.port.now in
    subst (IsAnswer plan past p) (sym (burst g c plan past s))
    (answer-is plan past p s.kept.legal.accepted s.data_sent c.in-Some.asked (asked-is g c plan past s) (g.P.Policy.rows c.args.policy.now) c.in-Some-row_for.row (fit g c plan past s))

pub returns-clause-chosen : goal.returns-clause-chosen
returns-clause-chosen g c = λ done plan past s word.
    let p = port_of c.args.port.now in
    subst (AreChosen plan past) (sym (burst g c plan past s))
    (answer-chosen plan past p s.kept.legal.accepted s.data_sent c.in-Some.asked (asked-is g c plan past s) (g.P.Policy.rows c.args.policy.now) c.in-Some-row_for.row (fit g c plan past s) word)
