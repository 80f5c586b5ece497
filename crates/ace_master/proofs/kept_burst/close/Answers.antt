use Rattle.std.proofs.Common.{◌≡◌, [], ◌∷◌, true, sym, ap, subst, ◌∙◌}
use Rattle.std.specs.List.{list_all}
use Rattle.ace_runs.specs.Bursts.{onto}
use Rattle.ace_runs.specs.Closing.{closing_of}
use Rattle.ace_engine.specs.Engines.{IsLegal}
use Rattle.ace_engine.proofs.LegalSteps.{legal-before}
use Rattle.ace_master_state.specs.Closing.{events_of}
use Rattle.ace_master_state.specs.Kept.{KeptStands}
use Rattle.ace_master.proofs.AcePorts.Ends.{closing-plain, is_plain, plain-low}
use Rattle.ace_master.proofs.kept_burst.close.Goals as goal

pub returns-in-Retires-clause-stands : goal.returns-in-Retires-clause-stands
returns-in-Retires-clause-stands c = λ plan past p k fields told legal.
    let op = c.args.op in
    let es = c.in-Retires.retires ∷ [] in
    let is : es ≡ closing_of plan.header past p op = sym (ap events_of c.in-Retires.is) ∙ c.closing_of.ensures plan past p k fields told in
    let low = plain-low es (subst (λ xs. list_all is_plain xs ≡ true) (sym is) (closing-plain plan.header past p op)) in
    subst (λ xs. KeptStands plan (onto xs past) p c.put.new.kept) is (c.put.ensures.stands plan past p k (subst (λ xs. IsLegal plan (onto xs past)) (sym is) legal) low.0)

pub returns-in-Accesses-clause-stands : goal.returns-in-Accesses-clause-stands
returns-in-Accesses-clause-stands c = λ plan past p k fields told legal.
    let op = c.args.op in
    let access = c.in-Accesses.access in
    let retires = c.in-Accesses.retires in
    let es = access ∷ retires ∷ [] in
    let is : es ≡ closing_of plan.header past p op = sym (ap events_of c.in-Accesses.is) ∙ c.closing_of.ensures plan past p k fields told in
    let low = plain-low es (subst (λ xs. list_all is_plain xs ≡ true) (sym is) (closing-plain plan.header past p op)) in
    let whole : IsLegal plan (retires ∷ access ∷ past) = subst (λ xs. IsLegal plan (onto xs past)) (sym is) legal in
    let first = c.put-in-Accesses.ensures.stands plan past p k (legal-before plan (access ∷ past) retires whole) low.0 in
    subst (λ xs. KeptStands plan (onto xs past) p c.put-in-Accesses-2.new.kept) is (c.put-in-Accesses-2.ensures.stands plan (access ∷ past) p first whole low.1.0)
