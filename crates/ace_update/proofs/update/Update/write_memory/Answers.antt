use Rattle.std.proofs.Common.{◌≡◌, ◌∷◌, ◌++◌, [], List, Some, None, sym, ap, subst, ◌∙◌}
use Rattle.ace_event.specs.declared.event.Event.{Event}
use Rattle.ace_event.specs.declared.event.Event.TheVariants.{B, M}
use Rattle.ace_portck.specs.Targets.{data_of_write}
use Rattle.ace_update.specs.Update.{IsTurn}
use Rattle.ace_update.proofs.DueWrites.{write-at}
use Rattle.ace_update.proofs.UpdateSteps.{legal-both, legal-memory, update-sent, update-step}
use Rattle.ace_update.proofs.update.Update.write_memory.Goals as goal

pub returns : goal.returns
returns c = λ plan past p s due.
    let x = c.args.write.now in
    let d = c.in-Some.data in
    let k = due.pending in
    let w = write-at plan.header past p k.0 x k.1 in
    let u = c.requires.updates in
    let sent : data_of_write past x ≡ Some d = sym (c.data.ensures plan past p k.0 s k.1) ∙ c.in-Some.is in
    let memory : Event = M x.port x.chan x.id d.line in
    let response : Event = B x.port x.id 0 in
    let one : c.put.new.out ≡ memory ∷ [] = c.put.ensures.burst ∙ ap (λ (es : List Event). es ++ memory ∷ []) c.requires.empty in
    let both : c.put-2.new.out ≡ memory ∷ response ∷ [] = c.put-2.ensures.burst ∙ ap (λ (es : List Event). es ++ response ∷ []) one in
    let first = c.put.ensures.stands plan past s (legal-memory plan past s.legal p x w due.begins u d sent) in
    let second = c.put-2.ensures.stands plan (memory ∷ past) first (legal-both plan past s.legal p x w due.begins u d sent) in
    subst (IsTurn c.put-2.new.self plan past p) (sym both) (record { step = update-step plan past s.legal p x w due.begins u d sent; stands = second })

pub returns-in_default : goal.returns-in_default
returns-in_default c = λ plan past p s due.
    let x = c.args.write.now in
    let k = due.pending in
    let w = write-at plan.header past p k.0 x k.1 in
    let none : data_of_write past x ≡ None = sym (c.data.ensures plan past p k.0 s k.1) ∙ c.in_default.is in
    absurd (update-sent plan past s.legal p x w due.begins c.requires.updates none)
