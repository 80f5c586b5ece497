use Rattle.std.proofs.Common.{◌≡◌, ◌∷◌, ◌++◌, [], List, sym, ap, subst, ◌∙◌}
use Rattle.ace_event.specs.declared.event.Event.{Event}
use Rattle.ace_event.specs.declared.event.Event.TheVariants.{B}
use Rattle.ace_update.specs.Update.{IsTurn}
use Rattle.ace_update.proofs.DueWrites.{write-at}
use Rattle.ace_update.proofs.UpdateSteps.{evict-step, legal-response}
use Rattle.ace_update.proofs.update.Update.respond.Goals as goal

pub returns : goal.returns
returns c = λ plan past p s due.
    let x = c.args.write.now in
    let k = due.pending in
    let w = write-at plan.header past p k.0 x k.1 in
    let f = c.requires.evicts in
    let response : Event = B x.port x.id 0 in
    let one : c.put.new.out ≡ response ∷ [] = c.put.ensures.burst ∙ ap (λ (es : List Event). es ++ response ∷ []) c.requires.empty in
    let stands = c.put.ensures.stands plan past s (legal-response plan past s.legal p x w due.begins f) in
    subst (IsTurn c.put.new.self plan past p) (sym one) (record { step = evict-step plan past s.legal p x w due.begins f; stands = stands })
