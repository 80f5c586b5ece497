use Rattle.std.proofs.Common.{◌≡◌, true, false, List, [], ◌∷◌, refl, subst}
use Rattle.ace_codes.specs.declared.state.LineState.TheVariants.{UC}
use Rattle.ace_event.specs.declared.event.Channel.TheVariants.{Read}
use Rattle.ace_event.specs.declared.event.Event.{Event}
use Rattle.ace_event.specs.declared.event.Event.TheVariants.{Ar, Aw, G, Op, R, Rk}
use Rattle.ace_event.specs.declared.event.Outcome.TheVariants.{Ok}
use Rattle.ace_model.specs.Plans.{Plan}
use Rattle.ace_runs.specs.Bursts.{onto}
use Rattle.ace_engine.specs.Engines.{IsLegal}
use Rattle.ace_engine.proofs.Heard.{legal-between}
use Rattle.ace_update.specs.Update.{UpdateStands}
use Rattle.ace_engine_tests.specs.Update.{are_others, evict_plan}
use Rattle.ace_engine_tests.proofs.UpdateWorked.{evict-legal}
use Rattle.ace_engine_tests.proofs.update.giving_up.Goals as goal

-- the events before the write, and those from it on
abbrev first : List Event
first = Ar 0 0 64 7 1 0 false ∷ G 0 Read 0 ∷ R 0 0 0 false 0 ∷ R 0 0 0 false 0 ∷ R 0 0 0 false 0 ∷ R 0 0 0 true 0 ∷ Rk 0 UC ∷ Op 0 0 Ok ∷ []

abbrev second : List Event
second = Aw 0 0 64 4 1 0 ∷ Op 0 1 Ok ∷ []

pub returns : goal.returns
returns c =
    let begun : UpdateStands c.in_ok-update.update evict_plan [] = subst (λ (v : Plan). UpdateStands c.in_ok-update.update v []) c.in_ok-plan.ensures c.in_ok-update.ensures in
    let one : c.ar.result ∷ c.granted.result ∷ c.r.result ∷ c.r-2.result ∷ c.r-3.result ∷ c.r-4.result ∷ c.rk.result ∷ c.op.result ∷ [] ≡ first = rw (c.ar.ensures, c.granted.ensures, c.r.ensures, c.r-2.ensures, c.r-3.ensures, c.r-4.ensures, c.rk.ensures, c.op.ensures) refl in
    let two : c.aw.result ∷ c.op-2.result ∷ [] ≡ second = rw (c.aw.ensures, c.op-2.ensures) refl in
    let halfway : UpdateStands c.hear_all.new.update evict_plan (onto first []) =
    subst (λ es. UpdateStands c.in_ok-update.update evict_plan [] → IsLegal evict_plan (onto es []) → are_others [] es ≡ true → UpdateStands c.hear_all.new.update evict_plan (onto es []))
    one (c.hear_all.ensures evict_plan []) begun (legal-between evict_plan first second [] evict-legal) refl in
    subst (λ es. UpdateStands c.hear_all.new.update evict_plan (onto first []) → IsLegal evict_plan (onto es (onto first [])) → are_others (onto first []) es ≡ true
    → UpdateStands c.hear_all-2.new.update evict_plan (onto es (onto first [])))
    two (c.hear_all-2.ensures evict_plan (onto first [])) halfway evict-legal refl
