use Rattle.std.proofs.Common.{◌≡◌, true, false, List, [], ◌∷◌, refl, subst}
use Rattle.ace_codes.specs.declared.state.LineState.TheVariants.{UD}
use Rattle.ace_event.specs.declared.event.Channel.TheVariants.{Read}
use Rattle.ace_event.specs.declared.event.Event.{Event}
use Rattle.ace_event.specs.declared.event.Event.TheVariants.{Ar, Aw, D, G, Op, R, Rk, W}
use Rattle.ace_event.specs.declared.event.Outcome.TheVariants.{Ok}
use Rattle.ace_model.specs.Plans.{Plan}
use Rattle.ace_model.specs.Values.{full_line}
use Rattle.ace_runs.specs.Bursts.{onto}
use Rattle.ace_engine.specs.Engines.{IsLegal}
use Rattle.ace_engine.proofs.Heard.{legal-between}
use Rattle.ace_update.specs.Update.{UpdateStands}
use Rattle.ace_engine_tests.specs.Update.{are_others, update_plan, stored}
use Rattle.ace_engine_tests.proofs.UpdateWorked.{update-legal}
use Rattle.ace_engine_tests.proofs.update.writing_back.Goals as goal

-- the events before the write, and those from it on
abbrev first : List Event
first = Ar 0 0 64 12 1 0 false ∷ G 0 Read 0 ∷ R 0 0 0 true 0 ∷ D 0 64 full_line false stored ∷ Rk 0 UD ∷ Op 0 0 Ok ∷ []

abbrev second : List Event
second = Aw 0 0 64 3 1 0 ∷ Op 0 1 Ok ∷ W 0 65535 false 5 ∷ W 0 65535 false 6 ∷ W 0 65535 false 7 ∷ W 0 65535 true 8 ∷ []

pub returns : goal.returns
returns c =
    let begun : UpdateStands c.in_ok-update.update update_plan [] = subst (λ (v : Plan). UpdateStands c.in_ok-update.update v []) c.in_ok-plan.ensures c.in_ok-update.ensures in
    let one : c.ar.result ∷ c.granted.result ∷ c.r.result ∷ c.stores.result ∷ c.rk.result ∷ c.op.result ∷ [] ≡ first = rw (c.ar.ensures, c.granted.ensures, c.r.ensures, c.stores.ensures, c.rk.ensures, c.op.ensures) refl in
    let two : c.aw.result ∷ c.op-2.result ∷ c.w.result ∷ c.w-2.result ∷ c.w-3.result ∷ c.w-4.result ∷ [] ≡ second = rw (c.aw.ensures, c.op-2.ensures, c.w.ensures, c.w-2.ensures, c.w-3.ensures, c.w-4.ensures) refl in
    let halfway : UpdateStands c.hear_all.new.update update_plan (onto first []) =
    subst (λ es. UpdateStands c.in_ok-update.update update_plan [] → IsLegal update_plan (onto es []) → are_others [] es ≡ true → UpdateStands c.hear_all.new.update update_plan (onto es []))
    one (c.hear_all.ensures update_plan []) begun (legal-between update_plan first second [] update-legal) refl in
    subst (λ es. UpdateStands c.hear_all.new.update update_plan (onto first []) → IsLegal update_plan (onto es (onto first [])) → are_others (onto first []) es ≡ true
    → UpdateStands c.hear_all-2.new.update update_plan (onto es (onto first [])))
    two (c.hear_all-2.ensures update_plan (onto first [])) halfway update-legal refl
