-- What the choices that a step leaves to a master have to meet.
use Rattle.std.specs.Prelude.{◌≡◌, Bool, true, ◌&&◌, List, [], ◌∷◌, ⊤}
use Rattle.ace_event.specs.declared.event.Event.{Event}
use Rattle.ace_model.specs.Plans.{Plan}
use Rattle.ace_model.specs.Trace.{Trace}
use Rattle.ace_runs.specs.Follows.{answers_well, carries_data}

-- an answer is the one that the policy picks, and a beat carries the data of its operation
abbrev pub is_chosen : Plan → Trace → Event → Bool
is_chosen plan past e = answers_well plan past e && carries_data plan past e

-- Each event of the burst is so after those before it.
abbrev pub AreChosen : Plan → Trace → List Event → Type 0
AreChosen plan past [] = ⊤
AreChosen plan past (e ∷ burst) = (is_chosen plan past e ≡ true) × AreChosen plan (e ∷ past) burst
