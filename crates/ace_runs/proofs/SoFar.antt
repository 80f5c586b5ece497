-- Demands on each event hold at each earlier point, and the test computes them.
use Rattle.std.proofs.Common.{◌≡◌, Bool, true, List, [], ◌∷◌, refl}
use Rattle.std.proofs.lemmas.Bool.{and_parts, and_from}
use Rattle.ace_event.specs.declared.event.Event.{Event}
use Rattle.ace_model.specs.Trace.{Trace}
use Rattle.ace_runs.specs.Follows.{each_event, EachEvent}
use Rattle.ace_runs.specs.Bursts.{onto}

pub before-burst : (test : Trace → Event → Bool) (burst : List Event) (past : Trace) → EachEvent test (onto burst past) → EachEvent test past
before-burst test [] past s = s
before-burst test (e ∷ burst) past s = (before-burst test burst (e ∷ past) s).0

pub each-computes : (test : Trace → Event → Bool) (past : Trace) → EachEvent test past → each_event test past ≡ true
each-computes test [] s = refl
each-computes test (e ∷ past) s = and_from (each_event test past) (test past e) (each-computes test past s.0) s.1

pub each-computed : (test : Trace → Event → Bool) (past : Trace) → each_event test past ≡ true → EachEvent test past
each-computed test [] s = cc
each-computed test (e ∷ past) s =
    let parts = and_parts (each_event test past) (test past e) s in (each-computed test past parts.0, parts.1)
