-- How many snoops of a port are under way. A fold needs memory only where there are more of them
-- than ever before.
use Rattle.std.specs.Prelude.{ℕ, ◌+◌, ◌-◌, ◌/◌, ◌<◌, [], ◌∷◌, length, max}
use Rattle.ace_event.specs.declared.event.Event.{Event}
use Rattle.ace_event.specs.declared.event.Event.TheVariants.{Ac}
use Rattle.ace_model.specs.Trace.{Trace}
use Rattle.ace_model.specs.Snoops.{snoops_of, answers, data_beats}
use Rattle.ace_portck.specs.Targets.{data_snoops}

-- the port's snoops without an answer, and those answered with data whose burst isn't whole
abbrev pub unfinished : Trace → ℕ → ℕ
unfinished past p =
    (length (snoops_of past p) - answers past p)
    + (length (data_snoops past p) - data_beats past p / 4)

-- the most that were ever unfinished
abbrev pub most_unfinished : Trace → ℕ → ℕ
most_unfinished [] p = 0
most_unfinished (e ∷ past) p = max (unfinished (e ∷ past) p) (most_unfinished past p)

-- the event is an AC with which its port has more unfinished snoops than at any point before
abbrev pub RisesAt : Trace → Event → Type 0
RisesAt past (Ac p addr snoop) = most_unfinished past p < unfinished (Ac p addr snoop ∷ past) p
RisesAt past _ = ⊥
