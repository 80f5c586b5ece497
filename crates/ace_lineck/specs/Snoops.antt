-- Line snoops.
use Rattle.std.specs.Prelude.{ℕ, ◌≡◌, ◌<◌, ◌-◌, ◌^◌, Bool, true, length, Option, Some, None}
use Rattle.ace_event.specs.declared.event.Event.TheVariants.{Ac}
use Rattle.ace_model.specs.Accepted.{least_broken}
use Rattle.ace_model.specs.Snoops.{snoops_a_line}
use Rattle.ace_model.specs.States.{owes_wack}
use Rattle.ace_portck.specs.Targets.{Recording}
use Rattle.ace_lineck.specs.declared.lines.LineCheck.{LineCheck}
use Rattle.ace_lineck.specs.Stands.{Stands, place_on}

-- the port may be asked for a snoop of the line, as the next event: the place is that of the line
pub record MaySnoop (s : LineCheck) (r : Recording) (p addr snoop : ℕ) (place : Option ℕ)
    (owes : Bool) : Type 0 where
  pub stands : Stands s r
  pub line : snoops_a_line snoop ≡ true
  pub at : place ≡ place_on s (Some addr)
  pub owes_is : owes ≡ owes_wack r.header r.past p addr

-- the snoop of the line may be the next event: it breaks no rule, and the place is that of the line
pub record HearsSnoop (s : LineCheck) (r : Recording) (p addr snoop : ℕ) (place : Option ℕ)
    : Type 0 where
  pub stands : Stands s r
  pub line : snoops_a_line snoop ≡ true
  pub at : place ≡ place_on s (Some addr)
  pub kept : least_broken r.header r.past (Ac p addr snoop) ≡ None
  pub few : length r.past < 2 ^ 64 - 1
