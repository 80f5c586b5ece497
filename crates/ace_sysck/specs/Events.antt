-- What an event does with the transaction of its target.
use Rattle.std.specs.Prelude.{Bool, true, false, if◌then◌else◌, Option, None}
use Rattle.std.specs.Option.{option_map}
use Rattle.ace_event.specs.declared.event.Event.{Event}
use Rattle.ace_event.specs.declared.event.Event.TheVariants.{Ar, Aw, R, B}
use Rattle.ace_model.specs.declared.transactions.Transaction.{Transaction}
use Rattle.ace_portck.specs.declared.target.Progress.{Progress}
use Rattle.ace_portck.specs.Target.{Target}

abbrev pub own_of : Progress → Transaction
own_of x = x.transaction

abbrev pub carried : Target → Option Transaction
carried t = option_map own_of t.transaction

-- what an AR or AW issues
abbrev pub begun_in : Event → Target → Option Transaction
begun_in (Ar p i addr snoop dom bar lock) t = carried t
begun_in (Aw p i addr snoop dom bar) t = carried t
begun_in _ t = None

-- what an R or B answers
abbrev pub responded_in : Event → Target → Option Transaction
responded_in (R p i resp last word) t = carried t
responded_in (B p i resp) t = carried t
responded_in _ t = None

-- what a last R or a B completes
abbrev pub completed_in : Event → Target → Option Transaction
completed_in (R p i resp last word) t = if last then carried t else None
completed_in (B p i resp) t = carried t
completed_in _ t = None

-- it issues a transaction
abbrev pub is_issue : Event → Bool
is_issue (Ar p i addr snoop dom bar lock) = true
is_issue (Aw p i addr snoop dom bar) = true
is_issue _ = false

-- it answers a transaction
abbrev pub is_response : Event → Bool
is_response (R p i resp last word) = true
is_response (B p i resp) = true
is_response _ = false
