-- Events that what is kept of an ACE port may hear.
use Rattle.std.specs.Prelude.{List}
use Rattle.std.specs.List.{AllByRecursion}
use Rattle.ace_event.specs.declared.event.Event.{Event}
use Rattle.ace_master_state.specs.Cached.{HasLowId}

-- each read has one of the sixteen identifiers
abbrev pub HaveLowIds : List Event → Type 0
HaveLowIds events = AllByRecursion HasLowId events
