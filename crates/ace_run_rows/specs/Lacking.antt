-- Accepted traces that don't follow a plan, each for one reason, the oldest event first.
use Rattle.std.specs.Prelude.{ℕ, true, false, List, [], ◌∷◌, ◌++◌, take}
use Rattle.ace_codes.specs.declared.state.LineState.TheVariants.{UC}
use Rattle.ace_event.specs.declared.event.Channel.TheVariants.{Read}
use Rattle.ace_event.specs.declared.event.Event.{Event}
use Rattle.ace_event.specs.declared.event.Event.TheVariants.{Ar, R, Rk, G, L, Op}
use Rattle.ace_event.specs.declared.event.Outcome.TheVariants.{Ok, Skip, Fail}
use Rattle.ace_model.specs.declared.plans.Op.TheVariants as op
use Rattle.ace_model.specs.declared.plans.PolicyWord.TheVariants.{Keep, Eager}
use Rattle.ace_model.specs.Plans.{Plan}
use Rattle.ace_rows.specs.Shorthands.{one_ace, one_lite, read_shared, repeated_line, four_writes}
use Rattle.ace_run_rows.specs.Rows.{asks, plan_of, events_of}
use Rattle.ace_run_rows.specs.Short.{loads, updates, line_writes, exclusive}
use Rattle.ace_run_rows.specs.Shared.{cleaning_plan}

-- the last operation has no OP
abbrev pub lacks_an_operation : List Event
lacks_an_operation = take 11 (events_of loads)

-- there is an OP more than operations
abbrev pub has_an_operation_more : List Event
has_an_operation_more = events_of loads ++ Op 0 3 Skip ∷ []

-- a load retires without its access
abbrev pub lacks_an_act : List Event
lacks_an_act = take 7 (events_of loads) ++ Op 0 0 Ok ∷ []

-- it is of another word than the operation asks for
abbrev pub has_another_act : List Event
has_another_act = take 7 (events_of loads) ++ L 0 0x40 1 false 0 ∷ Op 0 0 Ok ∷ []

-- the port loads once more after its last OP
abbrev pub acts_at_the_end : List Event
acts_at_the_end = events_of loads ++ L 0 0x40 1 false 0 ∷ []

-- a WriteBack retires, but none was issued
abbrev pub issues_no_update : List Event
issues_no_update = take 6 (events_of updates) ++ Op 0 1 Ok ∷ []

-- a WriteBack is left out though the line is dirty
abbrev pub skips_a_dirty_line : List Event
skips_a_dirty_line = take 6 (events_of updates) ++ Op 0 1 Skip ∷ []

-- an exclusive store fails though the monitor of its port is set
abbrev pub fails_with_its_monitor : List Event
fails_with_its_monitor = take 9 (events_of exclusive) ++ Op 0 1 Fail ∷ []

-- a read retires before it is complete
abbrev pub retires_too_soon : List Event
retires_too_soon = take 11 (events_of line_writes) ++ Op 0 1 Ok ∷ []

-- a write carries other data than the operation has
abbrev pub carries_other_data : List Event
carries_other_data = take 2 (events_of line_writes) ++ four_writes 0 0x33

-- a write retires with its AW, and is left outstanding at the end
abbrev pub one_write : Plan
one_write = plan_of one_lite 1 Keep (asks 0 (op.Wlu 0x40 (repeated_line 0x22)) ∷ [])

abbrev pub leaves_a_write : List Event
leaves_a_write = take 2 (events_of line_writes)

-- two lines are loaded, and there is one way
abbrev pub two_lines : ℕ → Plan
two_lines ways = plan_of one_ace ways Keep (asks 0 (op.Ld 0x40 0) ∷ asks 0 (op.Ld 0x80 0) ∷ [])

abbrev pub holds_two_lines : List Event
holds_two_lines =
    take 9 (events_of loads) ++ Ar 0 0 0x80 read_shared 1 0 false
    ∷ G 0 Read 0 ∷ R 0 0 0 false 0 ∷ R 0 0 0 false 0 ∷ R 0 0 0 false 0
    ∷ R 0 0 0 true 0 ∷ Rk 0 UC ∷ L 0 0x80 0 false 0 ∷ Op 0 1 Ok ∷ []

-- a cache that should give lines up keeps one
abbrev pub eager_plan : Plan
eager_plan = record cleaning_plan { policy = Eager }

-- The first transfer says that the line is shared, though no port shares it. The rules allow that,
-- and want the later ones to say the same; but no step gives them.
abbrev pub says_shared : List Event
says_shared = take 2 (events_of loads) ++ R 0 0 8 false 0 ∷ []
