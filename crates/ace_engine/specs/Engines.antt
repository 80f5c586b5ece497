-- The engines of a run: which steps each takes and which events they give, and for which traces it
-- may stand.
use Rattle.std.specs.Prelude.{ℕ, Bool, true, false, not, ◌&&◌, ◌||◌, List, [], ◌∷◌}
use Rattle.ace_event.specs.declared.event.Channel.TheVariants.{Read, Write}
use Rattle.ace_event.specs.declared.event.Event.{Event}
use Rattle.ace_event.specs.declared.event.Event.TheVariants.{R, B, Ac, G, M, Mem}
use Rattle.ace_model.specs.declared.plans.PlanOp.{PlanOp}
use Rattle.ace_model.specs.declared.transactions.Transaction.{Transaction}
use Rattle.ace_model.specs.Trace.{Trace, is_some_and}
use Rattle.ace_model.specs.Transactions.{is_line, takes_grant, transaction_of}
use Rattle.ace_model.specs.Progress.{updates_memory, evicts}
use Rattle.ace_model.specs.Snoops.{snoops_a_line}
use Rattle.ace_model.specs.Accepted.{IsAccepted}
use Rattle.ace_model.specs.Plans.{Plan, IsRight}
use Rattle.ace_runs.specs.Segments.{is_at_port}
use Rattle.ace_runs.specs.Follows.{FollowsSoFar}
use Rattle.ace_runs.specs.Lean.{IsLean}

-- The master of a port; and of the interconnect the home, which serves lines that are granted, the
-- engine of memory updates, and the one of barriers and DVM.
pub data EngineKind : Type 0 where
  Master : EngineKind
  Home : EngineKind
  Update : EngineKind
  Order : EngineKind

-- the numbers of the steps that an engine of this kind takes
abbrev pub numbers_of : EngineKind → List ℕ
numbers_of Master = 1 ∷ 2 ∷ 4 ∷ 14 ∷ []
numbers_of Home = 5 ∷ 6 ∷ 7 ∷ 8 ∷ 9 ∷ []
numbers_of Update = 3 ∷ []
numbers_of Order = 10 ∷ 11 ∷ 12 ∷ 13 ∷ []

-- a memory update or an Evict
abbrev pub gives_up_line : Transaction → Bool
gives_up_line x = updates_memory x || evicts x

-- what the interconnect gives: all that no master does
abbrev pub is_of_interconnect : Event → Bool
is_of_interconnect (R p i resp last word) = true
is_of_interconnect (B p i resp) = true
is_of_interconnect (Ac p addr snoop) = true
is_of_interconnect (G p c i) = true
is_of_interconnect (M p c i line) = true
is_of_interconnect (Mem addr line) = true
is_of_interconnect _ = false

-- every G, the snoops of lines, and R, B and M of what is granted
abbrev pub is_of_home : Trace → Event → Bool
is_of_home past (G p c i) = true
is_of_home past (Ac p addr snoop) = snoops_a_line snoop
is_of_home past (R p i resp last word) = is_some_and (transaction_of past p Read i) takes_grant
is_of_home past (B p i resp) = is_some_and (transaction_of past p Write i) takes_grant
is_of_home past (M p c i line) = is_some_and (transaction_of past p c i) takes_grant
is_of_home past _ = false

-- B and M of memory updates and Evicts
abbrev pub is_of_update : Trace → Event → Bool
is_of_update past (B p i resp) = is_some_and (transaction_of past p Write i) gives_up_line
is_of_update past (M p c i line) = is_some_and (transaction_of past p c i) gives_up_line
is_of_update past _ = false

-- the snoops of DVM, and R and B of barriers and DVM transactions
abbrev pub is_of_order : Trace → Event → Bool
is_of_order past (Ac p addr snoop) = not (snoops_a_line snoop)
is_of_order past (R p i resp last word) =
    is_some_and (transaction_of past p Read i) (λ x. not (is_line x))
is_of_order past (B p i resp) = is_some_and (transaction_of past p Write i) (λ x. not (is_line x))
is_of_order past _ = false

-- the event is one that the steps of an engine of this kind give which takes those of the port
unfoldable pub is_given_by : EngineKind → Trace → ℕ → Event → Bool
is_given_by Master past p e = is_at_port p e && not (is_of_interconnect e)
is_given_by Home past p e = is_of_home past e
is_given_by Update past p e = is_of_update past e
is_given_by Order past p e = is_of_order past e

abbrev pub is_master : EngineKind → Bool
is_master Master = true
is_master _ = false

-- the operation is one for an engine that is a master and takes the steps of these ports
abbrev pub is_their_operation : EngineKind → (ℕ → Bool) → PlanOp → Bool
is_their_operation kind serves o = is_master kind && serves o.port

-- An engine may stand for the plan and the trace: the plan is right, and the trace is accepted,
-- follows the plan so far and is lean.
pub record IsLegal (plan : Plan) (past : Trace) : Type 0 where
  pub right : IsRight plan
  pub accepted : IsAccepted plan.header past
  pub follows : FollowsSoFar plan past
  pub lean : IsLean plan past
