-- Histories: what the calls of a run's ports did, one after the other, the oldest first. An entry
-- stands for the OP that ended the call.
use Rattle.std.specs.Prelude.{ℕ, ◌≡◌, ◌==◌, if◌then◌else◌, List, [], ◌∷◌, map}
use Rattle.std.specs.Prelude.{Option, None, option_map}
use Rattle.ace_event.specs.declared.event.Event.{Event}
use Rattle.ace_event.specs.declared.event.Event.TheVariants.{L, Op}
use Rattle.ace_event.specs.declared.event.Outcome.{Outcome}
use Rattle.ace_model.specs.declared.plans.Op.{Op as Operation}
use Rattle.ace_model.specs.declared.plans.PlanOp.{PlanOp}
use Rattle.ace_model.specs.Accepted.{IsAccepted}
use Rattle.ace_model.specs.Plans.{Plan}
use Rattle.ace_model.specs.Trace.{Trace, more}
use Rattle.ace_runs.specs.Follows.{Follows}
use Rattle.ace_runs.specs.Operations.{next_operation}
use Rattle.ace_runs.specs.Steps.{AreSteps}
use Rattle.ace_history.specs.declared.entry.Entry.{Entry}
use Rattle.ace_history.specs.Reserved.{AreExclusive}
use Rattle.ace_history.specs.Stored.{AreRightWords}

-- the word of the L that the port has made since its last OP, 0 where it has made none
abbrev pub word_loaded : Trace → ℕ → ℕ
word_loaded [] p = 0
word_loaded (Op q k res ∷ past) p = if p == q then 0 else word_loaded past p
word_loaded (L q addr w x word ∷ past) p = if p == q then word else word_loaded past p
word_loaded (_ ∷ past) p = word_loaded past p

abbrev pub entry : ℕ → Outcome → ℕ → Operation → Entry
entry p res word op = record { port = p; op = op; res = res; word = word }

-- the entry of the event: an OP has one
abbrev pub entry_at : Plan → Trace → Event → Option Entry
entry_at plan past (Op p k res) =
    option_map (entry p res (word_loaded past p)) (next_operation plan past p)
entry_at plan past _ = None

-- The history of a trace that follows the plan: an entry for each OP, in their order.
abbrev pub history_of : Plan → Trace → List Entry
history_of plan [] = []
history_of plan (e ∷ past) = more (history_of plan past) (entry_at plan past e)

-- the call of the entry
abbrev pub call_of : Entry → PlanOp
call_of e = record { port = e.port; op = e.op }

-- the plan, with the calls of the history as its operations
abbrev pub plan_with : Plan → List Entry → Plan
plan_with plan history = record plan { operations = map call_of history }

-- The history is legal, for the header, the ways and the policy of the plan: it is that of an
-- accepted trace that follows the plan with its calls, each once in their order, and is a list of
-- steps of it; each load has the word that the entries before it leave; and each `stx` that is `ok`
-- has its line reserved by them.
pub record IsLegalHistory (plan : Plan) (history : List Entry) : Type 0 where
  pub past : Trace
  pub accepted : IsAccepted plan.header past
  pub follows : Follows (plan_with plan history) past
  pub steps : AreSteps (plan_with plan history) past
  pub of_trace : history_of (plan_with plan history) past ≡ history
  pub words : AreRightWords [] history
  pub exclusive : AreExclusive [] history
