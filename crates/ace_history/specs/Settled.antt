-- Runs between two calls, where each operation has retired.
use Rattle.std.specs.Prelude.{ℕ, ◌≡◌, ◌≤◌, Bool, true, false, List, [], ◌∷◌, ◌++◌, length, map}
use Rattle.std.specs.List.{AllByRecursion, list_all}
use Rattle.ace_event.specs.Range.{FitsFields}
use Rattle.ace_model.specs.declared.plans.Op.{Op}
use Rattle.ace_model.specs.declared.plans.Op.TheVariants.{Ld, Ldx, St, Stx, Wb}
use Rattle.ace_model.specs.declared.plans.PlanOp.{PlanOp}
use Rattle.ace_model.specs.Copies.{zero_line}
use Rattle.ace_model.specs.OrderRules.{retired}
use Rattle.ace_model.specs.Plans.{Plan, longer}
use Rattle.ace_model.specs.Trace.{Trace}
use Rattle.ace_model.specs.Values.{value_of}
use Rattle.ace_runs.specs.Operations.{operations_of}
use Rattle.ace_history.specs.Histories.{call_of, history_of}
use Rattle.ace_history.specs.Newest.{last_entry, word_retired}
use Rattle.ace_history.specs.Reserved.{AreExclusive, is_reserved}
use Rattle.ace_history.specs.Stored.{AreRightWords, line_after, word_left}
use Rattle.ace_history.specs.Watched.{is_watched}

-- a call can do the operation: a load, a store or a WriteBack
abbrev pub is_call : Op → Bool
is_call (Ld a w) = true
is_call (Ldx a w) = true
is_call (St a w word) = true
is_call (Stx a w word) = true
is_call (Wb a) = true
is_call _ = false

abbrev pub are_calls : List PlanOp → Bool
are_calls os = list_all (λ o. is_call o.op) os

-- Each operation of the plan is a call that has retired, one after the other; each line has the
-- value that the history leaves, and each port watches the lines that it has reserved.
pub record IsSettled (plan : Plan) (past : Trace) : Type 0 where
  pub calls : are_calls plan.operations ≡ true
  pub in_order : plan.operations ≡ map call_of (history_of plan past)
  pub retired_all : (p : ℕ) → length (operations_of plan p) ≤ retired past p
  pub fits : AllByRecursion FitsFields past
  pub values : (a : ℕ) → value_of past a ≡ line_after a zero_line (history_of plan past)
  pub watched : (p a : ℕ) → is_watched past p a ≡ is_reserved (history_of plan past) p a
  pub words : AreRightWords [] (history_of plan past)
  pub exclusive : AreExclusive [] (history_of plan past)

-- The call makes one entry, that of its OP, with the word that the entries before it leave; and the
-- run is settled again.
pub record CallMade (plan : Plan) (o : PlanOp) (start past : Trace) : Type 0 where
  pub history : history_of (longer plan o) past ≡ history_of plan start ++ last_entry o past ∷ []
  pub word : word_retired past o.port ≡ word_left (history_of plan start) o.op
  pub settled : IsSettled (longer plan o) past
