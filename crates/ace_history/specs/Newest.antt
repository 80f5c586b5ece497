-- The newest entry of a port, as it is read off the end of a trace.
use Rattle.std.specs.Prelude.{ℕ, ◌==◌, if◌then◌else◌, [], ◌∷◌, Option, Some, None}
use Rattle.ace_event.specs.declared.event.Event.{Event}
use Rattle.ace_event.specs.declared.event.Event.TheVariants.{L, Op}
use Rattle.ace_event.specs.declared.event.Outcome.{Outcome}
use Rattle.ace_event.specs.declared.event.Outcome.TheVariants.{Ok}
use Rattle.ace_model.specs.declared.plans.PlanOp.{PlanOp}
use Rattle.ace_model.specs.Trace.{Trace}
use Rattle.ace_history.specs.declared.entry.Entry.{Entry}
use Rattle.ace_history.specs.Histories.{entry, word_loaded}

-- the outcome of the port's last OP, and the word that the port had loaded for it
abbrev pub last_outcome : Trace → ℕ → Outcome
last_outcome [] p = Ok
last_outcome (Op q k res ∷ past) p = if p == q then res else last_outcome past p
last_outcome (_ ∷ past) p = last_outcome past p

abbrev pub word_retired : Trace → ℕ → ℕ
word_retired [] p = 0
word_retired (Op q k res ∷ past) p = if p == q then word_loaded past p else word_retired past p
word_retired (_ ∷ past) p = word_retired past p

-- the entry of the port's last OP, where it was that of the operation
abbrev pub last_entry : PlanOp → Trace → Entry
last_entry o past = entry o.port (last_outcome past o.port) (word_retired past o.port) o.op

-- what the newest event tells of the word that the port has loaded since its last OP
abbrev pub word_told : Event → ℕ → Option ℕ
word_told (Op q k res) p = if p == q then Some 0 else None
word_told (L q addr w x word) p = if p == q then Some word else None
word_told _ p = None

-- and of the outcome of its last OP
abbrev pub outcome_told : Event → ℕ → Option Outcome
outcome_told (Op q k res) p = if p == q then Some res else None
outcome_told _ p = None
