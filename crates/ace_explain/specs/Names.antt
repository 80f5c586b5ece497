-- What is named of an event that breaks a rule.
use Rattle.std.specs.Prelude.{ℕ, ◌≡◌, Some}
use Rattle.ace_event.specs.declared.event.Event.{Event}
use Rattle.ace_event.specs.declared.header.Header.{Header}
use Rattle.ace_model.specs.Trace.{Trace}
use Rattle.ace_model.specs.Accepted.{least_broken}
use Rattle.ace_portck.specs.Targets.{Recording}
use Rattle.ace_check.specs.Shares.{SharesTell}
use Rattle.ace_check.specs.declared.shares.Shares.{Shares}
use Rattle.ace_clauses.specs.Clauses.{clause_of}
use Rattle.ace_clauses.specs.declared.letters.Letter.{Letter}
use Rattle.ace_explain.specs.LastLoads.{LoadsStand}
use Rattle.ace_explain.specs.declared.last_loads.LastLoads.{LastLoads}

-- Where rule k is the least that the event breaks as the next of the recording, the letter is that
-- of the clause of rule k which it breaks.
abbrev pub Names : Recording → Event → ℕ → Letter → Type 0
Names r e k letter =
    least_broken r.header r.past e ≡ Some k → clause_of r.header r.past e k ≡ Some letter

-- Where rule k is the least that the event breaks after the trace of which the shares and the last
-- exclusive loads tell, and which is accepted, the letter is that of the clause of rule k which it
-- breaks.
abbrev pub IsClause : Shares → LastLoads → Event → ℕ → Letter → Type 0
IsClause s loads e k letter =
    (h : Header) (past : Trace) → SharesTell s h past → LoadsStand past loads
    → Names (record { header = h; past = past }) e k letter
