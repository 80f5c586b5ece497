-- What `run` and `trial` answer.
use Rattle.std.specs.Prelude.{◌≡◌, ⊤, ℕ, true, List, [], length, reverse}
use Rattle.ace_event.specs.declared.header.Header.{Header}
use Rattle.ace_event.specs.Text.{trace_text}
use Rattle.ace_filter.specs.Drain.{are_kept_snoops}
use Rattle.ace_model.specs.Plans.{Plan}
use Rattle.ace_model.specs.Trace.{Trace}
use Rattle.ace_script.specs.Generated.{generated}
use Rattle.ace_script.specs.Grammar.{IsScript}
use Rattle.ace_script.specs.Reading.{Reads, Whole, Full, IsMalformed}
use Rattle.ace_whole_runs.specs.Runs.{IsRunOf}
use Rattle.ace_top.specs.declared.answer.Answer.{Answer}
use Rattle.ace_top.specs.declared.answer.Answer.TheVariants.{LimitOperations, MalformedScript, NoMemory, Ran, ReadFault, Tried}
use Rattle.ace_top.specs.declared.words.Snooping.{Snooping}
use Rattle.ace_top.specs.declared.words.Snooping.TheVariants.{AllPorts, KeptPorts}

-- The snoops of a line in the trace are those that are asked for: any, or each to a port that is
-- kept for the line at that point.
abbrev pub SnoopsBy : Snooping → Header → Trace → Type 0
SnoopsBy AllPorts h past = ⊤
SnoopsBy KeptPorts h past = are_kept_snoops h [] (reverse past) ≡ true

-- The text is that of a trace of a run of the plan, with such snoops.
abbrev pub WritesRun : Snooping → Plan → List ℕ → Type 0
WritesRun snooping plan text = (past : Trace) × IsRunOf plan past
    × SnoopsBy snooping plan.header past × (text ≡ trace_text plan.header (reverse past))

abbrev pub WritesSomeRun : Snooping → List ℕ → Type 0
WritesSomeRun snooping text = (plan : Plan) × IsScript plan × WritesRun snooping plan text

-- The answer to the bytes of a script, and its text: the trace of a run of the whole script, with
-- such snoops. A fault of the input and want of memory may take its place.
abbrev pub IsRan : Snooping → List ℕ → Answer → List ℕ → Type 0
IsRan snooping bytes Ran text =
    (plan : Plan) × Reads bytes plan Whole × WritesRun snooping plan text
IsRan snooping bytes (MalformedScript line reason) text = IsMalformed bytes line reason
IsRan snooping bytes LimitOperations text = (plan : Plan) × Reads bytes plan Full
IsRan snooping bytes ReadFault text = ⊤
IsRan snooping bytes NoMemory text = ⊤
IsRan snooping bytes answer text = ⊥

-- The answer where the script that is made from this number is tried: the number of the events of a
-- run of it. Want of memory may take its place.
abbrev pub IsTried : ℕ → Answer → Type 0
IsTried number (Tried n events) =
    (n ≡ number) × ((past : Trace) × IsRunOf (generated number) past × (events ≡ length past))
IsTried number NoMemory = ⊤
IsTried number answer = ⊥
