-- What `run` and `trial` answer.
use Rattle.std.proofs.Common.{◌≡◌, ◌≢◌, ℕ, List, [], Option, None, Some, IfSome, length, reverse, refl, sym, subst, inl, codes, append-nil, arith}
use Rattle.std.specs.Io.KnownBytes.{Appends}
use Rattle.std.proofs.KnownBytes.{Appends-nil}
use Rattle.ace_event.specs.Text.{trace_text}
use Rattle.ace_model.specs.Plans.{Plan}
use Rattle.ace_model.specs.Trace.{Trace}
use Rattle.ace_script.specs.declared.error.PlanErr.{PlanErr}
use Rattle.ace_script.specs.declared.error.PlanErr.TheVariants as plan
use Rattle.ace_script.specs.Errors.{HasNoPlan}
use Rattle.ace_script.specs.Generated.{generated}
use Rattle.ace_script.specs.Grammar.{IsScript}
use Rattle.ace_script.specs.Reading.{Reads, Whole}
use Rattle.ace_whole_runs.specs.Runs.{IsRunOf}
use Rattle.ace_top.specs.declared.answer.Answer.{Answer}
use Rattle.ace_top.specs.declared.answer.Answer.TheVariants.{NoMemory, Ran, Tried}
use Rattle.ace_top.specs.declared.words.Command.TheVariants.{Run, Trial}
use Rattle.ace_top.specs.declared.words.Snooping.{Snooping}
use Rattle.ace_top.specs.Answer.{Answers, BreaksOff, FitsAnswer}
use Rattle.ace_top.specs.Cause.{HasReadCause}
use Rattle.ace_top.specs.Results.{plan_answer}
use Rattle.ace_convert.specs.Output.{AppendsPart}
use Rattle.ace_call.specs.Output.{AppendsParts}
use Rattle.ace_top.specs.Run.{IsRan, SnoopsBy}
use Rattle.ace_top.specs.Texts.{status_of, out_text_of, notes_text_of}
use Rattle.ace_call.proofs.Parts.{both_nothing}
use Rattle.ace_top.proofs.WrittenLemmas.{alone}

-- the trace of a run is that of a run of the script
ran : (snooping : Snooping) (told : Option (List ℕ)) (plan : Plan) (past : Trace) → IsRunOf plan past → SnoopsBy snooping plan.header past
    → IfSome told (λ bytes. Reads bytes plan Whole) → IfSome told (λ bytes. IsRan snooping bytes Ran (trace_text plan.header (reverse past)))
ran snooping None plan past run by reads = tt
ran snooping (Some bytes) plan past run by reads = (plan, reads, (past, run, by, refl))

-- a trace that was written
pub run_answers : (snooping : Snooping) (told left : Option (List ℕ)) (plan : Plan) (past : Trace) (status : ℕ) (out out' out'' notes notes' : Option (List ℕ))
    → IsScript plan → IsRunOf plan past → SnoopsBy snooping plan.header past → IfSome told (λ bytes. Reads bytes plan Whole) → status ≡ status_of Ran → Appends out out' (trace_text plan.header (reverse past))
    → Appends out' out'' (out_text_of Ran) → Appends notes notes' (notes_text_of Ran) → Answers (Run snooping) told left status out out'' notes notes'
run_answers snooping told left plan past status out out' out'' notes notes' script run by reads is given more noted = (
  Ran,
  trace_text plan.header (reverse past),
  (plan, script, (past, run, by, refl)),
  ran snooping told plan past run by reads,
  is,
  alone out out' out'' (trace_text plan.header (reverse past)) [] refl given more,
  noted,
)

-- an output broke off behind it
pub run_breaks_after : (snooping : Snooping) (told left : Option (List ℕ)) (plan : Plan) (past : Trace) (out out' out'' notes notes' : Option (List ℕ))
    → IsScript plan → IsRunOf plan past → SnoopsBy snooping plan.header past → IfSome told (λ bytes. Reads bytes plan Whole) → Appends out out' (trace_text plan.header (reverse past))
    → AppendsPart out' out'' (out_text_of Ran) → AppendsParts notes notes' (notes_text_of Ran) (codes "write fault\n") → BreaksOff (Run snooping) told left out out'' notes notes'
run_breaks_after snooping told left plan past out out' out'' notes notes' script run by reads given (part, rest, cut, more) parts =
    let text = trace_text plan.header (reverse past) in
    inl (
      Ran,
      text,
      (plan, script, (past, run, by, refl)),
      ran snooping told plan past run by reads,
      (text, [], sym (append-nil text), alone out out' out'' text part (both_nothing part rest (sym cut)).0 given more),
      parts,
    )

-- the standard output broke it off
pub run_breaks_off : (snooping : Snooping) (told left : Option (List ℕ)) (plan : Plan) (past : Trace) (out out' notes notes' : Option (List ℕ))
    → IsScript plan → IsRunOf plan past → SnoopsBy snooping plan.header past → IfSome told (λ bytes. Reads bytes plan Whole) → AppendsPart out out' (trace_text plan.header (reverse past))
    → AppendsPart notes notes' (codes "write fault\n") → BreaksOff (Run snooping) told left out out' notes notes'
run_breaks_off snooping told left plan past out out' notes notes' script run by reads part noted =
    inl (
      Ran,
      trace_text plan.header (reverse past),
      (plan, script, (past, run, by, refl)),
      ran snooping told plan past run by reads,
      part,
      (notes, ([], [], refl, Appends-nil notes), noted),
    )

-- without a plan there is no further text for the standard output
no_plan_fits : (snooping : Snooping) (e : PlanErr) → FitsAnswer (Run snooping) (plan_answer e) (out_text_of (plan_answer e))
no_plan_fits snooping (plan.Malformed line reason) = refl
no_plan_fits snooping e = refl

no_plan_ran : (snooping : Snooping) (e : PlanErr) (told : Option (List ℕ)) (before now : ℕ) (text : List ℕ) → HasNoPlan e told before now → IfSome told (λ bytes. IsRan snooping bytes (plan_answer e) text)
no_plan_ran snooping e None before now text n = tt
no_plan_ran snooping (plan.Malformed line reason) (Some bytes) before now text n = n.0
no_plan_ran snooping plan.TooManyOps (Some bytes) before now text n = n.0
no_plan_ran snooping plan.ReadFault (Some bytes) before now text n = tt
no_plan_ran snooping plan.NoMemory (Some bytes) before now text n = tt

-- there was no plan
pub no_plan_answers : (snooping : Snooping) (e : PlanErr) (answer : Answer) (told left : Option (List ℕ)) (before now status : ℕ) (out out' notes notes' : Option (List ℕ))
    → answer ≡ plan_answer e → HasNoPlan e told before now → status ≡ status_of answer → Appends out out' (out_text_of answer) → Appends notes notes' (notes_text_of answer)
    → Answers (Run snooping) told left status out out' notes notes'
no_plan_answers snooping e answer told left before now status out out' notes notes' same n is given noted = (
  answer,
  out_text_of answer,
  subst (λ (a : Answer). FitsAnswer (Run snooping) a (out_text_of a)) (sym same) (no_plan_fits snooping e),
  subst (λ (a : Answer). IfSome told (λ bytes. IsRan snooping bytes a (out_text_of answer))) (sym same) (no_plan_ran snooping e told before now _ n),
  is,
  given,
  noted,
)

-- an output failed where there was none
pub no_plan_breaks_off : (snooping : Snooping) (e : PlanErr) (answer : Answer) (told left : Option (List ℕ)) (before now : ℕ) (out out' notes notes' : Option (List ℕ))
    → answer ≡ plan_answer e → HasNoPlan e told before now → AppendsPart out out' (out_text_of answer) → AppendsParts notes notes' (notes_text_of answer) (codes "write fault\n")
    → BreaksOff (Run snooping) told left out out' notes notes'
no_plan_breaks_off snooping e answer told left before now out out' notes notes' same n part parts =
    inl (
      answer,
      out_text_of answer,
      subst (λ (a : Answer). FitsAnswer (Run snooping) a (out_text_of a)) (sym same) (no_plan_fits snooping e),
      subst (λ (a : Answer). IfSome told (λ bytes. IsRan snooping bytes a (out_text_of answer))) (sym same) (no_plan_ran snooping e told before now _ n),
      part,
      parts,
    )

-- a count of faults that stays, or rose for a read fault
pub plan_cause : (e : PlanErr) (told : Option (List ℕ)) (before now : ℕ) → HasNoPlan e told before now → HasReadCause before now (plan_answer e)
plan_cause (plan.Malformed line reason) told before now n = record { failed = λ is. absurd cc; steady = λ not. n.1 }
plan_cause plan.TooManyOps told before now n = record { failed = λ is. absurd cc; steady = λ not. n.1 }
plan_cause plan.ReadFault told before now n = record { failed = λ is. n; steady = λ not. absurd (not refl) }
plan_cause plan.NoMemory told before now n = record { failed = λ is. absurd cc; steady = λ not. n }

-- the status tells that no trace was written, and isn't that of the usage
pub plan_status : (e : PlanErr) → (status_of (plan_answer e) ≢ 0) × (status_of (plan_answer e) ≢ 2)
plan_status (plan.Malformed line reason) = (λ s. absurd (omega (arith, s)), λ s. absurd (omega (arith, s)))
plan_status plan.TooManyOps = (λ s. absurd (omega (arith, s)), λ s. absurd (omega (arith, s)))
plan_status plan.ReadFault = (λ s. absurd (omega (arith, s)), λ s. absurd (omega (arith, s)))
plan_status plan.NoMemory = (λ s. absurd (omega (arith, s)), λ s. absurd (omega (arith, s)))

-- a script that was tried
pub trial_answers : (number events : ℕ) (past : Trace) (input left : Option (List ℕ)) (status : ℕ) (out out' notes notes' : Option (List ℕ))
    → IsRunOf (generated number) past → events ≡ length past → status ≡ status_of (Tried number events) → Appends out out' (out_text_of (Tried number events))
    → Appends notes notes' (notes_text_of (Tried number events)) → Answers (Trial number) input left status out out' notes notes'
trial_answers number events past input left status out out' notes notes' run same is given noted =
    (Tried number events, out_text_of (Tried number events), refl, (refl, (past, run, same)), is, given, noted)

pub trial_breaks_off : (number events : ℕ) (past : Trace) (input left : Option (List ℕ)) (out out' notes notes' : Option (List ℕ))
    → IsRunOf (generated number) past → events ≡ length past → AppendsPart out out' (out_text_of (Tried number events))
    → AppendsParts notes notes' (notes_text_of (Tried number events)) (codes "write fault\n") → BreaksOff (Trial number) input left out out' notes notes'
trial_breaks_off number events past input left out out' notes notes' run same part parts =
    inl (Tried number events, out_text_of (Tried number events), refl, (refl, (past, run, same)), part, parts)

-- there was no memory for the plan, or for its run
pub no_trial_answers : (number : ℕ) (input left : Option (List ℕ)) (status : ℕ) (out out' notes notes' : Option (List ℕ))
    → status ≡ status_of NoMemory → Appends out out' (out_text_of NoMemory) → Appends notes notes' (notes_text_of NoMemory) → Answers (Trial number) input left status out out' notes notes'
no_trial_answers number input left status out out' notes notes' is given noted = (NoMemory, [], refl, tt, is, given, noted)

pub no_trial_breaks_off : (number : ℕ) (input left out out' notes notes' : Option (List ℕ))
    → AppendsPart out out' (out_text_of NoMemory) → AppendsParts notes notes' (notes_text_of NoMemory) (codes "write fault\n") → BreaksOff (Trial number) input left out out' notes notes'
no_trial_breaks_off number input left out out' notes notes' part parts = inl (NoMemory, [], refl, tt, part, parts)

pub ruleset plans = (plan_cause, plan_status)
