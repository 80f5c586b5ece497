-- The answer that is due where a script is run is that of its one reading, and each right plan has a run.
use Rattle.std.proofs.Common.{◌≡◌, ℕ, List, [], length, reverse, refl, sym, ap, ◌∙◌, inl, inr}
use Rattle.ace_event.specs.Text.{trace_text}
use Rattle.ace_model.specs.Plans.{IsRight, Plan}
use Rattle.ace_model.specs.Trace.{Trace}
use Rattle.ace_script.specs.declared.reason.Reason.{Reason}
use Rattle.ace_script.specs.Generated.{generated}
use Rattle.ace_script.specs.Reading.{Ending, Whole, Full, Bad, Reads, HasBadHeader}
use Rattle.ace_script.proofs.EveryReading.{some_reading}
use Rattle.ace_script.proofs.OneReading.{one_reading, no_bad_header, one_bad_header}
use Rattle.ace_whole_runs.proofs.WholeRuns.{whole-run}
use Rattle.ace_whole_runs.specs.Runs.{IsRunOf}
use Rattle.ace_top.specs.declared.answer.Answer.{Answer}
use Rattle.ace_top.specs.declared.answer.Answer.TheVariants.{LimitOperations, MalformedScript, NoMemory, Ran, ReadFault, Tried}
use Rattle.ace_top.specs.declared.words.Command.TheVariants.{Run, Trial}
use Rattle.ace_top.specs.declared.words.Snooping.{Snooping}
use Rattle.ace_top.specs.declared.words.Snooping.TheVariants.{AllPorts, KeptPorts}
use Rattle.ace_top.specs.Answer.{FitsAnswer, IsDue, IsSettled}
use Rattle.ace_top.specs.Run.{IsRan, IsTried, SnoopsBy}
use Rattle.ace_top.specs.Texts.{out_text_of}
use Rattle.ace_top.proofs.GeneratedRight.{generated_right}
use Rattle.ace_top.proofs.KeptRuns.{kept-run}

-- the answer where a script that ends so is run
abbrev pub ran_of : Ending → Answer
ran_of Whole = Ran
ran_of Full = LimitOperations
ran_of (Bad line reason) = MalformedScript line reason

due_ran : (snooping : Snooping) (bytes : List ℕ) (plan : Plan) (end : Ending) (answer : Answer) (text : List ℕ) → Reads bytes plan end → IsDue answer → IsRan snooping bytes answer text → answer ≡ ran_of end
due_ran snooping bytes plan end Ran text r d (other, reads, run) = ap ran_of (one_reading bytes other plan Whole end reads r).1
due_ran snooping bytes plan end LimitOperations text r d (other, reads) = ap ran_of (one_reading bytes other plan Full end reads r).1
due_ran snooping bytes plan end (MalformedScript line reason) text r d (inl bad) = absurd (no_bad_header bytes plan end line reason r bad)
due_ran snooping bytes plan end (MalformedScript line reason) text r d (inr (other, reads)) = ap ran_of (one_reading bytes other plan (Bad line reason) end reads r).1
due_ran snooping bytes plan end ReadFault text r d a = absurd d
due_ran snooping bytes plan end NoMemory text r d a = absurd d
due_ran snooping bytes plan end answer text r d a = absurd a

ran_without_header : (snooping : Snooping) (bytes : List ℕ) (number : ℕ) (reason : Reason) (answer : Answer) (text : List ℕ) → HasBadHeader bytes number reason → IsDue answer → IsRan snooping bytes answer text
    → answer ≡ MalformedScript number reason
ran_without_header snooping bytes number reason Ran text bad d (other, reads, run) = absurd (no_bad_header bytes other Whole number reason reads bad)
ran_without_header snooping bytes number reason LimitOperations text bad d (other, reads) = absurd (no_bad_header bytes other Full number reason reads bad)
ran_without_header snooping bytes number reason (MalformedScript line other) text bad d (inl wrong) =
    let one = one_bad_header bytes line number other reason wrong bad in
    rw one.0 (rw one.1 refl)
ran_without_header snooping bytes number reason (MalformedScript line other) text bad d (inr (plan, reads)) = absurd (no_bad_header bytes plan (Bad line other) number reason reads bad)
ran_without_header snooping bytes number reason ReadFault text bad d a = absurd d
ran_without_header snooping bytes number reason NoMemory text bad d a = absurd d
ran_without_header snooping bytes number reason answer text bad d a = absurd a

pub one_ran : (snooping : Snooping) (bytes : List ℕ) (answer other : Answer) (text more : List ℕ) → IsDue answer → IsDue other → IsRan snooping bytes answer text → IsRan snooping bytes other more → answer ≡ other
one_ran snooping bytes answer other text more d o a b =
    elim (some_reading bytes) [
      | inl (number, reason, bad) ↦ ran_without_header snooping bytes number reason answer text bad d a ∙ sym (ran_without_header snooping bytes number reason other more bad o b)
      | inr (plan, end, r) ↦ due_ran snooping bytes plan end answer text r d a ∙ sym (due_ran snooping bytes plan end other more r o b)
    ]

-- ---- bytes that are no whole script -------------------------------------------------------------------

answer_alone : (snooping : Snooping) (bytes : List ℕ) (answer : Answer) (text : List ℕ) → IsSettled (Run snooping) bytes → FitsAnswer (Run snooping) answer text → IsRan snooping bytes answer text → text ≡ out_text_of answer
answer_alone snooping bytes Ran text settled f (plan, reads, run) = absurd (settled plan reads)
answer_alone snooping bytes answer text settled f a = f

pub one_unread : (snooping : Snooping) (bytes : List ℕ) (answer other : Answer) (text more : List ℕ) → IsSettled (Run snooping) bytes → IsDue answer → IsDue other
    → FitsAnswer (Run snooping) answer text → FitsAnswer (Run snooping) other more → IsRan snooping bytes answer text → IsRan snooping bytes other more → (answer ≡ other) × (text ≡ more)
one_unread snooping bytes answer other text more settled d o f g a b =
    let same = one_ran snooping bytes answer other text more d o a b in
    (same, answer_alone snooping bytes answer text settled f a ∙ ap out_text_of same ∙ sym (answer_alone snooping bytes other more settled g b))

-- ---- the answer that is due -----------------------------------------------------------------------------

-- each right plan has a run with such snoops
snooping_run : (snooping : Snooping) (plan : Plan) → IsRight plan → (past : Trace) × IsRunOf plan past × SnoopsBy snooping plan.header past
snooping_run AllPorts plan right = let run = whole-run plan right in (run.0, run.1, tt)
snooping_run KeptPorts plan right = kept-run plan right

pub some_ran : (snooping : Snooping) (bytes : List ℕ)
    → (answer : Answer) × (text : List ℕ) × IsDue answer × FitsAnswer (Run snooping) answer text × IsRan snooping bytes answer text
some_ran snooping bytes =
    elim (some_reading bytes) [ inl (number, reason, bad) ↦ (MalformedScript number reason, [], tt, refl, inl bad) | inr (plan, end, r) ↦ by plan end r ]
  where
    by : (plan : Plan) (end : Ending) → Reads bytes plan end
        → (answer : Answer) × (text : List ℕ) × IsDue answer × FitsAnswer (Run snooping) answer text × IsRan snooping bytes answer text
    by plan Whole r =
        let run = snooping_run snooping plan r.script.right in
        (Ran, trace_text plan.header (reverse run.0), tt, (plan, r.script, (run.0, run.1, run.2, refl)), (plan, r, (run.0, run.1, run.2, refl)))
    by plan Full r = (LimitOperations, [], tt, refl, (plan, r))
    by plan (Bad line reason) r = (MalformedScript line reason, [], tt, refl, inr (plan, r))

pub some_tried : (number : ℕ) → (answer : Answer) × (text : List ℕ) × IsDue answer × FitsAnswer (Trial number) answer text × IsTried number answer
some_tried number =
    let run = whole-run (generated number) (generated_right number) in
    let tried = Tried number (length run.0) in
    (tried, out_text_of tried, tt, refl, (refl, (run.0, run.1, refl)))
