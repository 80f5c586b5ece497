-- What the verdict and its status say.
use Rattle.std.proofs.Common.{◌≡◌, ◌≢◌, ℕ, List, Option, None, Some, IfSome, refl, ap, subst, ◌∙◌, inl, codes, arith}
use Rattle.std.specs.Io.KnownBytes.{Appends}
use Rattle.ace_grammar.specs.Errors.{LeavesNothing}
use Rattle.ace_verdict.specs.declared.verdict.Verdict.{Verdict}
use Rattle.ace_verdict.specs.declared.verdict.Verdict.TheVariants.{Accepted, Refused, Malformed, ReadFault, LimitEvents, LimitLines, NoMemory}
use Rattle.ace_verdict.specs.Progress as verdicts
use Rattle.ace_verdict.specs.Verdict.{IsVerdict, ReadsSound}
use Rattle.ace_top.specs.declared.answer.Answer.{Answer}
use Rattle.ace_top.specs.declared.words.Command.TheVariants.{Check}
use Rattle.ace_top.specs.Answer.{Answers, BreaksOff, IsAnswer}
use Rattle.ace_convert.specs.Output.{AppendsPart}
use Rattle.ace_call.specs.Output.{AppendsParts}
use Rattle.ace_top.specs.Cause.{HasReadCause}
use Rattle.ace_top.specs.Results.{verdict_answer}
use Rattle.ace_top.specs.Texts.{status_of, out_text_of, notes_text_of}

-- a trace that isn't accepted has another status
pub refusal_status : (verdict : Verdict) → verdicts.IsRefusal verdict → status_of (verdict_answer verdict) ≢ 0
refusal_status (Accepted events) r s = absurd r
refusal_status (Refused index rule) r s = absurd (omega (arith, s))
refusal_status (Malformed line reason) r s = absurd (omega (arith, s))
refusal_status ReadFault r s = absurd (omega (arith, s))
refusal_status LimitEvents r s = absurd (omega (arith, s))
refusal_status LimitLines r s = absurd (omega (arith, s))
refusal_status NoMemory r s = absurd (omega (arith, s))

-- it is that of an accepted trace alone, which was read to the end
pub zero_whole : (verdict : Verdict) (old left : Option (List ℕ)) → ((events : ℕ) → verdict ≡ Accepted events → LeavesNothing old left)
    → status_of (verdict_answer verdict) ≡ 0 → LeavesNothing old left
zero_whole (Accepted events) old left whole s = whole events refl
zero_whole (Refused index rule) old left whole s = absurd (omega (arith, s))
zero_whole (Malformed line reason) old left whole s = absurd (omega (arith, s))
zero_whole ReadFault old left whole s = absurd (omega (arith, s))
zero_whole LimitEvents old left whole s = absurd (omega (arith, s))
zero_whole LimitLines old left whole s = absurd (omega (arith, s))
zero_whole NoMemory old left whole s = absurd (omega (arith, s))

-- and has all that acceptance promises
pub zero_sound : (verdict : Verdict) (told : Option (List ℕ)) → ((events : ℕ) → verdict ≡ Accepted events → IfSome told ReadsSound)
    → status_of (verdict_answer verdict) ≡ 0 → IfSome told ReadsSound
zero_sound (Accepted events) told sound s = sound events refl
zero_sound (Refused index rule) told sound s = absurd (omega (arith, s))
zero_sound (Malformed line reason) told sound s = absurd (omega (arith, s))
zero_sound ReadFault told sound s = absurd (omega (arith, s))
zero_sound LimitEvents told sound s = absurd (omega (arith, s))
zero_sound LimitLines told sound s = absurd (omega (arith, s))
zero_sound NoMemory told sound s = absurd (omega (arith, s))

-- a verdict doesn't tell the usage
pub verdict_status : (verdict : Verdict) → status_of (verdict_answer verdict) ≢ 2
verdict_status (Accepted events) s = absurd (omega (arith, s))
verdict_status (Refused index rule) s = absurd (omega (arith, s))
verdict_status (Malformed line reason) s = absurd (omega (arith, s))
verdict_status ReadFault s = absurd (omega (arith, s))
verdict_status LimitEvents s = absurd (omega (arith, s))
verdict_status LimitLines s = absurd (omega (arith, s))
verdict_status NoMemory s = absurd (omega (arith, s))

-- a read fault is answered where the input failed
pub verdict_cause : (before now : ℕ) (verdict : Verdict) → verdicts.HasReadCause before now verdict → HasReadCause before now (verdict_answer verdict)
verdict_cause before now (Accepted events) c = record { failed = λ is. absurd cc; steady = λ not. c.steady (λ is. absurd cc) }
verdict_cause before now (Refused index rule) c = record { failed = λ is. absurd cc; steady = λ not. c.steady (λ is. absurd cc) }
verdict_cause before now (Malformed line reason) c = record { failed = λ is. absurd cc; steady = λ not. c.steady (λ is. absurd cc) }
verdict_cause before now ReadFault c = record { failed = λ is. c.failed refl; steady = λ not. absurd (not refl) }
verdict_cause before now LimitEvents c = record { failed = λ is. absurd cc; steady = λ not. c.steady (λ is. absurd cc) }
verdict_cause before now LimitLines c = record { failed = λ is. absurd cc; steady = λ not. c.steady (λ is. absurd cc) }
verdict_cause before now NoMemory c = record { failed = λ is. absurd cc; steady = λ not. c.steady (λ is. absurd cc) }

checked_so : (told left : Option (List ℕ)) (verdict : Verdict) (text : List ℕ) → IfSome told (λ bytes. IsVerdict bytes verdict)
    → IsAnswer Check told left (verdict_answer verdict) text
checked_so None left verdict text v = tt
checked_so (Some bytes) left verdict text v = (verdict, refl, v)

-- a verdict that was told
pub check_answers : (told left : Option (List ℕ)) (verdict : Verdict) (answer : Answer) (status : ℕ) (out out' notes notes' : Option (List ℕ))
    → answer ≡ verdict_answer verdict → IfSome told (λ bytes. IsVerdict bytes verdict) → status ≡ status_of answer
    → Appends out out' (out_text_of answer) → Appends notes notes' (notes_text_of answer)
    → Answers Check told left status out out' notes notes'
check_answers told left verdict answer status out out' notes notes' is v same given noted = (
  verdict_answer verdict,
  out_text_of (verdict_answer verdict),
  refl,
  checked_so told left verdict (out_text_of (verdict_answer verdict)) v,
  same ∙ ap status_of is,
  subst (λ (a : Answer). Appends out out' (out_text_of a)) is given,
  subst (λ (a : Answer). Appends notes notes' (notes_text_of a)) is noted,
)

-- a verdict that an output broke off
pub check_breaks_off : (told left : Option (List ℕ)) (verdict : Verdict) (answer : Answer) (out out' notes notes' : Option (List ℕ))
    → answer ≡ verdict_answer verdict → IfSome told (λ bytes. IsVerdict bytes verdict)
    → AppendsPart out out' (out_text_of answer) → AppendsParts notes notes' (notes_text_of answer) (codes "write fault\n")
    → BreaksOff Check told left out out' notes notes'
check_breaks_off told left verdict answer out out' notes notes' is v part parts =
    inl (
      verdict_answer verdict,
      out_text_of (verdict_answer verdict),
      refl,
      checked_so told left verdict (out_text_of (verdict_answer verdict)) v,
      subst (λ (a : Answer). AppendsPart out out' (out_text_of a)) is part,
      subst (λ (a : Answer). AppendsParts notes notes' (notes_text_of a) (codes "write fault\n")) is parts,
    )

pub ruleset accepted_end = (zero_whole, zero_sound, verdict_status, refusal_status, verdict_cause)
