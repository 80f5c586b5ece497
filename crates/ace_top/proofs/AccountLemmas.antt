-- What `report` and `order` answer.
use Rattle.std.proofs.Common.{◌≡◌, ℕ, List, [], Option, None, Some, IfSome, reverse, refl, sym, subst, ap, inl, codes, ◌∙◌, append-nil}
use Rattle.std.proofs.lemmas.List.{reverse-reverse}
use Rattle.std.specs.Io.KnownBytes.{Appends}
use Rattle.std.proofs.KnownBytes.{Appends-nil}
use Rattle.ace_account.specs.Accounts.{IsAccount}
use Rattle.ace_account.specs.declared.listener.Account.{Account}
use Rattle.ace_model.specs.Trace.{Trace}
use Rattle.ace_verdict.specs.declared.follow.Follower.{Follower}
use Rattle.ace_verdict.specs.declared.verdict.Verdict.{Verdict}
use Rattle.ace_verdict.specs.declared.verdict.Verdict.TheVariants as verdicts
use Rattle.ace_verdict.specs.Follow.{HasFollowed}
use Rattle.ace_verdict.specs.Limits.{trace_limits}
use Rattle.ace_verdict.specs.Progress.{IsRefusal}
use Rattle.ace_verdict.specs.Verdict.{IsVerdict}
use Rattle.ace_top.specs.declared.answer.Answer.{Answer}
use Rattle.ace_top.specs.declared.answer.Answer.TheVariants.{Reported, NoMemory}
use Rattle.ace_top.specs.declared.words.Command.TheVariants as command
use Rattle.ace_top.specs.Answer.{Answers, BreaksOff, FitsAnswer, IsAnswer}
use Rattle.ace_convert.specs.Output.{AppendsPart}
use Rattle.ace_call.specs.Output.{AppendsParts}
use Rattle.ace_top.specs.Report.{ReportsTrace, IsReported}
use Rattle.ace_top.specs.Results.{verdict_answer}
use Rattle.ace_top.specs.Texts.{status_of, out_text_of, notes_text_of}
use Rattle.ace_call.proofs.Parts.{both_nothing}
use Rattle.ace_top.proofs.WrittenLemmas.{alone}

-- an account of the trace that was followed is one of the trace that was read
reported : (account : Account) (told : Option (List ℕ)) (f : Follower) (w : HasFollowed trace_limits told f) (text : List ℕ) → IsAccount account w.header w.past text
    → IfSome told (λ bytes. ReportsTrace account bytes text)
reported account None f w text is = tt
reported account (Some bytes) f w text is =
    (w.header, reverse w.past, (w.reads, w.unbroken), subst (λ (past : Trace). IsAccount account w.header past text) (sym (reverse-reverse w.past)) is)

-- an account that was given
pub account_answers : (account : Account) (told left : Option (List ℕ)) (f : Follower) (w : HasFollowed trace_limits told f) (text : List ℕ) (status : ℕ) (out out' out'' notes notes' : Option (List ℕ))
    → IsAccount account w.header w.past text → status ≡ status_of Reported → Appends out out' text → Appends out' out'' (out_text_of Reported) → Appends notes notes' (notes_text_of Reported)
    → Answers (command.Account account) told left status out out'' notes notes'
account_answers account told left f w text status out out' out'' notes notes' is same given more noted =
    (Reported, text, tt, reported account told f w text is, same, alone out out' out'' text [] refl given more, noted)

-- one that an output broke off behind its text
pub account_breaks_after : (account : Account) (told left : Option (List ℕ)) (f : Follower) (w : HasFollowed trace_limits told f) (text : List ℕ) (out out' out'' notes notes' : Option (List ℕ))
    → IsAccount account w.header w.past text → Appends out out' text → AppendsPart out' out'' (out_text_of Reported) → AppendsParts notes notes' (notes_text_of Reported) (codes "write fault\n")
    → BreaksOff (command.Account account) told left out out'' notes notes'
account_breaks_after account told left f w text out out' out'' notes notes' is given (part, rest, cut, more) parts =
    inl (
      Reported,
      text,
      tt,
      reported account told f w text is,
      (text, [], sym (append-nil text), alone out out' out'' text part (both_nothing part rest (sym cut)).0 given more),
      parts,
    )

-- one that the standard output broke off
pub account_breaks_off : (account : Account) (told left : Option (List ℕ)) (f : Follower) (w : HasFollowed trace_limits told f) (text : List ℕ) (out out' notes notes' : Option (List ℕ))
    → IsAccount account w.header w.past text → AppendsPart out out' text → AppendsPart notes notes' (codes "write fault\n") → BreaksOff (command.Account account) told left out out' notes notes'
account_breaks_off account told left f w text out out' notes notes' is part noted =
    inl (Reported, text, tt, reported account told f w text is, part, (notes, ([], [], refl, Appends-nil notes), noted))

-- a trace that isn't accepted has its verdict
refused_text : (account : Account) (verdict : Verdict) → IsRefusal verdict
    → FitsAnswer (command.Account account) (verdict_answer verdict) (out_text_of (verdict_answer verdict))
refused_text account (verdicts.Accepted events) r = absurd r
refused_text account (verdicts.Refused index rule) r = refl
refused_text account (verdicts.Malformed line reason) r = refl
refused_text account verdicts.ReadFault r = refl
refused_text account verdicts.LimitEvents r = refl
refused_text account verdicts.LimitLines r = refl
refused_text account verdicts.NoMemory r = refl

refused : (account : Account) (bytes : List ℕ) (verdict : Verdict) → IsRefusal verdict → IsVerdict bytes verdict
    → IsReported account bytes (verdict_answer verdict) (out_text_of (verdict_answer verdict))
refused account bytes (verdicts.Accepted events) r v = absurd r
refused account bytes (verdicts.Refused index rule) r v = ((verdicts.Refused index rule, refl, v), refl)
refused account bytes (verdicts.Malformed line reason) r v = ((verdicts.Malformed line reason, refl, v), refl)
refused account bytes verdicts.ReadFault r v = ((verdicts.ReadFault, refl, v), refl)
refused account bytes verdicts.LimitEvents r v = ((verdicts.LimitEvents, refl, v), refl)
refused account bytes verdicts.LimitLines r v = ((verdicts.LimitLines, refl, v), refl)
refused account bytes verdicts.NoMemory r v = ((verdicts.NoMemory, refl, v), refl)

refused_so : (account : Account) (told left : Option (List ℕ)) (verdict : Verdict) → IsRefusal verdict → IfSome told (λ bytes. IsVerdict bytes verdict)
    → IsAnswer (command.Account account) told left (verdict_answer verdict) (out_text_of (verdict_answer verdict))
refused_so account None left verdict r v = tt
refused_so account (Some bytes) left verdict r v = refused account bytes verdict r v

pub refusal_answers : (account : Account) (told left : Option (List ℕ)) (verdict : Verdict) (answer : Answer) (status : ℕ) (out out' notes notes' : Option (List ℕ))
    → answer ≡ verdict_answer verdict → IsRefusal verdict → IfSome told (λ bytes. IsVerdict bytes verdict)
    → status ≡ status_of answer → Appends out out' (out_text_of answer) → Appends notes notes' (notes_text_of answer)
    → Answers (command.Account account) told left status out out' notes notes'
refusal_answers account told left verdict answer status out out' notes notes' is r v same given noted = (
  verdict_answer verdict,
  out_text_of (verdict_answer verdict),
  refused_text account verdict r,
  refused_so account told left verdict r v,
  same ∙ ap status_of is,
  subst (λ (a : Answer). Appends out out' (out_text_of a)) is given,
  subst (λ (a : Answer). Appends notes notes' (notes_text_of a)) is noted,
)

pub refusal_breaks_off : (account : Account) (told left : Option (List ℕ)) (verdict : Verdict) (answer : Answer) (out out' notes notes' : Option (List ℕ))
    → answer ≡ verdict_answer verdict → IsRefusal verdict → IfSome told (λ bytes. IsVerdict bytes verdict)
    → AppendsPart out out' (out_text_of answer) → AppendsParts notes notes' (notes_text_of answer) (codes "write fault\n")
    → BreaksOff (command.Account account) told left out out' notes notes'
refusal_breaks_off account told left verdict answer out out' notes notes' is r v part parts =
    inl (
      verdict_answer verdict,
      out_text_of (verdict_answer verdict),
      refused_text account verdict r,
      refused_so account told left verdict r v,
      subst (λ (a : Answer). AppendsPart out out' (out_text_of a)) is part,
      subst (λ (a : Answer). AppendsParts notes notes' (notes_text_of a) (codes "write fault\n")) is parts,
    )

-- there was no memory for the account, and nothing was given before
verdict_free : (told : Option (List ℕ)) → IfSome told (λ bytes. IsVerdict bytes verdicts.NoMemory)
verdict_free None = tt
verdict_free (Some bytes) = tt

pub lack_answers : (account : Account) (told left : Option (List ℕ)) (status : ℕ) (out out' out'' notes notes' : Option (List ℕ))
    → Appends out out' [] → status ≡ status_of NoMemory → Appends out' out'' (out_text_of NoMemory) → Appends notes notes' (notes_text_of NoMemory)
    → Answers (command.Account account) told left status out out'' notes notes'
lack_answers account told left status out out' out'' notes notes' none s given noted =
    refusal_answers account told left verdicts.NoMemory NoMemory status out out'' notes notes' refl tt (verdict_free told) s
    (alone out out' out'' [] [] refl none given) noted

pub lack_breaks_off : (account : Account) (told left : Option (List ℕ)) (out out' out'' notes notes' : Option (List ℕ))
    → Appends out out' [] → AppendsPart out' out'' (out_text_of NoMemory) → AppendsParts notes notes' (notes_text_of NoMemory) (codes "write fault\n")
    → BreaksOff (command.Account account) told left out out'' notes notes'
lack_breaks_off account told left out out' out'' notes notes' none (part, rest, cut, more) parts =
    refusal_breaks_off account told left verdicts.NoMemory NoMemory out out'' notes notes' refl tt (verdict_free told)
    ([], [], refl, alone out out' out'' [] part (both_nothing part rest (sym cut)).0 none more) parts
