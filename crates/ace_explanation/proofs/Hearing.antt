-- What the checker's answers to an event say.
use Rattle.std.proofs.Common.{◌≡◌, ℕ, Bool, true, false, ◌∷◌, Option, None, Some, refl, sym, subst}
use Rattle.ace_belongs.specs.Belongs.{event_line}
use Rattle.ace_check.specs.Promises.{goes_over_within}
use Rattle.ace_check.specs.Run.{IsAnswerWithin, StandsWithin}
use Rattle.ace_check.specs.declared.checker.Step.TheVariants.{Fine, Broken}
use Rattle.ace_event.specs.declared.event.Event.{Event}
use Rattle.ace_event.specs.declared.header.Header.{Header}
use Rattle.ace_explain.specs.LastLoads.{LoadsStand}
use Rattle.ace_explanation.specs.Explanations.{verdict_of}
use Rattle.ace_explanation.specs.Following.{BreaksAt, HasHeard, told_unless}
use Rattle.ace_explanation.specs.declared.explanation.Explanation.{Explanation}
use Rattle.ace_explanation.specs.declared.listener.Listener.{Listener}
use Rattle.ace_explanation.specs.declared.explanation.Explanation.TheVariants.{Other}
use Rattle.ace_journal.specs.Journals.{JournalStands}
use Rattle.ace_journal.specs.Rows.{row_of}
use Rattle.ace_journal.specs.declared.journal.Journal.{Journal}
use Rattle.ace_journal.specs.declared.rows.Row.{Row}
use Rattle.ace_model.specs.Accepted.{least_broken}
use Rattle.ace_model.specs.Trace.{Trace}
use Rattle.ace_since.specs.Kept.{SinceStands}
use Rattle.ace_since.specs.declared.since.Since.{Since}
use Rattle.ace_verdict.specs.Progress.{IsStop, StopsAt}
use Rattle.ace_verdict.specs.declared.verdict.Verdict.TheVariants as verdict

pub fine_heard : (lines : ℕ) (new : Listener) (h : Header) (past : Trace) (e : Event) → IsAnswerWithin lines h past e Fine
    → StandsWithin lines new.checker h (e ∷ past) None → LoadsStand (e ∷ past) new.loads → JournalStands h (e ∷ past) new.journal
    → SinceStands h (e ∷ past) new.since → HasHeard lines new h past e None
fine_heard lines new h past e a s l j n = record { fine = a; stands = (s, l, j, n); stops = tt; breaks = tt }

pub no_memory_heard : (lines : ℕ) (new : Listener) (h : Header) (past : Trace) (e : Event)
    → HasHeard lines new h past e (Some (Other verdict.NoMemory))
no_memory_heard lines new h past e = record { fine = tt; stands = tt; stops = tt; breaks = tt }

-- the event was kept, or there was no memory for it
pub kept_heard : (lines : ℕ) (new : Listener) (h : Header) (past : Trace) (e : Event) (old : Journal) (before : Since) (line : Option ℕ) (row : Row)
    (goes_on : Bool) (told : Explanation)
    → IsAnswerWithin lines h past e Fine → StandsWithin lines new.checker h (e ∷ past) None → LoadsStand (e ∷ past) new.loads
    → JournalStands h past old → SinceStands h past before → line ≡ event_line h past e → row ≡ row_of h past e
    → (goes_on ≡ true → (g : Header) (t : Trace) → JournalStands g t old → line ≡ event_line g t e → row ≡ row_of g t e
    → JournalStands g (e ∷ t) new.journal)
    → (goes_on ≡ true → SinceStands h past before → line ≡ event_line h past e → SinceStands h (e ∷ past) new.since)
    → (goes_on ≡ false → told ≡ Other verdict.NoMemory) → HasHeard lines new h past e (told_unless goes_on told)
kept_heard lines new h past e old before line row true told a s l stood so is own kept since none =
    fine_heard lines new h past e a s l (kept refl h past stood is own) (since refl so is)
kept_heard lines new h past e old before line row false told a s l stood so is own kept since none =
    subst (λ y. HasHeard lines new h past e (Some y)) (sym (none refl)) (no_memory_heard lines new h past e)

pub broken_heard : (lines : ℕ) (new : Listener) (h : Header) (past : Trace) (e : Event) (x : Explanation) (index rule : ℕ)
    → verdict_of x ≡ verdict.Refused index rule → IsAnswerWithin lines h past e (Broken index rule) → BreaksAt h past e x
    → HasHeard lines new h past e (Some x)
broken_heard lines new h past e x index rule is a b =
    record { fine = tt; stands = tt; stops = subst (StopsAt lines h past e) (sym is) a; breaks = b }

pub over_heard : (lines : ℕ) (new : Listener) (h : Header) (past : Trace) (e : Event)
    → (least_broken h past e ≡ None) × (goes_over_within lines past e ≡ true)
    → HasHeard lines new h past e (Some (Other verdict.LimitLines))
over_heard lines new h past e over = record { fine = tt; stands = tt; stops = over; breaks = tt }

pub refused_stop : (x : Explanation) (index rule : ℕ) → verdict_of x ≡ verdict.Refused index rule → IsStop (verdict_of x)
refused_stop x index rule is = subst IsStop (sym is) tt

pub ruleset hearing = (fine_heard, broken_heard, no_memory_heard, over_heard, refused_stop)
