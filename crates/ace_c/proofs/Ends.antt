-- What an answer of the checker says of the session that asked it.
use Rattle.std.proofs.Common.{◌≡◌, ◌∷◌, ℕ, true, Option, None, Result, Ok, Err, IfOk, IfNone, IfSome, Some, OnErr, refl, sym, ap, subst, ◌∙◌, inl}
use Rattle.ace_event.specs.declared.event.Event.{Event}
use Rattle.ace_event.specs.declared.header.Header.{Header}
use Rattle.ace_model.specs.declared.breaks.Break.{Break}
use Rattle.ace_model.specs.Trace.{Trace}
use Rattle.ace_model.specs.Accepted.{least_broken}
use Rattle.ace_check.specs.declared.checker.Checker.{Checker}
use Rattle.ace_check.specs.declared.checker.CheckErr.{CheckErr}
use Rattle.ace_check.specs.declared.checker.CheckErr.TheVariants.{TooManyLines, NoMemory}
use Rattle.ace_check.specs.declared.checker.Step.{Step}
use Rattle.ace_check.specs.declared.checker.Step.TheVariants.{Fine, Broken}
use Rattle.ace_check.specs.Run.{StandsWithin, IsAnswerWithin, MayLackMemory, goes_over_within, past_after, break_after}
use Rattle.ace_c.specs.declared.session.Session.{Session}
use Rattle.ace_c.specs.declared.names.Names.{Names}
use Rattle.ace_c.specs.Names.{lines_used, named, named_next}
use Rattle.ace_c.specs.Naming.{NamesStand}
use Rattle.ace_c.specs.Range.{InRange}
use Rattle.ace_c.specs.Sessions.{Hears, EndsAt, ending_as}
use Rattle.ace_c.proofs.Naming.{named_grows}

-- where the answer ends nothing, the session has heard the event
pub fed_fine : (most : ℕ) (h : Header) (past : Trace) (e x : Event) (old : Session) (new : Checker) (names : Names) (answer : Result Step CheckErr)
    → x ≡ named_next past e → Hears old most h past → InRange old.version e → NamesStand names (lines_used (e ∷ past))
    → IfOk answer (λ s. StandsWithin most new h (past_after (named past) x s) (break_after s))
    → IfNone (ending_as answer)
    (InRange h.version e × Hears (record { checker = new; names = names; version = old.version; ended = old.ended }) most h (e ∷ past))
fed_fine most h past e x old new names (Ok Fine) same hears range names_stand stands = (
  subst (λ (v : ℕ). InRange v e) hears.version range,
  record {
    stands = subst (λ (t : Trace). StandsWithin most new h t None) (ap (λ (y : Event). y ∷ named past) same ∙ sym (named_grows past e)) stands;
    names = names_stand;
    version = hears.version;
    on = hears.on;
  },
)
fed_fine most h past e x old new names (Ok (Broken index rule)) same hears range names_stand stands = tt
fed_fine most h past e x old new names (Err TooManyLines) same hears range names_stand stands = tt
fed_fine most h past e x old new names (Err NoMemory) same hears range names_stand stands = tt

-- where it ends the session, it does so for a cause that holds
pub fed_ends : (most : ℕ) (h : Header) (past : Trace) (e x : Event) (new : Checker) (answer : Result Step CheckErr) → x ≡ named_next past e → InRange h.version e
    → IfOk answer (IsAnswerWithin most h (named past) x)
    → IfOk answer (λ s. StandsWithin most new h (past_after (named past) x s) (break_after s))
    → OnErr answer (StandsWithin most new h (named past) None)
    → (answer ≡ Err TooManyLines → (least_broken h (named past) x ≡ None) × (goes_over_within most (named past) x ≡ true))
    → (answer ≡ Err NoMemory → MayLackMemory h (named past) x)
    → IfSome (ending_as answer) (λ ending. EndsAt most h past e ending × ((b : Option Break) × StandsWithin most new h (named past) b))
fed_ends most h past e x new (Ok Fine) same range is stands stays lines memory = tt
fed_ends most h past e x new (Ok (Broken index rule)) same range is stands stays lines memory =
    ((range, subst (λ (y : Event). least_broken h (named past) y ≡ Some rule) same is.1), (_, stands))
fed_ends most h past e x new (Err TooManyLines) same range is stands stays lines memory =
    let over = subst (λ (y : Event). (least_broken h (named past) y ≡ None) × (goes_over_within most (named past) y ≡ true)) same (lines refl) in
    ((range, inl over), (None, stays))
fed_ends most h past e x new (Err NoMemory) same range is stands stays lines memory =
    ((range, inl (subst (λ (y : Event). MayLackMemory h (named past) y) same (memory refl))), (None, stays))
