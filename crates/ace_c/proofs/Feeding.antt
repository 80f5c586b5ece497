-- How a session is fed records one after the other.
use Rattle.std.proofs.Common.{◌≡◌, ℕ, suc, ◌+◌, List, [], ◌∷◌, Option, None, Some, drop, refl, sym, subst, arith}
use Rattle.ace_event.specs.declared.event.Event.{Event}
use Rattle.ace_event.specs.declared.header.Header.{Header}
use Rattle.ace_model.specs.Trace.{Trace}
use Rattle.ace_check.specs.Run.{IsSound}
use Rattle.ace_c.specs.declared.answer.Ending.{Ending}
use Rattle.ace_c.specs.declared.record.AceEvent.{AceEvent}
use Rattle.ace_c.specs.declared.session.Session.{Session}
use Rattle.ace_c.specs.Names.{named}
use Rattle.ace_c.specs.Records.{event_of}
use Rattle.ace_c.specs.Sessions.{Hears, HasEnded, HasFed, IsEnding, IsEventThat}
use Rattle.ace_c.proofs.Sound.{heard_sound}

-- What a session does with records after this trace, some session has done with those records after the other one.
abbrev Continues : ℕ → Header → Trace → List AceEvent → Trace → List AceEvent → ℕ → Type 0
Continues most h now rest past records n = (s : Session) (m : ℕ) → HasFed s most h now rest m → HasFed s most h past records (n + m)

-- The session has heard a trace by n of the records, and what it then does with the others, it has done with all.
abbrev pub HasCome : Session → ℕ → Header → Trace → List AceEvent → ℕ → Type 0
HasCome s most h past records n = (now : Trace) × Hears s most h now × Continues most h now (drop n records) past records n

-- the trace after an event that is heard, and what comes after it
heard_first : (s : Session) (most : ℕ) (h : Header) (now : Trace) (r : AceEvent) (rest : List AceEvent) (o : Option Event) → event_of r ≡ o
    → IsEventThat h o (λ e. Hears s most h (e ∷ now) × IsSound h (named (e ∷ now)))
    → (then : Trace) × Hears s most h then × ((s' : Session) (m : ℕ) → HasFed s' most h then rest m → HasFed s' most h now (r ∷ rest) (suc m))
unfolding HasFed
heard_first s most h now r rest None same is = absurd is
heard_first s most h now r rest (Some e) same is =
    (e ∷ now, is.1.0, λ s' m fed. subst (λ (o : Option Event). IsEventThat h o (λ x. HasFed s' most h (x ∷ now) rest m)) (sym same) (is.0, fed))

-- one record more is heard
pub goes_on : (s s' : Session) (most : ℕ) (h : Header) (past : Trace) (records : List AceEvent) (n : ℕ) (r : AceEvent) → drop n records ≡ r ∷ drop (n + 1) records
    → ((now : Trace) → Hears s most h now → IsEventThat h (event_of r) (λ e. Hears s' most h (e ∷ now) × IsSound h (named (e ∷ now))))
    → HasCome s most h past records n → HasCome s' most h past records (n + 1)
goes_on s s' most h past records n r split step (now, hears, rest) =
    let first = heard_first s' most h now r (drop (n + 1) records) (event_of r) refl (step now hears) in (
      first.0,
      first.1,
      λ s2 m fed.
          let more : n + suc m ≡ n + 1 + m = omega arith in
          subst (λ (k : ℕ). HasFed s2 most h past records k) more
          (rest s2 (suc m) (subst (λ (rs : List AceEvent). HasFed s2 most h now rs (suc m)) (sym split) (first.2 s2 m fed))),
    )

-- a record ends the session
pub stops : (s s' : Session) (most : ℕ) (h : Header) (past : Trace) (records : List AceEvent) (n : ℕ) (r : AceEvent) → drop n records ≡ r ∷ drop (n + 1) records
    → ((now : Trace) → Hears s most h now → (ending : Ending) × HasEnded s' most h now ending × IsEnding most h now (event_of r) ending)
    → HasCome s most h past records n → HasFed s' most h past records n
unfolding HasFed
stops s s' most h past records n r split step (now, hears, rest) =
    let none : n + 0 ≡ n = omega arith in
    subst (λ (k : ℕ). HasFed s' most h past records k) none
    (rest s' 0 (subst (λ (rs : List AceEvent). HasFed s' most h now rs 0) (sym split) (step now hears)))

-- all have been fed
pub comes_to_the_end : (s : Session) (most : ℕ) (h : Header) (past : Trace) (records : List AceEvent) (n : ℕ) → drop n records ≡ []
    → HasCome s most h past records n → HasFed s most h past records n
unfolding HasFed
comes_to_the_end s most h past records n nothing (now, hears, rest) =
    let none : n + 0 ≡ n = omega arith in
    subst (λ (k : ℕ). HasFed s most h past records k) none
    (rest s 0 (subst (λ (rs : List AceEvent). HasFed s most h now rs 0) (sym nothing) (refl, hears, heard_sound s most h now hears)))
