-- Counts of events: one more event, and sorts that make up, exclude or contain each other.
use Rattle.std.proofs.Common.{◌≡◌, ℕ, ◌+◌, ◌≤◌, Bool, true, false, if◌then◌else◌, [], ◌∷◌, refl, inl, inr, arith}
use Rattle.std.proofs.lemmas.Bool.{cases_Bool}
use Rattle.ace_event.specs.declared.event.Event.{Event}
use Rattle.ace_model.specs.Trace.{Trace}
use Rattle.ace_runs.specs.Counts.{counted}

abbrev pub one : Bool → ℕ
one b = if b then 1 else 0

pub one-most : (b : Bool) → one b ≤ 1
one-most true = omega arith
one-most false = omega arith

pub counted-one : (test : Event → Bool) (e : Event) (past : Trace) → counted test (e ∷ past) ≡ counted test past + one (test e)
counted-one test e past = elim (cases_Bool (test e)) [ inl t ↦ rw t refl | inr f ↦ rw f (omega arith) ]

-- where each event is one of the one sort or one of the other
pub counted-split : (all first second : Event → Bool) (past : Trace) → ((e : Event) → one (all e) ≡ one (first e) + one (second e))
    → counted all past ≡ counted first past + counted second past
counted-split all first second [] split = refl
counted-split all first second (e ∷ past) split =
    let rest = counted-split all first second past split in
    let here = split e in
    rw (counted-one all e past, counted-one first e past, counted-one second e past) (omega (arith, rest, here))

-- two sorts that exclude each other within a third
pub counted-apart : (all first second : Event → Bool) (past : Trace) → ((e : Event) → one (first e) + one (second e) ≤ one (all e))
    → counted first past + counted second past ≤ counted all past
counted-apart all first second [] split = omega arith
counted-apart all first second (e ∷ past) split =
    let rest = counted-apart all first second past split in
    let here = split e in
    rw (counted-one all e past, counted-one first e past, counted-one second e past) (omega (arith, rest, here))

-- events of one sort that are all of another
pub counted-less : (these those : Event → Bool) (past : Trace) → ((e : Event) → these e ≡ true → those e ≡ true) → counted these past ≤ counted those past
counted-less these those [] all = omega arith
counted-less these those (e ∷ past) all =
    let rest = counted-less these those past all in
    elim (cases_Bool (these e)) [
      | inl t ↦ let there = all e t in rw (t, there) (omega (arith, rest))
      | inr f ↦ rw f (elim (cases_Bool (those e)) [ inl u ↦ rw u (omega (arith, rest)) | inr v ↦ rw v rest ])
    ]
