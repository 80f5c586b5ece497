-- Events that come at most so many times for each of others: each of those leaves room for so many of these.
use Rattle.std.proofs.Common.{◌≡◌, ℕ, ◌+◌, ◌*◌, ◌≤◌, Bool, [], ◌∷◌, arith, add-mul}
use Rattle.ace_event.specs.declared.event.Event.{Event}
use Rattle.ace_event.specs.declared.header.Header.{Header}
use Rattle.ace_model.specs.Accepted.{IsAccepted}
use Rattle.ace_model.specs.Trace.{Trace}
use Rattle.ace_runs.specs.Counts.{counted}
use Rattle.ace_runs.proofs.Few.Counting.{one, counted-one}

-- for how many more of the events there is room, where an event comes
abbrev pub Leaves : ℕ → (Event → Bool) → (Event → Bool) → (Trace → ℕ) → Header → Type 0
Leaves k these those left h =
    (e : Event) (past : Trace) → IsAccepted h (e ∷ past) → left (e ∷ past) + one (these e) ≤ left past + one (those e) * k

pub charged : (k : ℕ) (these those : Event → Bool) (left : Trace → ℕ) (h : Header) (past : Trace) → left [] ≡ 0 → Leaves k these those left h
    → IsAccepted h past → counted these past + left past ≤ counted those past * k
charged k these those left h [] start leaves a = rw start (omega arith)
charged k these those left h (e ∷ past) start leaves a =
    let rest = charged k these those left h past start leaves a.0 in
    let here = leaves e past a in
    rw (counted-one these e past, counted-one those e past)
    (omega (arith, rest, here, add-mul (counted those past) (one (those e)) k))
