-- What the AR or AW that issues half of a barrier asks of the system, and what it moves: the barriers, and at an AR the results.
use Rattle.std.proofs.Common.{◌≡◌, ◌∙◌, ◌<◌, ◌-◌, ◌^◌, Bool, true, false, ◌&&◌, ◌∷◌, length, get_or, slice_set, Some, None, refl, ap}
use Rattle.ace_sysck.proofs.Terms.{Read, Write, Ar, Aw, IsAccepted, least_broken, least_of, begins_barrier, begins_well, is_barrier_half, is_dvm_complete, is_dvm_message, is_dvm_completion, is_message_part, owes_completion, system_rules, implies, issued, Transaction, Event, Header, Trace, IssuesHalf, Recording, after, target_of, Idle, Barriers, Results, SysCheck, joined, begun_in, is_issue, ResultsStand, slot_of, Stands}
use Rattle.ace_portck.proofs.BarrierAddresses.{each-half}
use Rattle.ace_sysck.proofs.BarrierSteps.{barriers_begun}
use Rattle.ace_sysck.proofs.ResultSteps.{results_ar}
use Rattle.ace_sysck.proofs.ByKind.ReadAddresses.{begin-stands, first-rule, idle, issue-rules, least_of_one}
use Rattle.ace_sysck.proofs.ByKind.Responses.{half_other}
use Rattle.ace_sysck.proofs.Steps.{port_within}
use Rattle.ace_sysck.proofs.Unmoved.{results_still}

-- of three things that must hold under tests, the first is left where its test alone passes
only-first : (a b c x y z : Bool) → a ≡ true → b ≡ false → c ≡ false → (implies a x && implies b y && implies c z) ≡ x
only-first true false false true y z on off out = refl
only-first true false false false y z on off out = refl
only-first false b c x y z on off out = cc
only-first true true c x y z on off out = cc
only-first true false true x y z on off out = cc

-- What is known of a transaction that an event issues, which is part of a barrier and of no message.
record Begins (h : Header) (past : Trace) (e : Event) (x : Transaction) : Type 0 where
  issue : is_issue e ≡ true
  begun : begun_in e (target_of h past e) ≡ Some x
  part : is_message_part x ≡ false
  completion : is_dvm_completion x ≡ false

half-begins : (h : Header) (past : Trace) (e : Event) (x : Transaction) → IssuesHalf past e x → Begins h past e x
half-begins h past =
    each-half (Begins h past) past
    (λ p i addr snoop dom bar lock kind unlocked. record { issue = refl; begun = refl; part = rw kind refl; completion = rw kind refl })
    (λ p i addr snoop dom bar kind. record { issue = refl; begun = refl; part = refl; completion = refl })

-- K9 of the half is all that is asked of it
pub half_rule : (h : Header) (past : Trace) (e : Event) (x : Transaction) → issued (length past) e ≡ Some x → is_barrier_half x ≡ true
    → least_of system_rules h past e ≡ least_of_one (begins_barrier past x)
half_rule h past e x new half =
    let part : is_message_part x ≡ false = half_other x is_dvm_message refl half in
    let completion : is_dvm_completion x ≡ false = half_other x is_dvm_complete refl half in
    issue-rules h past e x new ∙ first-rule (begins_well past x) (owes_completion past x) (idle (is_dvm_completion x) _ completion)
    ∙ ap least_of_one (only-first (is_barrier_half x) (is_message_part x) (is_dvm_completion x) _ _ _ half part completion)

-- the results after it: a half on the read channel is the last read of its name
pub results_read : (r : Recording) (s n : Results) (e : Event) (x : Transaction) → IssuesHalf r.past e x → IsAccepted r.header (e ∷ r.past) → x.chan ≡ Read → x.id < 256 → ResultsStand r s
    → n.passed.items ≡ slice_set s.passed.items (slot_of x.port x.id) None → ResultsStand (after r e) n
results_read r s n e x is =
    each-half (λ e x. IsAccepted r.header (e ∷ r.past) → x.chan ≡ Read → x.id < 256 → ResultsStand r s
    → n.passed.items ≡ slice_set s.passed.items (slot_of x.port x.id) None → ResultsStand (after r e) n) r.past
    (λ p i addr snoop dom bar lock kind unlocked accepted chan low st items.
    results_ar r s n p i addr snoop dom bar lock st (port_within r.header r.past (Ar p i addr snoop dom bar lock) p accepted refl) low items)
    (λ p i addr snoop dom bar kind accepted chan low st items. cc) e x is

pub results_write : (r : Recording) (s : Results) (e : Event) (x : Transaction) → IssuesHalf r.past e x → x.chan ≡ Write → ResultsStand r s → ResultsStand (after r e) s
results_write r s e x is =
    each-half (λ e x. x.chan ≡ Write → ResultsStand r s → ResultsStand (after r e) s) r.past
    (λ p i addr snoop dom bar lock kind unlocked chan st. cc)
    (λ p i addr snoop dom bar kind chan st. results_still r s (Aw p i addr snoop dom bar) refl st) e x is

-- what is kept stands after it
pub half_stands : (s : SysCheck) (b : Barriers) (n : Results) (r : Recording) (e : Event) (x : Transaction) → Stands s r → IssuesHalf r.past e x → x.id < 256
    → least_broken r.header r.past e ≡ None → length r.past < 2 ^ 64 - 1
    → b.ports.items ≡ slice_set s.barriers.ports.items x.port (joined (get_or s.barriers.ports.items x.port Idle) x) → ResultsStand (after r e) n
    → Stands (record s { barriers = b; results = n }) (after r e)
half_stands s b n r e x st is low fine few items results =
    let k = half-begins r.header r.past e x is in
    begin-stands s b n r e x st k.issue k.begun k.part k.completion low fine few
    (barriers_begun r s.barriers b e (target_of r.header r.past e) x (st.accepted, fine) refl k.begun is.half st.barriers items) results

-- what a half leaves
pub ruleset half_leaves = (half_stands, results_read, results_write)
