-- The rules that the law of the holders rests on: accepted traces keep them.
use Rattle.std.proofs.Common.{◌≡◌, ℕ, List, [], ◌∷◌, refl}
use Rattle.ace_model.proofs.Terms.{Event, Header, Trace, k1, k4, k12, k13, k15, k18, k19, k22, k23, k28, k29, k32, Rule, rule, IsAcceptedBy, IsAccepted}
use Rattle.ace_model.proofs.Rules.Keeps.{Kept, kept, accepted_keeps}

abbrev pub holder_rules : List Rule
holder_rules =
    rule 1 k1 ∷ rule 4 k4 ∷ rule 12 k12 ∷ rule 13 k13 ∷ rule 15 k15 ∷ rule 18 k18 ∷ rule 19 k19 ∷ rule 22 k22
    ∷ rule 23 k23 ∷ rule 28 k28 ∷ rule 29 k29 ∷ rule 32 k32 ∷ []

-- the event keeps each of them
abbrev pub KeepsEach : Header → Trace → Event → Type 0
KeepsEach h past e = (n : ℕ) → Kept holder_rules n h past e

-- what is accepted by all rules is accepted by these
pub of_accepted : (h : Header) (t : Trace) → IsAccepted h t → IsAcceptedBy holder_rules h t
of_accepted h [] a = tt
of_accepted h (e ∷ past) a =
    let k = accepted_keeps h past e a in
    (of_accepted h past a.0, rw (k.rule_1, k.rule_4, k.rule_12, k.rule_13, k.rule_15, k.rule_18, k.rule_19, k.rule_22, k.rule_23, k.rule_28, k.rule_29, k.rule_32) refl)

-- and an event that they accept keeps each of them
pub keeps_each : (h : Header) (past : Trace) (e : Event) → IsAcceptedBy holder_rules h (e ∷ past) → KeepsEach h past e
keeps_each h past e a n = kept holder_rules n h past e a.1

pub accepted_keeps_each : (h : Header) (past : Trace) (e : Event) → IsAccepted h (e ∷ past) → KeepsEach h past e
accepted_keeps_each h past e a = keeps_each h past e (of_accepted h (e ∷ past) a)
