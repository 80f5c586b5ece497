-- Accepted traces, and the first break of a trace that is not: by a list of rules, and by the rules
-- as a whole.
use Rattle.std.specs.Prelude.{Bool, nat_le, ◌&&◌, ◌||◌, ◌==◌, if◌then◌else◌, not, is_none, ℕ, ◌+◌, ◌<◌, ◌≡◌, true, false, List, [], ◌∷◌, Option, Some, None, length, reverse, take, slice_get, ⊤}
use Rattle.ace_event.specs.declared.event.Event.{Event}
use Rattle.ace_event.specs.declared.header.Header.{Header}
use Rattle.ace_model.specs.declared.breaks.Break.{Break}
use Rattle.ace_model.specs.Trace.{Trace}
use Rattle.ace_model.specs.AddressRules.{k1, k2, k3, k4, k5, k6, k7, k8, k9, k10}
use Rattle.ace_model.specs.SnoopRules.{k11, k12, k13, k14, k15, k16, k17}
use Rattle.ace_model.specs.ReadRules.{k18, k19, k20, k21, k22, k23}
use Rattle.ace_model.specs.WriteRules.{k24, k25, k26, k27, k28}
use Rattle.ace_model.specs.CacheRules.{k29, k30, k31, k32, k33}
use Rattle.ace_model.specs.OrderRules.{k34, k35, k36, k37, k38, k39, k40}

-- A rule: its number, and whether an event after a trace keeps it.
pub record Rule : Type 0 where
  pub number : ℕ
  pub keeps : Header → Trace → Event → Bool

abbrev pub rule : ℕ → (Header → Trace → Event → Bool) → Rule
rule n keeps = record { number = n; keeps = keeps }

-- The forty rules, the least number first.
abbrev pub rules : List Rule
rules =
    rule 1 k1 ∷ rule 2 k2 ∷ rule 3 k3 ∷ rule 4 k4 ∷ rule 5 k5 ∷ rule 6 k6 ∷ rule 7 k7 ∷ rule 8 k8
    ∷ rule 9 k9 ∷ rule 10 k10 ∷ rule 11 k11 ∷ rule 12 k12 ∷ rule 13 k13
    ∷ rule 14 k14 ∷ rule 15 k15 ∷ rule 16 k16
    ∷ rule 17 k17 ∷ rule 18 k18 ∷ rule 19 k19 ∷ rule 20 k20 ∷ rule 21 k21
    ∷ rule 22 k22 ∷ rule 23 k23 ∷ rule 24 k24
    ∷ rule 25 k25 ∷ rule 26 k26 ∷ rule 27 k27 ∷ rule 28 k28 ∷ rule 29 k29
    ∷ rule 30 k30 ∷ rule 31 k31 ∷ rule 32 k32
    ∷ rule 33 k33 ∷ rule 34 k34 ∷ rule 35 k35 ∷ rule 36 k36 ∷ rule 37 k37
    ∷ rule 38 k38 ∷ rule 39 k39 ∷ rule 40 k40 ∷ []

-- the numbers of these rules rise, the first from n on
abbrev pub rise_from : ℕ → List Rule → Bool
rise_from n [] = true
rise_from n (r ∷ rs) = nat_le n r.number && rise_from (r.number + 1) rs

-- the rules are in order: the least number is first, and none is there twice
abbrev pub AreInOrder : List Rule → Type 0
AreInOrder rs = rise_from 0 rs ≡ true

-- the event breaks the rule of this number among these: its sentence is false of the event
abbrev pub breaks_of : List Rule → Header → Trace → Event → ℕ → Bool
breaks_of [] h past e k = false
breaks_of (r ∷ rs) h past e k = (r.number == k && not (r.keeps h past e)) || breaks_of rs h past e k

abbrev pub breaks : Header → Trace → Event → ℕ → Bool
breaks h past e k = breaks_of rules h past e k

-- the first of these rules that the event breaks, which is the least where they are in order
abbrev pub least_of : List Rule → Header → Trace → Event → Option ℕ
least_of [] h past e = None
least_of (r ∷ rs) h past e = if r.keeps h past e then least_of rs h past e else Some r.number

abbrev pub least_broken : Header → Trace → Event → Option ℕ
least_broken h past e = least_of rules h past e

-- no event breaks one of these rules after the events before it
abbrev pub IsAcceptedBy : List Rule → Header → Trace → Type 0
IsAcceptedBy rs h [] = ⊤
IsAcceptedBy rs h (e ∷ past) = IsAcceptedBy rs h past × (least_of rs h past e ≡ None)

-- no event breaks a rule
abbrev pub IsAccepted : Header → Trace → Type 0
IsAccepted h past = IsAcceptedBy rules h past

-- acceptance by these rules as a test
abbrev pub is_accepted_by : List Rule → Header → Trace → Bool
is_accepted_by rs h [] = true
is_accepted_by rs h (e ∷ past) = is_accepted_by rs h past && is_none (least_of rs h past e)

-- the break of an event that breaks rule k as the n-th, or else what comes later
abbrev pub break_or : ℕ → Option ℕ → Option Break → Option Break
break_or n (Some k) later = Some (record { index = n; rule = k })
break_or n None later = later

-- After `past` come the events of a list, the oldest first: the first that breaks one of these
-- rules, and the least that it breaks.
abbrev pub first_break_after : List Rule → Header → Trace → List Event → Option Break
first_break_after rs h past [] = None
first_break_after rs h past (e ∷ events) =
    break_or (length past + 1) (least_of rs h past e) (first_break_after rs h (e ∷ past) events)

-- of a whole trace, the oldest event first
abbrev pub first_break_by : List Rule → Header → List Event → Option Break
first_break_by rs h events = first_break_after rs h [] events

abbrev pub first_break : Header → List Event → Option Break
first_break h events = first_break_by rules h events

-- the event with n events before it, in a list with the oldest first, breaks rule k of these after
-- those events
abbrev pub BreaksAt : List Rule → Header → List Event → ℕ → ℕ → Type 0
BreaksAt rs h events n k =
    (e : Event) × (slice_get events n ≡ Some e)
    × (breaks_of rs h (reverse (take n events)) e k ≡ true)

-- The first break of a list of events, the oldest first, by these rules: the least number, from 1,
-- of an event that breaks one of them after the events before it, and the least that it breaks.
pub record FirstBreakBy (rs : List Rule) (h : Header) (events : List Event)
    (index k : ℕ) : Type 0 where
  pub before : ℕ
  pub number : index ≡ before + 1
  pub broken : BreaksAt rs h events before k
  pub least_number : (n j : ℕ) → n < before → BreaksAt rs h events n j → ⊥
  pub least_rule : (j : ℕ) → j < k → BreaksAt rs h events before j → ⊥

abbrev pub FirstBreak : Header → List Event → ℕ → ℕ → Type 0
FirstBreak h events index k = FirstBreakBy rules h events index k
