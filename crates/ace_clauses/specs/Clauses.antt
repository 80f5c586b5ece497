-- The clauses of the forty rules. A rule is a sentence of several parts, its clauses, in the order
-- in which they are asked: an event keeps the rule where every clause holds of it, and an event
-- that breaks it is told by the first that is false. So a clause is asked only where the earlier
-- ones of its rule hold.
use Rattle.std.specs.Prelude.{ℕ, Bool, true, ◌&&◌, ◌==◌, if◌then◌else◌, List, [], ◌∷◌, Option, Some, None}
use Rattle.ace_event.specs.declared.event.Event.{Event}
use Rattle.ace_event.specs.declared.header.Header.{Header}
use Rattle.ace_model.specs.Trace.{Trace}
use Rattle.ace_clauses.specs.declared.letters.Letter.{Letter}
use Rattle.ace_clauses.specs.declared.letters.Letter.TheVariants.{A, B, C, D, E, F, G, H, I}
use Rattle.ace_clauses.specs.AddressClauses.{k1a, k1b, k2a, k2b, k2c, k2d, k3a, k3b, k3c, k3d, k3e, k7a, k7b, k9a, k9b, k9c, k9d, k9e, k9f, k9g, k9h, k10a, k10b}
use Rattle.ace_model.specs.AddressRules.{k4, k5, k6, k8}
use Rattle.ace_clauses.specs.SnoopClauses.{k11a, k11b, k11c, k11d, k12a, k12b, k12c, k12d, k13a, k13b, k13c, k13d, k13e, k13f, k13g, k15a, k15b, k15c, k15d, k16a, k16b, k16c, k17a, k17b, k17c}
use Rattle.ace_model.specs.SnoopRules.{k14}
use Rattle.ace_clauses.specs.ReadClauses.{k18a, k18b, k18c, k18d, k18e, k18f, k18g, k18h, k18i, k19a, k19b, k19c, k19d, k19e, k19f, k20a, k20b, k21a, k21b, k21c, k23a, k23b, k23c}
use Rattle.ace_model.specs.ReadRules.{k22}
use Rattle.ace_clauses.specs.WriteClauses.{k24a, k24b, k24c, k24d, k24e, k24f, k24g, k24h, k24i, k25a, k25b, k25c, k25d, k26a, k26b, k26c, k28a, k28b}
use Rattle.ace_model.specs.WriteRules.{k27}
use Rattle.ace_clauses.specs.CacheClauses.{k29a, k29b, k32a, k32b, k32c, k32d, k32e, k33a, k33b, k33c, k33d}
use Rattle.ace_model.specs.CacheRules.{k30, k31}
use Rattle.ace_clauses.specs.OrderClauses.{k34a, k34b, k34c, k36a, k36b, k36c, k37a, k37b, k39a, k39b, k39c, k39d, k39e}
use Rattle.ace_model.specs.OrderRules.{k35, k38, k40}

-- A clause: its letter in the rule, and whether it holds of an event after a trace.
pub record Clause : Type 0 where
  pub letter : Letter
  pub holds : Header → Trace → Event → Bool

abbrev pub clause : Letter → (Header → Trace → Event → Bool) → Clause
clause letter holds = record { letter = letter; holds = holds }

-- The clauses of a rule: its number, and the clauses in the order in which they are asked.
pub record RuleClauses : Type 0 where
  pub number : ℕ
  pub parts : List Clause

abbrev pub clauses_of_rule : ℕ → List Clause → RuleClauses
clauses_of_rule number parts = record { number = number; parts = parts }

-- The clauses of the forty rules, the least number first. A rule of one clause is its clause.
abbrev pub clauses : List RuleClauses
clauses =
    clauses_of_rule 1 (clause A k1a ∷ clause B k1b ∷ [])
    ∷ clauses_of_rule 2 (clause A k2a ∷ clause B k2b ∷ clause C k2c ∷ clause D k2d ∷ [])
    ∷ clauses_of_rule 3 (clause A k3a ∷ clause B k3b ∷ clause C k3c
    ∷ clause D k3d ∷ clause E k3e ∷ [])
    ∷ clauses_of_rule 4 (clause A k4 ∷ [])
    ∷ clauses_of_rule 5 (clause A k5 ∷ [])
    ∷ clauses_of_rule 6 (clause A k6 ∷ [])
    ∷ clauses_of_rule 7 (clause A k7a ∷ clause B k7b ∷ [])
    ∷ clauses_of_rule 8 (clause A k8 ∷ [])
    ∷ clauses_of_rule 9 (clause A k9a ∷ clause B k9b ∷ clause C k9c
    ∷ clause D k9d ∷ clause E k9e ∷ clause F k9f ∷ clause G k9g ∷ clause H k9h ∷ [])
    ∷ clauses_of_rule 10 (clause A k10a ∷ clause B k10b ∷ [])
    ∷ clauses_of_rule 11 (clause A k11a ∷ clause B k11b ∷ clause C k11c ∷ clause D k11d ∷ [])
    ∷ clauses_of_rule 12 (clause A k12a ∷ clause B k12b ∷ clause C k12c ∷ clause D k12d ∷ [])
    ∷ clauses_of_rule 13 (clause A k13a ∷ clause B k13b ∷ clause C k13c
    ∷ clause D k13d ∷ clause E k13e ∷ clause F k13f ∷ clause G k13g ∷ [])
    ∷ clauses_of_rule 14 (clause A k14 ∷ [])
    ∷ clauses_of_rule 15 (clause A k15a ∷ clause B k15b ∷ clause C k15c ∷ clause D k15d ∷ [])
    ∷ clauses_of_rule 16 (clause A k16a ∷ clause B k16b ∷ clause C k16c ∷ [])
    ∷ clauses_of_rule 17 (clause A k17a ∷ clause B k17b ∷ clause C k17c ∷ [])
    ∷ clauses_of_rule 18 (clause A k18a ∷ clause B k18b ∷ clause C k18c ∷ clause D k18d
    ∷ clause E k18e ∷ clause F k18f ∷ clause G k18g ∷ clause H k18h ∷ clause I k18i ∷ [])
    ∷ clauses_of_rule 19 (clause A k19a ∷ clause B k19b ∷ clause C k19c
    ∷ clause D k19d ∷ clause E k19e ∷ clause F k19f ∷ [])
    ∷ clauses_of_rule 20 (clause A k20a ∷ clause B k20b ∷ [])
    ∷ clauses_of_rule 21 (clause A k21a ∷ clause B k21b ∷ clause C k21c ∷ [])
    ∷ clauses_of_rule 22 (clause A k22 ∷ [])
    ∷ clauses_of_rule 23 (clause A k23a ∷ clause B k23b ∷ clause C k23c ∷ [])
    ∷ clauses_of_rule 24 (clause A k24a ∷ clause B k24b ∷ clause C k24c ∷ clause D k24d
    ∷ clause E k24e ∷ clause F k24f ∷ clause G k24g ∷ clause H k24h ∷ clause I k24i ∷ [])
    ∷ clauses_of_rule 25 (clause A k25a ∷ clause B k25b ∷ clause C k25c ∷ clause D k25d ∷ [])
    ∷ clauses_of_rule 26 (clause A k26a ∷ clause B k26b ∷ clause C k26c ∷ [])
    ∷ clauses_of_rule 27 (clause A k27 ∷ [])
    ∷ clauses_of_rule 28 (clause A k28a ∷ clause B k28b ∷ [])
    ∷ clauses_of_rule 29 (clause A k29a ∷ clause B k29b ∷ [])
    ∷ clauses_of_rule 30 (clause A k30 ∷ [])
    ∷ clauses_of_rule 31 (clause A k31 ∷ [])
    ∷ clauses_of_rule 32 (clause A k32a ∷ clause B k32b ∷ clause C k32c
    ∷ clause D k32d ∷ clause E k32e ∷ [])
    ∷ clauses_of_rule 33 (clause A k33a ∷ clause B k33b ∷ clause C k33c ∷ clause D k33d ∷ [])
    ∷ clauses_of_rule 34 (clause A k34a ∷ clause B k34b ∷ clause C k34c ∷ [])
    ∷ clauses_of_rule 35 (clause A k35 ∷ [])
    ∷ clauses_of_rule 36 (clause A k36a ∷ clause B k36b ∷ clause C k36c ∷ [])
    ∷ clauses_of_rule 37 (clause A k37a ∷ clause B k37b ∷ [])
    ∷ clauses_of_rule 38 (clause A k38 ∷ [])
    ∷ clauses_of_rule 39 (clause A k39a ∷ clause B k39b ∷ clause C k39c
    ∷ clause D k39d ∷ clause E k39e ∷ [])
    ∷ clauses_of_rule 40 (clause A k40 ∷ [])
    ∷ []

-- the clauses of the rule of this number among these
abbrev pub clauses_among : List RuleClauses → ℕ → List Clause
clauses_among [] k = []
clauses_among (r ∷ rs) k = if r.number == k then r.parts else clauses_among rs k

-- the clauses of the rule of this number; a number that is no rule's has none
abbrev pub clauses_of : ℕ → List Clause
clauses_of k = clauses_among clauses k

-- every one of the clauses holds of the event after the trace
abbrev pub each_holds : List Clause → Header → Trace → Event → Bool
each_holds [] h past e = true
each_holds (c ∷ cs) h past e = c.holds h past e && each_holds cs h past e

-- the letter of the first of the clauses that is false of the event after the trace
abbrev pub first_false : List Clause → Header → Trace → Event → Option Letter
first_false [] h past e = None
first_false (c ∷ cs) h past e = if c.holds h past e then first_false cs h past e else Some c.letter

-- the clause of rule k that the event breaks after the trace: the first that is false
abbrev pub clause_of : Header → Trace → Event → ℕ → Option Letter
clause_of h past e k = first_false (clauses_of k) h past e
