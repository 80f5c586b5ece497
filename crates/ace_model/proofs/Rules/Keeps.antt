-- What it says that an event breaks no rule, rule by rule.
use Rattle.std.proofs.Common.{◌≡◌, ℕ, ◌==◌, Bool, true, false, if◌then◌else◌, List, [], ◌∷◌, Option, Some, None, refl}
use Rattle.std.specs.Bool.{⊤}
use Rattle.ace_model.proofs.Terms.{Event, Header, Trace, k1, k2, k3, k4, k5, k6, k7, k8, k9, k10, k11, k12, k13, k14, k15, k16, k17, k18, k19, k20, k21, k22, k23, k24, k25, k26, k27, k28, k29, k30, k31}
use Rattle.ace_model.proofs.Terms.{k32, k33, k34, k35, k36, k37, k38, k39, k40, Rule, rules, least_of, IsAccepted}

-- where the least broken one is none, the first is kept, and none of the others is broken
pub kept_first : (k : Bool) (n : ℕ) (rest : Option ℕ) → (if k then rest else Some n) ≡ None → (k ≡ true) × (rest ≡ None)
kept_first true n rest none = (refl, none)
kept_first false n rest none = cc

abbrev pub ThisOr : Bool → Type 0 → Type 0 → Type 0
ThisOr true A B = A
ThisOr false A B = B

this_or : (b : Bool) {A B : Type 0} → A → B → ThisOr b A B
this_or true a b = a
this_or false a b = b

-- the event keeps the rule of this number, where the list has one
abbrev pub Kept : List Rule → ℕ → Header → Trace → Event → Type 0
Kept [] n h past e = ⊤
Kept (r ∷ rs) n h past e = ThisOr (r.number == n) (r.keeps h past e ≡ true) (Kept rs n h past e)

-- where none of a list is broken, the one of each number is kept
pub kept : (rs : List Rule) (n : ℕ) (h : Header) (past : Trace) (e : Event) → least_of rs h past e ≡ None → Kept rs n h past e
kept [] n h past e none = tt
kept (r ∷ rs) n h past e none =
    let k : (r.keeps h past e ≡ true) × (least_of rs h past e ≡ None) = kept_first (r.keeps h past e) r.number (least_of rs h past e) none in
    this_or (r.number == n) k.0 (kept rs n h past e k.1)

-- The event keeps each of the forty rules.
pub record Keeps (h : Header) (past : Trace) (e : Event) : Type 0 where
  pub rule_1 : k1 h past e ≡ true
  pub rule_2 : k2 h past e ≡ true
  pub rule_3 : k3 h past e ≡ true
  pub rule_4 : k4 h past e ≡ true
  pub rule_5 : k5 h past e ≡ true
  pub rule_6 : k6 h past e ≡ true
  pub rule_7 : k7 h past e ≡ true
  pub rule_8 : k8 h past e ≡ true
  pub rule_9 : k9 h past e ≡ true
  pub rule_10 : k10 h past e ≡ true
  pub rule_11 : k11 h past e ≡ true
  pub rule_12 : k12 h past e ≡ true
  pub rule_13 : k13 h past e ≡ true
  pub rule_14 : k14 h past e ≡ true
  pub rule_15 : k15 h past e ≡ true
  pub rule_16 : k16 h past e ≡ true
  pub rule_17 : k17 h past e ≡ true
  pub rule_18 : k18 h past e ≡ true
  pub rule_19 : k19 h past e ≡ true
  pub rule_20 : k20 h past e ≡ true
  pub rule_21 : k21 h past e ≡ true
  pub rule_22 : k22 h past e ≡ true
  pub rule_23 : k23 h past e ≡ true
  pub rule_24 : k24 h past e ≡ true
  pub rule_25 : k25 h past e ≡ true
  pub rule_26 : k26 h past e ≡ true
  pub rule_27 : k27 h past e ≡ true
  pub rule_28 : k28 h past e ≡ true
  pub rule_29 : k29 h past e ≡ true
  pub rule_30 : k30 h past e ≡ true
  pub rule_31 : k31 h past e ≡ true
  pub rule_32 : k32 h past e ≡ true
  pub rule_33 : k33 h past e ≡ true
  pub rule_34 : k34 h past e ≡ true
  pub rule_35 : k35 h past e ≡ true
  pub rule_36 : k36 h past e ≡ true
  pub rule_37 : k37 h past e ≡ true
  pub rule_38 : k38 h past e ≡ true
  pub rule_39 : k39 h past e ≡ true
  pub rule_40 : k40 h past e ≡ true

-- an event of an accepted trace keeps each rule
pub accepted_keeps : (h : Header) (past : Trace) (e : Event) → IsAccepted h (e ∷ past) → Keeps h past e
accepted_keeps h past e accepted = record {
  rule_1 = kept rules 1 h past e accepted.1;
  rule_2 = kept rules 2 h past e accepted.1;
  rule_3 = kept rules 3 h past e accepted.1;
  rule_4 = kept rules 4 h past e accepted.1;
  rule_5 = kept rules 5 h past e accepted.1;
  rule_6 = kept rules 6 h past e accepted.1;
  rule_7 = kept rules 7 h past e accepted.1;
  rule_8 = kept rules 8 h past e accepted.1;
  rule_9 = kept rules 9 h past e accepted.1;
  rule_10 = kept rules 10 h past e accepted.1;
  rule_11 = kept rules 11 h past e accepted.1;
  rule_12 = kept rules 12 h past e accepted.1;
  rule_13 = kept rules 13 h past e accepted.1;
  rule_14 = kept rules 14 h past e accepted.1;
  rule_15 = kept rules 15 h past e accepted.1;
  rule_16 = kept rules 16 h past e accepted.1;
  rule_17 = kept rules 17 h past e accepted.1;
  rule_18 = kept rules 18 h past e accepted.1;
  rule_19 = kept rules 19 h past e accepted.1;
  rule_20 = kept rules 20 h past e accepted.1;
  rule_21 = kept rules 21 h past e accepted.1;
  rule_22 = kept rules 22 h past e accepted.1;
  rule_23 = kept rules 23 h past e accepted.1;
  rule_24 = kept rules 24 h past e accepted.1;
  rule_25 = kept rules 25 h past e accepted.1;
  rule_26 = kept rules 26 h past e accepted.1;
  rule_27 = kept rules 27 h past e accepted.1;
  rule_28 = kept rules 28 h past e accepted.1;
  rule_29 = kept rules 29 h past e accepted.1;
  rule_30 = kept rules 30 h past e accepted.1;
  rule_31 = kept rules 31 h past e accepted.1;
  rule_32 = kept rules 32 h past e accepted.1;
  rule_33 = kept rules 33 h past e accepted.1;
  rule_34 = kept rules 34 h past e accepted.1;
  rule_35 = kept rules 35 h past e accepted.1;
  rule_36 = kept rules 36 h past e accepted.1;
  rule_37 = kept rules 37 h past e accepted.1;
  rule_38 = kept rules 38 h past e accepted.1;
  rule_39 = kept rules 39 h past e accepted.1;
  rule_40 = kept rules 40 h past e accepted.1;
}
