-- Each rule is its clauses (law `each_rule_is_its_clauses`).
--
-- The rules and their clauses are two lists in the same order. Where each rule is the conjunction of the clauses beside it, an event
-- breaks the rule of a number exactly where a clause of that number is false.
use Rattle.std.proofs.Common.{◌≡◌, ℕ, ◌+◌, ◌≤◌, Bool, true, false, not, ◌||◌, ◌==◌, nat_le, List, [], ◌∷◌, drop, is_some, refl, sym, ap, ◌∙◌, inl, inr, arith}
use Rattle.std.specs.Bool.{⊤}
use Rattle.std.proofs.lemmas.Bool.{and_parts, cases_Bool, eqb-true, leb-true}
use Rattle.ace_event.specs.declared.event.Event.{Event}
use Rattle.ace_event.specs.declared.header.Header.{Header}
use Rattle.ace_model.specs.Trace.{Trace}
use Rattle.ace_model.specs.Accepted.{Rule, rules, rise_from, breaks_of, breaks}
use Rattle.ace_clauses.specs.Clauses.{Clause, RuleClauses, clauses, clauses_among, clauses_of, each_holds, first_false, clause_of}
use Rattle.ace_clauses.proofs.AddressParts.{k1_parts, k2_parts, k3_parts, k4_parts, k5_parts, k6_parts, k7_parts, k8_parts, k9_parts, k10_parts}
use Rattle.ace_clauses.proofs.SnoopParts.{k11_parts, k12_parts, k13_parts, k14_parts, k15_parts, k16_parts, k17_parts}
use Rattle.ace_clauses.proofs.ReadParts.{k18_parts, k19_parts, k20_parts, k21_parts, k22_parts, k23_parts}
use Rattle.ace_clauses.proofs.WriteParts.{k24_parts, k25_parts, k26_parts, k27_parts, k28_parts}
use Rattle.ace_clauses.proofs.CacheParts.{k29_parts, k30_parts, k31_parts, k32_parts, k33_parts}
use Rattle.ace_clauses.proofs.OrderParts.{k34_parts, k35_parts, k36_parts, k37_parts, k38_parts, k39_parts, k40_parts}

module _ (h : Header) (past : Trace) (e : Event) where
  -- rule by rule the numbers are the same, and the rule is the conjunction of its clauses
  abbrev AreParts : List Rule → List RuleClauses → Type 0
  AreParts [] [] = ⊤
  AreParts (r ∷ rs) (c ∷ cs) = (r.number ≡ c.number) × (r.keeps h past e ≡ each_holds c.parts h past e) × AreParts rs cs
  AreParts _ _ = ⊥

  -- no rule of the list has a number below the one from which they rise
  above_all : (n : ℕ) (rs : List Rule) (k : ℕ) → rise_from n rs ≡ true → k + 1 ≤ n → breaks_of rs h past e k ≡ false
  above_all n [] k up low = refl
  above_all n (r ∷ rs) k up low =
      let parts = and_parts (nat_le n r.number) (rise_from (r.number + 1) rs) up in
      let at = leb-true n r.number parts.0 in
      elim (cases_Bool (r.number == k)) [
        | inl t ↦ let same = eqb-true r.number k t in absurd (omega (arith, at, low, same))
        | inr f ↦ rw f (above_all (r.number + 1) rs k parts.1 (omega (arith, at, low)))
      ]

  broken_where_false : (n : ℕ) (rs : List Rule) (cs : List RuleClauses) (k : ℕ) → rise_from n rs ≡ true → AreParts rs cs
      → breaks_of rs h past e k ≡ not (each_holds (clauses_among cs k) h past e)
  broken_where_false n [] [] k up are = refl
  broken_where_false n [] (c ∷ cs) k up are = absurd are
  broken_where_false n (r ∷ rs) [] k up are = absurd are
  broken_where_false n (r ∷ rs) (c ∷ cs) k up are =
      let rest = (and_parts (nat_le n r.number) (rise_from (r.number + 1) rs) up).1 in
      elim (cases_Bool (r.number == k)) [
        | inl t ↦
            let same = eqb-true r.number k t in
            let later = above_all (r.number + 1) rs k rest (omega (arith, same)) in
            rw (t, later, ap (λ m. m == k) (sym are.0) ∙ t) (only (r.keeps h past e) ∙ ap not are.1)
        | inr f ↦ rw (f, ap (λ m. m == k) (sym are.0) ∙ f) (broken_where_false (r.number + 1) rs cs k rest are.2)
      ]
    where
      only : (b : Bool) → (not b || false) ≡ not b
      only b = grind arith

  rules_are_parts : AreParts rules clauses
  rules_are_parts =
      let none : AreParts [] [] = tt in
      let from_40 : AreParts (drop 39 rules) (drop 39 clauses) = (refl, k40_parts h past e, none) in
      let from_39 : AreParts (drop 38 rules) (drop 38 clauses) = (refl, k39_parts h past e, from_40) in
      let from_38 : AreParts (drop 37 rules) (drop 37 clauses) = (refl, k38_parts h past e, from_39) in
      let from_37 : AreParts (drop 36 rules) (drop 36 clauses) = (refl, k37_parts h past e, from_38) in
      let from_36 : AreParts (drop 35 rules) (drop 35 clauses) = (refl, k36_parts h past e, from_37) in
      let from_35 : AreParts (drop 34 rules) (drop 34 clauses) = (refl, k35_parts h past e, from_36) in
      let from_34 : AreParts (drop 33 rules) (drop 33 clauses) = (refl, k34_parts h past e, from_35) in
      let from_33 : AreParts (drop 32 rules) (drop 32 clauses) = (refl, k33_parts h past e, from_34) in
      let from_32 : AreParts (drop 31 rules) (drop 31 clauses) = (refl, k32_parts h past e, from_33) in
      let from_31 : AreParts (drop 30 rules) (drop 30 clauses) = (refl, k31_parts h past e, from_32) in
      let from_30 : AreParts (drop 29 rules) (drop 29 clauses) = (refl, k30_parts h past e, from_31) in
      let from_29 : AreParts (drop 28 rules) (drop 28 clauses) = (refl, k29_parts h past e, from_30) in
      let from_28 : AreParts (drop 27 rules) (drop 27 clauses) = (refl, k28_parts h past e, from_29) in
      let from_27 : AreParts (drop 26 rules) (drop 26 clauses) = (refl, k27_parts h past e, from_28) in
      let from_26 : AreParts (drop 25 rules) (drop 25 clauses) = (refl, k26_parts h past e, from_27) in
      let from_25 : AreParts (drop 24 rules) (drop 24 clauses) = (refl, k25_parts h past e, from_26) in
      let from_24 : AreParts (drop 23 rules) (drop 23 clauses) = (refl, k24_parts h past e, from_25) in
      let from_23 : AreParts (drop 22 rules) (drop 22 clauses) = (refl, k23_parts h past e, from_24) in
      let from_22 : AreParts (drop 21 rules) (drop 21 clauses) = (refl, k22_parts h past e, from_23) in
      let from_21 : AreParts (drop 20 rules) (drop 20 clauses) = (refl, k21_parts h past e, from_22) in
      let from_20 : AreParts (drop 19 rules) (drop 19 clauses) = (refl, k20_parts h past e, from_21) in
      let from_19 : AreParts (drop 18 rules) (drop 18 clauses) = (refl, k19_parts h past e, from_20) in
      let from_18 : AreParts (drop 17 rules) (drop 17 clauses) = (refl, k18_parts h past e, from_19) in
      let from_17 : AreParts (drop 16 rules) (drop 16 clauses) = (refl, k17_parts h past e, from_18) in
      let from_16 : AreParts (drop 15 rules) (drop 15 clauses) = (refl, k16_parts h past e, from_17) in
      let from_15 : AreParts (drop 14 rules) (drop 14 clauses) = (refl, k15_parts h past e, from_16) in
      let from_14 : AreParts (drop 13 rules) (drop 13 clauses) = (refl, k14_parts h past e, from_15) in
      let from_13 : AreParts (drop 12 rules) (drop 12 clauses) = (refl, k13_parts h past e, from_14) in
      let from_12 : AreParts (drop 11 rules) (drop 11 clauses) = (refl, k12_parts h past e, from_13) in
      let from_11 : AreParts (drop 10 rules) (drop 10 clauses) = (refl, k11_parts h past e, from_12) in
      let from_10 : AreParts (drop 9 rules) (drop 9 clauses) = (refl, k10_parts h past e, from_11) in
      let from_9 : AreParts (drop 8 rules) (drop 8 clauses) = (refl, k9_parts h past e, from_10) in
      let from_8 : AreParts (drop 7 rules) (drop 7 clauses) = (refl, k8_parts h past e, from_9) in
      let from_7 : AreParts (drop 6 rules) (drop 6 clauses) = (refl, k7_parts h past e, from_8) in
      let from_6 : AreParts (drop 5 rules) (drop 5 clauses) = (refl, k6_parts h past e, from_7) in
      let from_5 : AreParts (drop 4 rules) (drop 4 clauses) = (refl, k5_parts h past e, from_6) in
      let from_4 : AreParts (drop 3 rules) (drop 3 clauses) = (refl, k4_parts h past e, from_5) in
      let from_3 : AreParts (drop 2 rules) (drop 2 clauses) = (refl, k3_parts h past e, from_4) in
      let from_2 : AreParts (drop 1 rules) (drop 1 clauses) = (refl, k2_parts h past e, from_3) in
      let from_1 : AreParts (drop 0 rules) (drop 0 clauses) = (refl, k1_parts h past e, from_2) in
      from_1

  pub broken_is_false : (k : ℕ) → breaks h past e k ≡ not (each_holds (clauses_of k) h past e)
  broken_is_false k = broken_where_false 0 rules clauses k refl rules_are_parts

  some_is_false : (cs : List Clause) → is_some (first_false cs h past e) ≡ not (each_holds cs h past e)
  some_is_false [] = refl
  some_is_false (c ∷ cs) =
      elim (cases_Bool (c.holds h past e)) [
        | inl t ↦ rw t (some_is_false cs)
        | inr f ↦ rw f refl
      ]

  pub named_where_broken : (k : ℕ) → is_some (clause_of h past e k) ≡ breaks h past e k
  named_where_broken k = some_is_false (clauses_of k) ∙ sym (broken_is_false k)
