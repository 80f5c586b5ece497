-- The first rule of a list in order that an event breaks is the least.
use Rattle.std.proofs.Common.{◌≡◌, ℕ, ◌+◌, ◌≤◌, true, false, not, ◌&&◌, ◌==◌, nat_le, List, [], ◌∷◌, Some, None, refl, arith, inl, inr}
use Rattle.std.proofs.lemmas.Bool.{cases_Bool, or_left, or_right, and_parts, and_from, or_cases, eqb-true, eq-eqb, leb-true, le-leb}
use Rattle.ace_model.proofs.Terms.{Event, Header, Trace, Rule, rise_from, AreInOrder, breaks_of, least_of}
use Rattle.ace_model.proofs.General.Options.{Some-injective}
use Rattle.ace_model.proofs.Rules.Keeps.{kept_first}

module _ (h : Header) (past : Trace) (e : Event) where
  -- no rule of the list has a smaller number
  no_smaller : (n : ℕ) (rs : List Rule) (j : ℕ) → rise_from n rs ≡ true → breaks_of rs h past e j ≡ true → n ≤ j
  no_smaller n [] j up b = cc
  no_smaller n (r ∷ rs) j up b =
      let parts = and_parts (nat_le n r.number) (rise_from (r.number + 1) rs) up in
      let low = leb-true n r.number parts.0 in
      elim (or_cases (r.number == j && not (r.keeps h past e)) (breaks_of rs h past e j) b) [
        | inl this ↦ let same = eqb-true r.number j (and_parts (r.number == j) (not (r.keeps h past e)) this).0 in omega arith
        | inr later ↦ let above = no_smaller (r.number + 1) rs j parts.1 later in omega arith
      ]

  -- a rule of the list that is broken is the first, or one of the rest
  broken_of_rest : (r : Rule) (rs : List Rule) (j : ℕ) → r.keeps h past e ≡ true → breaks_of (r ∷ rs) h past e j ≡ true → breaks_of rs h past e j ≡ true
  broken_of_rest r rs j kept b =
      elim (or_cases (r.number == j && not (r.keeps h past e)) (breaks_of rs h past e j) b) [
        | inl this ↦ let bad : false ≡ true = rw kept at (and_parts (r.number == j) (not (r.keeps h past e)) this).1 in cc
        | inr later ↦ later
      ]

  -- where there is no least one, none is broken
  pub none_is_broken : (rs : List Rule) (j : ℕ) → least_of rs h past e ≡ None → breaks_of rs h past e j ≡ true → ⊥
  none_is_broken [] j l b = cc
  none_is_broken (r ∷ rs) j l b =
      let k = kept_first (r.keeps h past e) r.number (least_of rs h past e) l in
      none_is_broken rs j k.1 (broken_of_rest r rs j k.0 b)

  -- a rule that is broken, and no smaller one is
  pub record IsLeast (rs : List Rule) (k : ℕ) : Type 0 where
    pub broken : breaks_of rs h past e k ≡ true
    pub least : (j : ℕ) → breaks_of rs h past e j ≡ true → k ≤ j

  is_least : (n : ℕ) (rs : List Rule) (k : ℕ) → rise_from n rs ≡ true → least_of rs h past e ≡ Some k → IsLeast rs k
  is_least n [] k up l = cc
  is_least n (r ∷ rs) k up l =
      let rest = (and_parts (nat_le n r.number) (rise_from (r.number + 1) rs) up).1 in
      elim (cases_Bool (r.keeps h past e)) [
        | inl kept ↦
            let i = is_least (r.number + 1) rs k rest (rw kept at l) in
            record {
              broken = or_right (r.number == k && not (r.keeps h past e)) (breaks_of rs h past e k) i.broken;
              least = λ j b. i.least j (broken_of_rest r rs j kept b);
            }
        | inr broke ↦
            let same : r.number ≡ k = Some-injective r.number k (rw broke at l) in
            let again : rise_from r.number (r ∷ rs) ≡ true = and_from (nat_le r.number r.number) _ (le-leb r.number r.number (omega arith)) rest in
            record {
              broken = or_left _ _ (and_from _ _ (eq-eqb r.number k same) (rw broke refl));
              least = λ j b. let low = no_smaller r.number (r ∷ rs) j again b in omega arith;
            }
      ]

  -- the first that an event breaks of rules in order is the least
  pub least_of_is_least : (rs : List Rule) (k : ℕ) → AreInOrder rs → least_of rs h past e ≡ Some k → IsLeast rs k
  least_of_is_least rs k order l = is_least 0 rs k order l
