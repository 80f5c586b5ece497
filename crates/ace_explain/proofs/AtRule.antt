-- The clause of a rule by its number.
use Rattle.std.proofs.Common.{◌≡◌, ℕ, ◌<◌, true, false, ◌==◌, nat_le, List, [], ◌∷◌, refl, sym, subst, arith}
use Rattle.std.specs.List.{list_all}
use Rattle.std.proofs.lemmas.Bool.{and_parts, leb-true, ne_eqb}
use Rattle.ace_event.specs.declared.event.Event.{Event}
use Rattle.ace_model.specs.AddressRules.{k4, k5, k6, k8}
use Rattle.ace_model.specs.SnoopRules.{k14}
use Rattle.ace_model.specs.ReadRules.{k22}
use Rattle.ace_model.specs.WriteRules.{k27}
use Rattle.ace_model.specs.CacheRules.{k30, k31}
use Rattle.ace_model.specs.OrderRules.{k35, k38, k40}
use Rattle.ace_portck.specs.Targets.{Recording}
use Rattle.ace_clauses.specs.Clauses.{RuleClauses, clauses, clauses_among, clauses_of}
use Rattle.ace_clauses.specs.declared.letters.Letter.{Letter}
use Rattle.ace_clauses.specs.declared.letters.Letter.TheVariants as letter
use Rattle.ace_explain.specs.Names.{Names}
use Rattle.ace_explain.proofs.Broken.{has_clause, last_one, none_broken}

module _ (r : Recording) (e : Event) where
  -- the rule has this number
  pub at_rule : (k n : ℕ) (letter : Letter) → k ≡ n → Names r e n letter → Names r e k letter
  at_rule k n letter is names = subst (λ m. Names r e m letter) (sym is) names

  -- rules of one clause
  pub sole_4 : Names r e 4 letter.A
  sole_4 least = last_one (k4 r.header r.past e) letter.A (has_clause r.header r.past e 4 least)

  pub sole_5 : Names r e 5 letter.A
  sole_5 least = last_one (k5 r.header r.past e) letter.A (has_clause r.header r.past e 5 least)

  pub sole_6 : Names r e 6 letter.A
  sole_6 least = last_one (k6 r.header r.past e) letter.A (has_clause r.header r.past e 6 least)

  pub sole_8 : Names r e 8 letter.A
  sole_8 least = last_one (k8 r.header r.past e) letter.A (has_clause r.header r.past e 8 least)

  pub sole_14 : Names r e 14 letter.A
  sole_14 least = last_one (k14 r.header r.past e) letter.A (has_clause r.header r.past e 14 least)

  pub sole_22 : Names r e 22 letter.A
  sole_22 least = last_one (k22 r.header r.past e) letter.A (has_clause r.header r.past e 22 least)

  pub sole_27 : Names r e 27 letter.A
  sole_27 least = last_one (k27 r.header r.past e) letter.A (has_clause r.header r.past e 27 least)

  pub sole_30 : Names r e 30 letter.A
  sole_30 least = last_one (k30 r.header r.past e) letter.A (has_clause r.header r.past e 30 least)

  pub sole_31 : Names r e 31 letter.A
  sole_31 least = last_one (k31 r.header r.past e) letter.A (has_clause r.header r.past e 31 least)

  pub sole_35 : Names r e 35 letter.A
  sole_35 least = last_one (k35 r.header r.past e) letter.A (has_clause r.header r.past e 35 least)

  pub sole_38 : Names r e 38 letter.A
  sole_38 least = last_one (k38 r.header r.past e) letter.A (has_clause r.header r.past e 38 least)

  pub sole_40 : Names r e 40 letter.A
  sole_40 least = last_one (k40 r.header r.past e) letter.A (has_clause r.header r.past e 40 least)

  -- no rule has another number
  pub no_rule : (k : ℕ) → clauses_of k ≡ [] → Names r e k letter.A
  no_rule k none least = none_broken (rw none at (has_clause r.header r.past e k least))

-- there are forty rules
none_among : (rs : List RuleClauses) (n k : ℕ) → n < k → list_all (λ c. nat_le c.number n) rs ≡ true → clauses_among rs k ≡ []
none_among [] n k high t = refl
none_among (c ∷ rs) n k high t =
    let parts = and_parts (nat_le c.number n) (list_all (λ d. nat_le d.number n) rs) t in
    let low = leb-true c.number n parts.0 in
    let other : (c.number == k) ≡ false = ne_eqb c.number k (λ same. omega (arith, high, low, same)) in
    rw other (none_among rs n k high parts.1)

pub none_beyond : (k : ℕ) → 40 < k → clauses_of k ≡ []
none_beyond k high = none_among clauses 40 k high refl

-- the first is K1
pub none_before : (k : ℕ) → k ≡ 0 → clauses_of k ≡ []
none_before k zero = subst (λ n. clauses_of n ≡ []) (sym zero) refl
