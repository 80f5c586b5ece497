-- An event names one of the outstanding transactions of its port on the channel at most, and only that one advances.
use Rattle.ace_portck.proofs.Terms.{AllByRecursion, Channel, Read, Write, Event, R, B, G, M, D, port_of, is_some_and, same_channel, Progress, renewed, advanced, named_by, change_first, is_store, AreApart}
use Rattle.std.proofs.Common.{◌≡◌, ℕ, suc, ◌+◌, ◌<◌, Bool, true, false, ◌==◌, nat_eq, if◌then◌else◌, List, [], ◌∷◌, ◌++◌, map, length, take, drop, set, get_or, Some, None, refl, sym, ap, ◌∙◌, inl, inr, arith}
use Rattle.std.proofs.lemmas.Bool.{cases_Bool, eq-eqb, eqb-true}
use Rattle.std.proofs.lemmas.List.{drop_more, set_split}
use Rattle.ace_model.proofs.General.Options.{Some-injective}

-- A loop that looks for the first transaction under the identifier.
module _ (f : Progress → Progress) (i : ℕ) (xs : List Progress) (k : ℕ) (d : Progress) (lt : k < length xs)
    (so_far : change_first f i xs ≡ take k xs ++ change_first f i (drop k xs)) where
  at : change_first f i xs ≡ take k xs ++ change_first f i (get_or xs k d ∷ drop (k + 1) xs)
  at = so_far ∙ ap (λ l. take k xs ++ change_first f i l) (drop_more xs k d lt)

  -- it is this one
  pub first_here : nat_eq (get_or xs k d).transaction.id i ≡ true → set xs k (f (get_or xs k d)) ≡ change_first f i xs
  first_here same =
      let step : change_first f i (get_or xs k d ∷ drop (k + 1) xs) ≡ f (get_or xs k d) ∷ drop (k + 1) xs = rw same refl in
      let on : suc k ≡ k + 1 = omega arith in
      set_split xs k (f (get_or xs k d)) lt ∙ ap (λ n. take k xs ++ f (get_or xs k d) ∷ drop n xs) on ∙ sym (at ∙ ap (λ l. take k xs ++ l) step)

-- whether the event names it
abbrev names : Event → Channel → Progress → Bool
names e c v = is_some_and (named_by e c) (λ i. nat_eq v.transaction.id i)

on_name : (e : Event) (p : ℕ) (c : Channel) (v : Progress) → port_of e ≡ Some p → is_store e ≡ false → v.transaction.port ≡ p → v.transaction.chan ≡ c
    → renewed e v ≡ (if names e c v then advanced e v else v)
on_name (R q i resp last word) p Read v own still port chan = let t = eq-eqb v.transaction.port q (port ∙ sym (Some-injective q p own)) in rw (t, chan) refl
on_name (R q i resp last word) p Write v own still port chan = let t = eq-eqb v.transaction.port q (port ∙ sym (Some-injective q p own)) in rw (t, chan) refl
on_name (B q i resp) p Read v own still port chan = let t = eq-eqb v.transaction.port q (port ∙ sym (Some-injective q p own)) in rw (t, chan) refl
on_name (B q i resp) p Write v own still port chan = let t = eq-eqb v.transaction.port q (port ∙ sym (Some-injective q p own)) in rw (t, chan) refl
on_name (G q d i) p c v own still port chan =
    let t = eq-eqb v.transaction.port q (port ∙ sym (Some-injective q p own)) in
    elim (cases_Bool (same_channel c d)) [ inl s ↦ rw (t, chan, s) refl | inr n ↦ rw (t, chan, n) refl ]
on_name (M q d i line) p c v own still port chan =
    let t = eq-eqb v.transaction.port q (port ∙ sym (Some-injective q p own)) in
    elim (cases_Bool (same_channel c d)) [ inl s ↦ rw (t, chan, s) refl | inr n ↦ rw (t, chan, n) refl ]
on_name (D q addr strobe b line) p c v own still port chan = cc
on_name _ p c v own still port chan = refl

module _ (e : Event) (p : ℕ) (c : Channel) (own : port_of e ≡ Some p) (still : is_store e ≡ false) where
  -- an event that names none of them
  pub none_named : named_by e c ≡ None → (list : List Progress) → AreApart p c list → list ≡ map (renewed e) list
  none_named none [] apart = refl
  none_named none (v ∷ rest) apart =
      let same : renewed e v ≡ v = on_name e p c v own still apart.0 apart.1 ∙ rw none refl in
      rw same (ap (λ l. v ∷ l) (none_named none rest apart.3))

  module _ (i : ℕ) (named : named_by e c ≡ Some i) where
    others : (j : ℕ) → j ≡ i → (list : List Progress) → AllByRecursion (λ v. (v.transaction.id == j) ≡ false) list → AreApart p c list → list ≡ map (renewed e) list
    others j is [] other apart = refl
    others j is (v ∷ rest) other apart =
        let off : nat_eq v.transaction.id i ≡ false = ap (nat_eq v.transaction.id) (sym is) ∙ other.0 in
        let same : renewed e v ≡ v = on_name e p c v own still apart.0 apart.1 ∙ rw (named, off) refl in
        rw same (ap (λ l. v ∷ l) (others j is rest other.1 apart.3))

    pub first_named : (list : List Progress) → AreApart p c list → change_first (advanced e) i list ≡ map (renewed e) list
    first_named [] apart = refl
    first_named (v ∷ rest) apart =
        let by_name = on_name e p c v own still apart.0 apart.1 in
        elim (cases_Bool (nat_eq v.transaction.id i)) [
          | inl t ↦
              let new : renewed e v ≡ advanced e v = by_name ∙ rw (named, t) refl in
              rw (t, new) (ap (λ l. advanced e v ∷ l) (others v.transaction.id (eqb-true v.transaction.id i t) rest apart.2 apart.3))
          | inr f ↦
              let same : renewed e v ≡ v = by_name ∙ rw (named, f) refl in
              rw (f, same) (ap (λ l. v ∷ l) (first_named rest apart.3))
        ]
