-- What is outstanding after an event: what was so before and doesn't end by it, and what it issues.
use Rattle.std.proofs.Common.{◌≡◌, ℕ, Bool, true, false, not, ◌&&◌, nat_eq, ◌∷◌, length, Option, Some, None, refl, sym, ap, ◌∙◌, inl, inr, arith}
use Rattle.std.proofs.lemmas.Bool.{cases_Bool, eqb-true, eq-eqb, ne_eqb}
use Rattle.ace_model.proofs.Terms.{Event, Channel, Header, Transaction, Trace, has_name, is_named, issued, ended, without, outstanding, is_outstanding, is_transaction, has_free_name, IsAccepted}
use Rattle.ace_model.proofs.General.Options.{none_is, is_none_or-at, is_some_and-is}
use Rattle.ace_model.proofs.Rules.Keeps.{accepted_keeps}
use Rattle.ace_model.proofs.Trace.Looks.{at_name, has_name-is, has_name-self, newest_named-first, newest_named-older}
use Rattle.ace_model.proofs.Trace.Issued.{issued-place}
use Rattle.ace_model.proofs.Trace.Growth.{IsIssued}

and_true : (b : Bool) → b ≡ (b && true)
and_true true = refl
and_true false = refl

not_both_ways : (b : Bool) → false ≡ (b && not b)
not_both_ways true = refl
not_both_ways false = refl

-- what stays when one ends
without-is : (y o : Option Transaction) (x : Transaction) → is_transaction (without y o) x ≡ (is_transaction o x && not (is_transaction y x))
without-is None o x = and_true (is_transaction o x)
without-is (Some y) None x = refl
without-is (Some y) (Some w) x =
    elim (cases_Bool (nat_eq w.place y.place)) [
      | inl t ↦
          let same = eqb-true w.place y.place t in
          rw t (not_both_ways (nat_eq y.place x.place) ∙ ap (λ n. nat_eq n x.place && not (nat_eq y.place x.place)) (sym same))
      | inr f ↦ rw f (apart (nat_eq w.place x.place) refl f)
    ]
  where
    apart : (b : Bool) → nat_eq w.place x.place ≡ b → nat_eq w.place y.place ≡ false → b ≡ (b && not (nat_eq y.place x.place))
    apart false is f = refl
    apart true is f =
        let same = eqb-true w.place x.place is in
        let other : nat_eq y.place x.place ≡ false = ne_eqb y.place x.place (λ q. let t = eq-eqb w.place y.place (same ∙ sym q) in cc) in rw other refl

-- where an event of an accepted trace issues a transaction, its name is free
pub free_name : (h : Header) (past : Trace) (e : Event) (y : Transaction) → IsAccepted h (e ∷ past) → issued (length past) e ≡ Some y
    → outstanding h past y.port y.chan y.id ≡ None
free_name h past e y a new =
    none_is (outstanding h past y.port y.chan y.id) (is_none_or-at (issued (length past) e) (has_free_name h past) y (accepted_keeps h past e a).rule_4 new)

-- so it isn't that of an outstanding one
pub other_name_issued : (h : Header) (past : Trace) (e : Event) (p : ℕ) (c : Channel) (i : ℕ) (x : Transaction) → IsAccepted h (e ∷ past)
    → outstanding h past p c i ≡ Some x → is_named (issued (length past) e) p c i ≡ false
other_name_issued h past e p c i x a out =
    elim (cases_Bool (is_named (issued (length past) e) p c i)) [
      | inr f ↦ f
      | inl t ↦
          let y = is_some_and-is (issued (length past) e) (λ z. has_name z p c i) t in
          let free = free_name h past e y.0 a y.1 in
          let none : None ≡ Some x = sym free ∙ at_name (outstanding h past) y.0 p c i (has_name-is y.0 p c i y.2) ∙ out in cc
    ]

-- what was issued before is outstanding after the event where it was so and doesn't end
pub outstanding_after : (h : Header) (past : Trace) (e : Event) (x : Transaction) → IsAccepted h (e ∷ past) → IsIssued past x
    → is_outstanding h (e ∷ past) x ≡ (is_outstanding h past x && not (is_transaction (ended h past e) x))
outstanding_after h past e x a before =
    elim (cases_Bool (is_named (issued (length past) e) x.port x.chan x.id)) [
      | inr f ↦
          ap (λ o. is_transaction o x)
          (newest_named-older (issued (length past) e) x.port x.chan x.id (without (ended h past e) (outstanding h past x.port x.chan x.id)) f)
          ∙ without-is (ended h past e) (outstanding h past x.port x.chan x.id) x
      | inl t ↦
          let y = is_some_and-is (issued (length past) e) (λ z. has_name z x.port x.chan x.id) t in
          let free : outstanding h past x.port x.chan x.id ≡ None =
          sym (at_name (outstanding h past) y.0 x.port x.chan x.id (has_name-is y.0 x.port x.chan x.id y.2)) ∙ free_name h past e y.0 a y.1 in
          let newest = newest_named-first (issued (length past) e) x.port x.chan x.id (without (ended h past e) (outstanding h past x.port x.chan x.id)) y.0 y.1 y.2 in
          let place = issued-place (length past) e y.0 y.1 in
          let low = before.before in
          let other : nat_eq y.0.place x.place ≡ false = ne_eqb y.0.place x.place (λ q. absurd (omega (arith, place, low, q))) in
          rw (newest, free) other
    ]

-- what the event issues is outstanding after it
pub outstanding_new_one : (h : Header) (past : Trace) (e : Event) (y : Transaction) → issued (length past) e ≡ Some y → is_outstanding h (e ∷ past) y ≡ true
outstanding_new_one h past e y new =
    let newest = newest_named-first (issued (length past) e) y.port y.chan y.id (without (ended h past e) (outstanding h past y.port y.chan y.id)) y new (has_name-self y) in
    rw newest (eq-eqb y.place y.place refl)
