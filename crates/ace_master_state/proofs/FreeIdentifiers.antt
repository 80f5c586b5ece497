-- Which identifiers of a port are free after an event: one that a transaction takes isn't, and that of a transaction which ends is.
use Rattle.std.proofs.Common.{◌≡◌, ℕ, ◌<◌, Bool, true, false, not, ◌&&◌, ◌||◌, ◌==◌, if◌then◌else◌, ◌∷◌, length, Option, Some, None, is_none, refl, sym, ap, subst, ◌∙◌, inl, inr}
use Rattle.std.proofs.Math.Bool.{and-false}
use Rattle.std.proofs.lemmas.Bool.{cases_Bool, eq-eqb, eqb-true, false_from_ne_true}
use Rattle.ace_event.specs.declared.event.Channel.{Channel}
use Rattle.ace_event.specs.declared.event.Event.{Event}
use Rattle.ace_event.specs.declared.header.Header.{Header}
use Rattle.ace_model.specs.declared.transactions.Transaction.{Transaction}
use Rattle.ace_model.specs.Trace.{Trace}
use Rattle.ace_model.specs.Transactions.{ended, has_name, issued, newest_named, outstanding, transaction_of, without}
use Rattle.ace_model.proofs.General.Options.{Some-injective}
use Rattle.ace_model.proofs.Trace.Issued.{outstanding-named, same_place, transaction_of-name, transaction_of-stands}
use Rattle.ace_model.proofs.Trace.Looks.{at_name, has_name-is}
use Rattle.ace_runs.specs.Requests.{is_free}
use Rattle.ace_master_state.specs.declared.identifier_set.IdentifierSet.{IdentifierSet}
use Rattle.ace_master_state.specs.Identifiers.{AreTaken, has}

pub neither : (b c : Bool) → not (b || c) ≡ (not b && not c)
neither true c = refl
neither false c = refl

-- ---- one identifier ----------------------------------------------------------------------------------

module _ (h : Header) (past : Trace) (p : ℕ) (c : Channel) (i : ℕ) where
  -- a transaction that ends frees its identifier, and no other
  ends-one : (z : Transaction) (q : ℕ) (d : Channel) (j : ℕ) → transaction_of past q d j ≡ Some z
      → is_none (without (Some z) (outstanding h past p c i)) ≡ (is_free h past p c i || has_name z p c i)
  ends-one z q d j there = by (outstanding h past p c i) refl
    where
      other : (x : Transaction) → outstanding h past p c i ≡ Some x → (x.place == z.place) ≡ false → has_name z p c i ≡ false
      other x is apart =
          false_from_ne_true (has_name z p c i) (λ named.
          let last : transaction_of past p c i ≡ Some z =
          sym (at_name (transaction_of past) z p c i (has_name-is z p c i named)) ∙ at_name (transaction_of past) z q d j (transaction_of-name past q d j z there) ∙ there in
          let one : x ≡ z = Some-injective x z (sym (outstanding-named h past p c i x is) ∙ last) in
          let bad : true ≡ false = sym (eq-eqb x.place z.place (ap (λ (v : Transaction). v.place) one)) ∙ apart in cc)

      by : (o : Option Transaction) → outstanding h past p c i ≡ o → is_none (without (Some z) o) ≡ (is_none o || has_name z p c i)
      by None is = refl
      by (Some x) is =
          elim (cases_Bool (x.place == z.place)) [
            | inl t ↦
                let last = outstanding-named h past p c i x is in
                let one : x ≡ z = same_place past p q c d i j x z last there (eqb-true x.place z.place t) in
                rw t (sym (subst (λ (v : Transaction). has_name v p c i ≡ true) one (transaction_of-stands past p c i x last).named))
            | inr f ↦ rw f (sym (other x is f))
          ]

  -- where no transaction ever had the identifier, it is free
  unknown-free : transaction_of past p c i ≡ None → is_free h past p c i ≡ true
  unknown-free none = by (outstanding h past p c i) refl
    where
      by : (o : Option Transaction) → outstanding h past p c i ≡ o → is_none o ≡ true
      by None is = refl
      by (Some x) is = (let bad : None ≡ Some x = sym none ∙ outstanding-named h past p c i x is in cc)

  module _ (e : Event) where
    free-begun : (x : Transaction) → issued (length past) e ≡ Some x → ended h past e ≡ None → is_free h (e ∷ past) p c i ≡ (is_free h past p c i && not (has_name x p c i))
    free-begun x new none =
        ap (λ n. is_none (newest_named n p c i (without (ended h past e) (outstanding h past p c i)))) new
        ∙ ap (λ g. is_none (newest_named (Some x) p c i (without g (outstanding h past p c i)))) none ∙ by (has_name x p c i) (outstanding h past p c i)
      where
        by : (b : Bool) (o : Option Transaction) → is_none (if b then Some x else o) ≡ (is_none o && not b)
        by true o = sym (and-false (is_none o))
        by false None = refl
        by false (Some y) = refl

    free-ended : (z : Transaction) (q : ℕ) (d : Channel) (j : ℕ) → issued (length past) e ≡ None → ended h past e ≡ Some z → transaction_of past q d j ≡ Some z
        → is_free h (e ∷ past) p c i ≡ (is_free h past p c i || has_name z p c i)
    free-ended z q d j none gone there =
        ap (λ n. is_none (newest_named n p c i (without (ended h past e) (outstanding h past p c i)))) none
        ∙ ap (λ g. is_none (without g (outstanding h past p c i))) gone ∙ ends-one z q d j there

    free-kept : issued (length past) e ≡ None → ended h past e ≡ None → is_free h (e ∷ past) p c i ≡ is_free h past p c i
    free-kept none stays =
        ap (λ n. is_none (newest_named n p c i (without (ended h past e) (outstanding h past p c i)))) none ∙ ap (λ g. is_none (without g (outstanding h past p c i))) stays

-- ---- those of a channel ------------------------------------------------------------------------------

module _ (h : Header) (past : Trace) (e : Event) (p : ℕ) (c : Channel) (s t : IdentifierSet) (was : AreTaken h past p c s) where
  -- one is taken
  pub taken-begun : (x : Transaction) → issued (length past) e ≡ Some x → ended h past e ≡ None → ((i : ℕ) → i < 16 → has t i ≡ (has s i || has_name x p c i))
      → AreTaken h (e ∷ past) p c t
  taken-begun x new none more i low =
      free-begun h past p c i e x new none ∙ ap (λ b. b && not (has_name x p c i)) (was i low) ∙ sym (ap not (more i low) ∙ neither (has s i) (has_name x p c i))

  -- one is free again
  pub taken-ended : (z : Transaction) (q : ℕ) (d : Channel) (j : ℕ) → issued (length past) e ≡ None → ended h past e ≡ Some z → transaction_of past q d j ≡ Some z
      → ((i : ℕ) → i < 16 → has t i ≡ (has s i && not (has_name z p c i))) → AreTaken h (e ∷ past) p c t
  taken-ended z q d j none gone there less i low =
      free-ended h past p c i e z q d j none gone there ∙ ap (λ b. b || has_name z p c i) (was i low) ∙ sym (ap not (less i low) ∙ both (has s i) (has_name z p c i))
    where
      both : (a b : Bool) → not (a && not b) ≡ (not a || b)
      both true true = refl
      both true false = refl
      both false b = refl

  -- one that was free stays free
  pub taken-unknown : (j : ℕ) → issued (length past) e ≡ None → ended h past e ≡ None → transaction_of past p c j ≡ None
      → ((i : ℕ) → i < 16 → has t i ≡ (has s i && not (j == i))) → AreTaken h (e ∷ past) p c t
  taken-unknown j none stays never less i low =
      free-kept h past p c i e none stays
      ∙ elim (cases_Bool (j == i)) [
        | inl t ↦
            unknown-free h past p c i (ap (transaction_of past p c) (sym (eqb-true j i t)) ∙ never)
            ∙ sym (ap not (less i low ∙ ap (λ b. has s i && not b) t ∙ and-false (has s i)))
        | inr f ↦ was i low ∙ sym (ap not (less i low ∙ ap (λ b. has s i && not b) f ∙ stays-so (has s i)))
      ]
    where
      stays-so : (b : Bool) → (b && true) ≡ b
      stays-so true = refl
      stays-so false = refl

  -- none is taken or free again
  pub taken-kept : issued (length past) e ≡ None → ended h past e ≡ None → ((i : ℕ) → i < 16 → has t i ≡ has s i) → AreTaken h (e ∷ past) p c t
  taken-kept none stays same i low = free-kept h past p c i e none stays ∙ was i low ∙ sym (ap not (same i low))
