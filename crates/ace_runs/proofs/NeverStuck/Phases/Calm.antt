-- An event that leaves what a port needs to retire its next operation: where the operation couldn't retire with `ok` before, it can't after.
use Rattle.std.proofs.Common.{◌≡◌, ℕ, suc, Bool, true, false, not, ◌&&◌, ◌==◌, List, [], ◌∷◌, length, Option, Some, None, slice_get, inl, inr, refl, sym, ap, ◌∙◌}
use Rattle.std.specs.List.{list_all, list_any}
use Rattle.std.proofs.lemmas.Bool.{and_parts, and_from, cases_Bool}
use Rattle.ace_event.specs.declared.event.Event.{Event}
use Rattle.ace_event.specs.declared.event.Outcome.TheVariants.{Ok}
use Rattle.ace_codes.specs.declared.kind.AwKind.TheVariants as write
use Rattle.ace_model.specs.declared.plans.Op.{Op}
use Rattle.ace_model.specs.declared.plans.Op.TheVariants.{Pf, Wb, Wc, Ev, We, Wu, Wlu, Sync}
use Rattle.ace_model.specs.declared.transactions.Transaction.{Transaction}
use Rattle.ace_model.specs.Plans.{Plan}
use Rattle.ace_model.specs.Trace.{Trace, implies, is_some_and}
use Rattle.ace_model.specs.Transactions.{is_outstanding}
use Rattle.ace_runs.specs.Acts.{acts_of, is_act_transaction}
use Rattle.ace_runs.specs.Operations.{next_operation}
use Rattle.ace_runs.specs.Retiring.{has_answered_completion, is_met, may_retire}
use Rattle.ace_runs.specs.Segments.{acts_made, is_read_of, is_write_of, segment}

-- the port's next operation may retire with `ok`
abbrev pub may_end : Plan → Trace → ℕ → Bool
may_end plan past p = is_some_and (next_operation plan past p) (λ o. may_retire plan.header past p o Ok)

-- The event leaves what the port needs for that.
pub record IsCalm (plan : Plan) (past : Trace) (p : ℕ) (e : Event) : Type 0 where
  pub next : next_operation plan (e ∷ past) p ≡ next_operation plan past p
  pub made : acts_made (e ∷ past) p ≡ acts_made past p
  pub same : segment (e ∷ past) p ≡ segment past p
  pub outs : (k : ℕ) (x : Transaction) → slice_get (segment past p) k ≡ Some x → is_outstanding plan.header (e ∷ past) x ≡ is_outstanding plan.header past x
  pub told : has_answered_completion (e ∷ past) p ≡ true → has_answered_completion past p ≡ true

-- ---- tests that agree on a list ----------------------------------------------------------------------

any-agree : {A : Type 0} → (f g : A → Bool) (xs : List A) → ((k : ℕ) (x : A) → slice_get xs k ≡ Some x → f x ≡ g x) → list_any f xs ≡ list_any g xs
any-agree f g [] each = refl
any-agree f g (x ∷ xs) each = rw (each 0 x refl, any-agree f g xs (λ k y there. each (suc k) y there)) refl

all-agree : {A : Type 0} → (f g : A → Bool) (xs : List A) → ((k : ℕ) (x : A) → slice_get xs k ≡ Some x → f x ≡ g x) → list_all f xs ≡ list_all g xs
all-agree f g [] each = refl
all-agree f g (x ∷ xs) each = rw (each 0 x refl, all-agree f g xs (λ k y there. each (suc k) y there)) refl

-- ---- what has to hold --------------------------------------------------------------------------------

module _ (plan : Plan) (past : Trace) (p : ℕ) (e : Event) (calm : IsCalm plan past p e) where
  acts-done-same : list_all (λ x. implies (is_act_transaction x) (not (is_outstanding plan.header (e ∷ past) x))) (segment (e ∷ past) p)
      ≡ list_all (λ x. implies (is_act_transaction x) (not (is_outstanding plan.header past x))) (segment past p)
  acts-done-same =
      ap (list_all (λ x. implies (is_act_transaction x) (not (is_outstanding plan.header (e ∷ past) x)))) calm.same
      ∙ all-agree (λ x. implies (is_act_transaction x) (not (is_outstanding plan.header (e ∷ past) x))) (λ x. implies (is_act_transaction x) (not (is_outstanding plan.header past x))) (segment past p)
      (λ k x there. ap (λ b. implies (is_act_transaction x) (not b)) (calm.outs k x there))

  met-before : (o : Op) → is_met plan.header (e ∷ past) p o ≡ true → is_met plan.header past p o ≡ true
  met-before (Pf a k) m =
      sym (ap (list_any (λ x. is_read_of k a x && not (is_outstanding plan.header (e ∷ past) x))) calm.same
      ∙ any-agree (λ x. is_read_of k a x && not (is_outstanding plan.header (e ∷ past) x)) (λ x. is_read_of k a x && not (is_outstanding plan.header past x)) (segment past p)
      (λ n x there. ap (λ b. is_read_of k a x && not b) (calm.outs n x there))) ∙ m
  met-before (Wb a) m = sym (ap (list_any (is_write_of write.WriteBack a)) calm.same) ∙ m
  met-before (Wc a) m = sym (ap (list_any (is_write_of write.WriteClean a)) calm.same) ∙ m
  met-before (Ev a) m = sym (ap (list_any (is_write_of write.Evict a)) calm.same) ∙ m
  met-before (We a) m = sym (ap (list_any (is_write_of write.WriteEvict a)) calm.same) ∙ m
  met-before (Wu a strobe line) m = refl
  met-before (Wlu a line) m = refl
  met-before (Sync word) m = calm.told m
  met-before o m = sym acts-done-same ∙ m

  ends-before : (o : Op) → may_retire plan.header (e ∷ past) p o Ok ≡ true → may_retire plan.header past p o Ok ≡ true
  ends-before o m =
      let parts = and_parts (acts_made (e ∷ past) p == length (acts_of o)) (is_met plan.header (e ∷ past) p o) m in
      and_from _ _ (ap (λ n. n == length (acts_of o)) (sym calm.made) ∙ parts.0) (met-before o parts.1)

  -- what couldn't end before can't after
  pub calm-keeps : may_end plan past p ≡ false → may_end plan (e ∷ past) p ≡ false
  calm-keeps none = ap (λ n. is_some_and n (λ o. may_retire plan.header (e ∷ past) p o Ok)) calm.next ∙ by (next_operation plan past p) none
    where
      by : (n : Option Op) → is_some_and n (λ o. may_retire plan.header past p o Ok) ≡ false → is_some_and n (λ o. may_retire plan.header (e ∷ past) p o Ok) ≡ false
      by None f = refl
      by (Some o) f =
          elim (cases_Bool (may_retire plan.header (e ∷ past) p o Ok)) [
            | inr none ↦ none
            | inl t ↦ let bad : false ≡ true = sym f ∙ ends-before o t in cc
          ]
