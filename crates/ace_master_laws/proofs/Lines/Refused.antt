-- An exclusive store that failed was refused at its G.
use Rattle.std.proofs.Common.{◌≡◌, ℕ, Bool, true, false, not, ◌&&◌, [], ◌∷◌, length, Option, Some, None, inl, inr, refl, sym, ap, ◌∙◌, option_map, ◌⊎◌, if◌then◌else◌}
use Rattle.std.proofs.lemmas.Bool.{and_parts, and_from, cases_Bool, eq-eqb, or_left, or_right}
use Rattle.ace_event.specs.declared.event.Channel.TheVariants.{Read}
use Rattle.ace_event.specs.declared.event.Event.{Event}
use Rattle.ace_event.specs.declared.event.Event.TheVariants.{G}
use Rattle.ace_model.specs.declared.transactions.Transaction.{Transaction}
use Rattle.ace_model.specs.Exclusives.{has_failed, passed_at_grant, store_passes, store_result}
use Rattle.ace_model.specs.Grants.{given}
use Rattle.ace_model.specs.Trace.{Trace, is_some_and, newer, option_filter}
use Rattle.ace_model.specs.Transactions.{has_name, is_exclusive_store, is_named, is_transaction, issued, transaction_of}
use Rattle.ace_model.proofs.General.Options.{Some-injective, is_some_and-is}
use Rattle.ace_model.proofs.Trace.Issued.{transaction_of-name}
use Rattle.ace_model.proofs.Trace.Looks.{has_name-is, newest_named-older}
use Rattle.ace_runs.specs.Retiring.{was_refused}

-- what a G says of the store that it names
given-refuses : (past : Trace) (e : Event) (p i : ℕ) (x : Transaction) → transaction_of past p Read i ≡ Some x → store_result past (given past e) p i ≡ Some false
    → (is_transaction (given past e) x && not (store_passes past x)) ≡ true
given-refuses past (G q c j) p i x named result = by (transaction_of past q c j) refl result
  where
    of : (y : Transaction) (b : Bool) → transaction_of past q c j ≡ Some y → (has_name y p Read i && is_exclusive_store y) ≡ b
        → option_map (store_passes past) (if b then Some y else None) ≡ Some false → (is_transaction (Some y) x && not (store_passes past x)) ≡ true
    of y true is t r =
        let name = has_name-is y p Read i (and_parts (has_name y p Read i) (is_exclusive_store y) t).0 in
        let own = transaction_of-name past q c j y is in
        let again : transaction_of past p Read i ≡ Some y =
        ap (λ r. transaction_of past r Read i) (sym name.port ∙ own.port) ∙ ap (λ d. transaction_of past q d i) (sym name.chan ∙ own.chan)
        ∙ ap (transaction_of past q c) (sym name.id ∙ own.id) ∙ is in
        let same : y ≡ x = Some-injective y x (sym again ∙ named) in
        let fails : store_passes past y ≡ false = Some-injective (store_passes past y) false r in
        and_from _ _ (eq-eqb y.place x.place (ap (λ (v : Transaction). v.place) same)) (ap not (ap (store_passes past) (sym same) ∙ fails))
    of y false is t r = cc

    by : (o : Option Transaction) → transaction_of past q c j ≡ o → option_map (store_passes past) (option_filter (λ x. has_name x p Read i && is_exclusive_store x) o) ≡ Some false
        → (is_transaction o x && not (store_passes past x)) ≡ true
    by None is r = cc
    by (Some y) is r = of y (has_name y p Read i && is_exclusive_store y) is refl r
given-refuses past e p i x named result = cc

pub refused-at : (past : Trace) (p i : ℕ) (x : Transaction) → transaction_of past p Read i ≡ Some x → passed_at_grant past p i ≡ Some false → was_refused past x ≡ true
refused-at [] p i x named result = cc
refused-at (e ∷ past) p i x named result =
    elim (cases_Bool (is_named (issued (length past) e) p Read i)) [
      | inl t ↦ let bad : None ≡ Some false = rw t at result in cc
      | inr f ↦
          let before : transaction_of past p Read i ≡ Some x = sym (newest_named-older (issued (length past) e) p Read i (transaction_of past p Read i) f) ∙ named in
          let later : newer (store_result past (given past e) p i) (passed_at_grant past p i) ≡ Some false = rw f at result in
          elim (newer-is (store_result past (given past e) p i) (passed_at_grant past p i) later) [
            | inl now ↦ or_left _ (was_refused past x) (given-refuses past e p i x before now)
            | inr old ↦ or_right (is_transaction (given past e) x && not (store_passes past x)) _ (refused-at past p i x before old)
          ]
    ]
  where
    newer-is : (new older : Option Bool) → newer new older ≡ Some false → (new ≡ Some false) ⊎ (older ≡ Some false)
    newer-is None older is = inr is
    newer-is (Some b) older is = inl is

-- An exclusive store that failed was refused.
pub failed-refused : (past : Trace) (x : Transaction) → transaction_of past x.port Read x.id ≡ Some x → has_failed past x ≡ true → was_refused past x ≡ true
failed-refused past x named failed =
    let parts = and_parts (is_exclusive_store x) (is_some_and (passed_at_grant past x.port x.id) not) failed in
    let r = is_some_and-is (passed_at_grant past x.port x.id) not parts.1 in
    refused-at past x.port x.id x named (r.1 ∙ ap Some (no r.0 r.2))
  where
    no : (b : Bool) → not b ≡ true → b ≡ false
    no true n = cc
    no false n = refl
