-- A port with nothing outstanding: no line of it is busy, it has no write of any kind, and awaits no memory update.
use Rattle.std.proofs.Common.{◌≡◌, ℕ, suc, Bool, true, false, ◌&&◌, ◌==◌, List, [], ◌∷◌, Some, None, slice_get, inl, inr, refl, sym, ap, subst, ◌∙◌}
use Rattle.std.specs.List.{list_any}
use Rattle.std.proofs.lemmas.Bool.{and_parts, or_cases, eqb-true, false_from_ne_true}
use Rattle.ace_codes.specs.declared.kind.AwKind.{AwKind}
use Rattle.ace_event.specs.declared.event.Channel.{Channel}
use Rattle.ace_event.specs.declared.header.Header.{Header}
use Rattle.ace_model.specs.declared.transactions.Transaction.{Transaction}
use Rattle.ace_model.specs.AddressRules.{has_write}
use Rattle.ace_model.specs.Progress.{updates_memory}
use Rattle.ace_model.specs.Trace.{Trace, is_some_and}
use Rattle.ace_model.specs.Transactions.{has_outstanding_on, is_on, is_outstanding, is_transaction, outstanding, some_issued, write_kind}
use Rattle.ace_model.proofs.Trace.Growth.{some_issued-is}
use Rattle.ace_runs.specs.Requests.{awaits_update}
use Rattle.ace_runs.specs.Segments.{segment}
use Rattle.ace_runs.proofs.NeverStuck.Operations.SegmentOf.{IsOfSegment, segment-of}

-- nothing of the port is outstanding
abbrev pub IsIdle : Header → Trace → ℕ → Type 0
IsIdle h past p = (c : Channel) (i : ℕ) → outstanding h past p c i ≡ None

module _ (h : Header) (past : Trace) (p : ℕ) (idle : IsIdle h past p) where
  pub none-out : (x : Transaction) → x.port ≡ p → is_outstanding h past x ≡ false
  none-out x port = ap (λ o. is_transaction o x) (subst (λ q. outstanding h past q x.chan x.id ≡ None) (sym port) (idle x.chan x.id))

  -- no transaction of the port is found by a look at what is outstanding
  none-found : (test : Transaction → Bool) → ((x : Transaction) → test x ≡ true → (x.port ≡ p) × (is_outstanding h past x ≡ true)) → some_issued past test ≡ false
  none-found test tells =
      false_from_ne_true (some_issued past test) (λ some.
      let x = some_issued-is past test some in
      let both = tells x.0 x.2 in
      let bad : false ≡ true = sym (none-out x.0 both.0) ∙ both.1 in cc)

  pub none-busy : (l : ℕ) → has_outstanding_on h past p l ≡ false
  none-busy l =
      none-found (λ x. (x.port == p) && is_on x l && is_outstanding h past x) (λ x t.
      let parts = and_parts ((x.port == p) && is_on x l) (is_outstanding h past x) t in
      (eqb-true x.port p (and_parts (x.port == p) (is_on x l) parts.0).0, parts.1))

  pub none-written : (test : AwKind → Bool) → has_write h past p test ≡ false
  none-written test =
      none-found (λ x. (x.port == p) && is_some_and (write_kind x) test && is_outstanding h past x) (λ x t.
      let parts = and_parts ((x.port == p) && is_some_and (write_kind x) test) (is_outstanding h past x) t in
      (eqb-true x.port p (and_parts (x.port == p) (is_some_and (write_kind x) test) parts.0).0, parts.1))

-- the transactions of its segment are the port's
pub awaits-none : (h : Header) (past : Trace) (p : ℕ) → IsIdle h past p → awaits_update h past p ≡ false
awaits-none h past p idle = of (segment past p) (λ k x there. segment-of past p k x there)
  where
    of : (xs : List Transaction) → ((k : ℕ) (x : Transaction) → slice_get xs k ≡ Some x → IsOfSegment past p x) → list_any (λ x. updates_memory x && is_outstanding h past x) xs ≡ false
    of [] each = refl
    of (x ∷ xs) each =
        let out = none-out h past p idle x (each 0 x refl).port in
        false_from_ne_true (list_any (λ x. updates_memory x && is_outstanding h past x) (x ∷ xs)) (λ some.
        elim (or_cases (updates_memory x && is_outstanding h past x) (list_any (λ x. updates_memory x && is_outstanding h past x) xs) some) [
          | inl now ↦ let bad : false ≡ true = sym out ∙ (and_parts (updates_memory x) (is_outstanding h past x) now).1 in cc
          | inr later ↦ let bad : false ≡ true = sym (of xs (λ k y there. each (suc k) y there)) ∙ later in cc
        ])
