-- The outstanding transactions of a port on a channel, and that there is a step that serves one exactly where one of them has a burst that may
-- begin.
use Rattle.std.proofs.Common.{◌≡◌, ℕ, zero, suc, Bool, true, false, ◌&&◌, ◌==◌, List, [], ◌∷◌, filter, Some, slice_get, refl, sym, ap, subst, ◌∙◌, inl, inr}
use Rattle.std.specs.List.{AllByRecursion, list_any}
use Rattle.std.proofs.lemmas.Bool.{and_parts, cases_Bool, eqb-true}
use Rattle.ace_event.specs.declared.event.Channel.{Channel}
use Rattle.ace_event.specs.declared.event.Event.{Event}
use Rattle.ace_event.specs.declared.header.Header.{Header}
use Rattle.ace_model.specs.declared.transactions.Transaction.{Transaction}
use Rattle.ace_model.specs.Progress.{transactions}
use Rattle.ace_model.specs.Trace.{Trace}
use Rattle.ace_model.specs.Transactions.{is_outstanding, outstanding, same_channel}
use Rattle.ace_model.proofs.Outstanding.Issued.{some_issued-any, transactions-issued}
use Rattle.ace_model.proofs.Trace.Growth.{IsIssued}
use Rattle.ace_model.proofs.Trace.LineOnce.{outstanding_is}
use Rattle.ace_model.proofs.Trace.Looks.{same_channel-is}
use Rattle.ace_runs.specs.Bursts.{may_begin, may_serve}
use Rattle.ace_portck.specs.Pending.{is_pending, pending_of}

-- ---- one of them -------------------------------------------------------------------------------------

-- It is one of them.
pub record IsPending (h : Header) (past : Trace) (p : ℕ) (c : Channel) (x : Transaction) : Type 0 where
  pub issued : IsIssued past x
  pub port : x.port ≡ p
  pub chan : x.chan ≡ c
  pub is_out : is_outstanding h past x ≡ true
  pub out : outstanding h past p c x.id ≡ Some x

at-place : {A : Type 0} → (P : A → Type 0) (xs : List A) (k : ℕ) (x : A) → AllByRecursion P xs → slice_get xs k ≡ Some x → P x
at-place P [] k x all is = cc
at-place P (y ∷ xs) zero x all is = let same : y ≡ x = cc in subst P same all.0
at-place P (y ∷ xs) (suc k) x all is = at-place P xs k x all.1 is

filtered : {A : Type 0} → (test : A → Bool) (P : A → Type 0) (xs : List A) → AllByRecursion P xs → AllByRecursion (λ x. P x × (test x ≡ true)) (filter test xs)
filtered test P [] all = tt
filtered test P (x ∷ xs) all = elim (cases_Bool (test x)) [
  | inl t ↦ rw t ((all.0, t), filtered test P xs all.1)
  | inr f ↦ rw f (filtered test P xs all.1)
]

pub pending-at : (h : Header) (past : Trace) (p : ℕ) (c : Channel) (k : ℕ) (x : Transaction) → slice_get (pending_of h past p c) k ≡ Some x → IsPending h past p c x
pending-at h past p c k x there =
    let both = at-place _ (pending_of h past p c) k x (filtered (is_pending h past p c) (IsIssued past) (transactions past) (transactions-issued past)) there in
    let two = and_parts ((x.port == p) && same_channel x.chan c) (is_outstanding h past x) both.1 in
    let one = and_parts (x.port == p) (same_channel x.chan c) two.0 in
    let port = eqb-true x.port p one.0 in
    let chan = same_channel-is x.chan c one.1 in
    record {
      issued = both.0;
      port = port;
      chan = chan;
      is_out = two.1;
      out = subst (λ d. outstanding h past p d x.id ≡ Some x) chan (subst (λ q. outstanding h past q x.chan x.id ≡ Some x) port (outstanding_is h past x both.0 two.1));
    }

-- ---- whether there is one ----------------------------------------------------------------------------

any-same : {A : Type 0} → (f g : A → Bool) (xs : List A) → ((x : A) → f x ≡ g x) → list_any f xs ≡ list_any g xs
any-same f g [] same = refl
any-same f g (x ∷ xs) same = let here = same x in let rest = any-same f g xs same in rw (here, rest) refl

any-filtered : {A : Type 0} → (f g : A → Bool) (xs : List A) → list_any (λ x. f x && g x) xs ≡ list_any g (filter f xs)
any-filtered f g [] = refl
any-filtered f g (x ∷ xs) = let rest = any-filtered f g xs in elim (cases_Bool (f x)) [ inl t ↦ rw (t, rest) refl | inr n ↦ rw (n, rest) refl ]

any-none : {A : Type 0} → (test : A → Bool) (xs : List A) → ((k : ℕ) (x : A) → slice_get xs k ≡ Some x → test x ≡ false) → list_any test xs ≡ false
any-none test [] none = refl
any-none test (x ∷ xs) none = let here = none 0 x refl in let rest = any-none test xs (λ k y at. none (suc k) y at) in rw (here, rest) refl

off : (b : Bool) → (b && false) ≡ false
off true = refl
off false = refl

on : (a b c : Bool) → ((a && b) && c) ≡ (((a && true) && b) && c)
on true b c = refl
on false b c = refl

module _ (burst_for : Header → Trace → Transaction → List Event) (h : Header) (past : Trace) (p : ℕ) (c : Channel)
    (elsewhere : (x : Transaction) → same_channel x.chan c ≡ false → may_begin h past (burst_for h past x) ≡ false) where
  one-test : (x : Transaction)
      → (((x.port == p) && is_outstanding h past x) && may_begin h past (burst_for h past x)) ≡ (is_pending h past p c x && may_begin h past (burst_for h past x))
  one-test x = elim (cases_Bool (same_channel x.chan c)) [
    | inl own ↦ on (x.port == p) (is_outstanding h past x) (may_begin h past (burst_for h past x))
        ∙ ap (λ b. (((x.port == p) && b) && is_outstanding h past x) && may_begin h past (burst_for h past x)) (sym own)
    | inr other ↦
        let none = elsewhere x other in
        rw none (off ((x.port == p) && is_outstanding h past x) ∙ sym (off (is_pending h past p c x)))
  ]

  -- where none of them has a burst that may begin, no step serves one
  pub serves-none : ((k : ℕ) (x : Transaction) → slice_get (pending_of h past p c) k ≡ Some x → may_begin h past (burst_for h past x) ≡ false) → may_serve burst_for h past p ≡ false
  serves-none none =
      some_issued-any past (λ x. (x.port == p) && is_outstanding h past x && may_begin h past (burst_for h past x))
      ∙ any-same _ (λ x. is_pending h past p c x && may_begin h past (burst_for h past x)) (transactions past) one-test
      ∙ any-filtered (is_pending h past p c) (λ x. may_begin h past (burst_for h past x)) (transactions past)
      ∙ any-none (λ x. may_begin h past (burst_for h past x)) (pending_of h past p c) none
