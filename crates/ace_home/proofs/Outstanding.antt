-- The outstanding transactions of a port: each has a place in its list, and whether it is granted is told by whether it has had its G.
use Rattle.std.proofs.Common.{◌≡◌, ℕ, zero, suc, Bool, true, false, ◌&&◌, ◌==◌, List, [], ◌∷◌, filter, Some, slice_get, refl, sym, ap, subst, ◌∙◌, inl, inr}
use Rattle.std.proofs.lemmas.Bool.{and_from, and_parts, cases_Bool, eq-eqb, eqb-true, false_from_ne_true}
use Rattle.ace_event.specs.declared.event.Channel.{Channel}
use Rattle.ace_event.specs.declared.event.Channel.TheVariants.{Read, Write}
use Rattle.ace_event.specs.declared.header.Header.{Header}
use Rattle.ace_model.specs.declared.transactions.Transaction.{Transaction}
use Rattle.ace_model.specs.Accepted.{IsAccepted}
use Rattle.ace_model.specs.Grants.{granted, has_grant, is_granted}
use Rattle.ace_model.specs.Progress.{transactions}
use Rattle.ace_model.specs.Trace.{Trace}
use Rattle.ace_model.specs.Transactions.{is_outstanding, outstanding, same_channel}
use Rattle.ace_model.proofs.GrantLooks.Had.{granted_had}
use Rattle.ace_model.proofs.Grants.Granted.{granted_at, granted_given, granted_is}
use Rattle.ace_model.proofs.Outstanding.Issued.{issued-place_in}
use Rattle.ace_model.proofs.Trace.Growth.{IsIssued, some_issued-found, some_issued-is}
use Rattle.ace_runs.specs.Bursts.{some_outstanding}
use Rattle.ace_engine.proofs.Pending.{IsPending, pending-at}
use Rattle.ace_portck.specs.Pending.{is_pending, pending_of}
use Rattle.ace_home.specs.Home.{IsOf}

-- ---- places ------------------------------------------------------------------------------------------

-- what passes the test keeps a place among those that do
filtered-place : {A : Type 0} → (test : A → Bool) (xs : List A) (k : ℕ) (x : A) → slice_get xs k ≡ Some x → test x ≡ true → (m : ℕ) × (slice_get (filter test xs) m ≡ Some x)
filtered-place test [] k x at t = cc
filtered-place test (y ∷ xs) zero x at t = let same : y ≡ x = cc in let own : test y ≡ true = ap test same ∙ t in rw own (0, at)
filtered-place test (y ∷ xs) (suc k) x at passes =
    let later = filtered-place test xs k x at passes in
    elim (cases_Bool (test y)) [
      | inl t ↦ rw t (suc later.0, later.1)
      | inr f ↦ rw f later
    ]

same-channel : (c : Channel) → same_channel c c ≡ true
same-channel Read = refl
same-channel Write = refl

pub of-port : (h : Header) (past : Trace) (x : Transaction) → IsIssued past x → is_outstanding h past x ≡ true → IsOf h past x.port x
of-port h past x i out =
    let k = issued-place_in past x i in
    filtered-place (is_pending h past x.port x.chan) (transactions past) k.0 x k.1
    (and_from _ _ (and_from _ _ (eq-eqb x.port x.port refl) (same-channel x.chan)) out)

pub of-at : (h : Header) (past : Trace) (p : ℕ) (x : Transaction) → IsOf h past p x → IsPending h past p x.chan x
of-at h past p x o = pending-at h past p x.chan o.0 x o.1

-- a place in the list of a channel
pub of-channel : (h : Header) (past : Trace) (p k : ℕ) (c : Channel) (x : Transaction) → slice_get (pending_of h past p c) k ≡ Some x → IsOf h past p x
of-channel h past p k c x at =
    let chan = (pending-at h past p c k x at).chan in
    (k, subst (λ d. slice_get (pending_of h past p d) k ≡ Some x) (sym chan) at)

-- ---- tests of them -----------------------------------------------------------------------------------

module _ (h : Header) (past : Trace) (p : ℕ) (test : Transaction → Bool) where
  pub some-passes : (x : Transaction) → IsOf h past p x → test x ≡ true → some_outstanding h past p test ≡ true
  some-passes x o t =
      let w = of-at h past p x o in
      some_issued-found past (λ y. (y.port == p) && is_outstanding h past y && test y) x.place x w.issued.there
      (and_from _ _ (and_from _ _ (eq-eqb x.port p w.port) w.is_out) t)

  pub none-passes : ((x : Transaction) → IsOf h past p x → test x ≡ false) → some_outstanding h past p test ≡ false
  none-passes none =
      false_from_ne_true (some_outstanding h past p test) (λ some.
      let x = some_issued-is past (λ y. (y.port == p) && is_outstanding h past y && test y) some in
      let two = and_parts ((x.0.port == p) && is_outstanding h past x.0) (test x.0) x.2 in
      let one = and_parts (x.0.port == p) (is_outstanding h past x.0) two.0 in
      let o = subst (λ q. IsOf h past q x.0) (eqb-true x.0.port p one.0) (of-port h past x.0 x.1 one.1) in
      let bad = none x.0 o in cc)

-- ---- grants ------------------------------------------------------------------------------------------

module _ (h : Header) (past : Trace) (a : IsAccepted h past) (p : ℕ) (x : Transaction) (o : IsOf h past p x) where
  pub out-own : outstanding h past x.port x.chan x.id ≡ Some x
  out-own = let w = of-at h past p x o in subst (λ q. outstanding h past q x.chan x.id ≡ Some x) (sym w.port) w.out

  pub granted-line : has_grant past x.port x.chan x.id ≡ true → granted h past x.addr ≡ Some x
  granted-line had = granted_had h past a x.port x.chan x.id x out-own had

  pub granted-too : has_grant past x.port x.chan x.id ≡ true → is_granted h past x ≡ true
  granted-too had = granted_is h past x.addr x (granted-line had) refl

  pub ungranted : has_grant past x.port x.chan x.id ≡ false → is_granted h past x ≡ false
  ungranted none =
      false_from_ne_true (is_granted h past x) (λ t.
      let g = granted_at h past a x.port x.chan x.id x out-own t in
      let had = (granted_given h past a x.addr x g).had in cc)
