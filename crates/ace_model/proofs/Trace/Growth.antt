-- A trace that grows: what is in it stays, and what it has had it keeps.
use Rattle.std.proofs.Common.{◌≡◌, ◌⊎◌, ℕ, zero, suc, ◌-◌, ◌<◌, ◌≤◌, Bool, true, false, not, ◌&&◌, nat_eq, List, [], ◌∷◌, ◌++◌, length, drop, Some, slice_get, refl, sym, ◌∙◌, arith, inl, inr, length-append}
use Rattle.std.proofs.lemmas.Bool.{or_cases, or_left, or_right, cases_Bool, cases_eq, eq-eqb, ne_eqb}
use Rattle.ace_model.proofs.Terms.{Event, Cr, answers, Channel, Header, Transaction, Trace, at_point, is_some_and, issued, is_transaction, some_issued, transaction_of, transactions, served_by, has_had}
use Rattle.ace_model.proofs.Terms.{each_issued, IsAccepted}
use Rattle.ace_model.proofs.Trace.Issued.{issued-place, issued_at, transaction_of-stands}
use Rattle.ace_model.proofs.General.Lists.{slice_get-more}
use Rattle.ace_model.proofs.General.Options.{is_some_and-is}

-- the point after so many events is the same in the longer trace
pub at_point-before : (e : Event) (past : Trace) (n : ℕ) → n ≤ length past → at_point n (e ∷ past) ≡ at_point n past
at_point-before e past n low = let m : suc (length past) - n ≡ suc (length past - n) = omega arith in rw m refl

pub at_point-end : (past : Trace) (n : ℕ) → n ≡ length past → at_point n past ≡ past
at_point-end past n end = let m : length past - n ≡ 0 = omega arith in rw m refl

pub at_point-grown : (later : List Event) (before : Trace) (n : ℕ)
    → n ≤ length before → at_point n (later ++ before) ≡ at_point n before
at_point-grown [] before n low = refl
at_point-grown (e ∷ later) before n low =
    at_point-before e (later ++ before) n (let m = length-append later before in omega arith) ∙ at_point-grown later before n low

pub at_point-later : (later : List Event) (e : Event) (before : Trace) (n : ℕ) → n ≤ length before → at_point n (later ++ e ∷ before) ≡ at_point n before
at_point-later later e before n low = at_point-grown later (e ∷ before) n (omega arith) ∙ at_point-before e before n low

-- an earlier transaction of a longer trace was there
pub issued_at-before : (e : Event) (past : Trace) (n : ℕ) → n < length past → issued_at (e ∷ past) n ≡ issued_at past n
issued_at-before e past n low = rw (ne_eqb (length past) n (λ q. absurd (omega (arith, q)))) refl

-- what was issued at a place is the same in the longer trace
pub issued_at-grown : (later : List Event) (before : Trace) (n : ℕ)
    → n < length before → issued_at (later ++ before) n ≡ issued_at before n
issued_at-grown [] before n low = refl
issued_at-grown (e ∷ later) before n low =
    issued_at-before e (later ++ before) n (let m = length-append later before in omega arith) ∙ issued_at-grown later before n low

pub issued_at-later : (later : List Event) (e : Event) (before : Trace) (n : ℕ) → n < length before → issued_at (later ++ e ∷ before) n ≡ issued_at before n
issued_at-later later e before n low = issued_at-grown later (e ∷ before) n (omega arith) ∙ issued_at-before e before n low

-- a transaction of the trace stands at its place
pub record IsIssued (past : Trace) (x : Transaction) : Type 0 where
  pub there : issued_at past x.place ≡ Some x
  pub before : x.place < length past

pub issued-new : (e : Event) (past : Trace) (x : Transaction) → issued (length past) e ≡ Some x → IsIssued (e ∷ past) x
issued-new e past x new =
    let at = issued-place (length past) e x new in
    record { there = rw (eq-eqb (length past) x.place (sym at)) new; before = omega (arith, at) }

pub issued-old : (e : Event) (past : Trace) (x : Transaction) → IsIssued past x → IsIssued (e ∷ past) x
issued-old e past x old =
    record { there = issued_at-before e past x.place old.before ∙ old.there; before = let b = old.before in omega arith }

-- a transaction of the longer trace is the new one, or was there
pub issued-cases : (e : Event) (past : Trace) (x : Transaction) → IsIssued (e ∷ past) x → (issued (length past) e ≡ Some x) ⊎ IsIssued past x
issued-cases e past x s =
    elim (cases_eq (length past) x.place) [
      | inl here ↦ inl (rw (eq-eqb (length past) x.place here) at s.there)
      | inr other ↦
          let low = s.before in
          inr (record { there = rw (ne_eqb (length past) x.place other) at s.there; before = omega arith })
    ]

-- some transaction of which a test holds was issued
pub some_issued-is : (past : Trace) (test : Transaction → Bool) → some_issued past test ≡ true
    → (x : Transaction) × IsIssued past x × (test x ≡ true)
some_issued-is [] test some = cc
some_issued-is (e ∷ past) test some =
    elim (or_cases (is_some_and (issued (length past) e) test) (some_issued past test) some) [
      | inl now ↦
          let new = is_some_and-is (issued (length past) e) test now in
          (new.0, issued-new e past new.0 new.1, new.2)
      | inr earlier ↦
          let old = some_issued-is past test earlier in
          (old.0, issued-old e past old.0 old.1, old.2)
    ]

-- the last transaction of a name was issued
pub named-issued : (past : Trace) (p : ℕ) (c : Channel) (i : ℕ) (x : Transaction) → transaction_of past p c i ≡ Some x → IsIssued past x
named-issued past p c i x named =
    let s = transaction_of-stands past p c i x named in
    record { there = s.there; before = s.before }

pub transaction-issued : (past : Trace) (k : ℕ) (x : Transaction) → slice_get (transactions past) k ≡ Some x → IsIssued past x
transaction-issued [] k x e = cc
transaction-issued (e ∷ past) k x there =
    elim (slice_get-more (transactions past) (issued (length past) e) k x there) [
      | inl old ↦ issued-old e past x (transaction-issued past k x old)
      | inr new ↦ issued-new e past x new.1
    ]

-- a test that holds of every transaction holds of one that was issued
pub some_issued-found : (past : Trace) (test : Transaction → Bool) (n : ℕ) (x : Transaction)
    → issued_at past n ≡ Some x → test x ≡ true → some_issued past test ≡ true
some_issued-found [] test n x there t = cc
some_issued-found (e ∷ past) test n x there t =
    elim (cases_Bool (nat_eq (length past) n)) [
      | inl here ↦
          let new : issued (length past) e ≡ Some x = rw here at there in
          or_left (is_some_and (issued (length past) e) test) (some_issued past test) (rw new t)
      | inr not_here ↦
          let old : issued_at past n ≡ Some x = rw not_here at there in
          or_right (is_some_and (issued (length past) e) test) (some_issued past test) (some_issued-found past test n x old t)
    ]

pub each_issued-at : (past : Trace) (test : Transaction → Bool) (n : ℕ) (x : Transaction)
    → each_issued past test ≡ true → issued_at past n ≡ Some x → test x ≡ true
each_issued-at past test n x each there =
    elim (cases_Bool (test x)) [
      | inl t ↦ t
      | inr f ↦
          let some = some_issued-found past (λ y. not (test y)) n x there (rw f refl) in
          let no : false ≡ true = rw some at each in cc
    ]

-- what a transaction has had, it has had in the longer trace
pub has_had-grown : (test : Event → Bool) (later : List Event) (before : Trace) (x : Transaction)
    → has_had test before x ≡ true → has_had test (later ++ before) x ≡ true
has_had-grown test [] before x had = had
has_had-grown test (e ∷ later) before x had =
    or_right (test e && is_transaction (served_by (later ++ before) e) x) (has_had test (later ++ before) x) (has_had-grown test later before x had)

-- what a transaction had before an event of the trace, it has had
pub has_had-later : (test : Event → Bool) (later : List Event) (e : Event) (before : Trace) (x : Transaction)
    → has_had test before x ≡ true → has_had test (later ++ e ∷ before) x ≡ true
has_had-later test later e before x had = has_had-grown test later (e ∷ before) x (has_had-grown test (e ∷ []) before x had)

-- what came first in an accepted trace is accepted
pub accepted-first : (h : Header) (later : List Event) (before : Trace) → IsAccepted h (later ++ before) → IsAccepted h before
accepted-first h [] before a = a
accepted-first h (e ∷ later) before a = accepted-first h later before a.0

-- and so is the trace without its newest k events
pub accepted-before : (h : Header) (k : ℕ) (past : Trace) → IsAccepted h past → IsAccepted h (drop k past)
accepted-before h zero past a = a
accepted-before h (suc k) [] a = a
accepted-before h (suc k) (e ∷ past) a = accepted-before h k past a.0

-- a longer trace has no fewer answers
pub answers-grow : (e : Event) (past : Trace) (q : ℕ) → answers past q ≤ answers (e ∷ past) q
answers-grow (Cr p resp st) past q =
    elim (cases_Bool (nat_eq q p)) [
      | inl t ↦ rw t (omega arith)
      | inr f ↦ rw f (omega arith)
    ]
answers-grow _ past q = omega arith

-- what one test says of some transaction, a weaker one says too
pub some_issued-weaker : (past : Trace) (test weaker : Transaction → Bool) → ((x : Transaction) → test x ≡ true → weaker x ≡ true)
    → some_issued past test ≡ true → some_issued past weaker ≡ true
some_issued-weaker [] test weaker w e = cc
some_issued-weaker (e ∷ past) test weaker w some =
    elim (or_cases (is_some_and (issued (length past) e) test) (some_issued past test) some) [
      | inl now ↦
          let new = is_some_and-is (issued (length past) e) test now in
          or_left (is_some_and (issued (length past) e) weaker) (some_issued past weaker) (rw new.1 (w new.0 new.2))
      | inr old ↦ or_right (is_some_and (issued (length past) e) weaker) (some_issued past weaker) (some_issued-weaker past test weaker w old)
    ]
