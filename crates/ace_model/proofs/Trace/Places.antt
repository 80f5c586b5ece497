-- The events of a trace by their places, and what a longer trace says of them: loads, beats and grants.
use Rattle.std.proofs.Common.{◌≡◌, ◌⊎◌, ℕ, ◌-◌, ◌<◌, ◌≤◌, Bool, true, [], ◌∷◌, ◌++◌, length, reverse, drop, take, Some, slice_get, sym, ap, ◌∙◌, arith, inl, inr, zero, nat_eq, suc, subst}
use Rattle.std.proofs.lemmas.Option.{slice_get_within}
use Rattle.std.proofs.lemmas.Bool.{cases_Bool, eqb-true}
use Rattle.std.proofs.lemmas.List.{reverse-append, length-reverse, drop-drop, length-drop, take-append-drop}
use Rattle.std.proofs.lemmas.Option.{slice_get_within}
use Rattle.ace_model.proofs.Terms.{Channel, Header, IsAccepted, issued, Event, L, R, G, Read, Transaction, Trace, event_at, at_point, transaction_of, transfers, is_line_read_transaction, IsLoad}
use Rattle.ace_model.proofs.Terms.{IsBeat, IsGrantOf}
use Rattle.ace_model.proofs.Trace.Growth.{IsIssued, issued_at-before, issued_at-grown, at_point-before, at_point-end}
use Rattle.ace_model.proofs.General.Lists.{slice_get-grown, slice_get-more, slice_get-at_end}
use Rattle.ace_model.proofs.Trace.Issued.{issued_at, transaction_of-stands}
use Rattle.ace_model.proofs.General.Options.{Some-injective}

pub event_at-grown : (e : Event) (past : Trace) (n : ℕ) → event_at (e ∷ past) n ≡ slice_get (reverse past ++ e ∷ []) n
event_at-grown e past n = ap (λ xs. slice_get xs n) (reverse-append (e ∷ []) past)

pub event_at-below : (past : Trace) (n : ℕ) (z : Event) → event_at past n ≡ Some z → n < length past
event_at-below past n z there = rw (← length-reverse past) (slice_get_within (reverse past) n z there)

-- an event of the longer trace was there, or is the new one
pub event_at-cases : (e : Event) (past : Trace) (n : ℕ) (z : Event) → event_at (e ∷ past) n ≡ Some z
    → ((event_at past n ≡ Some z) × (n < length past)) ⊎ ((n ≡ length past) × (e ≡ z))
event_at-cases e past n z there =
    elim (slice_get-more (reverse past) (Some e) n z (sym (event_at-grown e past n) ∙ there)) [
      | inl old ↦ inl (old, event_at-below past n z old)
      | inr new ↦ inr (new.0 ∙ length-reverse past, Some-injective e z new.1)
    ]

pub event_at-old : (e : Event) (past : Trace) (n : ℕ) (z : Event) → event_at past n ≡ Some z → event_at (e ∷ past) n ≡ Some z
event_at-old e past n z there = event_at-grown e past n ∙ slice_get-grown (reverse past) (Some e) n z there

pub event_at-now : (e : Event) (past : Trace) → event_at (e ∷ past) (length past) ≡ Some e
event_at-now e past = event_at-grown e past (length past) ∙ slice_get-at_end (reverse past) (length past) e (sym (length-reverse past))

-- the point before the newest event
pub at_point-last : (e : Event) (past : Trace) (n : ℕ) → n ≡ length past → at_point n (e ∷ past) ≡ past
at_point-last e past n end = at_point-before e past n (omega arith) ∙ at_point-end past n end

-- a point of the trace as it was at a later point
pub at_point-twice : (past : Trace) (n m : ℕ) → n ≤ m → m ≤ length past → at_point n (at_point m past) ≡ at_point n past
at_point-twice past n m le within =
    let k = length past - m in
    let long = length-drop k past in
    drop-drop (length (drop k past) - n) k past ∙ ap (λ j. drop j past) (omega arith)

pub at_point-length : (past : Trace) (n : ℕ) → n ≤ length past → length (at_point n past) ≡ n
at_point-length past n le = let long = length-drop (length past - n) past in omega arith

-- a transaction that was issued before a point was there at it
pub issued-earlier : (past : Trace) (n : ℕ) (x : Transaction) → IsIssued past x → x.place < n → n ≤ length past → IsIssued (at_point n past) x
issued-earlier past n x i low within =
    let k = length past - n in
    let long = at_point-length past n within in
    let whole : issued_at (take k past ++ drop k past) x.place ≡ Some x = rw (take-append-drop k past) i.there in
    record { there = sym (issued_at-grown (take k past) (drop k past) x.place (omega arith)) ∙ whole; before = omega arith }

-- a load of the longer trace was there, or is the new event
pub load-cases : (e : Event) (past : Trace) (n p l w word : ℕ) → IsLoad (e ∷ past) n p l w word
    → IsLoad past n p l w word ⊎ ((n ≡ length past) × ((x : Bool) × (e ≡ L p l w x word)))
load-cases e past n p l w word load =
    elim (event_at-cases e past n (L p l w load.0 word) load.1) [
      | inl old ↦ inl (load.0, old.0)
      | inr new ↦ inr (new.0, (load.0, new.1))
    ]

-- The newest event is a beat of the line read.
pub record NewBeat (past : Trace) (e : Event) (x : Transaction) (k word : ℕ) : Type 0 where
  pub resp : ℕ
  pub last : Bool
  pub event : e ≡ R x.port x.id resp last word
  pub named : transaction_of past x.port Read x.id ≡ Some x
  pub line_read : is_line_read_transaction x ≡ true
  pub number : transfers past x.port x.id ≡ k

pub beat-cases : (e : Event) (past : Trace) (n : ℕ) (x : Transaction) (k word : ℕ) → IsBeat (e ∷ past) n x k word
    → (IsBeat past n x k word × (n < length past)) ⊎ ((n ≡ length past) × NewBeat past e x k word)
beat-cases e past n x k word beat =
    let b = beat.1.1 in
    elim (event_at-cases e past n (R x.port x.id beat.0 beat.1.0 word) b.0) [
      | inl old ↦
          let low = old.1 in
          let same = at_point-before e past n (omega arith) in
          inl ((beat.0, (beat.1.0, (old.0, rw same at b.1, b.2, rw same at b.3))), low)
      | inr new ↦
          let same = at_point-last e past n new.0 in
          inr (new.0, record { resp = beat.0; last = beat.1.0; event = new.1; named = rw same at b.1; line_read = b.2; number = rw same at b.3 })
    ]

-- a grant of the trace stands in the longer one
pub grant-old : (e : Event) (past : Trace) (n : ℕ) (x : Transaction) → IsGrantOf past n x → IsGrantOf (e ∷ past) n x
grant-old e past n x g =
    let low = event_at-below past n (G x.port Read x.id) g.0 in
    let same = at_point-before e past n (omega arith) in
    (event_at-old e past n (G x.port Read x.id) g.0, rw same g.1)

pub beat-below : (past : Trace) (n : ℕ) (x : Transaction) (k word : ℕ) → IsBeat past n x k word → n < length past
beat-below past n x k word b = event_at-below past n (R x.port x.id b.0 b.1.0 word) b.1.1.0

-- the event at a place of an accepted trace keeps the rules
pub event-accepted : (h : Header) (past : Trace) (n : ℕ) (z : Event) → IsAccepted h past → event_at past n ≡ Some z → IsAccepted h (z ∷ at_point n past)
event-accepted h [] n z a there = cc
event-accepted h (e ∷ past) n z a there =
    elim (event_at-cases e past n z there) [
      | inl old ↦
          let low = old.1 in
          let same : at_point n (e ∷ past) ≡ at_point n past = at_point-before e past n (omega arith) in
          subst (λ (t : Trace). IsAccepted h (z ∷ t)) (sym same) (event-accepted h past n z a.0 old.0)
      | inr new ↦
          subst (λ (t : Trace). IsAccepted h (z ∷ t)) (sym (at_point-last e past n new.0))
          (subst (λ (v : Event). IsAccepted h (v ∷ past)) new.1 a)
    ]

pub issued_at-below : (past : Trace) (n : ℕ) (x : Transaction) → issued_at past n ≡ Some x → n < length past
issued_at-below [] n x there = cc
issued_at-below (e ∷ past) n x there =
    elim (cases_Bool (nat_eq (length past) n)) [
      | inl here ↦ let same = eqb-true (length past) n here in omega arith
      | inr other ↦ let low = issued_at-below past n x (rw other at there) in omega arith
    ]

-- what was issued at a place was issued by the event there
pub issued-by : (past : Trace) (n : ℕ) (x : Transaction) → issued_at past n ≡ Some x → (e : Event) × (event_at past n ≡ Some e) × (issued n e ≡ Some x)
issued-by [] n x there = cc
issued-by (e ∷ past) n x there =
    elim (cases_Bool (nat_eq (length past) n)) [
      | inl here ↦
          let same = eqb-true (length past) n here in
          (e, ap (event_at (e ∷ past)) (sym same) ∙ event_at-now e past, ap (λ m. issued m e) (sym same) ∙ (rw here at there))
      | inr other ↦ let old = issued-by past n x (rw other at there) in (old.0, event_at-old e past n old.0 old.1, old.2)
    ]

-- what was issued at a place of an earlier point
pub issued_at-later : (k : ℕ) (past : Trace) (n : ℕ) (x : Transaction) → issued_at (drop k past) n ≡ Some x → issued_at past n ≡ Some x
issued_at-later zero past n x there = there
issued_at-later (suc k) [] n x there = there
issued_at-later (suc k) (e ∷ past) n x there =
    let old = issued_at-later k past n x there in
    let low = issued_at-below past n x old in
    issued_at-before e past n low ∙ old

-- a transaction of an earlier point came before it
pub placed-before : (past : Trace) (n p : ℕ) (c : Channel) (i : ℕ) (x : Transaction) → n ≤ length past → transaction_of (at_point n past) p c i ≡ Some x → x.place < n
placed-before past n p c i x low named =
    let below = (transaction_of-stands (at_point n past) p c i x named).before in
    let long = at_point-length past n low in
    omega arith
