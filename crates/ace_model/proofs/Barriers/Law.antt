-- In an accepted trace a barrier orders.
use Rattle.std.proofs.Common.{◌≡◌, ℕ, ◌<◌, Bool, true, false, ◌&&◌, ◌==◌, nat_lt, List, [], ◌∷◌, ◌++◌, length, Some, slice_get, sym, ap, subst, ◌∙◌, arith, inl, inr}
use Rattle.std.proofs.lemmas.Bool.{and_parts, cases_Bool, eq-eqb, ltb-true, lt-ltb}
use Rattle.ace_model.proofs.Terms.{list_all, Event, R, B, G, Read, Write, Header, Transaction, Trace, implies, is_line, is_transaction, outstanding, served_by, is_completion_event, is_completed}
use Rattle.ace_model.proofs.Terms.{is_barrier_half, Pair, pairs, pair_of, number_of, place_of, is_pair_complete, is_synchronisation, is_before, is_awaited, may_answer, may_be_granted, is_due}
use Rattle.ace_model.proofs.Terms.{may_respond, may_answer_half, is_past_barriers, IsAccepted, IsOrderedBy, IsOrderedAt, BarrierHolds}
use Rattle.ace_model.proofs.Trace.Growth.{issued_at-later, IsIssued, transaction-issued, each_issued-at, has_had-later, accepted-first}
use Rattle.ace_model.proofs.Trace.Issued.{issued_at, outstanding-named}
use Rattle.ace_model.proofs.Rules.Keeps.{accepted_keeps}
use Rattle.ace_model.proofs.Trace.Served.{had_some, outstands}
use Rattle.ace_model.proofs.Barriers.OrderPoints.{is_ordered-later, completed-ordered}
use Rattle.ace_model.proofs.Barriers.Pairs.{pairs-halves, pairs-grown, is_barrier_of-is, half-number}
use Rattle.ace_model.proofs.General.Options.{Some-injective, is_some_and-is, is_none_or-at}
use Rattle.ace_model.proofs.General.Lists.{list_all-at}
use Rattle.ace_model.proofs.General.Booleans.{implies-at}

-- where an event completed a barrier half, the half was there before it, and might be answered
record MightAnswer (before : Trace) (x : Transaction) : Type 0 where
  may : may_answer_half before x ≡ true
  earlier : x.place < length before

half-answered : (h : Header) (later : List Event) (e : Event) (before : Trace) (x : Transaction)
    → IsAccepted h (later ++ e ∷ before) → is_completion_event e ≡ true → is_transaction (served_by before e) x ≡ true
    → issued_at (later ++ e ∷ before) x.place ≡ Some x → MightAnswer before x
half-answered h later (R p i resp last word) before x accepted passes belongs there =
    let e : Event = R p i resp last word in
    let keeps = accepted_keeps h before e (accepted-first h later (e ∷ before) accepted) in
    let o = (outstands h later e before p Read i (is_due h before resp last) x keeps.rule_18 belongs there).0 in
    record { may = is_none_or-at (outstanding h before p Read i) (may_answer_half before) x keeps.rule_34 o.out; earlier = o.earlier }
half-answered h later (B p i resp) before x accepted passes belongs there =
    let e : Event = B p i resp in
    let keeps = accepted_keeps h before e (accepted-first h later (e ∷ before) accepted) in
    let o = (outstands h later e before p Write i (may_respond before) x (and_parts (resp == 0) _ keeps.rule_26).1 belongs there).0 in
    record { may = is_none_or-at (outstanding h before p Write i) (may_answer_half before) x keeps.rule_34 o.out; earlier = o.earlier }
half-answered h later e before x accepted passes belongs there = cc

-- the same of its pair: both halves were there
record PairMightAnswer (before : Trace) (p : ℕ) (b : Pair) : Type 0 where
  may : may_answer before p b ≡ true
  earlier : place_of b < length before

module _ (h : Header) (p k : ℕ) (b : Pair) where
  pair-answered : (later : List Event) (e : Event) (before : Trace) → IsAccepted h (later ++ e ∷ before) → is_completion_event e ≡ true
      → is_transaction (served_by before e) b.read ≡ true → slice_get (pairs (later ++ e ∷ before) p) k ≡ Some b → PairMightAnswer before p b
  pair-answered later e before accepted passes belongs there =
      let i = (pairs-halves (later ++ e ∷ before) p k b there).read in
      let is = is_barrier_of-is b.read p Read i.barrier in
      let a = half-answered h later e before b.read accepted passes belongs i.stands.there in
      let number : number_of before b.read ≡ k = half-number later e before p Read k b.read i a.earlier in
      let one = is_some_and-is (pair_of before b.read) (may_answer before b.read.port) (implies-at (is_barrier_half b.read) _ a.may is.barrier) in
      let early : slice_get (pairs before p) k ≡ Some one.0 =
      ap (λ q. slice_get (pairs before q) k) (sym is.port) ∙ ap (slice_get (pairs before b.read.port)) (sym number) ∙ one.1 in
      let grown = pairs-grown later (e ∷ before) p k one.0 (pairs-grown (e ∷ []) before p k one.0 early) in
      let same : one.0 ≡ b = Some-injective one.0 b (sym grown ∙ there) in
      let halves = pairs-halves before p k one.0 early in
      let low_read : one.0.read.place < length before = halves.read.stands.before in
      let low_write : one.0.write.place < length before = halves.write.stands.before in
      let low : place_of one.0 < length before = omega arith in
      record {
        may = subst (λ (y : Pair). may_answer before p y ≡ true) same (subst (λ q. may_answer before q one.0 ≡ true) is.port one.2);
        earlier = subst (λ (y : Pair). place_of y < length before) same low;
      }

  -- once the first half of a pair is complete, what comes before the pair is ordered
  abbrev IsOrderedIn : Transaction → Trace → Type 0
  IsOrderedIn x past = IsAccepted h past → slice_get (pairs past p) k ≡ Some b → IsIssued past x → is_before x p b ≡ true → IsOrderedBy past b x

  answered-ordered : (x : Transaction) (later : List Event) (e : Event) (before : Trace)
      → is_completion_event e ≡ true → is_transaction (served_by before e) b.read ≡ true → IsOrderedIn x (later ++ e ∷ before)
  answered-ordered x later e before passes belongs accepted there stands first =
      let a = pair-answered later e before accepted passes belongs there in
      let parts = and_parts ((x.port == p) && is_line x && (x.bar == 0)) (nat_lt x.place (place_of b)) first in
      let line = (and_parts ((x.port == p)) (is_line x) (and_parts ((x.port == p) && is_line x) (x.bar == 0) parts.0).0).1 in
      let below = ltb-true x.place (place_of b) parts.1 in
      let bound = a.earlier in
      let early = sym (issued_at-later later e before x.place (omega (below, bound, arith))) ∙ stands.there in
      let test : Transaction → Bool = λ y. implies (is_before y p b) (is_awaited before b y) in
      let awaited : is_awaited before b x ≡ true = implies-at (is_before x p b) _ (each_issued-at before test x.place x a.may early) first in
      elim (cases_Bool (is_synchronisation b)) [
        | inl synchronises ↦
            let complete = has_had-later is_completion_event later e before x (rw synchronises at awaited) in
            (completed-ordered h x (later ++ e ∷ before) complete accepted stands.there line, λ _. complete)
        | inr other ↦ (is_ordered-later later e before x (rw other at awaited), λ s. let no : true ≡ false = sym s ∙ other in cc)
      ]

-- a grant comes after all that the barriers before it order
granted-ordered : (h : Header) (past : Trace) (e : Event) → IsAccepted h (e ∷ past) → IsOrderedAt past e
granted-ordered h past (G p c i) accepted later x b gives bar pair place transaction first =
    let e : Event = G p c i in
    let keeps = accepted_keeps h past e accepted in
    let o = is_some_and-is (outstanding h past p c i) (may_be_granted h past) keeps.rule_12 in
    let same : o.0 ≡ later = Some-injective o.0 later (sym (outstanding-named h past p c i o.0 o.1) ∙ gives) in
    let test : Pair → Bool = λ y. implies (nat_lt (place_of y) later.place) (is_pair_complete past y) in
    let waits = is_none_or-at (outstanding h past p c i) (is_past_barriers past) later keeps.rule_35 (o.1 ∙ ap Some same) in
    let all : list_all test (pairs past later.port) ≡ true = implies-at (later.bar == 0) _ waits (eq-eqb later.bar 0 bar) in
    let complete : is_pair_complete past b ≡ true =
    implies-at (nat_lt (place_of b) later.place) _ (list_all-at test (pairs past later.port) pair.0 b all pair.1) (lt-ltb (place_of b) later.place place) in
    let read = (and_parts (is_completed past b.read) (is_completed past b.write) complete).0 in
    had_some is_completion_event (IsOrderedIn h later.port pair.0 b x) past b.read (answered-ordered h later.port pair.0 b x) read
    accepted.0 pair.1 (transaction-issued past transaction.0 x transaction.1) first
granted-ordered h past e accepted later x b gives bar pair place transaction first = cc

pub accepted_barriers_order : (h : Header) (past : Trace) → IsAccepted h past → BarrierHolds past
accepted_barriers_order h [] accepted = tt
accepted_barriers_order h (e ∷ past) accepted = (accepted_barriers_order h past accepted.0, granted-ordered h past e accepted)
