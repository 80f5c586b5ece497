-- A barrier that has to wait has to at the next event, unless that belongs to a transaction of its port.
use Rattle.std.proofs.Common.{◌≡◌, ◌≢◌, ◌⊎◌, ℕ, zero, suc, Bool, true, false, not, ◌&&◌, ◌||◌, ◌==◌, nat_le, nat_lt, max, if◌then◌else◌, List, [], ◌∷◌, Option, Some, None, slice_index_or, slice_set, refl, sym, ap, ◌∙◌, inl, inr, arith}
use Rattle.std.proofs.lemmas.Bool.{and_parts, eq-eqb, eqb-true, false_from_ne_true, leb-true, ltb-true, ne_eqb, not-false, or_cases}
use Rattle.ace_event.specs.declared.event.Channel.{Channel}
use Rattle.ace_event.specs.declared.event.Channel.TheVariants.{Read, Write}
use Rattle.ace_event.specs.declared.event.Event.{Event}
use Rattle.ace_event.specs.declared.event.Event.TheVariants.{R, B, G, M}
use Rattle.ace_model.specs.declared.transactions.Transaction.{Transaction}
use Rattle.ace_model.specs.Barriers.{Pair, is_awaited, is_before, is_synchronisation, may_answer}
use Rattle.ace_model.specs.Progress.{evicts, has_had, is_completed, is_completion_event, is_grant, is_ordered, is_write_of_memory, served_by, updates_memory}
use Rattle.ace_model.specs.Trace.{Trace, implies, is_some_and}
use Rattle.ace_model.specs.Transactions.{is_transaction, transaction_of}
use Rattle.ace_model.proofs.Barriers.Pairs.{is_barrier_of-is, pairs-grown, pairs-halves}
use Rattle.ace_model.proofs.Trace.Growth.{IsIssued, issued-old, named-issued, some_issued-found, some_issued-is}
use Rattle.ace_model.proofs.Trace.Issued.{transaction_of-name}
use Rattle.ace_portck.specs.Targets.{first_incomplete, first_unordered}
use Rattle.ace_runs.proofs.NeverStuck.Barriers.Together.{none-second, one-place}
use Rattle.ace_sysck.specs.declared.barriers.OpenPair.{OpenPair}
use Rattle.ace_sysck.specs.Barriers.{TellsOpenPair, comes_far_enough, is_awaited_by, pair_in}
use Rattle.ace_sysck.proofs.BarrierAnswers.{come-is}
use Rattle.ace_order.specs.Waiting.{HasToWait, may_end_wait}

-- ---- the next event ----------------------------------------------------------------------------------

named-apart : (past : Trace) (q : ℕ) (c : Channel) (i p : ℕ) (z : Transaction) → (q == p) ≡ false → IsIssued past z → z.port ≡ p → is_transaction (transaction_of past q c i) z ≡ false
named-apart past q c i p z other iz port = by (transaction_of past q c i) refl
  where
    by : (o : Option Transaction) → transaction_of past q c i ≡ o → is_transaction o z ≡ false
    by None is = refl
    by (Some x) is = ne_eqb x.place z.place (λ same.
        let one = one-place past x z (named-issued past q c i x is) iz same in
        let own : q ≡ p = sym (transaction_of-name past q c i x is).port ∙ ap (λ (v : Transaction). v.port) one ∙ port in
        let bad : true ≡ false = sym (eq-eqb q p own) ∙ other in cc)

-- it belongs to no transaction of the port
served-apart : (past : Trace) (e : Event) (p : ℕ) (z : Transaction) → may_end_wait e p ≡ false → IsIssued past z → z.port ≡ p → is_transaction (served_by past e) z ≡ false
served-apart past (R q i resp last word) p z other iz port = named-apart past q Read i p z other iz port
served-apart past (B q i resp) p z other iz port = named-apart past q Write i p z other iz port
served-apart past (G q c i) p z other iz port = named-apart past q c i p z other iz port
served-apart past (M q c i line) p z other iz port = named-apart past q c i p z other iz port
served-apart past e p z other iz port = refl

module _ (past : Trace) (e : Event) (p : ℕ) (other : may_end_wait e p ≡ false) where
  same-had : (test : Event → Bool) (z : Transaction) → IsIssued past z → z.port ≡ p → has_had test (e ∷ past) z ≡ has_had test past z
  same-had test z iz port =
      ap (λ b. (test e && b) || has_had test past z) (served-apart past e p z other iz port) ∙ ap (λ b. b || has_had test past z) (none-second (test e))

  same-awaited : (b : Pair) (z : Transaction) → IsIssued past z → z.port ≡ p → is_awaited (e ∷ past) b z ≡ is_awaited past b z
  same-awaited b z iz port =
      ap (λ v. if is_synchronisation b then v else is_ordered (e ∷ past) z) (same-had is_completion_event z iz port)
      ∙ ap (λ v. if is_synchronisation b then is_completed past z else (evicts z || (if updates_memory z then v else has_had is_grant (e ∷ past) z))) (same-had is_write_of_memory z iz port)
      ∙ ap (λ v. if is_synchronisation b then is_completed past z else (evicts z || (if updates_memory z then has_had is_write_of_memory past z else v))) (same-had is_grant z iz port)

  premise-true : (a b : Bool) → not (implies a b) ≡ true → a ≡ true
  premise-true true b t = refl
  premise-true false b t = cc

  before-port : (z : Transaction) (b : Pair) → is_before z p b ≡ true → z.port ≡ p
  before-port z b t = eqb-true z.port p (and_parts (z.port == p) _ (and_parts _ _ (and_parts _ _ t).0).0).0

  -- what holds the pair back still does
  held-on : (b : Pair) → may_answer past p b ≡ false → may_answer (e ∷ past) p b ≡ false
  held-on b held =
      let x = some_issued-is past (λ z. not (implies (is_before z p b) (is_awaited past b z))) (not-false _ held) in
      let port = before-port x.0 b (premise-true (is_before x.0 p b) (is_awaited past b x.0) x.2) in
      let still = ap (λ v. not (implies (is_before x.0 p b) v)) (same-awaited b x.0 x.1 port) ∙ x.2 in
      ap not (some_issued-found (e ∷ past) (λ z. not (implies (is_before z p b) (is_awaited (e ∷ past) b z))) x.0.place x.0 (issued-old e past x.0 x.1).there still)

  pub waits-on : HasToWait past p → HasToWait (e ∷ past) p
  waits-on w =
      let halves = pairs-halves past p w.number w.pair w.there in
      let read = same-had is_completion_event w.pair.read halves.read.stands (is_barrier_of-is w.pair.read p Read halves.read.barrier).port in
      let write = same-had is_completion_event w.pair.write halves.write.stands (is_barrier_of-is w.pair.write p Write halves.write.barrier).port in
      record {
        number = w.number;
        pair = w.pair;
        there = pairs-grown (e ∷ []) past p w.number w.pair w.there;
        undone = ap (λ v. v && is_completed (e ∷ past) w.pair.write) read ∙ ap (λ v. is_completed past w.pair.read && v) write ∙ w.undone;
        held = held-on w.pair w.held;
      }

-- ---- what is found -----------------------------------------------------------------------------------

late : (a b : ℕ) (o : Option ℕ) → is_some_and o (λ n. nat_lt n a || nat_lt n b) ≡ true → is_awaited_by (max a b) o ≡ false
late a b None t = cc
late a b (Some n) t = false_from_ne_true (nat_le (max a b) n) (λ low.
    let most = leb-true (max a b) n low in
    elim (or_cases (nat_lt n a) (nat_lt n b) t) [
      | inl first ↦ let l = ltb-true n a first in absurd (omega (arith, most, l))
      | inr second ↦ let l = ltb-true n b second in absurd (omega (arith, most, l))
    ])

-- Where the first that hasn't come far enough is before the pair that isn't complete, that has to wait.
module _ (past : Trace) (p : ℕ) (o : OpenPair) (tells : TellsOpenPair past p (Some o)) where
  by-held : may_answer past p (pair_in o) ≡ false → HasToWait past p
  by-held held =
      let k = tells.there o refl in
      let is = tells.is o refl in
      record {
        number = k.0;
        pair = pair_in o;
        there = k.1;
        undone = ap (λ v. v && is_completed past o.write) is.read ∙ ap (λ v. o.read_answered && v) is.write ∙ is.open_still;
        held = held;
      }

  far : may_answer past p (pair_in o) ≡ comes_far_enough o (first_unordered past p) (first_incomplete past p)
  far = come-is past p o (first_unordered past p) (first_incomplete past p) refl refl

  pub incomplete-waits : (o.read.bar == 3) ≡ true → is_some_and (first_incomplete past p) (λ n. nat_lt n o.read.place || nat_lt n o.write.place) ≡ true → HasToWait past p
  incomplete-waits sync low =
      by-held (far ∙ ap (λ t. is_awaited_by (max o.read.place o.write.place) (if t then first_incomplete past p else first_unordered past p)) sync
      ∙ late o.read.place o.write.place (first_incomplete past p) low)

  pub unordered-waits : (o.read.bar == 3) ≡ false → is_some_and (first_unordered past p) (λ n. nat_lt n o.read.place || nat_lt n o.write.place) ≡ true → HasToWait past p
  unordered-waits other low =
      by-held (far ∙ ap (λ t. is_awaited_by (max o.read.place o.write.place) (if t then first_incomplete past p else first_unordered past p)) other
      ∙ late o.read.place o.write.place (first_unordered past p) low)

-- ---- the list of the ports ---------------------------------------------------------------------------

-- a port that is set after one was set is this one, or was set before
pub set-cases : (xs : List Bool) (q p : ℕ) (w : Bool) → slice_index_or (slice_set xs q w) p false ≡ true
    → ((q ≡ p) × (w ≡ true)) ⊎ ((q ≢ p) × (slice_index_or xs p false ≡ true))
set-cases [] q p w t = cc
set-cases (x ∷ xs) zero zero w t = inl (refl, t)
set-cases (x ∷ xs) zero (suc p) w t = inr (λ same. cc, t)
set-cases (x ∷ xs) (suc q) zero w t = inr (λ same. cc, t)
set-cases (x ∷ xs) (suc q) (suc p) w t =
    elim (set-cases xs q p w t) [
      | inl own ↦ inl (ap suc own.0, own.1)
      | inr old ↦ inr (λ same. old.0 (omega (arith, same)), old.1)
    ]
