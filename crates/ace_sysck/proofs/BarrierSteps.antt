-- The barriers, event by event.
use Rattle.std.proofs.Common.{◌≡◌, ◌⊎◌, ℕ, ◌<◌, Bool, true, false, not, ◌&&◌, ◌||◌, nat_eq, nat_lt, if◌then◌else◌, List, [], ◌∷◌, ◌++◌, length, map, get_or, replicate, slice_set, Option, Some, None, refl, sym, ap, subst, ◌∙◌, arith, inl, inr, length-set, append_assoc}
use Rattle.ace_sysck.proofs.Terms.{option_to_list, reads_of, writes_of, All, Read, Write, Transaction, Channel, Header, Event, Ar, Aw, R, B, G, M, Trace, transaction_of, more, implies, is_some_and, is_none_or, is_read, same_channel, issued, Pair, barriers, option_filter, is_barrier_of, place_of, is_barrier_half, may_answer, is_awaited, is_before, is_synchronisation, is_completed, is_transaction, served_by, has_had, is_completion_event, outstanding, begins_well, may_answer_half, k34, IsAccepted, begins_barrier, port_of, Target, Recording, after, target_of, first_unordered, first_incomplete, OpenPair, Barrier, Idle, ReadHalf, WriteHalf, Open, Barriers, begun_in, completed_in, BarriersStand, BarrierStands, IsDone, IsUnderWay, read_half, write_half, pair_in, begins_after, joined, may_answer_after}
use Rattle.std.proofs.lemmas.Bool.{cases_Bool, cases_eq, and_parts, and_from, and_right, or_right, or_cases, eqb-true, eq-eqb, ne_eqb, le-ltb}
use Rattle.std.proofs.lemmas.List.{length-replicate, append-nil, map-append}
use Rattle.std.proofs.lemmas.List.Elements.{All-nil, All-weaker, All-push}
use Rattle.ace_model.proofs.Rules.Keeps.{accepted_keeps}
use Rattle.ace_model.proofs.Barriers.OrderPoints.{is_ordered-later}
use Rattle.ace_model.proofs.Barriers.Pairs.{is_barrier_of-is}
use Rattle.ace_model.proofs.Trace.Growth.{IsIssued, issued-cases, each_issued-at}
use Rattle.ace_model.proofs.Trace.Issued.{issued_at, issued-place, transaction_of-stands}
use Rattle.ace_model.proofs.General.Options.{Some-injective, is_none_or-at}
use Rattle.ace_model.proofs.General.Booleans.{implies-at}
use Rattle.ace_sysck.specs.Barriers.{answered}
use Rattle.ace_sysck.proofs.Tables.{entries_set, repeated}
use Rattle.ace_sysck.proofs.Steps.{port_within}
use Rattle.ace_sysck.proofs.EventLaws.{responding, responds-at, Completes, completes-at, completes-none, begun-is}
use Rattle.ace_sysck.proofs.FirstIssued.{each-from}
use Rattle.ace_sysck.proofs.BarrierRules.{begins_is}
use Rattle.ace_sysck.proofs.BarrierAnswers.{halves_on, current, come-is, answer_is}

-- the barriers of the empty trace
pub barriers_fresh : (h : Header) (s : Barriers) → s.ports.items ≡ replicate h.ports Idle → BarriersStand (record { header = h; past = [] }) s
barriers_fresh h s is = record {
  size = ap length is ∙ length-replicate h.ports Idle;
  ports = λ p. subst (BarrierStands [] p) (sym (ap (λ xs. get_or xs p Idle) is ∙ repeated h.ports p Idle)) (none p);
}
  where
    none : (p : ℕ) → BarrierStands [] p Idle
    none p = record { done = []; reads = refl; writes = refl; are_done = All-nil (IsDone [] p); under_way = tt }

-- what is awaited of a transaction it keeps
awaited-stays : (past : Trace) (e : Event) (b : Pair) (x : Transaction) → is_awaited past b x ≡ true → is_awaited (e ∷ past) b x ≡ true
awaited-stays past e b x a =
    elim (cases_Bool (is_synchronisation b)) [
      | inl t ↦ rw t (or_right (is_completion_event e && is_transaction (served_by past e) x) (is_completed past x) (rw t at a))
      | inr f ↦ rw f (is_ordered-later [] e past x (rw f at a))
    ]

-- a pair before which everything has come far enough stays so
may-stays : (past : Trace) (e : Event) (p : ℕ) (b : Pair) → place_of b < length past → may_answer past p b ≡ true → may_answer (e ∷ past) p b ≡ true
may-stays past e p b placed may = each-from (e ∷ past) (λ x. implies (is_before x p b) (is_awaited (e ∷ past) b x)) by
  where
    by : (x : Transaction) → IsIssued (e ∷ past) x → implies (is_before x p b) (is_awaited (e ∷ past) b x) ≡ true
    by x i = elim (issued-cases e past x i) [
      | inl new ↦
          let at = issued-place (length past) e x new in
          let later : is_before x p b ≡ false = and_right _ (nat_lt x.place (place_of b)) (le-ltb x.place (place_of b) (omega (arith, at, placed))) in
          rw later refl
      | inr old ↦ elim (cases_Bool (is_before x p b)) [
        | inl t ↦
            let was = implies-at (is_before x p b) _ (each_issued-at past (λ y. implies (is_before y p b) (is_awaited past b y)) x.place x may old.there) t in
            rw (t, awaited-stays past e b x was) refl
        | inr f ↦ rw f refl
      ]
    ]

done-stays : (past : Trace) (e : Event) (p : ℕ) (b : Pair) → IsDone past p b → IsDone (e ∷ past) p b
done-stays past e p b d =
    let parts = and_parts (is_completed past b.read) (is_completed past b.write) d.complete in
    record {
      complete = and_from _ _ (or_right (is_completion_event e && is_transaction (served_by past e) b.read) (is_completed past b.read) parts.0)
          (or_right (is_completion_event e && is_transaction (served_by past e) b.write) (is_completed past b.write) parts.1);
      answered = may-stays past e p b d.placed d.answered;
      placed = let low = d.placed in omega arith;
    }

all-stay : (past : Trace) (e : Event) (p : ℕ) (done : List Pair) → All (IsDone past p) done → All (IsDone (e ∷ past) p) done
all-stay past e p done all = All-weaker (IsDone past p) (IsDone (e ∷ past) p) (done-stays past e p) done all

-- the event is the last R or the B of the transaction
abbrev pub hits : Trace → Event → Transaction → Bool
hits past e y = is_completion_event e && is_transaction (served_by past e) y

under_way-stays : (past : Trace) (e : Event) (b : Barrier) → ((c : Channel) (y : Transaction) → halves_on c b ≡ y ∷ [] → hits past e y ≡ false)
    → IsUnderWay past b → IsUnderWay (e ∷ past) b
under_way-stays past e Idle none u = tt
under_way-stays past e (ReadHalf y) none u = rw (none Read y refl) u
under_way-stays past e (WriteHalf y) none u = rw (none Write y refl) u
under_way-stays past e (Open o) none u = record {
  read = rw (none Read o.read refl) u.read;
  write = rw (none Write o.write refl) u.write;
  open_still = u.open_still;
}

-- an event that issues no half of the port, and completes none of its barrier
pub barrier_stays : (past : Trace) (e : Event) (p : ℕ) (b : Barrier) → ((c : Channel) → option_filter (λ y. is_barrier_of y p c) (issued (length past) e) ≡ None)
    → ((c : Channel) (y : Transaction) → halves_on c b ≡ y ∷ [] → hits past e y ≡ false) → BarrierStands past p b → BarrierStands (e ∷ past) p b
barrier_stays past e p b issues completes s = record {
  done = s.done;
  reads = ap (more (barriers past p Read)) (issues Read) ∙ s.reads;
  writes = ap (more (barriers past p Write)) (issues Write) ∙ s.writes;
  are_done = all-stay past e p s.done s.are_done;
  under_way = under_way-stays past e b completes s.under_way;
}

-- what a transaction has had it has had after its own event
pub had-placed : (test : Event → Bool) (past : Trace) (x : Transaction) → has_had test past x ≡ true → x.place < length past
had-placed test [] x had = cc
had-placed test (e ∷ past) x had =
    elim (or_cases (test e && is_transaction (served_by past e) x) (has_had test past x) had) [
      | inl now ↦ let low = served-placed past e x (and_parts (test e) _ now).1 in omega arith
      | inr old ↦ let low = had-placed test past x old in omega arith
    ]
  where
    of_name : (past : Trace) (p : ℕ) (c : Channel) (i : ℕ) (o : Option Transaction) (x : Transaction) → transaction_of past p c i ≡ o → is_transaction o x ≡ true → x.place < length past
    of_name past p c i None x is t = cc
    of_name past p c i (Some y) x is t = let low = (transaction_of-stands past p c i y is).before in let same = eqb-true y.place x.place t in omega arith

    served-placed : (past : Trace) (e : Event) (x : Transaction) → is_transaction (served_by past e) x ≡ true → x.place < length past
    served-placed past (R p i resp last word) x t = of_name past p Read i (transaction_of past p Read i) x refl t
    served-placed past (B p i resp) x t = of_name past p Write i (transaction_of past p Write i) x refl t
    served-placed past (G p c i) x t = of_name past p c i (transaction_of past p c i) x refl t
    served-placed past (M p c i line) x t = of_name past p c i (transaction_of past p c i) x refl t
    served-placed past e x t = cc

pub new-incomplete : (past : Trace) (x : Transaction) → x.place ≡ length past → is_completed past x ≡ false
new-incomplete past x at =
    elim (cases_Bool (is_completed past x)) [
      | inl t ↦ let low = had-placed is_completion_event past x t in absurd (omega (arith, low, at))
      | inr f ↦ f
    ]

-- an event that issues a transaction completes none
pub issue-hits : (past : Trace) (e : Event) (x y : Transaction) → issued (length past) e ≡ Some x → hits past e y ≡ false
issue-hits past (R p i resp last word) x y new = cc
issue-hits past (B p i resp) x y new = cc
issue-hits past e x y new = refl

-- a half of the port that its barrier lets begin joins it
module _ (past : Trace) (e : Event) (x : Transaction) (new : issued (length past) e ≡ Some x) (half : is_barrier_half x ≡ true) where
  joins : (c : Channel) → option_filter (λ y. is_barrier_of y x.port c) (issued (length past) e) ≡ (if same_channel x.chan c then Some x else None)
  joins c = rw (new, half, eq-eqb x.port x.port refl) refl

  fresh : is_completed (e ∷ past) x ≡ false
  fresh = rw (issue-hits past e x x new) (new-incomplete past x (issued-place (length past) e x new))

  kept : (y : Transaction) → is_completed past y ≡ false → is_completed (e ∷ past) y ≡ false
  kept y was = rw (issue-hits past e x y new) was

  -- its halves with one more on the channel of the half
  grows : (b n : Barrier) → (reads_of n ≡ reads_of b ++ option_to_list (if same_channel x.chan Read then Some x else None))
      → (writes_of n ≡ writes_of b ++ option_to_list (if same_channel x.chan Write then Some x else None)) → IsUnderWay (e ∷ past) n
      → BarrierStands past x.port b → BarrierStands (e ∷ past) x.port n
  grows b n reads writes under_way s = record {
    done = s.done;
    reads = more_on Read (map read_half s.done) (reads_of b) s.reads ∙ ap (λ l. map read_half s.done ++ l) (sym reads);
    writes = more_on Write (map write_half s.done) (writes_of b) s.writes ∙ ap (λ l. map write_half s.done ++ l) (sym writes);
    are_done = all-stay past e x.port s.done s.are_done;
    under_way = under_way;
  }
    where
      more-is : (xs : List Transaction) (o : Option Transaction) → more xs o ≡ xs ++ option_to_list o
      more-is xs None = sym (append-nil xs)
      more-is xs (Some y) = refl

      more_on : (c : Channel) (xs ys : List Transaction) → barriers past x.port c ≡ xs ++ ys
          → barriers (e ∷ past) x.port c ≡ xs ++ (ys ++ option_to_list (if same_channel x.chan c then Some x else None))
      more_on c xs ys was =
          ap (more (barriers past x.port c)) (joins c) ∙ more-is (barriers past x.port c) (if same_channel x.chan c then Some x else None)
          ∙ ap (λ l. l ++ option_to_list (if same_channel x.chan c then Some x else None)) was ∙ append_assoc xs ys (option_to_list (if same_channel x.chan c then Some x else None))

  barrier_joins : (b : Barrier) (c : Channel) → x.chan ≡ c → begins_after b x ≡ true → BarrierStands past x.port b → BarrierStands (e ∷ past) x.port (joined b x)
  barrier_joins Idle Read chan begins s =
      let read : is_read x.chan ≡ true = ap is_read chan in grows Idle (joined Idle x) (rw chan refl) (rw chan refl) (rw read fresh) s
  barrier_joins Idle Write chan begins s =
      let write : is_read x.chan ≡ false = ap is_read chan in grows Idle (joined Idle x) (rw chan refl) (rw chan refl) (rw write fresh) s
  barrier_joins (ReadHalf y) Write chan begins s =
      let write : is_read x.chan ≡ false = ap is_read chan in
      grows (ReadHalf y) (joined (ReadHalf y) x) (rw chan refl) (rw chan refl) (rw write (record { read = kept y s.under_way; write = fresh; open_still = refl })) s
  barrier_joins (WriteHalf y) Read chan begins s =
      let read : is_read x.chan ≡ true = ap is_read chan in
      grows (WriteHalf y) (joined (WriteHalf y) x) (rw chan refl) (rw chan refl) (rw read (record { read = fresh; write = kept y s.under_way; open_still = refl })) s
  barrier_joins (ReadHalf y) Read chan begins s = let bad : false ≡ true = rw chan at begins in cc
  barrier_joins (WriteHalf y) Write chan begins s = let bad : false ≡ true = rw chan at begins in cc
  barrier_joins (Open o) c chan begins s = cc

cons-injective : {A : Type 0} → (y z : A) → y ∷ [] ≡ z ∷ [] → y ≡ z
cons-injective y z e = cc

-- What is known of an accepted event that completes a transaction.
pub record Done (h : Header) (past : Trace) (e : Event) (t : Target) (x : Transaction) : Type 0 where
  pub accepted : IsAccepted h (e ∷ past)
  pub own : t ≡ target_of h past e
  pub completes : Completes h past e x

-- an event that answers something issues nothing
pub answers-unissued : (h : Header) (past : Trace) (e : Event) (x : Transaction) → responding h past e ≡ Some x → issued (length past) e ≡ None
answers-unissued h past (R p i resp last word) x a = refl
answers-unissued h past (B p i resp) x a = refl
answers-unissued h past e x a = cc

-- the first transactions that have not come far enough, where the event answers a barrier half
pub record Awaits (past : Trace) (t : Target) (x : Transaction) : Type 0 where
  pub unordered : t.unordered ≡ first_unordered past x.port
  pub incomplete : t.incomplete ≡ first_incomplete past x.port

pub awaits-at : (h : Header) (past : Trace) (e : Event) (t : Target) (x : Transaction) → t ≡ target_of h past e → responding h past e ≡ Some x → is_barrier_half x ≡ true → Awaits past t x
awaits-at h past (R p i resp last word) t x own a half =
    let k = responds-at h past (R p i resp last word) x a in
    let port : p ≡ x.port = Some-injective p x.port k.port in
    let yes : is_some_and (outstanding h past p Read i) is_barrier_half ≡ true = rw a half in
    record {
      unordered = ap (λ (v : Target). v.unordered) own ∙ rw yes (ap (first_unordered past) port);
      incomplete = ap (λ (v : Target). v.incomplete) own ∙ rw yes (ap (first_incomplete past) port);
    }
awaits-at h past (B p i resp) t x own a half =
    let k = responds-at h past (B p i resp) x a in
    let port : p ≡ x.port = Some-injective p x.port k.port in
    let yes : is_some_and (outstanding h past p Write i) is_barrier_half ≡ true = rw a half in
    record {
      unordered = ap (λ (v : Target). v.unordered) own ∙ rw yes (ap (first_unordered past) port);
      incomplete = ap (λ (v : Target). v.incomplete) own ∙ rw yes (ap (first_incomplete past) port);
    }
awaits-at h past e t x own a half = cc

-- K34 is a test of what the event answers
pub k34-is : (h : Header) (past : Trace) (e : Event) → k34 h past e ≡ is_none_or (responding h past e) (may_answer_half past)
k34-is h past (R p i resp last word) = refl
k34-is h past (B p i resp) = refl
k34-is h past e = refl

-- a transaction that was issued where a half of the barrier was is this half
pub same-half : (past : Trace) (p : ℕ) (b : Barrier) (s : BarrierStands past p b) (c : Channel) (y x : Transaction) → halves_on c b ≡ y ∷ [] → IsIssued past x → x.place ≡ y.place
    → (y ≡ x) × (is_barrier_half x ≡ true) × (x.port ≡ p)
same-half past p b s c y x is i at =
    let h = current past p b s c y is in
    let own = is_barrier_of-is y p c h.barrier in
    let one : y ≡ x = Some-injective y x (sym h.stands.there ∙ ap (issued_at past) (sym at) ∙ i.there) in
    (one, subst (λ (z : Transaction). is_barrier_half z ≡ true) one own.barrier, subst (λ (z : Transaction). z.port ≡ p) one own.port)

module _ (h : Header) (past : Trace) (e : Event) (t : Target) (x : Transaction) (d : Done h past e t x) where
  there : IsIssued past x
  there = (responds-at h past e x d.completes.answers).there

  hit-is : (y : Transaction) → hits past e y ≡ nat_eq x.place y.place
  hit-is y = rw (d.completes.completes, (responds-at h past e x d.completes.answers).served) refl

  unissued : (p : ℕ) (c : Channel) → option_filter (λ y. is_barrier_of y p c) (issued (length past) e) ≡ None
  unissued p c = ap (λ o. option_filter (λ y. is_barrier_of y p c) o) (answers-unissued h past e x d.completes.answers)

  -- the barrier of another port
  pub barrier_elsewhere : (p : ℕ) (b : Barrier) → (x.port ≡ p → ⊥) → BarrierStands past p b → BarrierStands (e ∷ past) p b
  barrier_elsewhere p b other s =
      barrier_stays past e p b (unissued p) (λ c y is. hit-is y ∙ ne_eqb x.place y.place (λ at. other (same-half past p b s c y x is there at).2)) s

  -- the half that is answered might be
  may-be : (b : Barrier) → BarrierStands past x.port b → is_barrier_half x ≡ true → may_answer_after b t.unordered t.incomplete x ≡ true
  may-be b s half =
      let k = is_none_or-at (responding h past e) (may_answer_half past) x (sym (k34-is h past e) ∙ (accepted_keeps h past e d.accepted).rule_34) d.completes.answers in
      let a = awaits-at h past e t x d.own d.completes.answers half in
      sym (answer_is past x t.unordered t.incomplete there half a.unordered a.incomplete b s) ∙ implies-at (is_barrier_half x) _ k half

  -- a half alone isn't answered
  alone : (b : Barrier) (s : BarrierStands past x.port b) (c : Channel) (y : Transaction) → halves_on c b ≡ y ∷ [] → may_answer_after b t.unordered t.incomplete x ≡ not (nat_eq x.place y.place)
      → hits past e y ≡ false
  alone b s c y is may =
      hit-is y ∙ (elim (cases_eq x.place y.place) [
        | inl at ↦
            let same = same-half past x.port b s c y x is there at in
            let yes : not (nat_eq x.place y.place) ≡ true = sym may ∙ may-be b s same.1 in
            let bad : not true ≡ true = rw (eq-eqb x.place y.place at) at yes in cc
        | inr off ↦ ne_eqb x.place y.place off
      ])

  -- an open pair of which the event completes the last half
  finishes : (o : OpenPair) (s : BarrierStands past x.port (Open o)) → ((nat_eq x.place o.read.place || o.read_answered) && (nat_eq x.place o.write.place || o.write_answered)) ≡ true
      → IsDone (e ∷ past) x.port (pair_in o)
  finishes o s both =
      let parts = and_parts (nat_eq x.place o.read.place || o.read_answered) (nat_eq x.place o.write.place || o.write_answered) both in
      let read = current past x.port (Open o) s Read o.read refl in
      let write = current past x.port (Open o) s Write o.write refl in
      let low_read : o.read.place < length past = read.stands.before in
      let low_write : o.write.place < length past = write.stands.before in
      let placed : place_of (pair_in o) < length past = omega arith in
      record {
        complete = rw (hit-is o.read, hit-is o.write, s.under_way.read, s.under_way.write) both;
        answered = may-stays past e x.port (pair_in o) placed (may (one_of parts.0 parts.1));
        placed = omega arith;
      }
    where
      one_of : (nat_eq x.place o.read.place || o.read_answered) ≡ true → (nat_eq x.place o.write.place || o.write_answered) ≡ true
          → (nat_eq x.place o.read.place ≡ true) ⊎ (nat_eq x.place o.write.place ≡ true)
      one_of r w =
          elim (or_cases (nat_eq x.place o.read.place) o.read_answered r) [
            | inl here ↦ inl here
            | inr was_read ↦ elim (or_cases (nat_eq x.place o.write.place) o.write_answered w) [
              | inl here ↦ inr here
              | inr was_write ↦ let bad : true ≡ false = sym (and_from _ _ was_read was_write) ∙ s.under_way.open_still in cc
            ]
          ]

      come : is_barrier_half x ≡ true → ((not (nat_eq x.place o.read.place) && not (nat_eq x.place o.write.place)) ≡ false) → may_answer past x.port (pair_in o) ≡ true
      come half near =
          let a = awaits-at h past e t x d.own d.completes.answers half in
          come-is past x.port o t.unordered t.incomplete a.unordered a.incomplete ∙ (rw near at (may-be (Open o) s half))

      may : (nat_eq x.place o.read.place ≡ true) ⊎ (nat_eq x.place o.write.place ≡ true) → may_answer past x.port (pair_in o) ≡ true
      may (inl at) = come (same-half past x.port (Open o) s Read o.read x refl there (eqb-true x.place o.read.place at)).1 (rw at refl)
      may (inr at) = come (same-half past x.port (Open o) s Write o.write x refl there (eqb-true x.place o.write.place at)).1 (rw at (and_right (not (nat_eq x.place o.read.place)) false refl))

  -- the barrier of the port
  pub barrier_answered : (b : Barrier) → BarrierStands past x.port b → BarrierStands (e ∷ past) x.port (answered b x.place)
  barrier_answered Idle s = barrier_stays past e x.port Idle (unissued x.port) (λ c y is. none c y is) s
    where
      none : (c : Channel) (y : Transaction) → halves_on c Idle ≡ y ∷ [] → hits past e y ≡ false
      none Read y is = cc
      none Write y is = cc
  barrier_answered (ReadHalf y) s = barrier_stays past e x.port (ReadHalf y) (unissued x.port) by s
    where
      by : (c : Channel) (z : Transaction) → halves_on c (ReadHalf y) ≡ z ∷ [] → hits past e z ≡ false
      by Read z is = alone (ReadHalf y) s Read z is (ap (λ n. not (nat_eq x.place n)) (ap (λ (v : Transaction). v.place) (cons-injective y z is)))
      by Write z is = cc
  barrier_answered (WriteHalf y) s = barrier_stays past e x.port (WriteHalf y) (unissued x.port) by s
    where
      by : (c : Channel) (z : Transaction) → halves_on c (WriteHalf y) ≡ z ∷ [] → hits past e z ≡ false
      by Read z is = cc
      by Write z is = alone (WriteHalf y) s Write z is (ap (λ n. not (nat_eq x.place n)) (ap (λ (v : Transaction). v.place) (cons-injective y z is)))
  barrier_answered (Open o) s = elim (cases_Bool ((nat_eq x.place o.read.place || o.read_answered) && (nat_eq x.place o.write.place || o.write_answered))) [
    | inl both ↦ rw both (record {
      done = s.done ++ pair_in o ∷ [];
      reads = ap (more (barriers past x.port Read)) (unissued x.port Read) ∙ s.reads ∙ sym (append-nil (map read_half (s.done ++ pair_in o ∷ [])) ∙ map-append read_half s.done (pair_in o ∷ []));
      writes = ap (more (barriers past x.port Write)) (unissued x.port Write) ∙ s.writes ∙ sym (append-nil (map write_half (s.done ++ pair_in o ∷ [])) ∙ map-append write_half s.done (pair_in o ∷ []));
      are_done = All-push (IsDone (e ∷ past) x.port) s.done (pair_in o) (all-stay past e x.port s.done s.are_done) (finishes o s both);
      under_way = tt;
    })
    | inr still ↦ rw still (record {
      done = s.done;
      reads = ap (more (barriers past x.port Read)) (unissued x.port Read) ∙ s.reads;
      writes = ap (more (barriers past x.port Write)) (unissued x.port Write) ∙ s.writes;
      are_done = all-stay past e x.port s.done s.are_done;
      under_way = record {
        read = rw (hit-is o.read, s.under_way.read) refl;
        write = rw (hit-is o.write, s.under_way.write) refl;
        open_still = still;
      };
    })
  ]

-- a list in which the barrier of one port is set stands, where that barrier stands, and those of the other ports still do
barriers_set : (r : Recording) (s n : Barriers) (e : Event) (q : ℕ) (v : Barrier) → BarriersStand r s → q < r.header.ports → n.ports.items ≡ slice_set s.ports.items q v
    → BarrierStands (e ∷ r.past) q v → ((p : ℕ) (b : Barrier) → (q ≡ p → ⊥) → BarrierStands r.past p b → BarrierStands (e ∷ r.past) p b) → BarriersStand (after r e) n
barriers_set r s n e q v stands within items new others = record {
  size = ap length items ∙ length-set s.ports.items q v ∙ stands.size;
  ports = λ p.
      entries_set (BarrierStands r.past) (BarrierStands (e ∷ r.past)) s.ports.items n.ports.items q r.header.ports v Idle stands.size within items new others p (stands.ports p);
}

-- a transaction is no half of another port, and none where it is no half
no_half : (x : Transaction) (p : ℕ) (c : Channel) → (is_barrier_half x && nat_eq x.port p) ≡ false → option_filter (λ y. is_barrier_of y p c) (Some x) ≡ None
no_half x p c other = rw other refl

-- an event that issues a transaction names its port
pub issuing-port : (past : Trace) (e : Event) (x : Transaction) → issued (length past) e ≡ Some x → port_of e ≡ Some x.port
issuing-port past (Ar p i addr snoop dom bar lock) x new = ap (λ (v : Transaction). Some v.port) (Some-injective _ x new)
issuing-port past (Aw p i addr snoop dom bar) x new = ap (λ (v : Transaction). Some v.port) (Some-injective _ x new)
issuing-port past e x new = cc

-- an event that issues a barrier half
pub barriers_begun : (r : Recording) (s n : Barriers) (e : Event) (t : Target) (x : Transaction) → IsAccepted r.header (e ∷ r.past) → t ≡ target_of r.header r.past e → begun_in e t ≡ Some x
    → is_barrier_half x ≡ true → BarriersStand r s → n.ports.items ≡ slice_set s.ports.items x.port (joined (get_or s.ports.items x.port Idle) x) → BarriersStand (after r e) n
barriers_begun r s n e t x accepted own begun half stands items =
    barriers_set r s n e x.port (joined b x) stands (port_within r.header r.past e x.port accepted (issuing-port r.past e x new)) items joins_own others
  where
    b : Barrier
    b = get_or s.ports.items x.port Idle

    new : issued (length r.past) e ≡ Some x
    new = sym (begun-is r.header r.past e t own) ∙ begun

    begins : begins_after b x ≡ true
    begins =
        let well = is_none_or-at (issued (length r.past) e) (begins_well r.past) x (accepted_keeps r.header r.past e accepted).rule_9 new in
        let barrier = implies-at (is_barrier_half x) (begins_barrier r.past x) (and_parts (implies (is_barrier_half x) (begins_barrier r.past x)) _ (and_parts (implies (is_barrier_half x) (begins_barrier r.past x) && _) _ well).0).0 half in
        (and_parts (nat_eq x.addr 0) (begins_after b x) (sym (begins_is r.past x b (stands.ports x.port) (issued-place (length r.past) e x new)) ∙ barrier)).1

    joins_own : BarrierStands (e ∷ r.past) x.port (joined b x)
    joins_own = barrier_joins r.past e x new half b x.chan refl begins (stands.ports x.port)

    others : (p : ℕ) (b : Barrier) → (x.port ≡ p → ⊥) → BarrierStands r.past p b → BarrierStands (e ∷ r.past) p b
    others p b off = barrier_stays r.past e p b (λ c. ap (λ o. option_filter (λ y. is_barrier_of y p c) o) new ∙ no_half x p c (rw half (ne_eqb x.port p off))) (λ c y is. issue-hits r.past e x y new)

-- an event that issues another transaction
pub barriers_other_issue : (r : Recording) (s : Barriers) (e : Event) (t : Target) (x : Transaction) → t ≡ target_of r.header r.past e → begun_in e t ≡ Some x
    → is_barrier_half x ≡ false → BarriersStand r s → BarriersStand (after r e) s
barriers_other_issue r s e t x own begun plain stands =
    let new : issued (length r.past) e ≡ Some x = sym (begun-is r.header r.past e t own) ∙ begun in record {
      size = stands.size;
      ports = λ p. barrier_stays r.past e p (get_or s.ports.items p Idle) (λ c. ap (λ o. option_filter (λ y. is_barrier_of y p c) o) new ∙ no_half x p c (rw plain refl)) (λ c y is. issue-hits r.past e x y new) (stands.ports p);
    }

-- an event that completes a transaction
pub barriers_completed : (r : Recording) (s n : Barriers) (e : Event) (t : Target) (x : Transaction) → IsAccepted r.header (e ∷ r.past) → t ≡ target_of r.header r.past e → completed_in e t ≡ Some x
    → BarriersStand r s → n.ports.items ≡ slice_set s.ports.items x.port (answered (get_or s.ports.items x.port Idle) x.place) → BarriersStand (after r e) n
barriers_completed r s n e t x accepted own completed stands items =
    let d : Done r.header r.past e t x = record { accepted = accepted; own = own; completes = completes-at r.header r.past e t x own completed } in
    let b = get_or s.ports.items x.port Idle in
    barriers_set r s n e x.port (answered b x.place) stands (port_within r.header r.past e x.port accepted (responds-at r.header r.past e x d.completes.answers).port) items
    (barrier_answered r.header r.past e t x d b (stands.ports x.port)) (barrier_elsewhere r.header r.past e t x d)

-- any other event
pub barriers_stay : (r : Recording) (s : Barriers) (e : Event) (t : Target) → IsAccepted r.header (e ∷ r.past) → t ≡ target_of r.header r.past e
    → begun_in e t ≡ None → completed_in e t ≡ None → BarriersStand r s → BarriersStand (after r e) s
barriers_stay r s e t accepted own begun completed stands = record {
  size = stands.size;
  ports = λ p. barrier_stays r.past e p (get_or s.ports.items p Idle) (λ c. ap (λ o. option_filter (λ y. is_barrier_of y p c) o) (sym (begun-is r.header r.past e t own) ∙ begun))
      (λ c y is. completes-none r.header r.past e t y accepted own completed) (stands.ports p);
}
