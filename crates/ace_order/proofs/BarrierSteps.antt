-- The R and the B of a barrier pair that may have them are a step 10, and the trace with them is one for which an engine may stand. Where there is
-- no such pair, there is no such step.
use Rattle.std.proofs.Common.{◌≡◌, ℕ, Bool, true, false, not, ◌&&◌, ◌==◌, if◌then◌else◌, [], ◌∷◌, length, Option, Some, None, slice_get, refl, sym, ap, subst, ◌∙◌, inl, inr, arith}
use Rattle.std.specs.Option.{option_map}
use Rattle.std.proofs.lemmas.Bool.{and_from, and_parts, cases_Bool, eq-eqb, eqb-true, false_from_ne_true, or_right}
use Rattle.ace_codes.specs.declared.kind.ArKind.{ArKind}
use Rattle.ace_codes.specs.declared.kind.ArKind.TheVariants as read
use Rattle.ace_event.specs.declared.event.Channel.TheVariants.{Read, Write}
use Rattle.ace_event.specs.declared.event.Event.{Event}
use Rattle.ace_event.specs.declared.event.Event.TheVariants.{B}
use Rattle.ace_event.specs.declared.header.Header.{Header}
use Rattle.ace_model.specs.declared.transactions.Transaction.{Transaction}
use Rattle.ace_model.specs.Accepted.{IsAccepted}
use Rattle.ace_model.specs.AddressRules.{k1}
use Rattle.ace_model.specs.Barriers.{Pair, barriers, is_awaited, is_barrier_half, is_before, is_synchronisation, may_answer, number_of, pair_of, pairs}
use Rattle.ace_model.specs.Kinds.{is_line_read, is_read_barrier}
use Rattle.ace_model.specs.OrderRules.{k34, may_answer_half}
use Rattle.ace_model.specs.Plans.{Plan}
use Rattle.ace_model.specs.Progress.{is_completed, is_completion_event, served_by}
use Rattle.ace_model.specs.Trace.{Trace, at_point, implies, is_none_or, is_some_and}
use Rattle.ace_model.specs.Transactions.{ended, is_complete, is_outstanding, is_transaction, outstanding, read_kind, transaction_of}
use Rattle.ace_model.specs.WriteRules.{k26, may_respond}
use Rattle.ace_model.specs.Writes.{has_memory_write}
use Rattle.ace_model.proofs.Barriers.OrderPoints.{is_ordered-later}
use Rattle.ace_model.proofs.Barriers.Pairs.{barriers-half, is_barrier_of-is, pairs-halves}
use Rattle.ace_model.proofs.General.Booleans.{implies-at}
use Rattle.ace_model.proofs.General.Options.{Some-injective, is_none_or-at, is_some_and-at, is_some_and-is}
use Rattle.ace_model.proofs.Outstanding.Names.{complete_by_name}
use Rattle.ace_model.proofs.Rules.Keeps.{accepted_keeps}
use Rattle.ace_model.proofs.Trace.Growth.{IsIssued, at_point-before, each_issued-at, issued-cases, some_issued-found, some_issued-is}
use Rattle.ace_model.proofs.Trace.Issued.{outstanding-named}
use Rattle.ace_model.proofs.Trace.LineOnce.{outstanding_is}
use Rattle.ace_model.proofs.Trace.Looks.{read_writes_none, without-other}
use Rattle.ace_model.proofs.Trace.Outstanding.{ends_lite, write_apart}
use Rattle.ace_runs.specs.Bursts.{are_kept, is_kept, may_begin, may_serve, serves}
use Rattle.ace_runs.specs.OrderSteps.{barrier_burst, pair_burst, plain_transfer}
use Rattle.ace_runs.specs.SameEvents.{same_burst}
use Rattle.ace_runs.specs.Steps.{is_sound, is_step_by}
use Rattle.ace_runs.proofs.Accepting.{kept-breaks-none}
use Rattle.ace_runs.proofs.NeverStuck.Barriers.BothAnswered.{undone-outstanding}
use Rattle.ace_runs.proofs.NeverStuck.Barriers.EachIssued.{each-from}
use Rattle.ace_runs.proofs.NeverStuck.Barriers.Halves.{half-dataless, half-reads}
use Rattle.ace_runs.proofs.NeverStuck.Barriers.OpenPairs.{IsOpen, pair-is}
use Rattle.ace_runs.proofs.NeverStuck.Barriers.Together.{half-in}
use Rattle.ace_model.proofs.Trace.IssuedTransactions.{issuer-low}
use Rattle.ace_runs.proofs.NeverStuck.Reads.PlainTransfers.{half-there, reads-half}
use Rattle.ace_runs.proofs.NeverStuck.Reads.TransfersKept.{implied_by}
use Rattle.ace_runs.proofs.NeverStuck.Steps.SameBursts.{burst-self}
use Rattle.ace_runs.proofs.NeverStuck.Updates.EvictsMove.{response-kept}
use Rattle.ace_engine.specs.Engines.{IsLegal}
use Rattle.ace_engine.proofs.OfInterconnect.{legal-with}
use Rattle.ace_sysck.specs.declared.barriers.OpenPair.{OpenPair}
use Rattle.ace_sysck.specs.declared.barriers.Barrier.{Barrier}
use Rattle.ace_sysck.specs.Barriers.{BarrierStands, TellsOpenPair, open_of, pair_in}
use Rattle.ace_sysck.proofs.BarrierAnswers.{tells_open}
use Rattle.ace_order.specs.Order.{AreAnsweredTogether, IsAnswerable}
use Rattle.ace_order.specs.Waiting.{HasToWait}
use Rattle.ace_order.proofs.BothAnswered.{both-answered}
use Rattle.ace_order.proofs.FourSteps.{answers-barrier}
use Rattle.ace_order.proofs.PlainReads.{IsPlain, kept-undone}

-- ---- the halves of a pair ----------------------------------------------------------------------------

barrier-plain : (k : ArKind) → is_read_barrier k ≡ true → is_line_read k ≡ false
barrier-plain read.Barrier b = refl
barrier-plain k b = cc

-- What there is to say of a pair of the port of which no half is complete.
pub record IsWaiting (h : Header) (past : Trace) (p : ℕ) (b : Pair) : Type 0 where
  pub accepted : IsAccepted h past
  pub number : ℕ
  pub there : slice_get (pairs past p) number ≡ Some b
  pub read_undone : is_completed past b.read ≡ false
  pub write_undone : is_completed past b.write ≡ false

module _ (h : Header) (past : Trace) (p : ℕ) (b : Pair) (w : IsWaiting h past p b) where
  first : slice_get (barriers past p Read) w.number ≡ Some b.read
  first = half-there past p Read w.number b.read (pairs-halves past p w.number b w.there).read

  second : slice_get (barriers past p Write) w.number ≡ Some b.write
  second = half-there past p Write w.number b.write (pairs-halves past p w.number b w.there).write

  is-open : IsOpen past p b.read b.write
  is-open = record { number = w.number; first = first; second = second; undone = w.read_undone }

  read-issued : IsIssued past b.read
  read-issued = (half-in past p Read w.number b.read first).0

  pub read-half : is_barrier_half b.read ≡ true
  read-half = (half-in past p Read w.number b.read first).1

  read-port : b.read.port ≡ p
  read-port = (is_barrier_of-is b.read p Read (barriers-half past p Read w.number b.read first).barrier).port

  read-chan : b.read.chan ≡ Read
  read-chan = (is_barrier_of-is b.read p Read (barriers-half past p Read w.number b.read first).barrier).chan

  write-issued : IsIssued past b.write
  write-issued = (half-in past p Write w.number b.write second).0

  write-half : is_barrier_half b.write ≡ true
  write-half = (half-in past p Write w.number b.write second).1

  write-port : b.write.port ≡ p
  write-port = (is_barrier_of-is b.write p Write (barriers-half past p Write w.number b.write second).barrier).port

  write-chan : b.write.chan ≡ Write
  write-chan = (is_barrier_of-is b.write p Write (barriers-half past p Write w.number b.write second).barrier).chan

  reads : is_some_and (read_kind b.read) is_read_barrier ≡ true
  reads = half-reads b.read read-chan read-half

  pub waits-plain : IsPlain h past b.read
  waits-plain =
      let k = is_some_and-is (read_kind b.read) is_read_barrier reads in
      record {
        accepted = w.accepted;
        issued = read-issued;
        out = undone-outstanding h past b.read w.accepted read-issued w.read_undone;
        kind = k.0;
        kind_is = k.1;
        plain = barrier-plain k.0 k.2;
      }

  -- ---- the R and the B ----

  module _ (kept : is_kept h past (plain_transfer b.read) ≡ true) where
    abbrev transfer : Event
    transfer = plain_transfer b.read

    abbrev answer : Event
    answer = B b.write.port b.write.id 0

    abbrev after : Trace
    after = transfer ∷ past

    accepted : IsAccepted h after
    accepted = (w.accepted, kept-breaks-none h past transfer kept)

    read-out : outstanding h past b.read.port Read b.read.id ≡ Some b.read
    read-out = subst (λ c. outstanding h past b.read.port c b.read.id ≡ Some b.read) read-chan (outstanding_is h past b.read read-issued waits-plain.out)

    -- what is before the pair has come far enough, as the R is kept
    may-before : may_answer past p b ≡ true
    may-before =
        let thirty_four : k34 h past transfer ≡ true = (accepted_keeps h past transfer accepted).rule_34 in
        let half = is_none_or-at (outstanding h past b.read.port Read b.read.id) (may_answer_half past) b.read thirty_four read-out in
        let pair = implies-at (is_barrier_half b.read) (is_some_and (pair_of past b.read) (may_answer past b.read.port)) half read-half in
        subst (λ q. may_answer past q b ≡ true) read-port (is_some_and-at (pair_of past b.read) (may_answer past b.read.port) b pair (pair-is past p b.read b.write is-open))

    awaited-stays : (z : Transaction) → is_awaited past b z ≡ true → is_awaited after b z ≡ true
    awaited-stays z a =
        elim (cases_Bool (is_synchronisation b)) [
          | inl t ↦ rw t (or_right (is_completion_event transfer && is_transaction (served_by past transfer) z) (is_completed past z) (rw t at a))
          | inr f ↦ rw f (is_ordered-later [] transfer past z (rw f at a))
        ]

    may-after : may_answer after p b ≡ true
    may-after =
        each-from after (λ z. implies (is_before z p b) (is_awaited after b z)) (λ z i. implied_by (is_before z p b) (is_awaited after b z) (λ before.
        elim (issued-cases transfer past z i) [
          | inl new ↦ cc
          | inr old ↦
              let was = each_issued-at past (λ v. implies (is_before v p b) (is_awaited past b v)) z.place z may-before old.there in
              awaited-stays z (implies-at (is_before z p b) (is_awaited past b z) was before)
        ]))

    write-own : outstanding h past b.write.port b.write.chan b.write.id ≡ Some b.write
    write-own = outstanding_is h past b.write write-issued (undone-outstanding h past b.write w.accepted write-issued w.write_undone)

    write-out : outstanding h past b.write.port Write b.write.id ≡ Some b.write
    write-out = subst (λ c. outstanding h past b.write.port c b.write.id ≡ Some b.write) write-chan write-own

    -- the R ends no write
    still-out : outstanding h after b.write.port Write b.write.id ≡ Some b.write
    still-out =
        without-other (ended h past transfer) (outstanding h past b.write.port Write b.write.id) b.write write-out (λ z ends same.
        let of = (ends_lite h past b.read.port b.read.id 0 true 0 z ends).1 in
        write_apart past b.read.port b.write.port b.read.id b.write.id z b.write of (outstanding-named h past b.write.port Write b.write.id b.write write-out) (sym same))

    incomplete : is_complete after b.write.port b.write.chan b.write.id ≡ false
    incomplete =
        let before : is_complete past b.write.port b.write.chan b.write.id ≡ false =
        complete_by_name past b.write.port b.write.chan b.write.id b.write (outstanding-named h past b.write.port b.write.chan b.write.id b.write write-own) ∙ w.write_undone in
        let there_write : is_complete past b.write.port Write b.write.id ≡ false = subst (λ c. is_complete past b.write.port c b.write.id ≡ false) write-chan before in
        let now : is_complete after b.write.port Write b.write.id ≡ false = there_write in
        subst (λ c. is_complete after b.write.port c b.write.id ≡ false) (sym write-chan) now

    may-respond : may_respond after b.write ≡ true
    may-respond =
        and_from _ _ (ap not incomplete) (ap (λ v. implies v (has_memory_write after b.write.port b.write.chan b.write.id)) (half-dataless b.write write-half))

    write-pair : pair_of after b.write ≡ Some b
    write-pair =
        let low = write-issued.before in
        let point = at_point-before transfer past b.write.place (omega (arith, low)) in
        let number : number_of after b.write ≡ w.number =
        ap (λ (s : Trace). length (barriers s b.write.port b.write.chan)) point ∙ ap (λ q. length (barriers (at_point b.write.place past) q b.write.chan)) write-port
        ∙ ap (λ c. length (barriers (at_point b.write.place past) p c)) write-chan ∙ (barriers-half past p Write w.number b.write second).number in
        ap (λ q. slice_get (pairs past q) (number_of after b.write)) write-port ∙ ap (slice_get (pairs past p)) number ∙ w.there

    -- the B breaks no rule after the R
    answer-kept : is_kept h after answer ≡ true
    answer-kept =
        let may : may_answer after b.write.port b ≡ true = subst (λ q. may_answer after q b ≡ true) (sym write-port) may-after in
        let said : is_some_and (pair_of after b.write) (may_answer after b.write.port) ≡ true = ap (λ v. is_some_and v (may_answer after b.write.port)) write-pair ∙ may in
        let order : may_answer_half after b.write ≡ true = implied_by (is_barrier_half b.write) (is_some_and (pair_of after b.write) (may_answer after b.write.port)) (λ s. said) in
        let one : k1 h after answer ≡ true = and_from _ _ (issuer-low h past b.write w.accepted write-issued) refl in
        let twenty_six : k26 h after answer ≡ true = ap (λ v. is_some_and v (may_respond after)) still-out ∙ may-respond in
        let thirty_four : k34 h after answer ≡ true = ap (λ v. is_none_or v (may_answer_half after)) still-out ∙ order in
        response-kept h after b.write.port b.write.id one twenty_six thirty_four

    pub answers-kept : are_kept h past (plain_transfer b.read ∷ B b.write.port b.write.id 0 ∷ []) ≡ true
    answers-kept = and_from _ _ kept (and_from _ _ answer-kept refl)

    pub pair-together : AreAnsweredTogether past → AreAnsweredTogether (B b.write.port b.write.id 0 ∷ plain_transfer b.read ∷ past)
    pair-together t =
        let named_read : transaction_of past p Read b.read.id ≡ Some b.read = subst (λ q. transaction_of past q Read b.read.id ≡ Some b.read) read-port (outstanding-named h past b.read.port Read b.read.id b.read read-out) in
        let named_write : transaction_of past p Write b.write.id ≡ Some b.write = subst (λ q. transaction_of past q Write b.write.id ≡ Some b.write) write-port (outstanding-named h past b.write.port Write b.write.id b.write write-out) in
        let both = both-answered past t p w.number b w.there named_read named_write in
        rw (read-port, write-port) both

    pub pair-gives : (may_serve barrier_burst h past p && serves barrier_burst h past p (plain_transfer b.read ∷ B b.write.port b.write.id 0 ∷ [])) ≡ true
    pair-gives =
        let burst = plain_transfer b.read ∷ B b.write.port b.write.id 0 ∷ [] in
        let gives : barrier_burst h past b.read ≡ burst = ap (λ v. if v then pair_burst (pair_of past b.read) else []) reads ∙ ap pair_burst (pair-is past p b.read b.write is-open) in
        let begins : may_begin h past (barrier_burst h past b.read) ≡ true = ap (may_begin h past) gives ∙ kept in
        let alike : same_burst (barrier_burst h past b.read) burst ≡ true = ap (λ v. same_burst v burst) gives ∙ burst-self burst in
        let mine : ((b.read.port == p) && is_outstanding h past b.read) ≡ true = and_from _ _ (eq-eqb b.read.port p read-port) waits-plain.out in
        let may : may_serve barrier_burst h past p ≡ true =
        some_issued-found past (λ z. (z.port == p) && is_outstanding h past z && may_begin h past (barrier_burst h past z)) b.read.place b.read read-issued.there (and_from _ _ mine begins) in
        let served : serves barrier_burst h past p burst ≡ true =
        some_issued-found past (λ z. (z.port == p) && is_outstanding h past z && same_burst (barrier_burst h past z) burst) b.read.place b.read read-issued.there (and_from _ _ mine alike) in
        and_from _ _ may served

-- ---- the step ----------------------------------------------------------------------------------------

-- a pair that may be answered waits, where the halves are answered together
pub answerable-waits : (h : Header) (past : Trace) (p : ℕ) (b : Pair) → IsAccepted h past → AreAnsweredTogether past → IsAnswerable h past p b → IsWaiting h past p b
answerable-waits h past p b a t d = record {
  accepted = a;
  number = d.number;
  there = d.there;
  read_undone = d.undone;
  write_undone = sym (t p d.number b d.there) ∙ d.undone;
}

module _ (plan : Plan) (past : Trace) (legal : IsLegal plan past) (p : ℕ) (b : Pair) (w : IsWaiting plan.header past p b) (kept : is_kept plan.header past (plain_transfer b.read) ≡ true) where
  pub legal-transfer : IsLegal plan (plain_transfer b.read ∷ past)
  legal-transfer = legal-with plan past (plain_transfer b.read) refl legal kept

  pub legal-answer : IsLegal plan (B b.write.port b.write.id 0 ∷ plain_transfer b.read ∷ past)
  legal-answer =
      let second = and_parts (is_kept plan.header (plain_transfer b.read ∷ past) (B b.write.port b.write.id 0)) true (and_parts (is_kept plan.header past (plain_transfer b.read)) _ (answers-kept plan.header past p b w kept)).1 in
      legal-with plan (plain_transfer b.read ∷ past) (B b.write.port b.write.id 0) refl legal-transfer second.0

  pub pair-step : is_step_by (10 ∷ 11 ∷ 12 ∷ 13 ∷ []) plan past p (plain_transfer b.read ∷ B b.write.port b.write.id 0 ∷ []) ≡ true
  pair-step =
      let sound : is_sound plan.header past (plain_transfer b.read ∷ B b.write.port b.write.id 0 ∷ []) ≡ true = answers-kept plan.header past p b w kept in
      answers-barrier plan past p (plain_transfer b.read ∷ B b.write.port b.write.id 0 ∷ []) sound (pair-gives plan.header past p b w kept)

-- ---- whether there is one ----------------------------------------------------------------------------

-- Where there is a step, it is for the pair that isn't complete.
pub record IsServed (h : Header) (past : Trace) (p : ℕ) : Type 0 where
  pub pair : Pair
  pub number : ℕ
  pub there : slice_get (pairs past p) number ≡ Some pair
  pub undone : is_completed past pair.read ≡ false
  pub kept : is_kept h past (plain_transfer pair.read) ≡ true

served-pair : (h : Header) (past : Trace) (p : ℕ) → IsAccepted h past → may_serve barrier_burst h past p ≡ true → IsServed h past p
served-pair h past p a may =
    let x = some_issued-is past (λ z. (z.port == p) && is_outstanding h past z && may_begin h past (barrier_burst h past z)) may in
    let two = and_parts ((x.0.port == p) && is_outstanding h past x.0) (may_begin h past (barrier_burst h past x.0)) x.2 in
    let one = and_parts (x.0.port == p) (is_outstanding h past x.0) two.0 in
    by x.0 x.1 (eqb-true x.0.port p one.0) one.1 (is_some_and (read_kind x.0) is_read_barrier) refl (pair_of past x.0) refl two.1
  where
    by : (x : Transaction) → IsIssued past x → x.port ≡ p → is_outstanding h past x ≡ true → (barrier : Bool) → is_some_and (read_kind x) is_read_barrier ≡ barrier
        → (o : Option Pair) → pair_of past x ≡ o → may_begin h past (barrier_burst h past x) ≡ true → IsServed h past p
    by x i port out false none o is begins = let bad : false ≡ true = sym (ap (λ v. may_begin h past (if v then pair_burst (pair_of past x) else [])) none) ∙ begins in cc
    by x i port out true reads None is begins =
        let bad : false ≡ true = sym (ap (λ v. may_begin h past (if v then pair_burst (pair_of past x) else [])) reads ∙ ap (λ v. may_begin h past (pair_burst v)) is) ∙ begins in cc
    by x i port out true reads (Some b) is begins =
        let k = is_some_and-is (read_kind x) is_read_barrier reads in
        let writes = read_writes_none x k.0 k.1 in
        let same : b.read ≡ x = reads-half past x b i reads writes.1 is in
        let kept : is_kept h past (plain_transfer b.read) ≡ true = sym (ap (λ v. may_begin h past (if v then pair_burst (pair_of past x) else [])) reads ∙ ap (λ v. may_begin h past (pair_burst v)) is) ∙ begins in
        let plain : IsPlain h past x = record { accepted = a; issued = i; out = out; kind = k.0; kind_is = k.1; plain = barrier-plain k.0 k.2 } in
        let undone = kept-undone h past x plain (subst (λ (v : Transaction). is_kept h past (plain_transfer v) ≡ true) same kept) in
        record {
          pair = b;
          number = number_of past x;
          there = subst (λ q. slice_get (pairs past q) (number_of past x) ≡ Some b) port is;
          undone = ap (is_completed past) same ∙ undone;
          kept = kept;
        }

-- it is the one that is told
told-pair : (h : Header) (past : Trace) (p : ℕ) (o : Option OpenPair) → TellsOpenPair past p o → (s : IsServed h past p) → option_map pair_in o ≡ Some s.pair
told-pair h past p o tells s = tells.only s.number s.pair s.there (ap (λ v. v && is_completed past s.pair.write) s.undone)

pub none-open : (h : Header) (past : Trace) (p : ℕ) → IsAccepted h past → TellsOpenPair past p None → may_serve barrier_burst h past p ≡ false
none-open h past p a tells = false_from_ne_true (may_serve barrier_burst h past p) (λ may.
    let s = served-pair h past p a may in let bad : None ≡ Some s.pair = told-pair h past p None tells s in cc)

pub none-kept : (h : Header) (past : Trace) (p : ℕ) (b : OpenPair) → IsAccepted h past → TellsOpenPair past p (Some b) → is_kept h past (plain_transfer b.read) ≡ false → may_serve barrier_burst h past p ≡ false
none-kept h past p b a tells broken = false_from_ne_true (may_serve barrier_burst h past p) (λ may.
    let s = served-pair h past p a may in
    let same : pair_in b ≡ s.pair = Some-injective (pair_in b) s.pair (told-pair h past p (Some b) tells s) in
    let bad : false ≡ true = sym broken ∙ ap (λ (v : Pair). is_kept h past (plain_transfer v.read)) same ∙ s.kept in cc)

-- nor where the port's barrier has to wait
pub none-waiting : (h : Header) (past : Trace) (p : ℕ) (b : Barrier) → IsAccepted h past → AreAnsweredTogether past → BarrierStands past p b → HasToWait past p → may_serve barrier_burst h past p ≡ false
none-waiting h past p b a t stands w = false_from_ne_true (may_serve barrier_burst h past p) (λ may.
    let s = served-pair h past p a may in
    let tells = tells_open past p b stands in
    let same : w.pair ≡ s.pair = Some-injective w.pair s.pair (sym (tells.only w.number w.pair w.there w.undone) ∙ told-pair h past p (open_of b) tells s) in
    let waits : IsWaiting h past p s.pair = record { accepted = a; number = s.number; there = s.there; read_undone = s.undone; write_undone = sym (t p s.number s.pair s.there) ∙ s.undone } in
    let bad : false ≡ true = sym w.held ∙ ap (may_answer past p) same ∙ may-before h past p s.pair waits s.kept in cc)

-- of the pair that isn't complete neither half is, where the halves are answered together
pub open-waits : (h : Header) (past : Trace) (p : ℕ) (b : OpenPair) → IsAccepted h past → AreAnsweredTogether past → TellsOpenPair past p (Some b) → IsWaiting h past p (pair_in b)
open-waits h past p b a t tells =
    let k = tells.there b refl in
    let o = tells.is b refl in
    let same : b.read_answered ≡ b.write_answered = sym o.read ∙ t p k.0 (pair_in b) k.1 ∙ o.write in
    let none = neither b.read_answered b.write_answered same o.open_still in
    record { accepted = a; number = k.0; there = k.1; read_undone = o.read ∙ none.0; write_undone = o.write ∙ none.1 }
  where
    neither : (a b : Bool) → a ≡ b → (a && b) ≡ false → (a ≡ false) × (b ≡ false)
    neither true true same still = cc
    neither true false same still = cc
    neither false true same still = cc
    neither false false same still = (refl, refl)
