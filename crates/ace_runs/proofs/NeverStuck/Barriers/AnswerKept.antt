-- The R and the B of a barrier that isn't complete break no rule, where no line transaction of its port is outstanding: they are a step of the port.
use Rattle.std.proofs.Common.{◌≡◌, ℕ, true, false, not, ◌&&◌, ◌==◌, if◌then◌else◌, List, [], ◌∷◌, length, Some, slice_get, inl, inr, refl, sym, ap, subst, ◌∙◌, arith}
use Rattle.std.proofs.lemmas.Bool.{and_from, or_left, eq-eqb, false_from_ne_true}
use Rattle.ace_event.specs.declared.event.Channel.TheVariants.{Read, Write}
use Rattle.ace_event.specs.declared.event.Event.{Event}
use Rattle.ace_event.specs.declared.event.Event.TheVariants.{B}
use Rattle.ace_event.specs.declared.header.Header.{Header}
use Rattle.ace_model.specs.declared.transactions.Transaction.{Transaction}
use Rattle.ace_model.specs.Accepted.{IsAccepted}
use Rattle.ace_model.specs.AddressRules.{k1}
use Rattle.ace_model.specs.Barriers.{Pair, barriers, is_barrier_half, may_answer, number_of, pair_of, pairs}
use Rattle.ace_model.specs.OrderRules.{k34, may_answer_half}
use Rattle.ace_model.specs.Plans.{Plan}
use Rattle.ace_model.specs.Progress.{is_completed}
use Rattle.ace_model.specs.Trace.{Trace, at_point, implies, is_none_or, is_some_and}
use Rattle.ace_model.specs.Transactions.{ended, is_complete, is_outstanding, outstanding}
use Rattle.ace_model.specs.WriteRules.{k26, may_respond}
use Rattle.ace_model.specs.Writes.{has_memory_write}
use Rattle.ace_model.proofs.Barriers.Pairs.{barriers-half, is_barrier_of-is}
use Rattle.ace_model.proofs.Outstanding.Names.{complete_by_name}
use Rattle.ace_model.proofs.Trace.Growth.{IsIssued, at_point-before, issued-cases, some_issued-found}
use Rattle.ace_model.proofs.Trace.Issued.{outstanding-named}
use Rattle.ace_model.proofs.Trace.LineOnce.{outstanding_is}
use Rattle.ace_model.proofs.Trace.Looks.{without-other}
use Rattle.ace_model.proofs.Trace.Outstanding.{ends_lite, write_apart}
use Rattle.ace_runs.specs.Bursts.{are_kept, is_kept, may_begin, may_serve, serves}
use Rattle.ace_runs.specs.OrderSteps.{barrier_burst, pair_burst, plain_transfer}
use Rattle.ace_runs.specs.SameEvents.{same_burst}
use Rattle.ace_runs.specs.Steps.{AreSteps, is_sound, is_step_by}
use Rattle.ace_runs.proofs.Accepting.{kept-breaks-none}
use Rattle.ace_runs.proofs.Turns.{steps-accepted}
use Rattle.ace_runs.proofs.NeverStuck.Updates.EvictsMove.{response-kept}
use Rattle.ace_runs.proofs.NeverStuck.Reads.TransfersKept.{implied_by}
use Rattle.ace_model.proofs.Trace.IssuedTransactions.{issuer-low}
use Rattle.ace_runs.proofs.NeverStuck.Barriers.Answered.{ReadAnswered, read-answered}
use Rattle.ace_runs.proofs.NeverStuck.Barriers.BothAnswered.{halves-together, undone-outstanding}
use Rattle.ace_runs.proofs.NeverStuck.Barriers.Halves.{half-dataless}
use Rattle.ace_runs.proofs.NeverStuck.Barriers.OfNext.{was-outstanding}
use Rattle.ace_runs.proofs.NeverStuck.Barriers.OpenPairs.{HasNoLine, IsOpen, may-be-answered, open-pair, pair-is, paired-at}
use Rattle.ace_runs.proofs.NeverStuck.Barriers.Together.{AreTogether, half-in}

module _ (h : Header) (past : Trace) (p : ℕ) (x y : Transaction) (a : IsAccepted h past) (t : AreTogether past) (none : HasNoLine h past p) (o : IsOpen past p x y) where
  abbrev first : Event
  first = plain_transfer x

  abbrev after : Trace
  after = first ∷ past

  read : ReadAnswered h past p x
  read = read-answered h past p x y a none o

  accepted : IsAccepted h after
  accepted = (a, kept-breaks-none h past first read.kept)

  there : IsIssued past y
  there = (half-in past p Write o.number y o.second).0

  half : is_barrier_half y ≡ true
  half = (half-in past p Write o.number y o.second).1

  port : y.port ≡ p
  port = (is_barrier_of-is y p Write (barriers-half past p Write o.number y o.second).barrier).port

  chan : y.chan ≡ Write
  chan = (is_barrier_of-is y p Write (barriers-half past p Write o.number y o.second).barrier).chan

  undone : is_completed past y ≡ false
  undone = sym (t.both p o.number x y o.first o.second) ∙ o.undone

  own : outstanding h past y.port y.chan y.id ≡ Some y
  own = outstanding_is h past y there (undone-outstanding h past y a there undone)

  out : outstanding h past y.port Write y.id ≡ Some y
  out = subst (λ c. outstanding h past y.port c y.id ≡ Some y) chan own

  -- the R ends no write
  still-out : outstanding h after y.port Write y.id ≡ Some y
  still-out =
      without-other (ended h past first) (outstanding h past y.port Write y.id) y out (λ z ends same.
      let of = (ends_lite h past x.port x.id 0 true 0 z ends).1 in
      write_apart past x.port y.port x.id y.id z y of (outstanding-named h past y.port Write y.id y out) (sym same))

  incomplete : is_complete after y.port y.chan y.id ≡ false
  incomplete =
      let before : is_complete past y.port y.chan y.id ≡ false = complete_by_name past y.port y.chan y.id y (outstanding-named h past y.port y.chan y.id y own) ∙ undone in
      let there_write : is_complete past y.port Write y.id ≡ false = subst (λ c. is_complete past y.port c y.id ≡ false) chan before in
      let now : is_complete after y.port Write y.id ≡ false = there_write in
      subst (λ c. is_complete after y.port c y.id ≡ false) (sym chan) now

  may-respond : may_respond after y ≡ true
  may-respond =
      and_from _ _ (ap not incomplete) (ap (λ b. implies b (has_memory_write after y.port y.chan y.id)) (half-dataless y half))

  -- no line transaction is outstanding after the R
  none-after : HasNoLine h after p
  none-after z i line at =
      elim (issued-cases first past z i) [
        | inl new ↦ cc
        | inr old ↦ false_from_ne_true (is_outstanding h after z) (λ out_after.
            let was = was-outstanding h past first z old out_after in
            let ended = none z old line at in cc)
      ]

  write-pair : pair_of after y ≡ Some (record { read = x; write = y })
  write-pair =
      let low = there.before in
      let point = at_point-before first past y.place (omega (arith, low)) in
      let number : number_of after y ≡ o.number =
      ap (λ (s : Trace). length (barriers s y.port y.chan)) point ∙ ap (λ q. length (barriers (at_point y.place past) q y.chan)) port
      ∙ ap (λ c. length (barriers (at_point y.place past) p c)) chan ∙ (barriers-half past p Write o.number y o.second).number in
      ap (λ q. slice_get (pairs past q) (number_of after y)) port ∙ ap (slice_get (pairs past p)) number
      ∙ paired-at (barriers past p Read) (barriers past p Write) o.number x y o.first o.second

  -- the B breaks no rule after the R
  response-is-kept : is_kept h after (B y.port y.id 0) ≡ true
  response-is-kept =
      let b : Pair = record { read = x; write = y } in
      let may : may_answer after y.port b ≡ true = ap (λ q. may_answer after q b) port ∙ may-be-answered h after p b accepted none-after in
      let answer : is_some_and (pair_of after y) (may_answer after y.port) ≡ true = ap (λ v. is_some_and v (may_answer after y.port)) write-pair ∙ may in
      let order : may_answer_half after y ≡ true = implied_by (is_barrier_half y) (is_some_and (pair_of after y) (may_answer after y.port)) (λ s. answer) in
      let one : k1 h after (B y.port y.id 0) ≡ true = and_from _ _ (issuer-low h past y a there) refl in
      let twenty_six : k26 h after (B y.port y.id 0) ≡ true = ap (λ v. is_some_and v (may_respond after)) still-out ∙ may-respond in
      let thirty_four : k34 h after (B y.port y.id 0) ≡ true = ap (λ v. is_none_or v (may_answer_half after)) still-out ∙ order in
      response-kept h after y.port y.id one twenty_six thirty_four

  answers-kept : are_kept h past (first ∷ B y.port y.id 0 ∷ []) ≡ true
  answers-kept = and_from _ _ read.kept (and_from _ _ response-is-kept refl)

-- ---- the step ----------------------------------------------------------------------------------------

same-answers : (p i q j : ℕ) → (((((p == p) && (i == i)) && (0 == 0)) && true) && (0 == 0) && ((((q == q) && (j == j)) && (0 == 0)) && true)) ≡ true
same-answers p i q j = rw (eq-eqb p p refl, eq-eqb i i refl, eq-eqb q q refl, eq-eqb j j refl) refl

open-step : (plan : Plan) (past : Trace) (p : ℕ) (x y : Transaction) → IsAccepted plan.header past → AreTogether past → HasNoLine plan.header past p → IsOpen past p x y
    → is_step_by (10 ∷ []) plan past p (plain_transfer x ∷ B y.port y.id 0 ∷ []) ≡ true
open-step plan past p x y a t none o =
    let h = plan.header in
    let burst = plain_transfer x ∷ B y.port y.id 0 ∷ [] in
    let r = read-answered h past p x y a none o in
    let pair = pair-is past p x y o in
    let gives : barrier_burst h past x ≡ burst = ap (λ v. if v then pair_burst (pair_of past x) else []) r.reads ∙ ap pair_burst pair in
    let begins : may_begin h past (barrier_burst h past x) ≡ true = ap (may_begin h past) gives ∙ r.kept in
    let same : same_burst (barrier_burst h past x) burst ≡ true = ap (λ v. same_burst v burst) gives ∙ same-answers x.port x.id y.port y.id in
    let mine : ((x.port == p) && is_outstanding h past x) ≡ true = and_from _ _ (eq-eqb x.port p r.port) r.out in
    let may : may_serve barrier_burst h past p ≡ true =
    some_issued-found past (λ z. (z.port == p) && is_outstanding h past z && may_begin h past (barrier_burst h past z)) x.place x r.there.there (and_from _ _ mine begins) in
    let served : serves barrier_burst h past p burst ≡ true =
    some_issued-found past (λ z. (z.port == p) && is_outstanding h past z && same_burst (barrier_burst h past z) burst) x.place x r.there.there (and_from _ _ mine same) in
    let sound : is_sound h past burst ≡ true = answers-kept h past p x y a t none o in
    and_from _ _ sound (or_left (may_serve barrier_burst h past p && serves barrier_burst h past p burst) _ (and_from _ _ may served))

-- Where no line transaction of its port is outstanding, the R and the B of a barrier that isn't complete are a step of the port.
pub barrier-step : (plan : Plan) (past : Trace) (x : Transaction) → AreSteps plan past → IsIssued past x → is_barrier_half x ≡ true → is_completed past x ≡ false
    → HasNoLine plan.header past x.port → (burst : List Event) × (is_step_by (10 ∷ []) plan past x.port burst ≡ true)
barrier-step plan past x s i half undone none =
    let t = halves-together plan past s in
    let o = open-pair past x t i half undone in
    (plain_transfer o.0 ∷ B o.1.port o.1.id 0 ∷ [], open-step plan past x.port o.0 o.1 (steps-accepted plan past s) t none o.2)
