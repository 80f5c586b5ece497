-- Each event of a run of a right plan is in range, where it has the widths of its fields' types.
use Rattle.std.proofs.Common.{◌≡◌, ◌<◌, ◌≤◌, ℕ, Bool, true, false, ◌&&◌, ◌==◌, ◌^◌, nat_le, [], ◌∷◌, length, filter, slice_get, Some, inl, inr, refl, sym, subst, arith}
use Rattle.std.specs.List.{AllByRecursion, list_all}
use Rattle.std.proofs.lemmas.Bool.{and_from, and_parts, cases_Bool, eqb-true, leb-true, ltb-true}
use Rattle.std.proofs.lemmas.List.{length-map}
use Rattle.std.proofs.lemmas.List.Sums.{count_by-le-length, length-filter}
use Rattle.ace_event.specs.declared.event.Channel.{Channel}
use Rattle.ace_event.specs.declared.event.Channel.TheVariants.{Read, Write}
use Rattle.ace_event.specs.declared.event.Event.{Event}
use Rattle.ace_event.specs.declared.event.Event.TheVariants as event
use Rattle.ace_event.specs.declared.event.Outcome.{Outcome}
use Rattle.ace_event.specs.Range.{InRange}
use Rattle.ace_tables.specs.Answers.{same_test}
use Rattle.ace_model.specs.declared.plans.Op.{Op}
use Rattle.ace_model.specs.declared.plans.Op.TheVariants.{Ld, Ldx}
use Rattle.ace_model.specs.declared.plans.PlanOp.{PlanOp}
use Rattle.ace_model.specs.declared.transactions.Transaction.{Transaction}
use Rattle.ace_model.specs.Accepted.{IsAccepted}
use Rattle.ace_model.specs.AddressRules.{may_issue_read, may_issue_write}
use Rattle.ace_model.specs.OrderRules.{retired}
use Rattle.ace_model.specs.Plans.{IsRight, Plan, has_right_fields}
use Rattle.ace_model.specs.Trace.{Trace, implies, is_some_and, port_of}
use Rattle.ace_model.specs.Transactions.{outstanding}
use Rattle.ace_model.specs.WriteRules.{may_respond}
use Rattle.ace_model.proofs.General.Lists.{list_all-at}
use Rattle.ace_model.proofs.General.Options.{is_some_and-is}
use Rattle.ace_model.proofs.Rules.Keeps.{accepted_keeps}
use Rattle.ace_runs.specs.Acts.{acts_of, is_load}
use Rattle.ace_runs.specs.Follows.{FollowsSoFar, acts_well, answers_well, carries_data, has_room_after, obeys, retires_well}
use Rattle.ace_runs.specs.Operations.{next_operation, operations_of}
use Rattle.ace_runs.specs.Ranges.{FitsTypes, IsWritable}
use Rattle.ace_runs.specs.Segments.{acts_made}
use Rattle.ace_runs.specs.Steps.{AreSteps}
use Rattle.ace_runs.proofs.Turns.{steps-accepted}
use Rattle.ace_runs.proofs.Few.KnownLines.{each-names-port}
use Rattle.ace_runs.proofs.Few.Ports.{retires-within}
use Rattle.ace_runs.proofs.NeverStuck.Operations.Lines.OfPlan.{next-planned}
use Rattle.ace_runs.proofs.Range.Codes.{known-read, known-snoop, known-write, response-low}
use Rattle.ace_runs.proofs.Range.FewPorts.{few-ports, port-low}
use Rattle.ace_runs.proofs.Range.LowSteps.{are_low, is_low, low-run, name-low}

-- ---- loads -------------------------------------------------------------------------------------------

module _ (p a w : ℕ) (x : Bool) (word : ℕ) where
  -- where the test of an act passes for the load, its word is one of the four
  abbrev is_of_four : (Event → Bool) → Bool
  is_of_four fits = implies (fits (event.L p a w x word)) (nat_le w 3)

  load-of-four : (b v : ℕ) (y : Bool) → nat_le v 3 ≡ true → is_of_four (is_load b v y) ≡ true
  load-of-four b v y low =
      elim (cases_Bool (is_load b v y (event.L p a w x word))) [
        | inr f ↦ rw f refl
        | inl t ↦
            let same = eqb-true w v (and_parts (a == b) (w == v) (and_parts ((a == b) && (w == v)) (same_test y x) t).0).1 in
            rw t (subst (λ n. nat_le n 3 ≡ true) (sym same) low)
      ]

  acts-of-four : (o : Op) → has_right_fields o ≡ true → list_all is_of_four (acts_of o) ≡ true
  acts-of-four (Ld b v) right = and_from _ _ (load-of-four b v false right) refl
  acts-of-four (Ldx b v) right = and_from _ _ (load-of-four b v true right) refl
  acts-of-four o right = refl

  load-word : (plan : Plan) (past : Trace) → IsRight plan → obeys plan past (event.L p a w x word) ≡ true → w ≤ 3
  load-word plan past right o =
      let e = event.L p a w x word in
      let rooms = and_parts (retires_well plan past e && acts_well plan past e && carries_data plan past e && answers_well plan past e) (has_room_after plan past e) o in
      let answers = and_parts (retires_well plan past e && acts_well plan past e && carries_data plan past e) (answers_well plan past e) rooms.0 in
      let carries = and_parts (retires_well plan past e && acts_well plan past e) (carries_data plan past e) answers.0 in
      let acts = and_parts (retires_well plan past e) (acts_well plan past e) carries.0 in
      let op = is_some_and-is (next_operation plan past p) (λ op. is_some_and (slice_get (acts_of op) (acts_made past p)) (λ fits. fits e)) acts.1 in
      let fits = is_some_and-is (slice_get (acts_of op.0) (acts_made past p)) (λ fits. fits e) op.2 in
      let all = acts-of-four op.0 (next-planned plan past p op.0 right op.1).fields in
      let one : implies (fits.0 e) (nat_le w 3) ≡ true = list_all-at is_of_four (acts_of op.0) (acts_made past p) fits.0 all fits.1 in
      leb-true w 3 (rw fits.2 at one)

-- ---- numbers of operations ---------------------------------------------------------------------------

few-of-port : (plan : Plan) (p : ℕ) → length (operations_of plan p) ≤ length plan.operations
few-of-port plan p =
    let same = length-map (filter (λ (o : PlanOp). o.port == p) plan.operations) (λ (o : PlanOp). o.op) in
    let counted = length-filter (λ (o : PlanOp). o.port == p) plan.operations in
    let few = count_by-le-length (λ (o : PlanOp). o.port == p) plan.operations in
    omega (arith, same, counted, few)

operation-number : (plan : Plan) (past : Trace) (p k : ℕ) (res : Outcome) → IsRight plan → (k == retired past p) ≡ true → obeys plan past (event.Op p k res) ≡ true → k < 2 ^ 16
operation-number plan past p k res right number o =
    let same = eqb-true k (retired past p) number in
    let within = retires-within plan past p k res o in
    let few = few-of-port plan p in
    let most = right.few in
    omega (arith, same, within, few, most)

-- ---- each event --------------------------------------------------------------------------------------

module _ (plan : Plan) (past : Trace) (right : IsRight plan) where
  port : (e : Event) (p : ℕ) → IsAccepted plan.header (e ∷ past) → port_of e ≡ Some p → p < 16
  port e p a is = port-low plan.header past e p (few-ports plan.header right.header right.version) (accepted_keeps plan.header past e a).rule_1 is

  name : (p : ℕ) (c : Channel) (i : ℕ) (test : Transaction → Bool) → are_low past ≡ true → is_some_and (outstanding plan.header past p c i) test ≡ true → i < 16
  name p c i test low is = let x = is_some_and-is (outstanding plan.header past p c i) test is in name-low plan.header past p c i x.0 low x.1

  in-range : (e : Event) → IsAccepted plan.header (e ∷ past) → obeys plan past e ≡ true → are_low past ≡ true → is_low e ≡ true → FitsTypes e → InRange 1 e
  in-range (event.Ar p i addr snoop dom bar lock) a o before low fits =
      let e = event.Ar p i addr snoop dom bar lock in
      let codes = known-read snoop dom bar (may_issue_read plan.header p) (accepted_keeps plan.header past e a).rule_2 in
      let code = codes.low_code in
      (port e p a refl, ltb-true i 16 low, fits.1, omega (arith, code), codes.low_dom, codes.low_bar)
  in-range (event.Aw p i addr snoop dom bar) a o before low fits =
      let e = event.Aw p i addr snoop dom bar in
      let codes = known-write snoop dom bar (may_issue_write plan.header p) (accepted_keeps plan.header past e a).rule_2 in
      (port e p a refl, ltb-true i 16 low, fits.1, codes.low_code, codes.low_dom, codes.low_bar)
  in-range (event.R p i resp last word) a o before low fits =
      let e = event.R p i resp last word in
      (port e p a refl, name p Read i _ before (accepted_keeps plan.header past e a).rule_18, ltb-true resp 16 low, fits.0)
  in-range (event.B p i resp) a o before low fits =
      let e = event.B p i resp in
      let responds = and_parts (resp == 0) (is_some_and (outstanding plan.header past p Write i) (may_respond past)) (accepted_keeps plan.header past e a).rule_26 in
      let okay = eqb-true resp 0 responds.0 in
      (port e p a refl, name p Write i (may_respond past) before responds.1, omega (arith, okay))
  in-range (event.G p c i) a o before low fits =
      let e = event.G p c i in (port e p a refl, name p c i _ before (accepted_keeps plan.header past e a).rule_12)
  in-range (event.M p c i line) a o before low fits =
      let e = event.M p c i line in (port e p a refl, name p c i _ before (accepted_keeps plan.header past e a).rule_24, fits.0)
  in-range (event.Ac p addr snoop) a o before low fits =
      let e = event.Ac p addr snoop in (port e p a refl, fits.1, known-snoop snoop (accepted_keeps plan.header past e a).rule_2)
  in-range (event.Cr p resp st) a o before low fits = (port (event.Cr p resp st) p a refl, response-low plan.header past p resp st a)
  in-range (event.L p addr w x word) a o before low fits =
      (port (event.L p addr w x word) p a refl, fits.1, load-word p addr w x word plan past right o, fits.0)
  in-range (event.D p addr strobe x line) a o before low fits = (port (event.D p addr strobe x line) p a refl, fits.1, fits.0.0, fits.0.1)
  in-range (event.Op p k res) a o before low fits =
      let e = event.Op p k res in
      (port e p a refl, operation-number plan past p k res right (accepted_keeps plan.header past e a).rule_40 o)
  in-range (event.W p strb last word) a o before low fits = (port (event.W p strb last word) p a refl, fits.0.0, fits.0.1)
  in-range (event.Cd p last word) a o before low fits = (port (event.Cd p last word) p a refl, fits.0)
  in-range (event.S p addr st) a o before low fits = (port (event.S p addr st) p a refl, fits.1)
  in-range (event.Rk p st) a o before low fits = port (event.Rk p st) p a refl
  in-range (event.Wk p st) a o before low fits = port (event.Wk p st) p a refl
  in-range (event.Mem addr line) a o before low fits =
      let names = each-names-port plan.header past (event.Mem addr line) right.version a in cc

-- ---- all events --------------------------------------------------------------------------------------

all-writable : (plan : Plan) (past : Trace) → IsRight plan → IsAccepted plan.header past → FollowsSoFar plan past → are_low past ≡ true
    → AllByRecursion (IsWritable plan.header.version) past
all-writable plan [] right a f low = tt
all-writable plan (e ∷ past) right a f low =
    let parts = and_parts (is_low e) (are_low past) low in
    ((λ fits. subst (λ v. InRange v e) (sym right.version) (in-range plan past right e a f.1 parts.1 parts.0 fits)), all-writable plan past right a.0 f.0 parts.1)

pub run-writable : (plan : Plan) (past : Trace) → IsRight plan → AreSteps plan past → FollowsSoFar plan past → AllByRecursion (IsWritable plan.header.version) past
run-writable plan past right s f = all-writable plan past right (steps-accepted plan past s) f (low-run plan past s)
