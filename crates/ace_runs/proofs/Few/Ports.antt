-- What each port does for its operations: so many transactions, silent transitions and acts for each.
use Rattle.std.proofs.Common.{◌≡◌, ℕ, ◌+◌, ◌<◌, Bool, true, false, not, ◌&&◌, ◌==◌, nat_lt, if◌then◌else◌, List, [], ◌∷◌, length, Some, None, is_some, unwrap_or, refl, sym, subst, inl, inr, length-append}
use Rattle.std.proofs.lemmas.Bool.{and_parts, cases_Bool, eqb-true, eq-eqb, ne_eqb, ltb-true}
use Rattle.std.proofs.lemmas.Option.{slice_get_within}
use Rattle.ace_event.specs.declared.event.Channel.TheVariants.{Read, Write}
use Rattle.ace_event.specs.declared.event.Event.{Event}
use Rattle.ace_event.specs.declared.event.Event.TheVariants.{Ar, Aw, S, Op}
use Rattle.ace_event.specs.declared.event.Outcome.{Outcome}
use Rattle.ace_model.specs.declared.transactions.Transaction.{Transaction}
use Rattle.ace_model.specs.Trace.{Trace, port_of, more}
use Rattle.ace_model.specs.Messages.{is_dvm_completion}
use Rattle.ace_model.specs.OrderRules.{retired}
use Rattle.ace_model.specs.Plans.{Plan}
use Rattle.ace_model.proofs.General.Options.{some_is, is_some_and-is}
use Rattle.ace_runs.specs.Operations.{operations_of, next_operation}
use Rattle.ace_runs.specs.Segments.{segment, silent_moves}
use Rattle.ace_runs.specs.Retiring.{may_retire}
use Rattle.ace_runs.specs.Follows.{obeys, retires_well, acts_well, carries_data, answers_well, has_room_after, FollowsSoFar}
use Rattle.ace_runs.specs.Lean.{is_one_of_three, is_on_named_line, IsLean}
use Rattle.ace_runs.specs.Counts.{counted, issues_for_operation, is_silent}
use Rattle.ace_runs.proofs.Few.Paces.{IsPaced, paced_start, paced_more, paced_retire}

-- the port of an event, 0 for a MEM
abbrev pub port_or_zero : Event → ℕ
port_or_zero e = unwrap_or (port_of e) 0

-- the event passes the test, and is one of the port
abbrev pub at_port : (Event → Bool) → ℕ → Event → Bool
at_port test p e = test e && (port_or_zero e == p)

-- an operation that is next is one of the port's
pub next-within : (plan : Plan) (past : Trace) (p : ℕ) → is_some (next_operation plan past p) ≡ true → retired past p < length (operations_of plan p)
next-within plan past p there =
    let op = some_is (next_operation plan past p) there in slice_get_within (operations_of plan p) (retired past p) op.0 op.1

-- what retires is one of them
pub retires-within : (plan : Plan) (past : Trace) (p k : ℕ) (res : Outcome) → obeys plan past (Op p k res) ≡ true → retired past p < length (operations_of plan p)
retires-within plan past p k res o =
    let e = Op p k res in
    let a = and_parts (retires_well plan past e && acts_well plan past e && carries_data plan past e && answers_well plan past e) (has_room_after plan past e) o in
    let b = and_parts (retires_well plan past e && acts_well plan past e && carries_data plan past e) (answers_well plan past e) a.0 in
    let c = and_parts (retires_well plan past e && acts_well plan past e) (carries_data plan past e) b.0 in
    let d = and_parts (retires_well plan past e) (acts_well plan past e) c.0 in
    let op = is_some_and-is (next_operation plan past p) (λ op. may_retire plan.header past p op res) d.0 in
    slice_get_within (operations_of plan p) (retired past p) op.0 op.1

-- ---- transactions ------------------------------------------------------------------------------------

-- of the port: how many transactions it has issued for operations
abbrev pub ThreeEach : Plan → Trace → ℕ → Type 0
ThreeEach plan past p =
    IsPaced 3 (counted (at_port issues_for_operation p) past) (length (segment past p)) (retired past p) (length (operations_of plan p))

-- a port issues a transaction, or another does
grown : (same c : Bool) (count r n : ℕ) (xs : List Transaction) (x : Transaction) → IsPaced 3 count (length xs) r n
    → (same ≡ true → c ≡ false → (length xs < 3) × (r < n))
    → IsPaced 3 (if not c && same then count + 1 else count) (length (more xs (if same && not c then Some x else None))) r n
grown true true count r n xs x i room = i
grown true false count r n xs x i room = let s = room refl refl in rw (length-append xs (x ∷ [])) (paced_more 3 count (length xs) r n i s.0 s.1)
grown false true count r n xs x i room = i
grown false false count r n xs x i room = i

-- what leanness says of a transaction that is no DVM Complete
room_for : (plan : Plan) (past : Trace) (x : Transaction) (p : ℕ) → is_one_of_three plan past x ≡ true → (x.port == p) ≡ true → is_dvm_completion x ≡ false
    → (length (segment past p) < 3) × (retired past p < length (operations_of plan p))
room_for plan past x p lean same other =
    let three : (is_some (next_operation plan past x.port) && nat_lt (length (segment past x.port)) 3) ≡ true = rw other at lean in
    let here : (is_some (next_operation plan past p) && nat_lt (length (segment past p)) 3) ≡ true =
    subst (λ q. (is_some (next_operation plan past q) && nat_lt (length (segment past q)) 3) ≡ true) (eqb-true x.port p same) three in
    let parts = and_parts (is_some (next_operation plan past p)) (nat_lt (length (segment past p)) 3) here in
    (ltb-true (length (segment past p)) 3 parts.1, next-within plan past p parts.0)

issue : (plan : Plan) (past : Trace) (x : Transaction) (p : ℕ) (two : Bool) → ((is_one_of_three plan past x && is_on_named_line plan x) && two) ≡ true → ThreeEach plan past p
    → IsPaced 3 (if not (is_dvm_completion x) && (x.port == p) then counted (at_port issues_for_operation p) past + 1 else counted (at_port issues_for_operation p) past)
    (length (more (segment past p) (if (x.port == p) && not (is_dvm_completion x) then Some x else None))) (retired past p) (length (operations_of plan p))
issue plan past x p two lean i =
    let a = and_parts (is_one_of_three plan past x && is_on_named_line plan x) two lean in
    let b = and_parts (is_one_of_three plan past x) (is_on_named_line plan x) a.0 in
    grown (x.port == p) (is_dvm_completion x) (counted (at_port issues_for_operation p) past) (retired past p) (length (operations_of plan p)) (segment past p) x i
    (λ same other. room_for plan past x p b.0 same other)

pub three-each : (plan : Plan) (past : Trace) (p : ℕ) → FollowsSoFar plan past → IsLean plan past → ThreeEach plan past p
three-each plan [] p f l = paced_start 3 (length (operations_of plan p))
three-each plan (Op q k res ∷ past) p f l =
    let i = three-each plan past p f.0 l.0 in
    elim (cases_Bool (p == q)) [
      | inr n ↦ rw n i
      | inl t ↦
          let next : retired past p < length (operations_of plan p) =
          subst (λ r. retired past r < length (operations_of plan r)) (sym (eqb-true p q t)) (retires-within plan past q k res f.1) in
          rw t (paced_retire 3 (counted (at_port issues_for_operation p) past) (length (segment past p)) (retired past p) (length (operations_of plan p)) i next)
    ]
three-each plan (Ar q j addr snoop dom bar lock ∷ past) p f l =
    issue plan past (record { place = length past; port = q; chan = Read; id = j; addr = addr; snoop = snoop; dom = dom; bar = bar; lock = lock })
    p true l.1 (three-each plan past p f.0 l.0)
three-each plan (Aw q j addr snoop dom bar ∷ past) p f l =
    issue plan past (record { place = length past; port = q; chan = Write; id = j; addr = addr; snoop = snoop; dom = dom; bar = bar; lock = false })
    p true l.1 (three-each plan past p f.0 l.0)
three-each plan (_ ∷ past) p f l = three-each plan past p f.0 l.0

-- ---- silent transitions ------------------------------------------------------------------------------

abbrev pub TwoEach : Plan → Trace → ℕ → Type 0
TwoEach plan past p =
    IsPaced 2 (counted (at_port is_silent p) past) (silent_moves past p) (retired past p) (length (operations_of plan p))

pub two-each : (plan : Plan) (past : Trace) (p : ℕ) → FollowsSoFar plan past → IsLean plan past → TwoEach plan past p
two-each plan [] p f l = paced_start 2 (length (operations_of plan p))
two-each plan (Op q k res ∷ past) p f l =
    let i = two-each plan past p f.0 l.0 in
    elim (cases_Bool (p == q)) [
      | inr n ↦ rw n i
      | inl t ↦
          let next : retired past p < length (operations_of plan p) =
          subst (λ r. retired past r < length (operations_of plan r)) (sym (eqb-true p q t)) (retires-within plan past q k res f.1) in
          rw t (paced_retire 2 (counted (at_port is_silent p) past) (silent_moves past p) (retired past p) (length (operations_of plan p)) i next)
    ]
two-each plan (S q addr st ∷ past) p f l =
    let i = two-each plan past p f.0 l.0 in
    elim (cases_Bool (p == q)) [
      | inr n ↦
          let other : (q == p) ≡ false = ne_eqb q p (λ same. let back = eq-eqb p q (sym same) in cc) in rw (n, other) i
      | inl t ↦
          let same = eqb-true p q t in
          let back : (q == p) ≡ true = eq-eqb q p (sym same) in
          let here : (is_some (next_operation plan past p) && nat_lt (silent_moves past p) 2) ≡ true =
          subst (λ r. (is_some (next_operation plan past r) && nat_lt (silent_moves past r) 2) ≡ true) (sym same) l.1 in
          let parts = and_parts (is_some (next_operation plan past p)) (nat_lt (silent_moves past p) 2) here in
          rw (t, back)
          (paced_more 2 (counted (at_port is_silent p) past) (silent_moves past p) (retired past p) (length (operations_of plan p)) i
          (ltb-true (silent_moves past p) 2 parts.1) (next-within plan past p parts.0))
    ]
two-each plan (_ ∷ past) p f l = two-each plan past p f.0 l.0
