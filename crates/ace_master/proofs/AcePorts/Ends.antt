-- The next operation of an ACE port that ends without asking for anything: what ends it is a step.
use Rattle.std.proofs.Common.{◌≡◌, ℕ, suc, Bool, true, false, not, ◌&&◌, ◌||◌, ◌==◌, if◌then◌else◌, nat_le, List, [], ◌∷◌, length, slice_get, Option, Some, flat_map, refl, sym, ap, subst, ◌∙◌, le-leb, leb-true, eqb-true, arith}
use Rattle.std.specs.List.{list_all, list_any}
use Rattle.std.specs.Option.{option_to_list}
use Rattle.std.proofs.lemmas.Bool.{and_from, and_parts, eq-eqb, false_from_ne_true, ne_eqb, or_left}
use Rattle.ace_codes.specs.declared.kind.ArKind.{ArKind}
use Rattle.ace_codes.specs.declared.kind.ArKind.TheVariants as read
use Rattle.ace_event.specs.declared.event.Event.{Event}
use Rattle.ace_event.specs.declared.event.Event.TheVariants.{Ar, Aw, W, Cr, Cd}
use Rattle.ace_event.specs.declared.header.Header.{Header}
use Rattle.ace_model.specs.declared.plans.Op.{Op}
use Rattle.ace_model.specs.declared.plans.Op.TheVariants.{Stx}
use Rattle.ace_model.specs.declared.transactions.Transaction.{Transaction}
use Rattle.ace_model.specs.Kinds.{is_clean_unique, is_line_read}
use Rattle.ace_model.specs.Plans.{Plan, line_named}
use Rattle.ace_model.specs.Progress.{updates_memory}
use Rattle.ace_model.specs.Trace.{Trace, is_some_and}
use Rattle.ace_model.specs.Transactions.{has_outstanding_on, is_ace, is_exclusive_store, is_outstanding, is_outstanding_on, read_kind}
use Rattle.ace_model.proofs.General.Options.{is_some_and-is}
use Rattle.ace_model.proofs.General.Lists.{any-left, any-right}
use Rattle.ace_model.proofs.Trace.Growth.{some_issued-found}
use Rattle.ace_runs.specs.Acts.{is_act_transaction}
use Rattle.ace_runs.specs.Bursts.{are_kept, onto}
use Rattle.ace_runs.specs.Closing.{closing_of}
use Rattle.ace_runs.specs.MasterSteps.{completion_bursts, goes_on, may_go_on, moves}
use Rattle.ace_runs.specs.Operations.{next_operation}
use Rattle.ace_runs.specs.Requests.{awaits_update, ends_or_asks, is_waiting, moves_of}
use Rattle.ace_runs.specs.Retiring.{has_failed_store, was_refused}
use Rattle.ace_runs.specs.SameEvents.{same_burst}
use Rattle.ace_runs.specs.Segments.{acts_made, segment}
use Rattle.ace_runs.specs.Steps.{is_sound, is_step_by}
use Rattle.ace_runs.proofs.NeverStuck.Operations.Kept.ClosingKept.{closing-kept, closing-short}
use Rattle.ace_runs.proofs.NeverStuck.Operations.Lines.OfPlan.{IsPlanned, next-planned}
use Rattle.ace_runs.proofs.NeverStuck.Operations.SegmentOf.{segment-of}
use Rattle.ace_runs.proofs.NeverStuck.Phases.CalmEvents.{IsOfPort, segment-of-port}
use Rattle.ace_runs.proofs.NeverStuck.Steps.Concluding.{Concludes, closing-all}
use Rattle.ace_runs.proofs.NeverStuck.Steps.SameBursts.{burst-self}
use Rattle.ace_engine.specs.Engines.{IsLegal}
use Rattle.ace_portck.specs.declared.target.WriteData.{WriteData}
use Rattle.ace_master_laws.specs.Chosen.{AreChosen}
use Rattle.ace_master_laws.specs.Orderly.{IsOrderly, owns_line}
use Rattle.ace_master_laws.proofs.Acknowledges.Acknowledging.{kind-on-line, on-line}
use Rattle.ace_master_state.specs.Retiring.{IsToldOf}
use Rattle.ace_master.specs.AcePort.{AceTells}
use Rattle.ace_master.specs.AceEvents.{HaveLowIds}
use Rattle.ace_master.specs.Answering.{AreDataSent}
use Rattle.ace_master.specs.Sending.{UnsentStands}
use Rattle.ace_master.specs.Lite.{own_steps}
use Rattle.ace_master.proofs.AcePorts.Turns.{IsTaken, going-own, taken}
use Rattle.ace_master.proofs.WriteData.UnsentData.{unsent-left}

-- ---- bursts that issue, send and answer nothing ------------------------------------------------------

-- it issues nothing, is no write data and answers no snoop
abbrev pub is_plain : Event → Bool
is_plain (Ar p i addr snoop dom bar lock) = false
is_plain (Aw p i addr snoop dom bar) = false
is_plain (W p strb last word) = false
is_plain (Cr p resp st) = false
is_plain (Cd p last word) = false
is_plain _ = true

pub plain-low : (burst : List Event) → list_all is_plain burst ≡ true → HaveLowIds burst
plain-low [] q = tt
plain-low (Ar p i addr snoop dom bar lock ∷ burst) q = cc
plain-low (e ∷ burst) q = (tt, plain-low burst (and_parts (is_plain e) (list_all is_plain burst) q).1)

pub plain-chosen : (plan : Plan) (burst : List Event) (past : Trace) → list_all is_plain burst ≡ true → AreChosen plan past burst
plain-chosen plan [] past q = tt
plain-chosen plan (W p strb last word ∷ burst) past q = cc
plain-chosen plan (Cr p resp st ∷ burst) past q = cc
plain-chosen plan (e ∷ burst) past q = (refl, plain-chosen plan burst (e ∷ past) (and_parts (is_plain e) (list_all is_plain burst) q).1)

pub plain-answered : (p : ℕ) (burst : List Event) (past : Trace) → list_all is_plain burst ≡ true → AreDataSent past p → AreDataSent (onto burst past) p
plain-answered p [] past q s = s
plain-answered p (Cr r resp st ∷ burst) past q s = cc
plain-answered p (Cd r last word ∷ burst) past q s = cc
plain-answered p (e ∷ burst) past q s = plain-answered p burst (e ∷ past) (and_parts (is_plain e) (list_all is_plain burst) q).1 s

pub plain-unsent : (plan : Plan) (p : ℕ) (unsent : Option WriteData) (burst : List Event) (past : Trace) → list_all is_plain burst ≡ true → UnsentStands plan past p unsent
    → UnsentStands plan (onto burst past) p unsent
plain-unsent plan p unsent [] past q u = u
plain-unsent plan p unsent (Ar r i addr snoop dom bar lock ∷ burst) past q u = cc
plain-unsent plan p unsent (Aw r i addr snoop dom bar ∷ burst) past q u = cc
plain-unsent plan p unsent (W r strb last word ∷ burst) past q u = cc
plain-unsent plan p unsent (e ∷ burst) past q u =
    plain-unsent plan p unsent burst (e ∷ past) (and_parts (is_plain e) (list_all is_plain burst) q).1 (unsent-left plan past p e unsent refl refl u)

-- a step that is such a burst
pub plain-own : (plan : Plan) (past : Trace) (p : ℕ) (burst : List Event) → is_ace plan.header p ≡ true → IsLegal plan past → (operations : List Op) (before : Option WriteData)
    → AceTells plan past p operations before → list_all is_plain burst ≡ true → is_step_by own_steps plan past p burst ≡ true → IsTaken plan past p burst operations before
plain-own plan past p burst ace legal operations before t plain step =
    taken plan past p burst ace legal operations before t before step (plain-chosen plan burst past plain) (plain-low burst plain)
    (plain-answered p burst past plain t.answered) (plain-unsent plan p before burst past plain t.unsent_is)

pub plain-taken : (plan : Plan) (past : Trace) (p : ℕ) (burst : List Event) → is_ace plan.header p ≡ true → IsLegal plan past → (operations : List Op) (before : Option WriteData)
    → AceTells plan past p operations before → list_all is_plain burst ≡ true → is_step_by (14 ∷ []) plan past p burst ≡ true → IsTaken plan past p burst operations before
plain-taken plan past p burst ace legal operations before t plain step =
    plain-own plan past p burst ace legal operations before t plain (going-own plan past p burst step)

pub plain-ends : (p : ℕ) → Concludes p is_plain
plain-ends p = record { reads = λ st. refl; writes = λ st. refl; loads = λ addr w x word. refl; stores = λ addr strobe x line. refl; retires = λ k res. refl }

pub closing-plain : (h : Header) (past : Trace) (p : ℕ) (op : Op) → list_all is_plain (closing_of h past p op) ≡ true
closing-plain h past p op = closing-all p is_plain (plain-ends p) h past op

-- ---- exclusive stores --------------------------------------------------------------------------------

or-none : (a b : Bool) → (a || b) ≡ false → (a ≡ false) × (b ≡ false)
or-none true b f = cc
or-none false b f = (refl, f)

not-shown : (b : Bool) → not b ≡ false → b ≡ true
not-shown true n = refl
not-shown false n = cc

-- an operation that doesn't wait has made no act, and its line is free
pub goes-free : (h : Header) (past : Trace) (p : ℕ) (op : Op) → is_waiting h past p op ≡ false → (is_some_and (line_named op) (has_outstanding_on h past p) ≡ false) × (acts_made past p ≡ 0)
goes-free h past p op goes =
    let outer = or-none (is_some_and (line_named op) (has_outstanding_on h past p) || awaits_update h past p) (not (acts_made past p == 0)) goes in
    let inner = or-none (is_some_and (line_named op) (has_outstanding_on h past p)) (awaits_update h past p) outer.0 in
    (inner.0, eqb-true (acts_made past p) 0 (not-shown (acts_made past p == 0) outer.1))

pub any-none : (test : Transaction → Bool) (xs : List Transaction) → ((k : ℕ) (y : Transaction) → slice_get xs k ≡ Some y → test y ≡ true → ⊥) → list_any test xs ≡ false
any-none test [] none = refl
any-none test (x ∷ xs) none =
    let first = false_from_ne_true (test x) (λ t. none 0 x refl t) in rw first (any-none test xs (λ k y there t. none (suc k) y there t))

unsettled : (a u o : Bool) → a ≡ false → ((a || (u && false)) || (o && false)) ≡ true → ⊥
unsettled true u o none s = cc
unsettled false true true none s = cc
unsettled false true false none s = cc
unsettled false false true none s = cc
unsettled false false false none s = cc

module _ (plan : Plan) (past : Trace) (p a w word : ℕ) (c : IsOrderly plan past p) (next : next_operation plan past p ≡ Some (Stx a w word))
    (goes : is_waiting plan.header past p (Stx a w word) ≡ false) where
  abbrev h : Header
  h = plan.header

  no-store : (k : ℕ) (y : Transaction) → slice_get (segment past p) k ≡ Some y → (is_exclusive_store y && (y.addr == a) && was_refused past y) ≡ true → ⊥
  no-store k y there is =
      let p1 = and_parts (is_exclusive_store y && (y.addr == a)) (was_refused past y) is in
      let p2 = and_parts (is_exclusive_store y) (y.addr == a) p1.0 in
      let kind = is_some_and-is (read_kind y) is_clean_unique (and_parts y.lock (is_some_and (read_kind y) is_clean_unique) p2.0).1 in
      let addr = eqb-true y.addr a p2.1 in
      let own : IsOfPort past p y = segment-of-port past p k y there in
      let free = goes-free h past p (Stx a w word) goes in
      let on = on-line y a (kind-on-line y kind.0 kind.1 (clean-line kind.0 kind.2)) addr in
      let ended : is_outstanding h past y ≡ false =
      false_from_ne_true (is_outstanding h past y) (λ out.
      let some = some_issued-found past (is_outstanding_on h past p a) y.place y own.there.there (and_from _ _ (and_from _ _ (eq-eqb y.port p own.port) on) out) in
      let none = free.0 in
      let bad : false ≡ true = sym none ∙ some in cc) in
      let unacted : is_act_transaction y ≡ false =
      false_from_ne_true (is_act_transaction y) (λ act.
      let some = (segment-of past p k y there).acts act in
      let none = free.1 in absurd (omega (arith, some, none))) in
      unsettled (is_act_transaction y) (updates_memory y) (owns_line y) unacted ((c.under_way (Stx a w word) next).settled k y there ended)
    where
      clean-line : (k : ArKind) → is_clean_unique k ≡ true → is_line_read k ≡ true
      clean-line read.CleanUnique t = refl
      clean-line k t = cc

  pub none-refused : has_failed_store past p a ≡ false
  none-refused = any-none _ (segment past p) no-store

-- no exclusive store was refused for an operation that doesn't wait
pub not-told : (plan : Plan) (past : Trace) (p : ℕ) (op : Op) → IsOrderly plan past p → next_operation plan past p ≡ Some op → is_waiting plan.header past p op ≡ false → IsToldOf past p op false
not-told plan past p (Stx a w word) c next goes = sym (none-refused plan past p a w word c next goes)
not-told plan past p op c next goes = tt

-- ---- the step ----------------------------------------------------------------------------------------

some-there : {A : Type 0} → (test : A → Bool) (xs : List A) → list_any test xs ≡ true → not (length xs == 0) ≡ true
some-there test [] some = cc
some-there test (x ∷ xs) some = ap not (ne_eqb (length (x ∷ xs)) 0 (λ none. absurd (omega (arith, none))))

module _ (plan : Plan) (past : Trace) (p : ℕ) (op : Op) (legal : IsLegal plan past) (next : next_operation plan past p ≡ Some op) (goes : is_waiting plan.header past p op ≡ false) where
  planned : IsPlanned plan p op
  planned = next-planned plan past p op legal.right next

  ending-kept : are_kept plan.header past (closing_of plan.header past p op) ≡ true
  ending-kept =
      let free = goes-free plan.header past p op goes in
      closing-kept plan past p op planned (λ a line. ap (λ o. is_some_and o (has_outstanding_on plan.header past p)) (sym line) ∙ free.0) free.1

  -- what ends the operation, where something does
  pub ending-steps : (e : Event) (es : List Event) → closing_of plan.header past p op ≡ e ∷ es → is_step_by (14 ∷ []) plan past p (e ∷ es) ≡ true
  ending-steps e es is =
      let h = plan.header in
      let nx = next_operation plan past p in
      let burst = e ∷ es in
      let test : List Event → Bool = λ move. same_burst move burst in
      let short = leb-true (length burst) 2 (ap (λ (xs : List Event). nat_le (length xs) 2) (sym is) ∙ closing-short h past p op) in
      let sound : is_sound h past burst ≡ true =
      and_from _ _ (and_from _ _ (le-leb 1 (length burst) (omega arith)) (le-leb (length burst) 16 (omega (arith, short))))
      (subst (λ xs. are_kept h past xs ≡ true) is ending-kept) in
      let own : moves_of plan.ways h past p op ≡ burst ∷ [] =
      ap (λ b. if b then [] else ends_or_asks plan.ways h past p op (closing_of h past p op)) goes ∙ ap (ends_or_asks plan.ways h past p op) is in
      let there : list_any test (moves_of plan.ways h past p op) ≡ true = ap (list_any test) own ∙ or_left (same_burst burst burst) false (burst-self burst) in
      let of_next : list_any test (flat_map (moves_of plan.ways h past p) (option_to_list nx)) ≡ true =
      ap (λ o. list_any test (flat_map (moves_of plan.ways h past p) (option_to_list o))) next ∙ any-left test (moves_of plan.ways h past p op) [] there in
      let gives : goes_on plan.ways nx h past p burst ≡ true = any-right test (completion_bursts h past p) (flat_map (moves_of plan.ways h past p) (option_to_list nx)) of_next in
      let may : may_go_on plan.ways nx h past p ≡ true = some-there test (moves plan.ways nx h past p) gives in
      and_from _ _ sound (or_left (may_go_on plan.ways nx h past p && goes_on plan.ways nx h past p burst) _ (and_from _ _ may gives))
