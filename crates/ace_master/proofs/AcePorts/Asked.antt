-- What the master of an ACE port keeps after the burst by which the port asks: the burst issues the write, if any, of which it keeps the data.
use Rattle.std.proofs.Common.{◌≡◌, ◌≤◌, ℕ, Bool, true, false, not, ◌&&◌, ◌||◌, ◌==◌, if◌then◌else◌, nat_lt, List, [], ◌∷◌, ◌++◌, length, Option, Some, None, option_map, is_some, refl, sym, ap, subst, ◌∙◌, arith, inl, inr}
use Rattle.std.proofs.Math.Bool.{and-false}
use Rattle.std.specs.List.{list_all, list_any}
use Rattle.std.proofs.lemmas.Bool.{and_parts, cases_Bool, eq-eqb, eqb-true, false_from_ne_true, ltb-true}
use Rattle.std.proofs.lemmas.List.Folds.{list_any-append}
use Rattle.ace_codes.specs.Writes.{aw_code, aw_kind_of}
use Rattle.ace_codes.specs.declared.kind.AwKind.{AwKind}
use Rattle.ace_event.specs.declared.event.Event.{Event}
use Rattle.ace_event.specs.declared.event.Event.TheVariants.{Ar, Aw, S, G}
use Rattle.ace_event.specs.declared.line.Line.{Line}
use Rattle.ace_model.specs.declared.plans.Op.{Op}
use Rattle.ace_model.specs.declared.plans.Op.TheVariants.{Stx, Wu, Wlu, Wn}
use Rattle.ace_model.specs.declared.transactions.Transaction.{Transaction}
use Rattle.ace_model.specs.Grants.{given}
use Rattle.ace_model.specs.Kinds.{has_write_data, is_no_snoop_write, is_unique_write, is_write_barrier}
use Rattle.ace_model.specs.Plans.{Plan}
use Rattle.ace_model.specs.Trace.{Trace, is_some_and, more}
use Rattle.ace_model.specs.Transactions.{is_ace, is_exclusive_store, is_transaction, write_kind}
use Rattle.ace_model.specs.Values.{stores_data}
use Rattle.ace_model.specs.Writes.{data_writes, next_write, next_write_beat}
use Rattle.ace_model.proofs.General.Options.{is_some_and-is}
use Rattle.ace_model.proofs.Trace.Growth.{at_point-before, at_point-end}
use Rattle.ace_model.proofs.Trace.Issued.{transaction_of-stands}
use Rattle.ace_model.proofs.Trace.Outstanding.{read_issued, write_issued}
use Rattle.ace_runs.specs.Acts.{data_of_operation}
use Rattle.ace_runs.specs.Bursts.{onto}
use Rattle.ace_runs.specs.Closing.{and_closing, closing_of}
use Rattle.ace_runs.specs.MasterSteps.{may_send}
use Rattle.ace_runs.specs.Operations.{next_operation, operation_behind}
use Rattle.ace_runs.specs.Requests.{domain_for}
use Rattle.ace_runs.specs.Retiring.{has_failed_store, was_refused}
use Rattle.ace_runs.specs.Segments.{is_for_operation, segment}
use Rattle.ace_runs.specs.Steps.{is_step_by}
use Rattle.ace_runs.proofs.NeverStuck.Operations.Kept.AsksKept.{write-known}
use Rattle.ace_engine.specs.Engines.{IsLegal}
use Rattle.ace_engine.proofs.Heard.{onto-append}
use Rattle.ace_portck.specs.declared.target.WriteData.{WriteData}
use Rattle.ace_master_laws.specs.Chosen.{AreChosen}
use Rattle.ace_master_state.specs.Retiring.{IsToldOf}
use Rattle.ace_master.specs.AceEvents.{HaveLowIds}
use Rattle.ace_master.specs.AcePort.{AceTells}
use Rattle.ace_master.specs.Answering.{AreDataSent}
use Rattle.ace_master.specs.Issues.{aw_of}
use Rattle.ace_master.specs.Lite.{kind_written, own_steps}
use Rattle.ace_master.specs.Operations.{write_data}
use Rattle.ace_master.specs.Sending.{IsForData, UnsentStands}
use Rattle.ace_master.proofs.AcePorts.Ends.{closing-plain, plain-answered, plain-chosen, plain-low, plain-unsent}
use Rattle.ace_master.proofs.AcePorts.Turns.{IsTaken, taken}
use Rattle.ace_master.proofs.AskedBursts.AskedEvents.{AsksBy, bare, writes, is_bare, is_for_data}
use Rattle.ace_master.proofs.WriteData.UnsentData.{none-first, none-keeps, unsent-issued, unsent-left}

-- ---- events that issue a transaction or give a line up -----------------------------------------------

abbrev pub is_asking : Event → Bool
is_asking (Ar p i addr snoop dom bar lock) = true
is_asking (Aw p i addr snoop dom bar) = true
is_asking (S p addr st) = true
is_asking _ = false

bare-asking : (burst : List Event) → list_all is_bare burst ≡ true → list_all is_asking burst ≡ true
bare-asking [] b = refl
bare-asking (Ar p i addr snoop dom bar lock ∷ burst) b = bare-asking burst (and_parts (nat_lt i 16) (list_all is_bare burst) b).1
bare-asking (Aw p i addr snoop dom bar ∷ burst) b = bare-asking burst (and_parts (is_bare (Aw p i addr snoop dom bar)) (list_all is_bare burst) b).1
bare-asking (S p addr st ∷ burst) b = bare-asking burst b
bare-asking (e ∷ burst) b = cc

pub asks-asking : (p : ℕ) (o : Op) (burst : List Event) → AsksBy p o burst → list_all is_asking burst ≡ true
asks-asking p o burst (bare b) = bare-asking burst b
asks-asking p o burst (writes i a k is half own) = ap (list_all is_asking) is

pub asking-chosen : (plan : Plan) (burst : List Event) (past : Trace) → list_all is_asking burst ≡ true → AreChosen plan past burst
asking-chosen plan [] past b = tt
asking-chosen plan (Ar p i addr snoop dom bar lock ∷ burst) past b = (refl, asking-chosen plan burst (Ar p i addr snoop dom bar lock ∷ past) b)
asking-chosen plan (Aw p i addr snoop dom bar ∷ burst) past b = (refl, asking-chosen plan burst (Aw p i addr snoop dom bar ∷ past) b)
asking-chosen plan (S p addr st ∷ burst) past b = (refl, asking-chosen plan burst (S p addr st ∷ past) b)
asking-chosen plan (e ∷ burst) past b = cc

pub asking-answered : (p : ℕ) (burst : List Event) (past : Trace) → list_all is_asking burst ≡ true → AreDataSent past p → AreDataSent (onto burst past) p
asking-answered p [] past b s = s
asking-answered p (Ar q i addr snoop dom bar lock ∷ burst) past b s = asking-answered p burst (Ar q i addr snoop dom bar lock ∷ past) b s
asking-answered p (Aw q i addr snoop dom bar ∷ burst) past b s = asking-answered p burst (Aw q i addr snoop dom bar ∷ past) b s
asking-answered p (S q addr st ∷ burst) past b s = asking-answered p burst (S q addr st ∷ past) b s
asking-answered p (e ∷ burst) past b s = cc

bare-low : (burst : List Event) → list_all is_bare burst ≡ true → HaveLowIds burst
bare-low [] b = tt
bare-low (Ar p i addr snoop dom bar lock ∷ burst) b =
    let parts = and_parts (nat_lt i 16) (list_all is_bare burst) b in (ltb-true i 16 parts.0, bare-low burst parts.1)
bare-low (Aw p i addr snoop dom bar ∷ burst) b = (tt, bare-low burst (and_parts (is_bare (Aw p i addr snoop dom bar)) (list_all is_bare burst) b).1)
bare-low (S p addr st ∷ burst) b = (tt, bare-low burst b)
bare-low (e ∷ burst) b = cc

pub asks-low : (p : ℕ) (o : Op) (burst : List Event) → AsksBy p o burst → HaveLowIds burst
asks-low p o burst (bare b) = bare-low burst b
asks-low p o burst (writes i a k is half own) = subst HaveLowIds (sym is) (tt, tt)

-- ---- exclusive stores --------------------------------------------------------------------------------

not-given : (past : Trace) (e : Event) (x : Transaction) → length past ≤ x.place → is_transaction (given past e) x ≡ false
not-given past (G q c j) x late =
    false_from_ne_true (is_transaction (given past (G q c j)) x) (λ t.
    let y = is_some_and-is (given past (G q c j)) (λ y. y.place == x.place) t in
    let before = (transaction_of-stands past q c j y.0 y.1).before in
    let same = eqb-true y.0.place x.place y.2 in
    absurd (omega (arith, late, before, same)))
not-given past e x late = refl

-- the interconnect refused none that wasn't issued
unrefused : (past : Trace) (x : Transaction) → length past ≤ x.place → was_refused past x ≡ false
unrefused [] x late = refl
unrefused (e ∷ past) x late =
    let none = not-given past e x (omega (arith, late)) in
    let rest = unrefused past x (omega (arith, late)) in
    rw (none, rest) refl

module _ (p a : ℕ) where
  abbrev is_failed : Trace → Transaction → Bool
  is_failed past y = is_exclusive_store y && (y.addr == a) && was_refused past y

  fails-with : (past : Trace) (x : Transaction) (b : Bool) → length past ≤ x.place → has_failed_store past p a ≡ false
      → list_any (is_failed past) (more (segment past p) (if b then Some x else None)) ≡ false
  fails-with past x false late none = none
  fails-with past x true late none =
      let new : is_failed past x ≡ false =
      ap (λ b. is_exclusive_store x && (x.addr == a) && b) (unrefused past x late) ∙ and-false (is_exclusive_store x && (x.addr == a)) in
      list_any-append (is_failed past) (segment past p) (x ∷ []) ∙ ap (λ b. b || (is_failed past x || false)) none ∙ ap (λ b. b || false) new

  asking-fails : (burst : List Event) (past : Trace) → list_all is_asking burst ≡ true → has_failed_store past p a ≡ false → has_failed_store (onto burst past) p a ≡ false
  asking-fails [] past b none = none
  asking-fails (Ar q i addr snoop dom bar lock ∷ burst) past b none =
      let x = read_issued past q i addr snoop dom bar lock in
      asking-fails burst (Ar q i addr snoop dom bar lock ∷ past) b (fails-with past x (is_for_operation p x) (omega arith) none)
  asking-fails (Aw q i addr snoop dom bar ∷ burst) past b none =
      let x = write_issued past q i addr snoop dom bar in
      asking-fails burst (Aw q i addr snoop dom bar ∷ past) b (fails-with past x (is_for_operation p x) (omega arith) none)
  asking-fails (S q addr st ∷ burst) past b none = asking-fails burst (S q addr st ∷ past) b none
  asking-fails (e ∷ burst) past b none = cc

-- no exclusive store of the operation is refused after the burst, where none was before it
pub asking-told : (p : ℕ) (o : Op) (burst : List Event) (past : Trace) → list_all is_asking burst ≡ true → IsToldOf past p o false → IsToldOf (onto burst past) p o false
asking-told p (Stx a w word) burst past b told = sym (asking-fails p a burst past b (sym told))
asking-told p o burst past b told = tt

-- ---- write data --------------------------------------------------------------------------------------

-- where no burst is left to send, any data may be kept
pub unsent-any : (plan : Plan) (past : Trace) (p : ℕ) (before unsent : Option WriteData) → may_send plan.header past p ≡ false → UnsentStands plan past p before → UnsentStands plan past p unsent
unsent-any plan past p before unsent none u =
    let idle = none-first (is_some (next_write past p)) (next_write_beat past p == 0) (eq-eqb (next_write_beat past p) 0 u.whole) none in
    record { whole = u.whole; last = u.last; data_is = none-keeps plan past p unsent (gone (next_write past p) idle) }
  where
    gone : (o : Option Transaction) → is_some o ≡ false → o ≡ None
    gone None f = refl
    gone (Some x) f = cc

no : (b : Bool) → not b ≡ true → b ≡ false
no true n = cc
no false n = refl

bare-unsent : (plan : Plan) (p : ℕ) (unsent : Option WriteData) (burst : List Event) (past : Trace) → list_all is_bare burst ≡ true → UnsentStands plan past p unsent
    → UnsentStands plan (onto burst past) p unsent
bare-unsent plan p unsent [] past b u = u
bare-unsent plan p unsent (Ar q i addr snoop dom bar lock ∷ burst) past b u =
    let e = Ar q i addr snoop dom bar lock in
    let x = read_issued past q i addr snoop dom bar lock in
    let same : data_writes (e ∷ past) p ≡ data_writes past p = ap (λ b. more (data_writes past p) (if b then Some x else None)) (and-false (q == p)) in
    bare-unsent plan p unsent burst (e ∷ past) (and_parts (nat_lt i 16) (list_all is_bare burst) b).1 (unsent-left plan past p e unsent same refl u)
bare-unsent plan p unsent (Aw q i addr snoop dom bar ∷ burst) past b u =
    let e = Aw q i addr snoop dom bar in
    let x = write_issued past q i addr snoop dom bar in
    let parts = and_parts (is_bare e) (list_all is_bare burst) b in
    let none = no (is_some_and (aw_kind_of snoop dom bar) has_write_data) parts.0 in
    let same : data_writes (e ∷ past) p ≡ data_writes past p =
    ap (λ b. more (data_writes past p) (if (q == p) && b then Some x else None)) none ∙ ap (λ b. more (data_writes past p) (if b then Some x else None)) (and-false (q == p)) in
    bare-unsent plan p unsent burst (e ∷ past) parts.1 (unsent-left plan past p e unsent same refl u)
bare-unsent plan p unsent (S q addr st ∷ burst) past b u = bare-unsent plan p unsent burst (S q addr st ∷ past) b (unsent-left plan past p (S q addr st) unsent refl refl u)
bare-unsent plan p unsent (e ∷ burst) past b u = cc

-- the operation that a write is for carries data
carried : (o : Op) (k : AwKind) → kind_written o ≡ Some k → (c : ℕ × Line) × (data_of_operation o ≡ Some c)
carried (Wu a strobe line) k is = (_, refl)
carried (Wlu a line) k is = (_, refl)
carried (Wn a strobe line) k is = (_, refl)
carried o k is = cc

module _ (plan : Plan) (past : Trace) (p : ℕ) (o : Op) (next : next_operation plan past p ≡ Some o) (none : may_send plan.header past p ≡ false) (before : Option WriteData)
    (u : UnsentStands plan past p before) where
  module _ (i a : ℕ) (k : AwKind) (half : is_write_barrier k ≡ false) (own : is_for_data k ≡ true → kind_written o ≡ Some k) where
    abbrev e : Event
    e = aw_of p i k a

    abbrev x : Transaction
    x = write_issued past p i a (aw_code k) (domain_for (is_no_snoop_write k)) 0

    kind : write_kind x ≡ Some k
    kind = write-known k half

    behind : operation_behind plan (e ∷ past) x ≡ Some o
    behind = ap (λ (v : Trace). next_operation plan v p) (at_point-before e past (length past) (omega arith) ∙ at_point-end past (length past) refl) ∙ next

    data-kept : stores_data x ≡ true → (d : WriteData) × (write_data o ≡ Some d) × IsForData plan (e ∷ past) x d
    data-kept stores =
        let same : stores_data x ≡ is_for_data k = ap (λ o. is_some_and o is_unique_write || is_some_and o is_no_snoop_write) kind in
        let written = own (sym same ∙ stores) in
        let c = carried o k written in (
          record { strobe = c.0.0; line = c.0.1 },
          ap (option_map (λ (c : ℕ × Line). record { strobe = c.0; line = c.1 })) c.1,
          record { behind = o; is_behind = behind; kind = kind ∙ sym written; carries = c.1 },
        )

    written-unsent : UnsentStands plan (e ∷ past) p (write_data o)
    written-unsent =
        let is : data_writes (e ∷ past) p ≡ more (data_writes past p) (if has_write_data k then Some x else None) =
        ap (λ b. more (data_writes past p) (if b && is_some_and (aw_kind_of (aw_code k) (domain_for (is_no_snoop_write k)) 0) has_write_data then Some x else None)) (eq-eqb p p refl)
        ∙ ap (λ o. more (data_writes past p) (if is_some_and o has_write_data then Some x else None)) kind in
        elim (cases_Bool (has_write_data k)) [
          | inl t ↦
              unsent-issued plan past p e x before (write_data o) (is ∙ ap (λ b. more (data_writes past p) (if b then Some x else None)) t) refl none u data-kept
          | inr f ↦
              unsent-left plan past p e (write_data o) (is ∙ ap (λ b. more (data_writes past p) (if b then Some x else None)) f) refl (unsent-any plan past p before (write_data o) none u)
        ]

  pub asks-unsent : (burst : List Event) → AsksBy p o burst → UnsentStands plan (onto burst past) p (write_data o)
  asks-unsent burst (bare b) = bare-unsent plan p (write_data o) burst past b (unsent-any plan past p before (write_data o) none u)
  asks-unsent burst (writes i a k is half own) = subst (λ es. UnsentStands plan (onto es past) p (write_data o)) (sym is) (written-unsent i a k half own)

-- ---- the step ----------------------------------------------------------------------------------------

chosen-append : (plan : Plan) (xs ys : List Event) (past : Trace) → AreChosen plan past xs → AreChosen plan (onto xs past) ys → AreChosen plan past (xs ++ ys)
chosen-append plan [] ys past a b = b
chosen-append plan (e ∷ xs) ys past a b = (a.0, chosen-append plan xs ys (e ∷ past) a.1 b)

low-append : (xs ys : List Event) → HaveLowIds xs → HaveLowIds ys → HaveLowIds (xs ++ ys)
low-append [] ys a b = b
low-append (e ∷ xs) ys a b = (a.0, low-append xs ys a.1 b)

-- What a port asks by, with what ends the operation then, is such a step.
pub asked-taken : (plan : Plan) (past : Trace) (p : ℕ) (o : Op) (burst : List Event) → is_ace plan.header p ≡ true → IsLegal plan past → (operations : List Op) (before : Option WriteData)
    → AceTells plan past p operations before → next_operation plan past p ≡ Some o → may_send plan.header past p ≡ false → AsksBy p o burst
    → is_step_by own_steps plan past p (and_closing plan.header past p o burst) ≡ true → IsTaken plan past p (and_closing plan.header past p o burst) operations (write_data o)
asked-taken plan past p o burst ace legal operations before t next none by step =
    let h = plan.header in
    let now = onto burst past in
    let end = closing_of h now p o in
    let all = asks-asking p o burst by in
    let plain = closing-plain h now p o in
    let same = onto-append burst end past in
    taken plan past p (burst ++ end) ace legal operations before t (write_data o) step (chosen-append plan burst end past (asking-chosen plan burst past all) (plain-chosen plan end now plain))
    (low-append burst end (asks-low p o burst by) (plain-low end plain))
    (subst (λ v. AreDataSent v p) (sym same) (plain-answered p end now plain (asking-answered p burst past all t.answered)))
    (subst (λ v. UnsentStands plan v p (write_data o)) (sym same) (plain-unsent plan p (write_data o) end now plain (asks-unsent plan past p o next none before t.unsent_is burst by)))
