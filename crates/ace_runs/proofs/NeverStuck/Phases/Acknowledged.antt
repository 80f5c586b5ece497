-- After step 4 the next operation of its port, an ACE port, can't retire with `ok`: the acknowledge of a transaction of the operation comes with
-- what ends the operation, if that can end then; and the acknowledge of another one leaves what the operation needs.
use Rattle.std.proofs.Common.{◌≡◌, ◌⊎◌, ℕ, ◌+◌, Bool, true, false, not, ◌&&◌, ◌||◌, ◌==◌, if◌then◌else◌, List, [], ◌∷◌, ◌++◌, zero, suc, Option, Some, None, slice_get, unwrap_or, inl, inr, refl, sym, ap, subst, ◌∙◌}
use Rattle.std.proofs.Math.Bool.{and-false}
use Rattle.std.specs.List.{list_all, list_any}
use Rattle.std.specs.Option.{option_to_list, option_map}
use Rattle.std.proofs.lemmas.Bool.{and_parts, and_from, eqb-true, or_cases}
use Rattle.ace_codes.specs.declared.state.LineState.{LineState}
use Rattle.ace_event.specs.declared.event.Channel.{Channel}
use Rattle.ace_event.specs.declared.event.Channel.TheVariants.{Read, Write}
use Rattle.ace_event.specs.declared.event.Event.{Event}
use Rattle.ace_event.specs.declared.event.Event.TheVariants.{Rk, Wk, D}
use Rattle.ace_event.specs.declared.event.Outcome.TheVariants.{Ok}
use Rattle.ace_event.specs.declared.header.Header.{Header}
use Rattle.ace_event.specs.declared.line.Line.{Line}
use Rattle.ace_tables.specs.Answers.{same_test}
use Rattle.ace_model.specs.declared.plans.Op.{Op}
use Rattle.ace_model.specs.declared.plans.Op.TheVariants as op
use Rattle.ace_model.specs.declared.transactions.Transaction.{Transaction}
use Rattle.ace_model.specs.Accepted.{IsAccepted}
use Rattle.ace_model.specs.Copies.{same_line}
use Rattle.ace_model.specs.Kinds.{is_make_unique}
use Rattle.ace_model.specs.Plans.{Plan}
use Rattle.ace_model.specs.States.{has_store}
use Rattle.ace_model.specs.Trace.{Trace, is_some_and}
use Rattle.ace_model.specs.Transactions.{acknowledged, ended, is_ace, is_read, is_transaction, read_kind}
use Rattle.ace_model.proofs.General.Booleans.{same_test-at}
use Rattle.ace_model.proofs.General.Options.{Some-injective, is_some_and-is}
use Rattle.ace_model.proofs.Trace.Issued.{transaction_of-name}
use Rattle.ace_model.proofs.Trace.Outstanding.{acknowledged_is}
use Rattle.ace_runs.specs.Bursts.{are_kept, is_kept, onto}
use Rattle.ace_runs.specs.Closing.{access_of, and_closing, retirement}
use Rattle.ace_runs.specs.MasterSteps.{acknowledge, acknowledge_for, acknowledge_in, acknowledge_of, acknowledges, acknowledges_on, due, end_of, is_finished, store_lacked}
use Rattle.ace_runs.specs.Operations.{next_operation}
use Rattle.ace_runs.specs.Retiring.{may_retire}
use Rattle.ace_runs.specs.SameEvents.{same_burst, same_event}
use Rattle.ace_runs.specs.Segments.{acts_made, is_in_segment, segment}
use Rattle.ace_runs.proofs.Accepting.{kept-breaks-none}
use Rattle.ace_runs.proofs.NeverStuck.Steps.SameBursts.{equal-burst}
use Rattle.ace_runs.proofs.NeverStuck.Steps.SameEvents.{is_lineless}
use Rattle.ace_model.proofs.Trace.IssuedTransactions.{acknowledged-of}
use Rattle.ace_runs.proofs.NeverStuck.Phases.Calm.{IsCalm, calm-keeps, may_end}
use Rattle.ace_runs.proofs.NeverStuck.Phases.CalmEvents.{outs-stay}
use Rattle.ace_runs.proofs.NeverStuck.Phases.Endings.{closed-stays, lineless-closed, retired-burst, retirement-ends, same-ends}

-- ---- a transaction of another operation --------------------------------------------------------------

any-none : {A : Type 0} → (test : A → Bool) (xs : List A) (k : ℕ) (x : A) → list_any test xs ≡ false → slice_get xs k ≡ Some x → test x ≡ false
any-none test [] k x none there = cc
any-none test (y ∷ xs) zero x none there = subst (λ v. test v ≡ false) (Some-injective y x there) (first (test y) (list_any test xs) none)
  where
    first : (a b : Bool) → (a || b) ≡ false → a ≡ false
    first true b f = cc
    first false b f = refl
any-none test (y ∷ xs) (suc k) x none there = any-none test xs k x (rest (test y) (list_any test xs) none) there
  where
    rest : (a b : Bool) → (a || b) ≡ false → b ≡ false
    rest true b f = cc
    rest false b f = f

-- the acknowledge on the channel
abbrev acknowledge_on : Channel → ℕ → LineState → Event
acknowledge_on c p st = if is_read c then Rk p st else Wk p st

module _ (plan : Plan) (past : Trace) (p : ℕ) (x : Transaction) (c : Channel) (next : acknowledged past p c ≡ Some x) where
  port-is : x.port ≡ p
  port-is = (acknowledged-of past p c x next).1

  chan-is : x.chan ≡ c
  chan-is = let n = acknowledged_is past p c x next in (transaction_of-name past p c n.id x n.named).chan

  acknowledge-is : (st : LineState) → acknowledge x st ≡ acknowledge_on c p st ∷ []
  acknowledge-is st = ap (λ d. (if is_read d then Rk x.port st else Wk x.port st) ∷ []) chan-is ∙ ap (λ q. (if is_read c then Rk q st else Wk q st) ∷ []) port-is

  -- it ends none of the segment
  ends-none : (e : Event) → ended plan.header past e ≡ Some x → is_in_segment past x ≡ false → (k : ℕ) (y : Transaction) → slice_get (segment past p) k ≡ Some y
      → is_transaction (ended plan.header past e) y ≡ false
  ends-none e ends none k y there =
      ap (λ o. is_transaction o y) ends
      ∙ any-none (λ y. x.place == y.place) (segment past p) k y (ap (λ q. list_any (λ y. x.place == y.place) (segment past q)) (sym port-is) ∙ none) there

other-calm : (plan : Plan) (past : Trace) (p : ℕ) (x : Transaction) (c : Channel) (st : LineState) → acknowledged past p c ≡ Some x → is_in_segment past x ≡ false
    → IsAccepted plan.header (acknowledge_on c p st ∷ past) → IsCalm plan past p (acknowledge_on c p st)
other-calm plan past p x Read st next none a =
    record {
      next = refl;
      made = ap (λ b. if b then acts_made past p + 1 else acts_made past p) (and-false (p == p));
      same = refl;
      outs = outs-stay plan.header past p (Rk p st) a (ends-none plan past p x Read next (Rk p st) next none);
      told = λ m. m;
    }
other-calm plan past p x Write st next none a =
    record {
      next = refl;
      made = ap (λ b. if b then acts_made past p + 1 else acts_made past p) (and-false (p == p));
      same = refl;
      outs = outs-stay plan.header past p (Wk p st) a (ends-none plan past p x Write next (Wk p st) next none);
      told = λ m. m;
    }

acknowledge-lineless : (x : Transaction) (st : LineState) → list_all is_lineless (acknowledge x st) ≡ true
acknowledge-lineless x st = by (is_read x.chan)
  where
    by : (b : Bool) → list_all is_lineless ((if b then Rk x.port st else Wk x.port st) ∷ []) ≡ true
    by true = refl
    by false = refl

other-stays : (plan : Plan) (past : Trace) (p : ℕ) (x : Transaction) (c : Channel) (st : LineState) (burst : List Event) → IsAccepted plan.header past → acknowledged past p c ≡ Some x
    → is_in_segment past x ≡ false → are_kept plan.header past burst ≡ true → same_burst (acknowledge x st) burst ≡ true → may_end plan past p ≡ false → may_end plan (onto burst past) p ≡ false
other-stays plan past p x c st burst a next none kept same before =
    let one : acknowledge_on c p st ∷ [] ≡ burst = sym (acknowledge-is plan past p x c next st) ∙ equal-burst (acknowledge x st) burst same (acknowledge-lineless x st) in
    let k : are_kept plan.header past (acknowledge_on c p st ∷ []) ≡ true = subst (λ l. are_kept plan.header past l ≡ true) (sym one) kept in
    let now : IsAccepted plan.header (acknowledge_on c p st ∷ past) = (a, kept-breaks-none plan.header past (acknowledge_on c p st) (and_parts (is_kept plan.header past (acknowledge_on c p st)) true k).0) in
    subst (λ l. may_end plan (onto l past) p ≡ false) one (calm-keeps plan past p (acknowledge_on c p st) (other-calm plan past p x c st next none now) before)

-- ---- a transaction of the operation ------------------------------------------------------------------

-- a load carries no line; a store does
access-kind : (past : Trace) (p : ℕ) (o : Op) (e : Event) → access_of past p o ≡ Some e
    → (is_lineless e ≡ true) ⊎ ((q a s : ℕ) × (y : Bool) × (line : Line) × (e ≡ D q a s y line))
access-kind past p (op.Ld a w) e is = inl (ap is_lineless (sym (Some-injective _ e is)))
access-kind past p (op.Ldx a w) e is = inl (ap is_lineless (sym (Some-injective _ e is)))
access-kind past p (op.St a w word) e is = inr (_, _, _, _, _, sym (Some-injective _ e is))
access-kind past p (op.Stx a w word) e is = inr (_, _, _, _, _, sym (Some-injective _ e is))
access-kind past p (op.Fill a line) e is = inr (_, _, _, _, _, sym (Some-injective _ e is))
access-kind past p o e is = cc

-- the line that a store carries is none of what its operation needs to retire
read-alike : (h : Header) (past : Trace) (p r q a s : ℕ) (y : Bool) (line other : Line) (st : LineState) (o : Op)
    → may_retire h (Rk r st ∷ D q a s y line ∷ past) p o Ok ≡ may_retire h (Rk r st ∷ D q a s y other ∷ past) p o Ok
read-alike h past p r q a s y line other st (op.Pf b k) = refl
read-alike h past p r q a s y line other st o = refl

write-alike : (h : Header) (past : Trace) (p r q a s : ℕ) (y : Bool) (line other : Line) (st : LineState) (o : Op)
    → may_retire h (Wk r st ∷ D q a s y line ∷ past) p o Ok ≡ may_retire h (Wk r st ∷ D q a s y other ∷ past) p o Ok
write-alike h past p r q a s y line other st (op.Pf b k) = refl
write-alike h past p r q a s y line other st o = refl

-- a burst that is the same as a store and events without lines
store-same : (q a s : ℕ) (y : Bool) (line : Line) (rest later : List Event) → list_all is_lineless rest ≡ true → same_burst (D q a s y line ∷ rest) later ≡ true
    → (other : Line) × (later ≡ D q a s y other ∷ rest)
store-same q a s y line rest [] none same = cc
store-same q a s y line rest (D p c t z other ∷ later) none same =
    let parts = and_parts (same_event (D q a s y line) (D p c t z other)) (same_burst rest later) same in
    let p4 = and_parts ((q == p) && (a == c) && (s == t) && same_test y z) (same_line line other) parts.0 in
    let p3 = and_parts ((q == p) && (a == c) && (s == t)) (same_test y z) p4.0 in
    let p2 = and_parts ((q == p) && (a == c)) (s == t) p3.0 in
    let p1 = and_parts (q == p) (a == c) p2.0 in
    (other, rw (← eqb-true q p p1.0, ← eqb-true a c p1.1, ← eqb-true s t p2.1, ← same_test-at y z p3.1, ← equal-burst rest later parts.1 none) refl)
store-same q a s y line rest (e ∷ later) none same = cc

module _ (plan : Plan) (past : Trace) (x : Transaction) (o : Op) (st : LineState) (next : next_operation plan past x.port ≡ Some o) where
  acknowledged-alike : (q a s : ℕ) (y : Bool) (line other : Line)
      → may_retire plan.header (onto (D q a s y line ∷ acknowledge x st) past) x.port o Ok ≡ may_retire plan.header (onto (D q a s y other ∷ acknowledge x st) past) x.port o Ok
  acknowledged-alike q a s y line other = by (is_read x.chan)
    where
      by : (b : Bool) → may_retire plan.header (onto (D q a s y line ∷ (if b then Rk x.port st else Wk x.port st) ∷ []) past) x.port o Ok
          ≡ may_retire plan.header (onto (D q a s y other ∷ (if b then Rk x.port st else Wk x.port st) ∷ []) past) x.port o Ok
      by true = read-alike plan.header past x.port x.port q a s y line other st o
      by false = write-alike plan.header past x.port x.port q a s y line other st o

  acknowledged-next : (q a s : ℕ) (y : Bool) (line : Line) → next_operation plan (onto (D q a s y line ∷ acknowledge x st) past) x.port ≡ Some o
  acknowledged-next q a s y line = by (is_read x.chan)
    where
      by : (b : Bool) → next_operation plan (onto (D q a s y line ∷ (if b then Rk x.port st else Wk x.port st) ∷ []) past) x.port ≡ Some o
      by true = next
      by false = next

  store-closed : (q a s : ℕ) (y : Bool) (line : Line) (burst : List Event) → same_burst (and_closing plan.header past x.port o (D q a s y line ∷ acknowledge x st)) burst ≡ true
      → may_end plan (onto burst past) x.port ≡ false
  store-closed q a s y line burst same =
      closed-stays plan past x.port o (D q a s y line ∷ acknowledge x st) burst same
      (λ alone. let l = store-same q a s y line (acknowledge x st) burst (acknowledge-lineless x st) alone in (
        ap (λ later. next_operation plan (onto later past) x.port) l.1 ∙ acknowledged-next q a s y l.0,
        ap (λ later. may_retire plan.header (onto later past) x.port o Ok) l.1 ∙ acknowledged-alike q a s y l.0 line,
      ))

  access-closed : (access : Option Event) → access_of past x.port o ≡ access → (burst : List Event)
      → same_burst (and_closing plan.header past x.port o (option_to_list access ++ acknowledge x st)) burst ≡ true → may_end plan (onto burst past) x.port ≡ false
  access-closed None is burst same = lineless-closed plan past x.port o (acknowledge x st) burst next (acknowledge-lineless x st) same
  access-closed (Some e) is burst same =
      elim (access-kind past x.port o e is) [
        | inl none ↦ lineless-closed plan past x.port o (e ∷ acknowledge x st) burst next (and_from _ _ none (acknowledge-lineless x st)) same
        | inr d ↦
            store-closed d.0 d.1 d.2 d.3 d.4 burst (subst (λ v. same_burst (and_closing plan.header past x.port o (v ∷ acknowledge x st)) burst ≡ true) d.5 same)
      ]

  own-stays : (burst : List Event) → same_burst (and_closing plan.header past x.port o (store_lacked plan.header past x o ++ acknowledge x st)) burst ≡ true
      → may_end plan (onto burst past) x.port ≡ false
  own-stays burst same = by (is_some_and (read_kind x) is_make_unique && not (has_store plan.header past x.port x.id)) same
    where
      by : (b : Bool) → same_burst (and_closing plan.header past x.port o ((if b then option_to_list (access_of past x.port o) else []) ++ acknowledge x st)) burst ≡ true
          → may_end plan (onto burst past) x.port ≡ false
      by true same = access-closed (access_of past x.port o) refl burst same
      by false same = lineless-closed plan past x.port o (acknowledge x st) burst next (acknowledge-lineless x st) same

-- ---- step 4 ------------------------------------------------------------------------------------------

none-stays : (plan : Plan) (past : Trace) (p : ℕ) (burst : List Event) → same_burst [] burst ≡ true → may_end plan past p ≡ false → may_end plan (onto burst past) p ≡ false
none-stays plan past p [] same before = before
none-stays plan past p (e ∷ burst) same before = cc

module _ (plan : Plan) (past : Trace) (p : ℕ) (burst : List Event) (a : IsAccepted plan.header past) (kept : are_kept plan.header past burst ≡ true) (before : may_end plan past p ≡ false) where
  for-stays : (x : Transaction) (st : LineState) → x.port ≡ p → (next : Option Op) → next_operation plan past p ≡ next
      → same_burst (acknowledge_for plan.header past x next st) burst ≡ true → may_end plan (onto burst past) p ≡ false
  for-stays x st port None is same = none-stays plan past p burst same before
  for-stays x st port (Some o) is same =
      subst (λ q. may_end plan (onto burst past) q ≡ false) port
      (own-stays plan past x o st (ap (next_operation plan past) port ∙ is) burst same)

  due-stays : (x : Transaction) (c : Channel) (st : LineState) → acknowledged past p c ≡ Some x
      → same_burst (acknowledge_in (next_operation plan past p) plan.header past x st) burst ≡ true → may_end plan (onto burst past) p ≡ false
  due-stays x c st next same = by (is_in_segment past x) refl same
    where
      by : (b : Bool) → is_in_segment past x ≡ b → same_burst (if b then acknowledge_for plan.header past x (next_operation plan past p) st else acknowledge x st) burst ≡ true
          → may_end plan (onto burst past) p ≡ false
      by true is same = for-stays x st (acknowledged-of past p c x next).1 (next_operation plan past p) refl same
      by false is same = other-stays plan past p x c st burst a next is kept same before

  on-stays : (c : Channel) → acknowledges_on (next_operation plan past p) plan.header past p burst c ≡ true → may_end plan (onto burst past) p ≡ false
  on-stays c s =
      let h = plan.header in
      let x = is_some_and-is (due h past p c) (λ x. same_burst (acknowledge_of (next_operation plan past p) h past x) burst) s in
      ends x.0 (due-is (is_ace h p) (acknowledged past p c) x.0 x.1) (end_of h past x.0) x.2
    where
      due-is : (b : Bool) (o : Option Transaction) (x : Transaction) → (if b then o else None) ≡ Some x → o ≡ Some x
      due-is true o x is = is
      due-is false o x is = cc

      ends : (x : Transaction) → acknowledged past p c ≡ Some x → (o : Option LineState)
          → same_burst (unwrap_or (option_map (acknowledge_in (next_operation plan past p) plan.header past x) o) []) burst ≡ true → may_end plan (onto burst past) p ≡ false
      ends x next None same = none-stays plan past p burst same before
      ends x next (Some st) same = due-stays x c st next same

  -- After step 4 the next operation can't retire with `ok` where it couldn't before.
  pub acknowledges-stay : acknowledges (next_operation plan past p) plan.header past p burst ≡ true → may_end plan (onto burst past) p ≡ false
  acknowledges-stay s =
      let h = plan.header in
      let next = next_operation plan past p in
      elim (or_cases (acknowledges_on next h past p burst Read || acknowledges_on next h past p burst Write) _ s) [
        | inr finished ↦
            retired-burst plan burst past p (same-ends (retirement past p Ok) burst p (and_parts (is_finished next h past p) (same_burst (retirement past p Ok) burst) finished).1 (retirement-ends past p Ok))
        | inl on ↦ elim (or_cases (acknowledges_on next h past p burst Read) (acknowledges_on next h past p burst Write) on) [
          | inl reads ↦ on-stays Read reads
          | inr writes ↦ on-stays Write writes
        ]
      ]
