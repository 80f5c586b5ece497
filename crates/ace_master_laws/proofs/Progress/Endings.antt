-- What ends an operation obeys the plan and stays lean: its OP, or its load or store and its OP.
use Rattle.std.proofs.Common.{◌≡◌, ℕ, ◌+◌, Bool, true, false, not, ◌&&◌, ◌==◌, if◌then◌else◌, List, [], ◌∷◌, length, slice_get, zero, suc, Option, Some, None, inl, inr, refl, sym, ap, subst, ◌∙◌, arith, ◌++◌}
use Rattle.std.specs.List.{list_all}
use Rattle.std.proofs.lemmas.Bool.{and_parts, and_from, cases_Bool, eq-eqb, eqb-true, not-true, cases_eq}
use Rattle.ace_event.specs.declared.event.Event.{Event}
use Rattle.ace_event.specs.declared.event.Event.TheVariants.{L, D, Op as Retires}
use Rattle.ace_event.specs.declared.event.Outcome.{Outcome}
use Rattle.ace_event.specs.declared.event.Outcome.TheVariants.{Ok, Skip, Fail}
use Rattle.ace_event.specs.declared.header.Header.{Header}
use Rattle.ace_event.specs.declared.line.Line.{Line}
use Rattle.ace_tables.specs.Answers.{same_test}
use Rattle.ace_model.specs.declared.plans.Op.{Op}
use Rattle.ace_model.specs.declared.plans.Op.TheVariants as op
use Rattle.ace_model.specs.declared.transactions.Transaction.{Transaction}
use Rattle.ace_model.specs.Accepted.{IsAccepted}
use Rattle.ace_model.specs.Copies.{same_line, copy_of, word_of}
use Rattle.ace_model.specs.OrderRules.{retired}
use Rattle.ace_model.specs.Plans.{Plan}
use Rattle.ace_model.specs.Trace.{Trace, is_some_and, more, option_filter, implies}
use Rattle.ace_model.specs.Transactions.{is_outstanding, issued}
use Rattle.ace_model.specs.Values.{full_line}
use Rattle.ace_model.proofs.General.Options.{Some-injective, option_filter-is}
use Rattle.ace_model.proofs.Holders.Lessened.{lessened_by, ends_a_read}
use Rattle.ace_model.proofs.Holders.RestsOn.{accepted_keeps_each}
use Rattle.ace_model.proofs.Tables.States.{is_invalid-is}
use Rattle.ace_tables.specs.States.{is_invalid}
use Rattle.ace_runs.specs.Acts.{acts_of, is_act_transaction, word_line, word_strobe, is_load, is_store}
use Rattle.ace_runs.specs.Bursts.{are_kept, is_kept}
use Rattle.ace_runs.specs.Closing.{access_of, closing_of, gives_access, retirement, state_named}
use Rattle.ace_runs.specs.Follows.{FollowsSoFar, is_next_act, obeys}
use Rattle.ace_runs.specs.Operations.{next_operation}
use Rattle.ace_runs.specs.Retiring.{are_acts_done, may_retire, is_met}
use Rattle.ace_runs.specs.SameEvents.{same_burst, same_event}
use Rattle.ace_runs.specs.Segments.{acts_made, is_for_operation, segment}
use Rattle.ace_runs.proofs.Accepting.{kept-breaks-none}
use Rattle.ace_runs.proofs.NeverStuck.Operations.Fetches.ReadsAhead.{}
use Rattle.ace_runs.proofs.NeverStuck.Operations.Kept.ClosingKept.{has_access}
use Rattle.ace_runs.proofs.NeverStuck.Operations.SegmentOf.{}
use Rattle.ace_runs.proofs.NeverStuck.Phases.NextActs.{acts-within, next-turn}
use Rattle.ace_runs.proofs.NeverStuck.Steps.SameEvents.{equal-event, same-without, same_test-self}
use Rattle.ace_master_laws.proofs.Lines.HeldLines.{RaisesNone}
use Rattle.ace_master_laws.proofs.Progress.Wells.{AllWell, IsWell, gentle-room, load-well, op-well, store-well}
use Rattle.ace_runs.proofs.NeverStuck.Phases.IssuedActs.{issued-port, issued-act}
use Rattle.ace_runs.proofs.NeverStuck.Steps.Lists.{all-implied}
use Rattle.ace_model.proofs.General.Booleans.{same_test-at}
use Rattle.ace_model.specs.States.{state_of}

-- ---- how an operation ends ---------------------------------------------------------------------------

-- An operation ends by its OP, or by its load or store and its OP, or it doesn't.
pub data Ending (h : Header) (past : Trace) (p : ℕ) (op : Op) : Type 0 where
  by_op : (res : Outcome) → may_retire h past p op res ≡ true → closing_of h past p op ≡ retirement past p res → Ending h past p op
  by_access : (e : Event) → access_of past p op ≡ Some e → may_retire h past p op Ok ≡ false → gives_access op (state_named h past p op) ≡ true
      → closing_of h past p op ≡ e ∷ retirement past p Ok → Ending h past p op
  not_now : closing_of h past p op ≡ [] → Ending h past p op

pub ending : (h : Header) (past : Trace) (p : ℕ) (op : Op) → Ending h past p op
unfolding closing_of
ending h past p op =
    by (may_retire h past p op Ok) (may_retire h past p op Skip) (may_retire h past p op Fail) (gives_access op (state_named h past p op)) (access_of past p op) refl refl refl refl refl
  where
    by : (a b c d : Bool) (o : Option Event) → may_retire h past p op Ok ≡ a → may_retire h past p op Skip ≡ b → may_retire h past p op Fail ≡ c
        → gives_access op (state_named h past p op) ≡ d → access_of past p op ≡ o → Ending h past p op
    by true b c d o ok skip fail access is = by_op Ok ok (rw ok refl)
    by false true c d o ok skip fail access is = by_op Skip skip (rw (ok, skip) refl)
    by false false true d o ok skip fail access is = by_op Fail fail (rw (ok, skip, fail) refl)
    by false false false true None ok skip fail access is = not_now (rw (ok, skip, fail, access, is) refl)
    by false false false true (Some e) ok skip fail access is = by_access e is ok access (rw (ok, skip, fail, access, is) refl)
    by false false false false o ok skip fail access is = not_now (rw (ok, skip, fail, access) refl)

-- ---- operations that load or store -------------------------------------------------------------------

-- their acts issue nothing
fits-issues : (op : Op) (n : ℕ) (fits : Event → Bool) (e : Event) (k : ℕ) → has_access op ≡ true → slice_get (acts_of op) n ≡ Some fits → fits e ≡ true → issued k e ≡ None
fits-issues o n fits e k some turn passes = by e passes
  where
    load : (a w : ℕ) (x : Bool) (f : Event) → is_load a w x f ≡ true → issued k f ≡ None
    load a w x (L q b v y word) m = refl
    load a w x f m = cc

    store : (a s : ℕ) (line : Line) (x : Bool) (f : Event) → is_store a s line x f ≡ true → issued k f ≡ None
    store a s line x (D q b t y l) m = refl
    store a s line x f m = cc

    one : (f : Event → Bool) (m : ℕ) → slice_get (f ∷ []) m ≡ Some fits → f ≡ fits
    one f zero there = Some-injective f fits there
    one f (suc m) there = cc

    of : (o : Op) → has_access o ≡ true → slice_get (acts_of o) n ≡ Some fits → (f : Event) → fits f ≡ true → issued k f ≡ None
    of (op.Ld a w) some turn f m = load a w false f (ap (λ (g : Event → Bool). g f) (one (is_load a w false) n turn) ∙ m)
    of (op.Ldx a w) some turn f m = load a w true f (ap (λ (g : Event → Bool). g f) (one (is_load a w true) n turn) ∙ m)
    of (op.St a w word) some turn f m = store a (word_strobe w) (word_line w word) false f (ap (λ (g : Event → Bool). g f) (one (is_store a (word_strobe w) (word_line w word) false) n turn) ∙ m)
    of (op.Stx a w word) some turn f m = store a (word_strobe w) (word_line w word) true f (ap (λ (g : Event → Bool). g f) (one (is_store a (word_strobe w) (word_line w word) true) n turn) ∙ m)
    of (op.Fill a line) some turn f m = store a full_line line false f (ap (λ (g : Event → Bool). g f) (one (is_store a full_line line false) n turn) ∙ m)
    of v some turn f m = cc

    by : (f : Event) → fits f ≡ true → issued k f ≡ None
    by f m = of o some turn f m

-- no transaction of theirs is an act
abbrev pub is_no_act : Transaction → Bool
is_no_act x = not (is_act_transaction x)

all-more : (test : Transaction → Bool) (xs : List Transaction) (o : Option Transaction) → list_all test xs ≡ true → ((x : Transaction) → o ≡ Some x → test x ≡ true) → list_all test (more xs o) ≡ true
all-more test xs None all new = all
all-more test xs (Some x) all new = by xs all
  where
    by : (ys : List Transaction) → list_all test ys ≡ true → list_all test (ys ++ x ∷ []) ≡ true
    by [] a = and_from _ _ (new x refl) refl
    by (y ∷ ys) a = let parts = and_parts (test y) (list_all test ys) a in and_from _ _ parts.0 (by ys parts.1)

new-no-act : (plan : Plan) (past : Trace) (p : ℕ) (e : Event) (o : Op) → obeys plan past e ≡ true → next_operation plan past p ≡ Some o → has_access o ≡ true
    → (x : Transaction) → option_filter (is_for_operation p) (issued (length past) e) ≡ Some x → is_no_act x ≡ true
new-no-act plan past p e o obeying next some x new =
    elim (cases_Bool (is_act_transaction x)) [
      | inr f ↦ ap not f
      | inl act ↦
          let of = option_filter-is (is_for_operation p) (issued (length past) e) x new in
          let own = (and_parts (x.port == p) _ of.1).0 in
          let both = and_from _ _ (issued-port e (length past) p x of.0 ∙ own) (issued-act e (length past) x of.0 act) in
          let t = next-turn plan past p e obeying both in
          let same : t.of ≡ o = Some-injective t.of o (sym t.next ∙ next) in
          let none = fits-issues t.of (acts_made past p) t.fits e (length past) (ap has_access same ∙ some) t.turn t.passes in
          let bad : None ≡ Some x = sym none ∙ of.0 in cc
    ]

pub access-no-acts : (plan : Plan) (past : Trace) (p : ℕ) (o : Op) → FollowsSoFar plan past → next_operation plan past p ≡ Some o → has_access o ≡ true
    → list_all is_no_act (segment past p) ≡ true
access-no-acts plan [] p o f next some = refl
access-no-acts plan (Retires q k res ∷ past) p o f next some =
    elim (cases_Bool (p == q)) [
      | inl t ↦ rw t refl
      | inr n ↦ rw n (access-no-acts plan past p o f.0 (rw n at next) some)
    ]
access-no-acts plan (e ∷ past) p o f next some =
    all-more is_no_act (segment past p) (option_filter (is_for_operation p) (issued (length past) e)) (access-no-acts plan past p o f.0 next some)
    (new-no-act plan past p e o f.1 next some)

-- so none is outstanding
pub access-acts-done : (plan : Plan) (past : Trace) (p : ℕ) (o : Op) → FollowsSoFar plan past → next_operation plan past p ≡ Some o → has_access o ≡ true → are_acts_done plan.header past p ≡ true
access-acts-done plan past p o f next some =
    all-implied is_no_act (λ x. implies (is_act_transaction x) (not (is_outstanding plan.header past x)))
    (λ x none. ap (λ b. implies b (not (is_outstanding plan.header past x))) (not-true (is_act_transaction x) none)) (segment past p) (access-no-acts plan past p o f next some)

pub access-met : (h : Header) (past : Trace) (p : ℕ) (o : Op) → has_access o ≡ true → are_acts_done h past p ≡ true → (length (acts_of o) ≡ 1) × (is_met h past p o ≡ true)
access-met h past p (op.Ld a w) some done = (refl, done)
access-met h past p (op.Ldx a w) some done = (refl, done)
access-met h past p (op.St a w word) some done = (refl, done)
access-met h past p (op.Stx a w word) some done = (refl, done)
access-met h past p (op.Fill a line) some done = (refl, done)
access-met h past p o some done = cc

-- once the load or store is made the operation may retire
pub access-retires : (plan : Plan) (past : Trace) (p : ℕ) (o : Op) → FollowsSoFar plan past → next_operation plan past p ≡ Some o → has_access o ≡ true → acts_made past p ≡ 1
    → may_retire plan.header past p o Ok ≡ true
access-retires plan past p o f next some made =
    let met = access-met plan.header past p o some (access-acts-done plan past p o f next some) in
    and_from _ _ (ap (λ n. n == length (acts_of o)) made ∙ ap (λ n. 1 == n) met.0) met.1

-- where it may not retire, it isn't made
pub access-unmade : (plan : Plan) (past : Trace) (p : ℕ) (o : Op) → FollowsSoFar plan past → next_operation plan past p ≡ Some o → has_access o ≡ true → may_retire plan.header past p o Ok ≡ false
    → acts_made past p ≡ 0
access-unmade plan past p o f next some stays =
    elim (cases_eq (acts_made past p) 1) [
      | inl one ↦ let bad : false ≡ true = sym stays ∙ access-retires plan past p o f next some one in cc
      | inr other ↦
          let low = acts-within plan past p f o next in
          let met = access-met plan.header past p o some (access-acts-done plan past p o f next some) in
          let count = met.0 in
          omega (arith, low, count, other)
    ]

access-has : (past : Trace) (p : ℕ) (o : Op) (e : Event) → access_of past p o ≡ Some e → has_access o ≡ true
access-has past p (op.Ld a w) e is = refl
access-has past p (op.Ldx a w) e is = refl
access-has past p (op.St a w word) e is = refl
access-has past p (op.Stx a w word) e is = refl
access-has past p (op.Fill a line) e is = refl
access-has past p o e is = cc

-- ---- what is the same --------------------------------------------------------------------------------

pub op-same : (p k : ℕ) (res : Outcome) (e : Event) → same_event (Retires p k res) e ≡ true → e ≡ Retires p k res
op-same p k res (Retires q n r) same = sym (same-without (Retires p k res) (Retires q n r) same)
op-same p k res e same = cc

pub retirement-same : (past : Trace) (p : ℕ) (res : Outcome) (burst : List Event) → same_burst (retirement past p res) burst ≡ true → burst ≡ retirement past p res
retirement-same past p res [] same = cc
retirement-same past p res (e ∷ []) same = ap (λ v. v ∷ []) (op-same p (retired past p) res e (and_parts (same_event (Retires p (retired past p) res) e) true same).0)
retirement-same past p res (e ∷ f ∷ rest) same = let bad = (and_parts (same_event (Retires p (retired past p) res) e) false same).1 in cc

pub store-event : (p a s : ℕ) (x : Bool) (line : Line) (d : Event) → same_event (D p a s x line) d ≡ true → (l : Line) × (d ≡ D p a s x l) × (same_line line l ≡ true)
store-event p a s x line (D q c t y l) same =
    let p4 = and_parts ((p == q) && (a == c) && (s == t) && same_test x y) (same_line line l) same in
    let p3 = and_parts ((p == q) && (a == c) && (s == t)) (same_test x y) p4.0 in
    let p2 = and_parts ((p == q) && (a == c)) (s == t) p3.0 in
    let p1 = and_parts (p == q) (a == c) p2.0 in
    (l, rw (← eqb-true p q p1.0, ← eqb-true a c p1.1, ← eqb-true s t p2.1, ← same_test-at x y p3.1) refl, p4.1)
store-event p a s x line d same = cc

-- the event fits the first act of the operation
abbrev FitsFirst : Op → Event → Type 0
FitsFirst o d = is_some_and (slice_get (acts_of o) 0) (λ fits. fits d) ≡ true

-- The event is a load or store of the port, and the first act of the operation.
pub data IsAccess (p : ℕ) (o : Op) (d : Event) : Type 0 where
  loads : (a w : ℕ) (x : Bool) (word : ℕ) → d ≡ L p a w x word → FitsFirst o d → IsAccess p o d
  stores : (a s : ℕ) (x : Bool) (line : Line) → d ≡ D p a s x line → FitsFirst o d → IsAccess p o d

own : (n : ℕ) → (n == n) ≡ true
own n = eq-eqb n n refl

load-access : (p : ℕ) (o : Op) (a w : ℕ) (x : Bool) (word : ℕ) (e d : Event) → L p a w x word ≡ e → same_event e d ≡ true → FitsFirst o (L p a w x word) → IsAccess p o d
load-access p o a w x word e d is same fits =
    let one : L p a w x word ≡ d = equal-event (L p a w x word) d (subst (λ v. same_event v d ≡ true) (sym is) same) refl in
    loads a w x word (sym one) (subst (FitsFirst o) one fits)

store-access : (p : ℕ) (o : Op) (a s : ℕ) (x : Bool) (line : Line) (e d : Event) → D p a s x line ≡ e → same_event e d ≡ true
    → ((l : Line) → same_line line l ≡ true → FitsFirst o (D p a s x l)) → IsAccess p o d
store-access p o a s x line e d is same fits =
    let one = store-event p a s x line d (subst (λ v. same_event v d ≡ true) (sym is) same) in
    stores a s x one.0 one.1 (subst (FitsFirst o) (sym one.1) (fits one.0 one.2))

fits-load : (p a w : ℕ) (x : Bool) (word : ℕ) → is_load a w x (L p a w x word) ≡ true
fits-load p a w x word = rw (own a, own w, same_test-self x) refl

pub fits-store : (p a s : ℕ) (line : Line) (x : Bool) (l : Line) → same_line line l ≡ true → is_store a s line x (D p a s x l) ≡ true
fits-store p a s line x l same = and_from _ _ (rw (own a, own s, same_test-self x) refl) same

pub access-is : (past : Trace) (p : ℕ) (o : Op) (e d : Event) → access_of past p o ≡ Some e → same_event e d ≡ true → IsAccess p o d
access-is past p (op.Ld a w) e d is same =
    load-access p (op.Ld a w) a w false (word_of (copy_of past p a) w) e d (Some-injective _ e is) same (fits-load p a w false (word_of (copy_of past p a) w))
access-is past p (op.Ldx a w) e d is same =
    load-access p (op.Ldx a w) a w true (word_of (copy_of past p a) w) e d (Some-injective _ e is) same (fits-load p a w true (word_of (copy_of past p a) w))
access-is past p (op.St a w word) e d is same =
    store-access p (op.St a w word) a (word_strobe w) false (word_line w word) e d (Some-injective _ e is) same (λ l m. fits-store p a (word_strobe w) (word_line w word) false l m)
access-is past p (op.Stx a w word) e d is same =
    store-access p (op.Stx a w word) a (word_strobe w) true (word_line w word) e d (Some-injective _ e is) same (λ l m. fits-store p a (word_strobe w) (word_line w word) true l m)
access-is past p (op.Fill a line) e d is same =
    store-access p (op.Fill a line) a full_line false line e d (Some-injective _ e is) same (λ l m. fits-store p a full_line line false l m)
access-is past p o e d is same = cc

-- ---- what ends an operation --------------------------------------------------------------------------

-- an event other than an RK brings no line in
pub others-raise-none : (h : Header) (past : Trace) (p : ℕ) (e : Event) → IsAccepted h (e ∷ past) → ends_a_read e ≡ false → RaisesNone h past e p
others-raise-none h past p e a none l inv = ap is_invalid ((lessened_by h past e (accepted_keeps_each h past e a) none l p).gone (is_invalid-is (state_of h past p l) inv))

-- What is left of a load or store that is made.
pub record IsMade (plan : Plan) (past : Trace) (p : ℕ) (d : Event) : Type 0 where
  pub well : IsWell plan past d
  pub stays : next_operation plan (d ∷ past) p ≡ next_operation plan past p
  pub made : acts_made (d ∷ past) p ≡ acts_made past p + 1

module _ (plan : Plan) (past : Trace) (p : ℕ) (o : Op) (f : FollowsSoFar plan past) (next : next_operation plan past p ≡ Some o) where
  first-act : (d : Event) → acts_made past p ≡ 0 → FitsFirst o d → is_next_act plan past d p ≡ true
  first-act d made fits =
      ap (λ n. is_some_and n (λ op. is_some_and (slice_get (acts_of op) (acts_made past p)) (λ fits. fits d))) next
      ∙ ap (λ n. is_some_and (slice_get (acts_of o) n) (λ fits. fits d)) made ∙ fits

  pub access-made : (d : Event) → IsAccess p o d → acts_made past p ≡ 0 → IsAccepted plan.header (d ∷ past) → IsMade plan past p d
  access-made d (loads a w x word is fits) made a2 =
      subst (IsMade plan past p) (sym is)
      (record {
        well = load-well plan past p a w x word f (first-act (L p a w x word) made (subst (FitsFirst o) is fits));
        stays = refl;
        made = ap (λ b. if b then acts_made past p + 1 else acts_made past p) (and_from _ _ (own p) refl);
      })
  access-made d (stores a s x line is fits) made a2 =
      subst (IsMade plan past p) (sym is)
      (record {
        well = store-well plan past p a s x line (first-act (D p a s x line) made (subst (FitsFirst o) is fits))
            (gentle-room plan past p (D p a s x line) f refl (others-raise-none plan.header past p (D p a s x line) (subst (λ v. IsAccepted plan.header (v ∷ past)) is a2) refl));
        stays = refl;
        made = ap (λ b. if b then acts_made past p + 1 else acts_made past p) (and_from _ _ (own p) refl);
      })

  -- the load or store and the OP
  access-well : (e d : Event) → access_of past p o ≡ Some e → same_event e d ≡ true → may_retire plan.header past p o Ok ≡ false → IsAccepted plan.header (d ∷ past)
      → AllWell plan past (d ∷ retirement past p Ok)
  access-well e d is same none a =
      let some = access-has past p o e is in
      let made = access-unmade plan past p o f next some none in
      let m = access-made d (access-is past p o e d is same) made a in
      let later = m.stays ∙ next in
      let one : acts_made (d ∷ past) p ≡ 1 = m.made ∙ ap (λ n. n + 1) made in
      let may = access-retires plan (d ∷ past) p o (f, m.well.obeying) later some one in
      (m.well, (op-well plan (d ∷ past) p (retired past p) Ok o (f, m.well.obeying) later may, tt))

  -- What ends the operation obeys the plan and stays lean.
  pub closing-well : (burst : List Event) → IsAccepted plan.header past → same_burst (closing_of plan.header past p o) burst ≡ true → are_kept plan.header past burst ≡ true → AllWell plan past burst
  closing-well burst a same kept = by (ending plan.header past p o) burst same kept
    where
      by : Ending plan.header past p o → (later : List Event) → same_burst (closing_of plan.header past p o) later ≡ true → are_kept plan.header past later ≡ true → AllWell plan past later
      by (by_op res may is) later same kept =
          let one = retirement-same past p res later (ap (λ l. same_burst l later) (sym is) ∙ same) in
          subst (AllWell plan past) (sym one) (op-well plan past p (retired past p) res o f next may, tt)
      by (not_now is) [] same kept = tt
      by (not_now is) (e ∷ later) same kept = let bad : false ≡ true = ap (λ l. same_burst l (e ∷ later)) (sym is) ∙ same in cc
      by (by_access e is none gives cl) [] same kept = let bad : false ≡ true = ap (λ l. same_burst l []) (sym cl) ∙ same in cc
      by (by_access e is none gives cl) (d ∷ later) same kept =
          let parts = and_parts (same_event e d) (same_burst (retirement past p Ok) later) (ap (λ l. same_burst l (d ∷ later)) (sym cl) ∙ same) in
          let of = and_parts (is_kept plan.header past d) (are_kept plan.header (d ∷ past) later) kept in
          let one = retirement-same past p Ok later parts.1 in
          subst (λ l. AllWell plan past (d ∷ l)) (sym one)
          (access-well e d is parts.0 none (a, kept-breaks-none plan.header past d of.0))
