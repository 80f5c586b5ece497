-- What each operation asks for keeps a run legal.
use Rattle.std.proofs.Common.{◌≡◌, ◌<◌, ℕ, Bool, true, false, not, ◌&&◌, ◌||◌, ◌==◌, if◌then◌else◌, List, [], ◌∷◌, ◌++◌, length, map, Option, Some, None, inl, inr, refl, sym, ap, ◌∙◌, arith, filter, is_none, is_some, slice_get, unwrap_or, ◌⊎◌, ◌≤◌}
use Rattle.ace_codes.specs.declared.state.LineState.{LineState}
use Rattle.ace_event.specs.declared.event.Outcome.TheVariants.{Ok}
use Rattle.ace_codes.specs.declared.kind.ArKind.TheVariants as read
use Rattle.std.specs.List.{list_any, flat_map, list_all}
use Rattle.std.specs.Option.{option_to_list}
use Rattle.ace_codes.specs.declared.kind.ArKind.{ArKind}
use Rattle.ace_codes.specs.declared.kind.AwKind.{AwKind}
use Rattle.ace_codes.specs.declared.kind.AwKind.TheVariants as write
use Rattle.ace_codes.specs.declared.state.LineState.TheVariants.{I, UC, UD, SC, SD}
use Rattle.ace_event.specs.declared.event.Channel.TheVariants.{Read, Write}
use Rattle.ace_event.specs.declared.event.Event.{Event}
use Rattle.ace_event.specs.declared.event.Event.TheVariants.{Aw, S}
use Rattle.ace_event.specs.declared.header.Header.{Header}
use Rattle.ace_model.specs.declared.plans.Op.{Op}
use Rattle.ace_model.specs.declared.plans.Op.TheVariants as op
use Rattle.ace_model.specs.declared.transactions.Transaction.{Transaction}
use Rattle.ace_master_laws.specs.Orderly.{is_cleared, line_used, wants_way, clears, has_lost, read_wanted, store_wanted, takes_line, gives, acts, owns, brings}
use Rattle.ace_runs.specs.Follows.{FollowsSoFar}
use Rattle.ace_master_laws.proofs.Progress.Come.{HasCome}
use Rattle.ace_model.specs.Accepted.{IsAccepted}
use Rattle.ace_master_laws.proofs.GoesOn.Asks.{IsGood, ReadAsk, access-waits, read-good, own-named}
use Rattle.ace_model.proofs.Trace.Growth.{IsIssued, issued-cases}
use Rattle.ace_runs.specs.Lean.{IsLean, is_on_named_line, is_one_of_three, is_one_of_two}
use Rattle.ace_master_laws.proofs.GoesOn.Ready.{IsReady, wanted-named, none-issued}
use Rattle.ace_model.specs.Plans.{IsRight, Plan, wants_no_snoop, line_named}
use Rattle.ace_model.specs.Trace.{Trace, is_none_or, is_some_and}
use Rattle.ace_master_laws.proofs.GoesOn.Writes.{WriteAsk, drop-good, last-good, write-good, written-now, unacted}
use Rattle.std.proofs.lemmas.Bool.{and_parts, eqb-true, or_right, and_from, eq-eqb, lt-ltb, ltb-true, not-true, or_left}
use Rattle.ace_codes.specs.Writes.{aw_code, write_place}
use Rattle.ace_runs.specs.Requests.{domain_for, drop_bursts, free_on, has_room, read_bursts, write_bursts, Request, bursts_of, gives_up_first, room_bursts, victim_bursts, Misses, Reads, Writes, Drops, request_of}
use Rattle.ace_master_laws.proofs.Lines.HeldLines.{held-there, held-within, others-fewer, held-gone, others-few}
use Rattle.ace_model.proofs.Holders.ShareableLines.{held_is_shareable}
use Rattle.ace_runs.specs.HeldLines.{held_lines, others}
use Rattle.ace_model.proofs.General.Booleans.{implies-at}
use Rattle.ace_runs.specs.Acts.{is_act_write, acts_of, is_act_read, issues_read, issues_write}
use Rattle.ace_codes.specs.Places.{is_at}
use Rattle.ace_tables.specs.States.{is_invalid, is_dirty}
use Rattle.ace_model.specs.Transactions.{is_line, write_kind, issued, has_outstanding_on, read_kind}
use Rattle.ace_model.specs.AddressRules.{is_no_snoop, keeps_apart, has_write}
use Rattle.ace_model.specs.Kinds.{is_no_snoop_read, is_no_snoop_write, is_update, is_write_barrier, is_clean_unique, is_dvm_complete, is_granted_write, is_line_read, is_read_barrier, is_unique_write, is_evict}
use Rattle.ace_model.proofs.General.Options.{Some-injective, is_none_or-at}
use Rattle.ace_tables.specs.Answers.{same_test}
use Rattle.ace_model.specs.States.{state_of}
use Rattle.ace_runs.proofs.NeverStuck.Operations.Kept.AsksKept.{write-known, read-known}
use Rattle.ace_runs.specs.Operations.{names}
use Rattle.ace_runs.proofs.NeverStuck.Operations.Lines.HeldLines.{all-filtered, each-held, holds}
use Rattle.ace_codes.specs.Reads.{ar_code, read_place}
use Rattle.ace_runs.proofs.NeverStuck.Operations.Kept.ClosingKept.{has_access}
use Rattle.ace_runs.specs.Retiring.{may_retire, may_skip}
use Rattle.ace_runs.proofs.NeverStuck.Operations.Lines.OfPlan.{next-planned}
use Rattle.ace_master_laws.proofs.Acknowledges.Acknowledging.{pair-parts}
use Rattle.ace_master_laws.proofs.Acknowledges.Settling.{wanted-taken}
use Rattle.ace_runs.specs.Segments.{acts_made, has_written, segment}
use Rattle.ace_runs.proofs.NeverStuck.Phases.OneOfTwo.{has_two_acts}
use Rattle.ace_runs.proofs.NeverStuck.Operations.Fits.Ends.{not-skipped}
use Rattle.ace_tables.specs.StartStates.{starts_write}
use Rattle.ace_runs.specs.Closing.{gives_access, state_named}

-- ---- operations that want a way ----------------------------------------------------------------------

clears-way : (o : Op) (l : ℕ) → wants_way o ≡ true → clears o write.WriteBack l ≡ true
clears-way (op.Ro b) l w = cc
clears-way (op.Ci b) l w = cc
clears-way (op.Mi b) l w = cc
clears-way (op.Wu b strobe line) l w = cc
clears-way (op.Wlu b line) l w = cc
clears-way (op.Cs b) l w = cc
clears-way o l w = w

-- the line that an operation loads from or stores to is one that it wants a way for
used-way : (o : Op) (l : ℕ) → line_used o ≡ Some l → wants_way o ≡ true
used-way (op.Ld a w) l used = refl
used-way (op.Ldx a w) l used = refl
used-way (op.St a w word) l used = refl
used-way (op.Fill a line) l used = refl
used-way o l used = cc

cleared-way : (ways : ℕ) (h : Header) (past : Trace) (p : ℕ) (o : Op) → wants_way o ≡ true → is_cleared ways h past p o ≡ has_room ways h past p
cleared-way ways h past p (op.Ro b) w = cc
cleared-way ways h past p (op.Ci b) w = cc
cleared-way ways h past p (op.Mi b) w = cc
cleared-way ways h past p (op.Wu b strobe line) w = cc
cleared-way ways h past p (op.Wlu b line) w = cc
cleared-way ways h past p (op.Cs b) w = cc
cleared-way ways h past p o w = ap (λ b. b && has_room ways h past p) w

lean-named : (plan : Plan) (past : Trace) (y : Transaction) → IsLean plan past → IsIssued past y → is_on_named_line plan y ≡ true
lean-named plan [] y lean i = let low = i.before in absurd (omega (arith, low))
lean-named plan (e ∷ past) y lean i =
    elim (issued-cases e past y i) [
      | inr old ↦ lean-named plan past y lean.0 old
      | inl new ↦
          let first = (and_parts (is_none_or (issued (length past) e) (λ x. is_one_of_three plan past x && is_on_named_line plan x)) (is_one_of_two plan past e) lean.1).0 in
          (and_parts (is_one_of_three plan past y) (is_on_named_line plan y) (is_none_or-at (issued (length past) e) (λ x. is_one_of_three plan past x && is_on_named_line plan x) y first new)).1
    ]

-- a line that a port holds is one that the plan names
held-named : (plan : Plan) (past : Trace) (p l : ℕ) (x : Transaction) → IsAccepted plan.header past → IsLean plan past → is_invalid (state_of plan.header past p l) ≡ false → x.addr ≡ l → is_no_snoop x ≡ false
    → is_on_named_line plan x ≡ true
held-named plan past p l x a lean held addr class =
    let s = held_is_shareable plan.header past a p l held in
    let on = and_parts (is_line s.one) (s.one.addr == l) s.on in
    let same : s.one.addr ≡ x.addr = eqb-true s.one.addr l on.1 ∙ sym addr in
    let named = lean-named plan past s.one lean s.stands in
    let some = implies-at (is_line s.one) (list_any (λ o. names s.one.addr o && same_test (is_no_snoop s.one) (wants_no_snoop o.op)) plan.operations) named on.0 in
    or_right (not (is_line x)) _
    (ap (λ n. list_any (λ o. names n o && same_test (is_no_snoop x) (wants_no_snoop o.op)) plan.operations) (sym same)
    ∙ ap (λ b. list_any (λ o. names s.one.addr o && same_test b (wants_no_snoop o.op)) plan.operations) (class ∙ sym s.snoops) ∙ some)

-- ---- lists of bursts ---------------------------------------------------------------------------------

module _ (plan : Plan) (past : Trace) (p : ℕ) (o : Op) (right : IsRight plan) (a : IsAccepted plan.header past) (f : FollowsSoFar plan past) (l : IsLean plan past) (c : HasCome plan past p) (r : IsReady plan past p o) where
  abbrev h : Header
  h = plan.header

  -- Each of the bursts keeps on.
  abbrev pub EachGood : List (List Event) → Type 0
  EachGood [] = Unit {0}
  EachGood (b ∷ bs) = IsGood plan past p o right a f c r b × EachGood bs

  good-append : (xs ys : List (List Event)) → EachGood xs → EachGood ys → EachGood (xs ++ ys)
  good-append [] ys x y = y
  good-append (b ∷ xs) ys x y = (x.0, good-append xs ys x.1 y)

  good-if : (b : Bool) (xs ys : List (List Event)) → (b ≡ true → EachGood xs) → (b ≡ false → EachGood ys) → EachGood (if b then xs else ys)
  good-if true xs ys x y = x refl
  good-if false xs ys x y = y refl

  pub good-each : (o2 : Option ℕ) (burst : ℕ → List Event) → ((i : ℕ) → IsGood plan past p o right a f c r (burst i)) → EachGood (map burst (option_to_list o2))
  good-each None burst good = tt
  good-each (Some i) burst good = (good i, tt)

  good-reads : (k : ArKind) (m : ℕ) (lock : Bool) → ReadAsk plan past p o right a f c r k m lock → EachGood (read_bursts h past p k m lock)
  good-reads k m lock q = good-each (free_on h past p Read) _ (λ i. read-good plan past p o right a f c r k m lock q i)

  good-writes : (k : AwKind) (m : ℕ) → ((i : ℕ) → IsGood plan past p o right a f c r (Aw p i m (aw_code k) (domain_for (is_no_snoop_write k)) 0 ∷ [])) → EachGood (write_bursts h past p k m)
  good-writes k m good = good-if (keeps_apart h past p k) _ [] (λ t. good-each (free_on h past p Write) _ good) (λ t. tt)

  good-drop : (m : ℕ) → IsGood plan past p o right a f c r (S p m I ∷ []) → EachGood (drop_bursts p m)
  good-drop m good = (good, tt)

  -- ---- making room -----------------------------------------------------------------------------------

  held-way : (m : ℕ) → is_invalid (state_of h past p m) ≡ false → length (others m (held_lines h past p)) < plan.ways
  held-way m held =
      let few = others-fewer m (held_lines h past p) (held-there h past p m held) in
      let low = held-within plan past p f in omega (arith, few, low)

  update-ask : (k : AwKind) (m : ℕ) → (is_update k || is_evict k) ≡ true → is_invalid (state_of h past p m) ≡ false → WriteAsk plan past p o right a f c r k m
  update-ask k m updates held =
      record {
        known = write-known k (update-kind k updates).0;
        at = (update-kind k updates).1.0;
        act = λ t. let none = (update-kind k updates).1.1.0 in let bad : false ≡ true = sym none ∙ t in cc;
        line = λ x reads is addr. held-named plan past p m x a l held addr
            (ap (λ v. is_some_and v is_no_snoop_read || is_some_and (write_kind x) is_no_snoop_write) reads ∙ ap (λ v. is_some_and v is_no_snoop_write) is ∙ (update-kind k updates).1.1.1);
      }
    where
      update-kind : (j : AwKind) → (is_update j || is_evict j) ≡ true
          → (is_write_barrier j ≡ false) × ((is_at (write_place j) (aw_code j) (domain_for (is_no_snoop_write j)) 0 ≡ true) × ((is_act_write j ≡ false) × (is_no_snoop_write j ≡ false)))
      update-kind write.WriteBack u = (refl, (refl, (refl, refl)))
      update-kind write.WriteClean u = (refl, (refl, (refl, refl)))
      update-kind write.WriteEvict u = (refl, (refl, (refl, refl)))
      update-kind write.Evict u = (refl, (refl, (refl, refl)))
      update-kind j u = cc

  gone-now : (m : ℕ) → is_invalid (state_of h (S p m I ∷ past) p m) ≡ true
  gone-now m = ap (λ b. is_invalid (unwrap_or (if b then Some I else None) (state_of h past p m))) (and_from _ _ (eq-eqb p p refl) (eq-eqb m m refl))

  -- the port holds nothing of the line that the operation loads from or stores to
  abbrev IsAbsent : Type 0
  IsAbsent = (n : ℕ) → line_used o ≡ Some n → is_invalid (state_of h past p n) ≡ true

  -- it uses none
  no-line : wants_way o ≡ false → IsAbsent
  no-line no_way n used = let bad : false ≡ true = sym no_way ∙ used-way o n used in cc

  module _ (way : wants_way o ≡ true) (full : has_room plan.ways h past p ≡ false) (gone : IsAbsent) where
    not-cleared : is_cleared plan.ways h past p o ≡ false
    not-cleared = cleared-way plan.ways h past p o way ∙ full

    victim-good : (m : ℕ) → is_invalid (state_of h past p m) ≡ false → EachGood (victim_bursts h past p m)
    victim-good m held =
        good-if (is_dirty (state_of h past p m)) (write_bursts h past p write.WriteBack m) (drop_bursts p m)
        (λ t. good-writes write.WriteBack m (λ i. write-good plan past p o right a f c r write.WriteBack m (update-ask write.WriteBack m refl held) i
        (λ x is addr. gives write.WriteBack is (clears-way o x.addr way)) (λ u. not-cleared) (λ u w. held-way m held) (λ u. gone)))
        (λ t. good-drop m (drop-good plan past p o right a f c r m not-cleared (λ now.
        let few = held-gone h past (S p m I) p m refl (eq-eqb p p refl) (gone-now m) in
        let low = held-way m held in
        cleared-way plan.ways h (S p m I ∷ past) p o way ∙ lt-ltb (length (held_lines h (S p m I ∷ past) p)) plan.ways (omega (arith, few, low)))))

    victims : (ms : List ℕ) → list_all (holds h past p) ms ≡ true → EachGood (flat_map (victim_bursts h past p) ms)
    victims [] all = tt
    victims (m ∷ ms) all =
        let parts = and_parts (holds h past p m) (list_all (holds h past p) ms) all in
        good-append (victim_bursts h past p m) (flat_map (victim_bursts h past p) ms) (victim-good m (not-true (is_invalid (state_of h past p m)) parts.0)) (victims ms parts.1)

    rooms : EachGood (room_bursts h past p)
    rooms =
        let keep = λ (m : ℕ). not (has_outstanding_on h past p m) in
        good-if (is_none (free_on h past p Write) || has_write h past p is_unique_write) [] (flat_map (victim_bursts h past p) (filter keep (held_lines h past p))) (λ t. tt)
        (λ t. victims (filter keep (held_lines h past p)) (all-filtered (holds h past p) keep (holds h past p) (λ m k t. t) (held_lines h past p) (each-held h past p)))

  -- ---- reads -----------------------------------------------------------------------------------------

  -- a read that brings a line in
  bring-ask : (k : ArKind) (m : ℕ) (lock : Bool) → read_wanted o ≡ Some (k, m) → takes_line k ≡ true → length (others m (held_lines h past p)) < plan.ways → ReadAsk plan past p o right a f c r k m lock
  bring-ask k m lock wanted takes way =
      let kind = bring-kind k takes in
      record {
        known = read-known k kind.0;
        at = kind.1.0;
        no_completion = kind.1.1.0;
        wanted = λ x is addr locked of. brings k m wanted is of;
        owner = λ t. let none = kind.1.1.1.0 in let bad : false ≡ true = sym none ∙ t in cc;
        way = λ t. way;
        act = λ t. let none = kind.1.1.1.1.0 in let bad : false ≡ true = sym none ∙ t in cc;
        line = λ t. (wanted-named o k m wanted, kind.1.1.1.1.1 ∙ sym (wanted-ends o k m wanted).0);
        ends = inr (wanted, (wanted-ends o k m wanted).1);
      }
    where
      bring-kind : (j : ArKind) → takes_line j ≡ true → (is_read_barrier j ≡ false) × ((is_at (read_place j) (ar_code j) (domain_for (is_no_snoop_read j)) 0 ≡ true) × ((is_dvm_complete j ≡ false)
          × ((is_clean_unique j ≡ false) × ((is_act_read j ≡ false) × (is_no_snoop_read j ≡ false)))))
      bring-kind read.ReadShared t = (refl, (refl, (refl, (refl, (refl, refl)))))
      bring-kind read.ReadClean t = (refl, (refl, (refl, (refl, (refl, refl)))))
      bring-kind read.ReadNotSharedDirty t = (refl, (refl, (refl, (refl, (refl, refl)))))
      bring-kind read.ReadUnique t = (refl, (refl, (refl, (refl, (refl, refl)))))
      bring-kind read.MakeUnique t = (refl, (refl, (refl, (refl, (refl, refl)))))
      bring-kind j t = cc

      wanted-ends : (v : Op) (j : ArKind) (n : ℕ) → read_wanted v ≡ Some (j, n) → (wants_no_snoop v ≡ false) × ((has_access v ≡ true) ⊎ (v ≡ op.Pf n j))
      wanted-ends (op.Ld b w) j n is = (refl, inl refl)
      wanted-ends (op.Ldx b w) j n is = (refl, inl refl)
      wanted-ends (op.St b w word) j n is = (refl, inl refl)
      wanted-ends (op.Fill b line) j n is = (refl, inl refl)
      wanted-ends (op.Pf b i) j n is = let s = pair-parts (Some (i, b)) i j b n refl is in (refl, inr (ap (λ v. op.Pf v i) s.1 ∙ ap (op.Pf n) s.0))
      wanted-ends v j n is = cc

  misses : (k : ArKind) (m : ℕ) (lock : Bool) → read_wanted o ≡ Some (k, m) → IsAbsent → EachGood (bursts_of plan.ways h past p (Misses k m lock))
  misses k m lock wanted gone =
      let takes = wanted-taken o k m wanted (next-planned plan past p o right r.next).fields in
      let way : wants_way o ≡ true = ap is_some wanted in
      good-if (has_room plan.ways h past p) (read_bursts h past p k m lock) (room_bursts h past p)
      (λ room.
      let low = ltb-true (length (held_lines h past p)) plan.ways room in
      let few = others-few m (held_lines h past p) in
      good-reads k m lock (bring-ask k m lock wanted takes (omega (arith, low, few))))
      (λ full. rooms way full gone)

  -- the CleanUnique of a line that the operation stores to
  own-ask : (m : ℕ) (lock : Bool) → store_wanted o ≡ Some (m, lock) → has_lost h past p o ≡ false → (line_named o ≡ Some m) × (wants_no_snoop o ≡ false) → ReadAsk plan past p o right a f c r read.CleanUnique m lock
  own-ask m lock wanted held line =
      record {
        known = read-known read.CleanUnique refl;
        at = refl;
        no_completion = refl;
        wanted = λ x is addr locked of. owns m lock wanted is addr locked;
        owner = λ t. held;
        way = λ t. cc;
        act = λ t. cc;
        line = λ t. (line.0, sym line.1);
        ends = inl refl;
      }

  -- a read that is the act of the operation
  act-ask : (k : ArKind) (m : ℕ) → is_act_read k ≡ true → is_read_barrier k ≡ false → slice_get (acts_of o) 0 ≡ Some (issues_read k m)
      → (is_line_read k ≡ true → (line_named o ≡ Some m) × (is_no_snoop_read k ≡ wants_no_snoop o)) → ReadAsk plan past p o right a f c r k m false
  act-ask k m act plain first line =
      let kind = act-kind k act plain in
      record {
        known = read-known k plain;
        at = kind.0;
        no_completion = kind.1.0;
        wanted = λ x is addr locked of. acts (or_left (is_some_and (read_kind x) is_act_read) _ (ap (λ v. is_some_and v is_act_read) is ∙ act));
        owner = λ t. let none = kind.1.1.0 in let bad : false ≡ true = sym none ∙ t in cc;
        way = λ t. let none = kind.1.1.1 in let bad : false ≡ true = sym none ∙ t in cc;
        act = λ t. first;
        line = line;
        ends = inl kind.1.1.1;
      }
    where
      act-kind : (j : ArKind) → is_act_read j ≡ true → is_read_barrier j ≡ false → (is_at (read_place j) (ar_code j) (domain_for (is_no_snoop_read j)) 0 ≡ true) × ((is_dvm_complete j ≡ false)
          × ((is_clean_unique j ≡ false) × (takes_line j ≡ false)))
      act-kind read.ReadOnce t n = (refl, (refl, (refl, refl)))
      act-kind read.ReadNoSnoop t n = (refl, (refl, (refl, refl)))
      act-kind read.CleanShared t n = (refl, (refl, (refl, refl)))
      act-kind read.CleanInvalid t n = (refl, (refl, (refl, refl)))
      act-kind read.MakeInvalid t n = (refl, (refl, (refl, refl)))
      act-kind read.DvmMessage t n = (refl, (refl, (refl, refl)))
      act-kind j t n = cc

  -- ---- writes ----------------------------------------------------------------------------------------

  -- a write that is the act of the operation
  act-writes : (k : AwKind) (m : ℕ) → is_granted_write k ≡ true → slice_get (acts_of o) 0 ≡ Some (issues_write k m) → (line_named o ≡ Some m) → (is_no_snoop_write k ≡ wants_no_snoop o)
      → EachGood (write_bursts h past p k m)
  act-writes k m granted first line class =
      let kind = granted-kind k granted in
      good-writes k m (λ i. write-good plan past p o right a f c r k m
      (record {
        known = write-known k kind.0;
        at = kind.1.0;
        act = λ t. first;
        line = λ x reads is addr. own-named plan p m o x (next-planned plan past p o right r.next) line addr
            (ap (λ v. is_some_and v is_no_snoop_read || is_some_and (write_kind x) is_no_snoop_write) reads ∙ ap (λ v. is_some_and v is_no_snoop_write) is ∙ class);
      }) i
      (λ x is addr. acts (or_right (is_some_and (read_kind x) is_act_read) _ (ap (λ v. is_some_and v is_act_write) is ∙ or_left (is_granted_write k) _ granted)))
      (λ u. let none = kind.1.1 in let bad : false ≡ true = sym none ∙ u in cc) (λ u w. let none = kind.1.1 in let bad : false ≡ true = sym none ∙ u in cc)
      (λ u n used. let none = kind.1.1 in let bad : false ≡ true = sym none ∙ u in cc))
    where
      granted-kind : (j : AwKind) → is_granted_write j ≡ true → (is_write_barrier j ≡ false) × ((is_at (write_place j) (aw_code j) (domain_for (is_no_snoop_write j)) 0 ≡ true) × (is_update j ≡ false))
      granted-kind write.WriteNoSnoop g = (refl, (refl, refl))
      granted-kind write.WriteUnique g = (refl, (refl, refl))
      granted-kind write.WriteLineUnique g = (refl, (refl, refl))
      granted-kind j g = cc

  -- a line is given up before the operation goes past its cache
  gives-up : (m : ℕ) (next : Request) → ((l : ℕ) → m ≡ l → clears o write.WriteBack l ≡ true) → wants_way o ≡ false
      → ((t : Trace) → is_cleared plan.ways h t p o ≡ is_invalid (state_of h t p m)) → (is_invalid (state_of h past p m) ≡ true → EachGood (bursts_of plan.ways h past p next))
      → EachGood (bursts_of plan.ways h past p (gives_up_first m (state_of h past p m) next))
  gives-up m next for no_way alike goes = by (is_invalid (state_of h past p m)) (is_dirty (state_of h past p m)) refl
    where
      by : (b d : Bool) → is_invalid (state_of h past p m) ≡ b → EachGood (bursts_of plan.ways h past p (if b then next else if d then Writes write.WriteBack m else Drops m))
      by true d is = goes is
      by false true is =
          good-writes write.WriteBack m (λ i. write-good plan past p o right a f c r write.WriteBack m (update-ask write.WriteBack m refl is) i
          (λ x k addr. gives write.WriteBack k (for x.addr (sym addr))) (λ u. alike past ∙ is) (λ u w. let bad : false ≡ true = sym no_way ∙ w in cc) (λ u. no-line no_way))
      by false false is =
          good-drop m (drop-good plan past p o right a f c r m (alike past ∙ is) (λ now. alike (S p m I ∷ past) ∙ gone-now m))

  -- ---- each operation --------------------------------------------------------------------------------

  skips-none : may_skip h past p o ≡ false
  skips-none = not-skipped h past p o r.made r.stays

  starts-held : (k : AwKind) (st : LineState) → (is_update k || is_evict k) ≡ true → not (starts_write k st) ≡ false → is_invalid st ≡ false
  starts-held write.WriteBack I u n = cc
  starts-held write.WriteClean I u n = cc
  starts-held write.WriteEvict I u n = cc
  starts-held write.Evict I u n = cc
  starts-held k I u n = cc
  starts-held k UC u n = refl
  starts-held k UD u n = refl
  starts-held k SC u n = refl
  starts-held k SD u n = refl

  update-good : (k : AwKind) (m : ℕ) → (is_update k || is_evict k) ≡ true → is_act_write k ≡ false → not (starts_write k (state_of h past p m)) ≡ false
      → ((t : Trace) → may_retire h t p o Ok ≡ ((acts_made t p == 0) && has_written t p k m)) → EachGood (write_bursts h past p k m)
  update-good k m updates plain starts alike =
      let held = starts-held k (state_of h past p m) updates starts in
      let q = update-ask k m updates held in
      good-writes k m (λ i. last-good plan past p o right a f c r k m q i
      (alike (Aw p i m (aw_code k) (domain_for (is_no_snoop_write k)) 0 ∷ past)
      ∙ and_from _ _ (ap (λ n. n == 0) (unacted plan past p o right a f c r k m q i plain)) (written-now plan past p o right a f c r k m q i)))

  -- the line that it uses isn't held
  used-gone : (b : ℕ) → line_used o ≡ Some b → is_invalid (state_of h past p b) ≡ true → IsAbsent
  used-gone b uses is n used = ap (λ m. is_invalid (state_of h past p m)) (sym (Some-injective b n (sym uses ∙ used))) ∙ is

  -- a load waits for its line
  load-gone : (b : ℕ) → line_used o ≡ Some b → has_access o ≡ true → gives_access o (state_named h past p o) ≡ not (is_invalid (state_of h past p b)) → IsAbsent
  load-gone b uses some alike = used-gone b uses (not-false (is_invalid (state_of h past p b)) (sym alike ∙ access-waits plan past p o right a f c r some))
    where
      not-false : (v : Bool) → not v ≡ false → v ≡ true
      not-false true n = refl
      not-false false n = cc

  -- a read ahead uses none
  none-used : line_used o ≡ None → IsAbsent
  none-used none n used = let bad : None ≡ Some n = sym none ∙ used in nothing bad
    where
      nothing : {n : ℕ} {A : Type 0} → None ≡ Some n → A
      nothing bad = cc

  store-good : (b : ℕ) (v : Bool) → is_invalid (state_of h past p b) ≡ v → line_used o ≡ Some b → read_wanted o ≡ Some (read.ReadUnique, b) → store_wanted o ≡ Some (b, false) → has_lost h past p o ≡ is_invalid (state_of h past p b)
      → (line_named o ≡ Some b) × (wants_no_snoop o ≡ false) → EachGood (bursts_of plan.ways h past p (if v then Misses read.ReadUnique b false else Reads read.CleanUnique b false))
  store-good b true is uses wanted stored lost line = misses read.ReadUnique b false wanted (used-gone b uses is)
  store-good b false is uses wanted stored lost line = good-reads read.CleanUnique b false (own-ask b false stored (lost ∙ is) line)

  fill-good : (b : ℕ) (v : Bool) → is_invalid (state_of h past p b) ≡ v → line_used o ≡ Some b → read_wanted o ≡ Some (read.MakeUnique, b)
      → EachGood (bursts_of plan.ways h past p (if v then Misses read.MakeUnique b false else Reads read.MakeUnique b false))
  fill-good b true is uses wanted = misses read.MakeUnique b false wanted (used-gone b uses is)
  fill-good b false is uses wanted = good-reads read.MakeUnique b false (bring-ask read.MakeUnique b false wanted refl (held-way b is))

  clean-good : (b : ℕ) (v : Bool) → is_dirty (state_of h past p b) ≡ v → o ≡ op.Cs b
      → EachGood (bursts_of plan.ways h past p (if v then Writes write.WriteClean b else Reads read.CleanShared b false))
  clean-good b false is of =
      good-reads read.CleanShared b false (act-ask read.CleanShared b refl refl (ap (λ v. slice_get (acts_of v) 0) of) (λ t. (ap line_named of, sym (ap wants_no_snoop of))))
  clean-good b true is of =
      good-writes write.WriteClean b (λ i. write-good plan past p o right a f c r write.WriteClean b (update-ask write.WriteClean b refl (dirty-held (state_of h past p b) is)) i
      (λ x k addr. gives write.WriteClean k (ap (λ v. clears v write.WriteClean x.addr) of ∙ eq-eqb b x.addr (sym addr)))
      (λ u. ap (is_cleared plan.ways h past p) of ∙ ap not is) (λ u w. let bad : false ≡ true = sym (ap wants_way of) ∙ w in cc) (λ u. no-line (ap wants_way of)))
    where
      dirty-held : (st : LineState) → is_dirty st ≡ true → is_invalid st ≡ false
      dirty-held I d = cc
      dirty-held st d = refl

  past-good : (b : ℕ) (next : Request) → ((l : ℕ) → clears o write.WriteBack l ≡ (b == l)) → wants_way o ≡ false → ((t : Trace) → is_cleared plan.ways h t p o ≡ is_invalid (state_of h t p b))
      → EachGood (bursts_of plan.ways h past p next) → EachGood (bursts_of plan.ways h past p (gives_up_first b (state_of h past p b) next))
  past-good b next clearing no_way alike good = gives-up b next (λ l same. clearing l ∙ eq-eqb b l same) no_way alike (λ inv. good)

  read-act : (k : ArKind) (b : ℕ) → is_act_read k ≡ true → is_read_barrier k ≡ false → slice_get (acts_of o) 0 ≡ Some (issues_read k b)
      → (is_line_read k ≡ true → (line_named o ≡ Some b) × (is_no_snoop_read k ≡ wants_no_snoop o)) → EachGood (read_bursts h past p k b false)
  read-act k b act plain first line = good-reads k b false (act-ask k b act plain first line)

  pub few-none : is_cleared plan.ways h past p o ≡ false → has_lost h past p o ≡ false → length (segment past p) ≤ 0
  few-none = none-issued plan past p o right a f c r

  -- What an operation asks for keeps on, but for barriers and messages of two parts.
  pub request-good : (v : Op) → o ≡ v → has_two_acts v ≡ false → EachGood (bursts_of plan.ways h past p (request_of v (state_named h past p v)))
  request-good (op.Ld b w) of two =
      misses read.ReadShared b false (ap read_wanted of) (load-gone b (ap line_used of) (ap has_access of) (ap (λ v. gives_access v (state_named h past p v)) of))
  request-good (op.Ldx b w) of two =
      misses read.ReadShared b true (ap read_wanted of) (load-gone b (ap line_used of) (ap has_access of) (ap (λ v. gives_access v (state_named h past p v)) of))
  request-good (op.Pf b k) of two = misses k b false (ap read_wanted of) (none-used (ap line_used of))
  request-good (op.St b w word) of two =
      store-good b (is_invalid (state_of h past p b)) refl (ap line_used of) (ap read_wanted of) (ap store_wanted of) (ap (has_lost h past p) of) (ap line_named of, ap wants_no_snoop of)
  request-good (op.Stx b w word) of two =
      good-reads read.CleanUnique b true (own-ask b true (ap store_wanted of) (ap (has_lost h past p) of) (ap line_named of, ap wants_no_snoop of))
  request-good (op.Fill b line) of two = fill-good b (is_invalid (state_of h past p b)) refl (ap line_used of) (ap read_wanted of)
  request-good (op.Wb b) of two = update-good write.WriteBack b refl refl (sym (ap (may_skip h past p) of) ∙ skips-none) (λ t. ap (λ v. may_retire h t p v Ok) of)
  request-good (op.Wc b) of two = update-good write.WriteClean b refl refl (sym (ap (may_skip h past p) of) ∙ skips-none) (λ t. ap (λ v. may_retire h t p v Ok) of)
  request-good (op.Ev b) of two = update-good write.Evict b refl refl (sym (ap (may_skip h past p) of) ∙ skips-none) (λ t. ap (λ v. may_retire h t p v Ok) of)
  request-good (op.We b) of two = update-good write.WriteEvict b refl refl (sym (ap (may_skip h past p) of) ∙ skips-none) (λ t. ap (λ v. may_retire h t p v Ok) of)
  request-good (op.Ro b) of two =
      past-good b (Reads read.ReadOnce b false) (λ n. ap (λ v. clears v write.WriteBack n) of) (ap wants_way of) (λ t. ap (is_cleared plan.ways h t p) of)
      (read-act read.ReadOnce b refl refl (ap (λ v. slice_get (acts_of v) 0) of) (λ t. (ap line_named of, sym (ap wants_no_snoop of))))
  request-good (op.Ci b) of two =
      past-good b (Reads read.CleanInvalid b false) (λ n. ap (λ v. clears v write.WriteBack n) of) (ap wants_way of) (λ t. ap (is_cleared plan.ways h t p) of)
      (read-act read.CleanInvalid b refl refl (ap (λ v. slice_get (acts_of v) 0) of) (λ t. (ap line_named of, sym (ap wants_no_snoop of))))
  request-good (op.Mi b) of two =
      past-good b (Reads read.MakeInvalid b false) (λ n. ap (λ v. clears v write.WriteBack n) of) (ap wants_way of) (λ t. ap (is_cleared plan.ways h t p) of)
      (read-act read.MakeInvalid b refl refl (ap (λ v. slice_get (acts_of v) 0) of) (λ t. (ap line_named of, sym (ap wants_no_snoop of))))
  request-good (op.Wu b strobe line) of two =
      past-good b (Writes write.WriteUnique b) (λ n. ap (λ v. clears v write.WriteBack n) of) (ap wants_way of) (λ t. ap (is_cleared plan.ways h t p) of)
      (act-writes write.WriteUnique b refl (ap (λ v. slice_get (acts_of v) 0) of) (ap line_named of) (sym (ap wants_no_snoop of)))
  request-good (op.Wlu b line) of two =
      past-good b (Writes write.WriteLineUnique b) (λ n. ap (λ v. clears v write.WriteBack n) of) (ap wants_way of) (λ t. ap (is_cleared plan.ways h t p) of)
      (act-writes write.WriteLineUnique b refl (ap (λ v. slice_get (acts_of v) 0) of) (ap line_named of) (sym (ap wants_no_snoop of)))
  request-good (op.Cs b) of two = clean-good b (is_dirty (state_of h past p b)) refl of
  request-good (op.Rn b) of two = read-act read.ReadNoSnoop b refl refl (ap (λ v. slice_get (acts_of v) 0) of) (λ t. (ap line_named of, sym (ap wants_no_snoop of)))
  request-good (op.Wn b strobe line) of two = act-writes write.WriteNoSnoop b refl (ap (λ v. slice_get (acts_of v) 0) of) (ap line_named of) (sym (ap wants_no_snoop of))
  request-good (op.Dvm word) of two = read-act read.DvmMessage word refl refl (ap (λ v. slice_get (acts_of v) 0) of) (λ t. cc)
  request-good (op.Sync word) of two = read-act read.DvmMessage word refl refl (ap (λ v. slice_get (acts_of v) 0) of) (λ t. cc)
  request-good v of two = cc
