-- What an acknowledge ends without ending the operation is settled: an act, a write that cleared a line, or a CleanUnique whose line was lost. The
-- operation ends with the read that brings its line in.
use Rattle.std.proofs.Common.{◌≡◌, ◌⊎◌, ℕ, Bool, true, false, not, ◌&&◌, ◌||◌, ◌==◌, if◌then◌else◌, [], ◌∷◌, length, slice_get, Option, Some, None, inl, inr, refl, sym, ap, ◌∙◌, arith, option_and_then, unwrap_or}
use Rattle.std.specs.List.{list_any}
use Rattle.std.specs.Option.{option_map}
use Rattle.ace_codes.specs.declared.kind.ArKind.{ArKind}
use Rattle.ace_codes.specs.declared.kind.ArKind.TheVariants as read
use Rattle.ace_codes.specs.declared.kind.AwKind.{AwKind}
use Rattle.ace_codes.specs.declared.kind.AwKind.TheVariants as write
use Rattle.ace_codes.specs.declared.state.LineState.{LineState}
use Rattle.ace_codes.specs.declared.state.LineState.TheVariants.{I}
use Rattle.ace_event.specs.declared.event.Channel.{Channel}
use Rattle.ace_event.specs.declared.event.Channel.TheVariants.{Read, Write}
use Rattle.ace_event.specs.declared.event.Outcome.TheVariants.{Ok}
use Rattle.ace_event.specs.declared.header.Header.{Header}
use Rattle.ace_model.specs.declared.plans.Op.{Op}
use Rattle.ace_model.specs.declared.plans.Op.TheVariants as op
use Rattle.ace_model.specs.declared.transactions.Transaction.{Transaction}
use Rattle.ace_runs.proofs.NeverStuck.Operations.Fits.Ends.{CanNotEnd, can-not-end, not-failed}
use Rattle.ace_runs.specs.Follows.{FollowsSoFar}
use Rattle.ace_master_laws.proofs.Progress.Come.{HasCome, brings-no-act, no-read}
use Rattle.ace_model.specs.Accepted.{IsAccepted}
use Rattle.ace_master_laws.proofs.Acknowledges.Due.{IsDue, ack-made, ack-next, ack-over, ack-segment, ack-state, any-from, brings-on-line, due-of-read, ack-at, ack-told, ack}
use Rattle.ace_model.specs.Plans.{IsRight, Plan, has_right_fields, line_named}
use Rattle.ace_model.specs.Trace.{Trace, is_some_and}
use Rattle.ace_master_laws.proofs.Progress.Endings.{access-unmade}
use Rattle.ace_runs.specs.Closing.{access_and_retirement, closing_of, gives_access, state_named}
use Rattle.ace_runs.proofs.NeverStuck.Phases.NextActs.{acts-within}
use Rattle.ace_runs.specs.Segments.{acts_made, is_read_of, segment}
use Rattle.ace_runs.proofs.NeverStuck.Operations.Kept.ClosingKept.{an-access-of, has_access}
use Rattle.std.proofs.lemmas.Bool.{and_from, and_parts, cases_Bool, eq-eqb, false_from_ne_true, not-true, or_left, or_right, eqb-true, lt-ltb}
use Rattle.ace_codes.specs.Reads.{ar_kind_of}
use Rattle.ace_master_laws.specs.Orderly.{brings_line, has_lost, is_cleared, is_settled, is_write_back, is_write_clean, read_wanted, store_wanted, takes_line, IsFor, owns_line, wants_way, clears, acts, brings, owns, gives}
use Rattle.ace_master_laws.proofs.Lines.EndChoices.{clean-unique-end, fetch-end, make-unique-end, read-unique-end, write-back-end, write-clean-end}
use Rattle.ace_runs.specs.MasterSteps.{end_of}
use Rattle.ace_master_laws.proofs.Lines.Refused.{failed-refused}
use Rattle.ace_model.specs.Exclusives.{has_failed, passed_at_grant, store_passes}
use Rattle.ace_runs.specs.Retiring.{has_failed_store, may_fail, may_retire, was_refused}
use Rattle.ace_model.specs.ReadRules.{held_of}
use Rattle.ace_runs.specs.Acts.{is_act_transaction}
use Rattle.ace_model.specs.Kinds.{is_clean_unique, is_make_unique, reads_a_line, is_line_read, is_line_write, is_update}
use Rattle.ace_model.specs.Transactions.{is_exclusive_store, is_line, is_on, is_outstanding, is_read, is_transaction, read_kind, transaction_of, write_kind, outstanding}
use Rattle.ace_tables.specs.EndStates.{is_fetch}
use Rattle.ace_tables.specs.States.{is_invalid, is_unique, is_dirty}
use Rattle.ace_model.specs.Monitors.{is_monitored, is_set_by}
use Rattle.ace_master_laws.proofs.Acknowledges.Acknowledging.{kind-on-line, on-line, pair-parts, read-of-line, gives-update}
use Rattle.ace_runs.proofs.NeverStuck.Operations.Lines.OfPlan.{next-planned}
use Rattle.ace_runs.specs.Operations.{next_operation}
use Rattle.ace_model.proofs.Trace.Issued.{outstanding-named}
use Rattle.ace_model.specs.States.{state_of}
use Rattle.ace_model.proofs.Holders.Rises.{stays_empty}
use Rattle.ace_model.specs.Progress.{updates_memory}
use Rattle.ace_runs.specs.Requests.{has_room}
use Rattle.ace_master_laws.proofs.Lines.HeldLines.{held-gone}
use Rattle.ace_runs.specs.HeldLines.{held_lines, line_of_transaction}
use Rattle.ace_model.specs.Grants.{given}
use Rattle.ace_model.proofs.General.Options.{Some-injective}

-- ---- tables ------------------------------------------------------------------------------------------

-- what the state in which the read ends gives the operation
bring-gives : (o : Op) (k : ArKind) (l : ℕ) (st : LineState) → read_wanted o ≡ Some (k, l) → (is_fetch k ≡ true → is_invalid st ≡ false) → (k ≡ read.ReadUnique → is_unique st ≡ true)
    → (k ≡ read.MakeUnique → is_unique st ≡ true) → ((has_access o ≡ true) × (line_named o ≡ Some l) × (gives_access o st ≡ true)) ⊎ (o ≡ op.Pf l k)
bring-gives (op.Ld a w) k l st is held alone made = let s = pair-parts (Some (read.ReadShared, a)) read.ReadShared k a l refl is in inl (refl, ap Some s.1, ap not (held (ap is_fetch (sym s.0))))
bring-gives (op.Ldx a w) k l st is held alone made = let s = pair-parts (Some (read.ReadShared, a)) read.ReadShared k a l refl is in inl (refl, ap Some s.1, ap not (held (ap is_fetch (sym s.0))))
bring-gives (op.St a w word) k l st is held alone made = let s = pair-parts (Some (read.ReadUnique, a)) read.ReadUnique k a l refl is in inl (refl, ap Some s.1, alone (sym s.0))
bring-gives (op.Fill a line) k l st is held alone made = let s = pair-parts (Some (read.MakeUnique, a)) read.MakeUnique k a l refl is in inl (refl, ap Some s.1, made (sym s.0))
bring-gives (op.Pf a j) k l st is held alone made = let s = pair-parts (Some (j, a)) j k a l refl is in inr (rw (s.0, s.1) refl)
bring-gives o k l st is held alone made = cc

fetch-reads : (k : ArKind) → is_fetch k ≡ true → (reads_a_line k ≡ true) × (takes_line k ≡ true)
fetch-reads read.ReadShared f = (refl, refl)
fetch-reads read.ReadClean f = (refl, refl)
fetch-reads read.ReadNotSharedDirty f = (refl, refl)
fetch-reads read.ReadUnique f = (refl, refl)
fetch-reads k f = cc

pub wanted-taken : (o : Op) (k : ArKind) (l : ℕ) → read_wanted o ≡ Some (k, l) → has_right_fields o ≡ true → takes_line k ≡ true
wanted-taken (op.Ld a w) k l is right = let s = pair-parts (Some (read.ReadShared, a)) read.ReadShared k a l refl is in ap takes_line (sym s.0)
wanted-taken (op.Ldx a w) k l is right = let s = pair-parts (Some (read.ReadShared, a)) read.ReadShared k a l refl is in ap takes_line (sym s.0)
wanted-taken (op.St a w word) k l is right = let s = pair-parts (Some (read.ReadUnique, a)) read.ReadUnique k a l refl is in ap takes_line (sym s.0)
wanted-taken (op.Fill a line) k l is right = let s = pair-parts (Some (read.MakeUnique, a)) read.MakeUnique k a l refl is in ap takes_line (sym s.0)
wanted-taken (op.Pf a j) k l is right = let s = pair-parts (Some (j, a)) j k a l refl is in ap takes_line (sym s.0) ∙ or_left (is_fetch j) (is_make_unique j) right
wanted-taken o k l is right = cc

shown : (b : Bool) → not b ≡ false → b ≡ true
shown true n = refl
shown false n = cc

back-kind : (k : AwKind) (b : Bool) → (is_write_back k && b) ≡ true → (k ≡ write.WriteBack) × (b ≡ true)
back-kind write.WriteBack b t = (refl, t)
back-kind k b t = cc

clean-kind : (k : AwKind) (b : Bool) → (is_write_clean k && b) ≡ true → (k ≡ write.WriteClean) × (b ≡ true)
clean-kind write.WriteClean b t = (refl, t)
clean-kind k b t = cc

pub store-parts : (o : Option (ℕ × Bool)) (a : ℕ) (lock : Bool) (b : ℕ) (other : Bool) → o ≡ Some (a, lock) → o ≡ Some (b, other) → (a ≡ b) × (lock ≡ other)
store-parts None a lock b other one two = cc
store-parts (Some v) a lock b other one two =
    let both = sym (Some-injective v (a, lock) one) ∙ Some-injective v (b, other) two in (ap (λ (q : ℕ × Bool). q.0) both, ap (λ (q : ℕ × Bool). q.1) both)

store-op : (o : Op) (l : ℕ) (lock : Bool) → store_wanted o ≡ Some (l, lock) → ((b w word : ℕ) × (o ≡ op.St b w word)) ⊎ ((b w word : ℕ) × (o ≡ op.Stx b w word))
store-op (op.St b w word) l lock is = inl (b, w, word, refl)
store-op (op.Stx b w word) l lock is = inr (b, w, word, refl)
store-op o l lock is = cc

reads-channel : (ch : Channel) (x : Transaction) → x.chan ≡ ch → (k : ArKind) → read_kind x ≡ Some k → ch ≡ Read
reads-channel Read x chan k is = refl
reads-channel Write x chan k is = let none : read_kind x ≡ None = ap (λ c. if is_read c then ar_kind_of x.snoop x.dom x.bar else None) chan in let bad : None ≡ Some k = sym none ∙ is in cc

-- a monitored line is held
monitor-holds : (h : Header) (past : Trace) (p a : ℕ) → is_monitored h past p a ≡ true → is_invalid (state_of h past p a) ≡ false
monitor-holds h [] p a m = cc
monitor-holds h (e ∷ past) p a m = not-true (is_invalid (state_of h (e ∷ past) p a)) (and_parts (is_set_by e p a (is_monitored h past p a)) (not (is_invalid (state_of h (e ∷ past) p a))) m).1

module _ (plan : Plan) (past : Trace) (p : ℕ) (right : IsRight plan) (a : IsAccepted plan.header past) (f : FollowsSoFar plan past) (c : HasCome plan past p)
    (o : Op) (next : next_operation plan past p ≡ Some o) (ch : Channel) (st : LineState) (x : Transaction) (d : IsDue plan.header past p ch x) (k : ℕ)
    (there : slice_get (segment past p) k ≡ Some x) (end : end_of plan.header past x ≡ Some st) (now_accepted : IsAccepted plan.header (ack ch p st ∷ past)) (now_follows : FollowsSoFar plan (ack ch p st ∷ past))
    (none : closing_of plan.header (ack ch p st ∷ past) p o ≡ []) where
  abbrev h : Header
  h = plan.header

  abbrev now : Trace
  now = ack ch p st ∷ past

  ends : CanNotEnd h now p o
  ends = can-not-end h now p o none

  later : next_operation plan now p ≡ Some o
  later = ack-next plan past ch p p st ∙ next

  -- the line gives no access
  gives-none : has_access o ≡ true → gives_access o (state_named h now p o) ≡ true → ⊥
  gives-none some access =
      let e = an-access-of now p o some in
      let empty : access_and_retirement now p (Some e.0) ≡ [] = ap (access_and_retirement now p) (sym e.1) ∙ ends.no_access access in cc

  named-state : (l : ℕ) → line_named o ≡ Some l → is_on x l ≡ true → state_named h now p o ≡ st
  named-state l line on = ap (λ v. unwrap_or (option_map (state_of h now p) v) I) line ∙ ack-state h past ch p l st x d.next on

  held-state : is_line x ≡ true → held_of h past x ≡ state_of h past p x.addr
  held-state line = ap (λ b. if b then state_of h past x.port x.addr else I) line ∙ ap (λ q. state_of h past q x.addr) d.port

  -- ---- the read that brings the line in --------------------------------------------------------------

  module _ (j : ArKind) (l : ℕ) (wanted : read_wanted o ≡ Some (j, l)) (is : read_kind x ≡ Some j) (of : is_read_of j l x ≡ true) where
    brings-it : brings_line x ≡ true
    brings-it = ap (λ v. is_some_and v takes_line) is ∙ wanted-taken o j l wanted (next-planned plan past p o right next).fields

    empty : is_fetch j ≡ true → held_of h past x ≡ I
    empty fetch =
        let line = brings-on-line x brings-it in
        let waits : outstanding h past p Read x.id ≡ Some x = ap (λ q. outstanding h past p q x.id) (sym (due-of-read h past p ch x d brings-it)) ∙ d.waits in
        held-state line
        ∙ stays_empty h past a p Read x.id x.addr x waits (on-line x x.addr line refl) (inl (ap (λ v. is_some_and v reads_a_line) is ∙ (fetch-reads j fetch).0))

    must-end : ⊥
    must-end =
        elim (bring-gives o j l st wanted (λ fetch. fetch-end h past x st end j is fetch (empty fetch))
        (λ unique. shown (is_unique st) (read-unique-end h past x st end (is ∙ ap Some unique) (empty (ap is_fetch unique))))
        (λ make. shown (is_unique st) (make-unique-end h past x st end (is ∙ ap Some make)))) [
          | inl access ↦
              let on = on-line x l (brings-on-line x brings-it) (read-of-line j l x of) in
              gives-none access.0 (ap (gives_access o) (named-state l access.1 on) ∙ access.2)
          | inr ahead ↦ read-ahead ahead
        ]
      where
        read-ahead : o ≡ op.Pf l j → ⊥
        read-ahead ahead =
            let low = acts-within plan past p f (op.Pf l j) (next ∙ ap Some ahead) in
            let made = ack-made past ch p p st in
            let none_made : acts_made now p ≡ 0 = omega (arith, low, made) in
            let over = ack-over h past p ch st x (now_accepted) d in
            let here : slice_get (segment now p) k ≡ Some x = ap (λ s. slice_get s k) (ack-segment past ch p p st) ∙ there in
            let some : list_any (λ y. is_read_of j l y && not (is_outstanding h now y)) (segment now p) ≡ true =
            any-from (λ y. is_read_of j l y && not (is_outstanding h now y)) (segment now p) k x here (and_from _ _ of (ap not over)) in
            let may : may_retire h now p (op.Pf l j) Ok ≡ true = and_from _ _ (ap (λ n. n == 0) none_made) some in
            let bad : false ≡ true = sym ends.not_ok ∙ ap (λ v. may_retire h now p v Ok) ahead ∙ may in cc

  -- ---- a CleanUnique ---------------------------------------------------------------------------------

  module _ (l : ℕ) (lock : Bool) (is : read_kind x ≡ Some read.CleanUnique) (addr : x.addr ≡ l) (locked : x.lock ≡ lock) where
    owner-on : is_on x l ≡ true
    owner-on = on-line x l (kind-on-line x read.CleanUnique is refl) addr

    not-alone : has_access o ≡ true → line_named o ≡ Some l → ((s : LineState) → gives_access o s ≡ is_unique s) → is_unique st ≡ false
    not-alone some line alike =
        false_from_ne_true (is_unique st) (λ t. gives-none some (ap (gives_access o) (named-state l line owner-on) ∙ alike st ∙ t))

    lost : has_failed past x ≡ false → is_unique st ≡ false → is_invalid st ≡ true
    lost passed alone = by (is_unique st) (is_invalid st) (clean-unique-end h past x st end is passed) alone
      where
        by : (u i : Bool) → (not u && not i) ≡ false → u ≡ false → i ≡ true
        by true i f n = cc
        by false true f n = refl
        by false false f n = cc

  -- that of a store
  lost-settles : (b w word : ℕ) → o ≡ op.St b w word → (l : ℕ) (lock : Bool) → store_wanted o ≡ Some (l, lock) → read_kind x ≡ Some read.CleanUnique → x.addr ≡ l → x.lock ≡ lock
      → is_settled plan.ways h now p o x ≡ true
  lost-settles b w word of l lock wanted is addr locked =
      let s = store-parts (store_wanted o) l lock b false wanted (ap store_wanted of) in
      let passed : has_failed past x ≡ false = ap (λ v. (v && is_some_and (read_kind x) is_clean_unique) && is_some_and (passed_at_grant past x.port x.id) not) (locked ∙ s.1) in
      let alone = not-alone l lock is addr locked (ap has_access of) (ap line_named of ∙ ap Some (sym s.0)) (λ t. ap (λ v. gives_access v t) of) in
      let gone = lost l lock is addr locked passed alone in
      let state : is_invalid (state_of h now p b) ≡ true = ap (λ n. is_invalid (state_of h now p n)) (sym s.0) ∙ ap is_invalid (ack-state h past ch p l st x d.next (owner-on l lock is addr locked)) ∙ gone in
      or_right (is_act_transaction x || (updates_memory x && is_cleared plan.ways h now p o)) _
      (and_from _ _ (ap (λ v. is_some_and v is_clean_unique) is) (ap (has_lost h now p) of ∙ state))

  -- an exclusive store ends with it
  exclusive-ends : (b w word : ℕ) → o ≡ op.Stx b w word → (l : ℕ) (lock : Bool) → store_wanted o ≡ Some (l, lock) → read_kind x ≡ Some read.CleanUnique → x.addr ≡ l → x.lock ≡ lock → ⊥
  exclusive-ends b w word of l lock wanted is addr locked =
      let s = store-parts (store_wanted o) l lock b true wanted (ap store_wanted of) in
      let on = owner-on l lock is addr locked in
      let alone = not-alone l lock is addr locked (ap has_access of) (ap line_named of ∙ ap Some (sym s.0)) (λ t. ap (λ v. gives_access v t) of) in
      let made = access-unmade plan now p o now_follows later (ap has_access of) ends.not_ok in
      let stays : may_fail h now p (op.Stx b w word) ≡ false = ap (may_fail h now p) (sym of) ∙ not-failed h now p o made ends in
      let parts = or-none (not (is_monitored h now p b)) (has_failed_store now p b) stays in
      let read_chan : ch ≡ Read = reads-channel ch x d.chan read.CleanUnique is in
      let held : is_invalid st ≡ false = ap is_invalid (sym (ack-state h past ch p l st x d.next on)) ∙ ap (λ n. is_invalid (state_of h now p n)) s.0 ∙ monitor-holds h now p b (shown (is_monitored h now p b) parts.0) in
      elim (cases_Bool (has_failed past x)) [
        | inr passed ↦ let gone = lost l lock is addr locked passed alone in let bad : true ≡ false = sym gone ∙ held in cc
        | inl failed ↦
            let named : transaction_of past x.port Read x.id ≡ Some x =
            ap (λ q. transaction_of past q Read x.id) d.port ∙ outstanding-named h past p Read x.id x (ap (λ q. outstanding h past p q x.id) (sym read_chan) ∙ d.waits) in
            let refused : was_refused now x ≡ true = or_right (is_transaction (given past (ack ch p st)) x && not (store_passes past x)) _ (failed-refused past x named failed) in
            let exclusive = (and_parts (is_exclusive_store x) _ failed).0 in
            let here : slice_get (segment now p) k ≡ Some x = ap (λ s. slice_get s k) (ack-segment past ch p p st) ∙ there in
            let some = any-from (λ y. is_exclusive_store y && (y.addr == b) && was_refused now y) (segment now p) k x here
            (and_from _ _ (and_from _ _ exclusive (eq-eqb x.addr b (addr ∙ s.0))) refused) in
            let bad : false ≡ true = sym parts.1 ∙ some in cc
      ]
    where
      or-none : (m n : Bool) → (m || n) ≡ false → (m ≡ false) × (n ≡ false)
      or-none true n e = cc
      or-none false n e = (refl, e)

  -- ---- a write that clears a line --------------------------------------------------------------------

  module _ (j : AwKind) (is : write_kind x ≡ Some j) where
    written-on : is_line_write j ≡ true → (l : ℕ) → x.addr ≡ l → is_on x l ≡ true
    written-on line l addr = on-line x l (or_right (is_some_and (read_kind x) is_line_read) _ (ap (λ v. is_some_and v is_line_write) is ∙ line)) addr

    -- it is written back, and given up
    back-clears : (l : ℕ) → (is_write_back j && (l == x.addr)) ≡ true → is_invalid (state_of h now p l) ≡ true
    back-clears l t =
        let of = back-kind j (l == x.addr) t in
        let addr = sym (eqb-true l x.addr of.1) in
        let gone = write-back-end h past x st end (no-read x j is) (is ∙ ap Some of.0) in
        ap is_invalid (ack-state h past ch p l st x d.next (written-on (ap is_line_write of.0) l addr)) ∙ ap is_invalid gone

    -- it is cleaned
    clean-clears : (l : ℕ) → (is_write_clean j && (l == x.addr)) ≡ true → not (is_dirty (state_of h now p l)) ≡ true
    clean-clears l t =
        let of = clean-kind j (l == x.addr) t in
        let addr = sym (eqb-true l x.addr of.1) in
        let clean = write-clean-end h past x st end (no-read x j is) (is ∙ ap Some of.0) in
        ap (λ s. not (is_dirty s)) (ack-state h past ch p l st x d.next (written-on (ap is_line_write of.0) l addr)) ∙ ap not clean

    -- it made way
    way-clears : (is_write_back j && wants_way o) ≡ true → (wants_way o && has_room plan.ways h now p) ≡ true
    way-clears t =
        let of = back-kind j (wants_way o) t in
        let line = written-on (ap is_line_write of.0) x.addr refl in
        let gone = write-back-end h past x st end (no-read x j is) (is ∙ ap Some of.0) in
        let updates : updates_memory x ≡ true = ap (λ v. is_some_and v is_update) is ∙ ap is_update of.0 in
        let low = (c.under_way o next).room k x there d.out (and_from _ _ of.1 (or_right (brings_line x) (updates_memory x) updates)) in
        let told = ack-told past ch p st ∙ ap (option_and_then line_of_transaction) d.next ∙ ap (λ b. if b then Some x.addr else None) (and_parts (is_line x) (x.addr == x.addr) line).0 in
        let few = held-gone h past (ack ch p st) p x.addr told (ack-at ch p st) (ap is_invalid (ack-state h past ch p x.addr st x d.next line) ∙ ap is_invalid gone) in
        and_from _ _ of.1 (lt-ltb (length (held_lines h now p)) plan.ways (omega (arith, low, few)))

    cleared : (v : Op) → (wants_way v ≡ wants_way o) → clears v j x.addr ≡ true → is_cleared plan.ways h now p v ≡ true
    cleared (op.Ro l) same t = back-clears l t
    cleared (op.Ci l) same t = back-clears l t
    cleared (op.Mi l) same t = back-clears l t
    cleared (op.Wu l strobe line) same t = back-clears l t
    cleared (op.Wlu l line) same t = back-clears l t
    cleared (op.Cs l) same t = clean-clears l t
    cleared v same t = ap (λ b. b && has_room plan.ways h now p) same ∙ way-clears (ap (λ b. is_write_back j && b) (sym same) ∙ t)

  -- ---- each of them ----------------------------------------------------------------------------------

  owner-settles : (l : ℕ) (lock : Bool) → store_wanted o ≡ Some (l, lock) → read_kind x ≡ Some read.CleanUnique → x.addr ≡ l → x.lock ≡ lock → is_settled plan.ways h now p o x ≡ true
  owner-settles l lock wanted is addr locked = by o refl (store-op o l lock wanted)
    where
      by : (v : Op) → o ≡ v → ((b w word : ℕ) × (v ≡ op.St b w word)) ⊎ ((b w word : ℕ) × (v ≡ op.Stx b w word)) → is_settled plan.ways h now p o x ≡ true
      by v of (inl s) = lost-settles s.0 s.1 s.2 (of ∙ s.3) l lock wanted is addr locked
      by v of (inr s) = absurd (exclusive-ends s.0 s.1 s.2 (of ∙ s.3) l lock wanted is addr locked)

  -- What the acknowledge ends without ending the operation brings no line in, and is settled.
  pub settles : (brings_line x ≡ false) × (is_settled plan.ways h now p o x ≡ true)
  settles = by ((c.under_way o next).asked k x there)
    where
      by : IsFor o x → (brings_line x ≡ false) × (is_settled plan.ways h now p o x ≡ true)
      by (acts act) = (
        false_from_ne_true (brings_line x) (λ b. let no_act = brings-no-act x b in let bad : true ≡ false = sym act ∙ no_act in cc),
        or_left (is_act_transaction x || (updates_memory x && is_cleared plan.ways h now p o)) (owns_line x && has_lost h now p o) (or_left (is_act_transaction x) _ act),
      )
      by (brings j l wanted is of) = absurd (must-end j l wanted is of)
      by (owns l lock wanted is addr locked) = (ap (λ v. is_some_and v takes_line) is, owner-settles l lock wanted is addr locked)
      by (gives j is t) = (
        ap (λ v. is_some_and v takes_line) (no-read x j is),
        or_left (is_act_transaction x || (updates_memory x && is_cleared plan.ways h now p o)) (owns_line x && has_lost h now p o)
            (or_right (is_act_transaction x) _ (and_from _ _ (gives-update x j o is t) (cleared j is o refl t))),
      )
