-- The value of a line is in memory, dirty at a port, passed on, or to be replaced whole or given up.
use Rattle.std.proofs.Common.{◌≡◌, ◌⊎◌, ℕ, true, false, ◌&&◌, ◌||◌, nat_eq, ◌∷◌, length, Option, Some, None, refl, sym, ap, subst, ◌∙◌, inl, inr}
use Rattle.std.proofs.lemmas.Bool.{and_parts, and_from, or_cases, or_left, or_right, cases_Bool, cases_eq, eq-eqb}
use Rattle.ace_model.proofs.Terms.{ArKind, AwKind, SnoopKind, LineState, passes_dirty, is_shared, Read, Write, Event, R, Rk, B, Wk, Cr, Header, is_dirty, Answer, Transaction, Trace, implies}
use Rattle.ace_model.proofs.Terms.{FitsFields, Channel, M, Line, passed_data, data_of, is_some_and, is_none_or, is_make_unique, has_write_data, is_ace, is_read, is_line, is_some_on, read_kind}
use Rattle.ace_model.proofs.Terms.{write_kind, snoop_of, snoop_kind_of, ended, outstanding, acknowledged, first_resp, has_memory_write, data_answers, granted, answers_grant, answer_of}
use Rattle.ace_model.proofs.Terms.{has_passed_data, state_of, memory_of, value_of, has_upper_bits, fits_kind, IsAccepted, discards_data, is_make_invalid, is_write_line_unique, may_lose_data, IsValueSafe}
use Rattle.ace_codes.specs.declared.kind.ArKind.TheVariants as read
use Rattle.ace_model.proofs.Trace.Issued.{same_place, outstanding-named}
use Rattle.ace_model.proofs.Rules.Keeps.{accepted_keeps}
use Rattle.ace_model.proofs.Tables.States.{dirty_unsettled}
use Rattle.ace_model.proofs.Trace.Outstanding.{acknowledged_is, ends_lite}
use Rattle.ace_model.proofs.Holders.Acknowledge.{is_named_by_rk}
use Rattle.ace_model.proofs.Grants.Begins.{may_of}
use Rattle.ace_model.proofs.Trace.WriteQueue.{EndsWrite, ends_write_of, ends_lite_written}
use Rattle.ace_model.proofs.Tables.SnoopRows.{is_make_invalid_snoop, dirty_stays}
use Rattle.ace_model.proofs.Grants.SnoopAnswers.{Answering}
use Rattle.ace_model.proofs.Grants.Answers.{others_settled}
use Rattle.ace_model.proofs.Grants.Begins.{line_due}
use Rattle.ace_model.proofs.Trace.Transfers.{full_some}
use Rattle.ace_model.proofs.Holders.Rises.{ends_line_of}
use Rattle.ace_model.proofs.Holders.Acknowledge.{EndsLine}
use Rattle.ace_model.proofs.Trace.Looks.{read_writes_none, is_on-addr}
use Rattle.ace_model.proofs.Values.Fetches.{ace_read}
use Rattle.ace_model.proofs.Grants.Granted.{granted_given, granted_write, written_cases, has_passed}
use Rattle.ace_model.proofs.Values.PassedData.{written_passed, first_passes, answer_kept, passes_line, passed_has}
use Rattle.std.proofs.Math.Bool.{or-false}
use Rattle.ace_model.proofs.Tables.Kinds.{granted_data, read_invalid, write_invalid, make_unique_is}
use Rattle.ace_model.proofs.Values.Passed.{passed_safe, passed_step, store_dirty, passed_true}
use Rattle.ace_model.proofs.Values.Facts.{BegunTrue, DirtyPlaced}
use Rattle.ace_model.proofs.Holders.Law.{accepted_holds}
use Rattle.ace_model.proofs.General.Options.{Some-injective, is_none_or-at, is_some_and-is}
use Rattle.ace_model.proofs.General.Booleans.{implies-at, then_of}
use Rattle.std.specs.List.{AllByRecursion}
use Rattle.ace_model.proofs.Grants.Stays.{Stays, granted_after}
use Rattle.ace_model.proofs.Values.Stores.{Writes, value_moves, may_write, discards_r, discard_true}
use Rattle.ace_model.proofs.Values.FullReads.{begun_read}
use Rattle.ace_model.proofs.Values.MergedLines.{value-length}
use Rattle.ace_model.proofs.Values.DirtMoves.{dirt_moves}
use Rattle.ace_model.proofs.Values.MemoryWrites.{WritesLine, grant_stores, memory_now, memory_moves, writer, line_is, update_true, ByPassed}
use Rattle.ace_model.proofs.Values.Written.{store_true}

-- a read that may lose data is a MakeUnique or a MakeInvalid
read_loses : (x : Transaction) (k : ArKind) → read_kind x ≡ Some k → may_lose_data x ≡ true → (is_make_unique k ≡ true) ⊎ (discards_data x ≡ true)
read_loses x k kind t =
    elim (or_cases (is_some_and (read_kind x) is_make_unique || is_some_and (write_kind x) is_write_line_unique) (discards_data x) t) [
      | inr discards ↦ inr discards
      | inl replaces ↦
          let none = (read_writes_none x k kind).0 in
          let make : (is_make_unique k || false) ≡ true = rw (kind, none) at replaces in inl (sym (or-false (is_make_unique k)) ∙ make)
    ]

-- what makes a line invalid at once may lose data
invalid_loses : (x : Transaction) (k : SnoopKind) → snoop_of x ≡ Some k → is_make_invalid_snoop k ≡ true → may_lose_data x ≡ true
invalid_loses x k causes m =
    by (read_kind x) (write_kind x) refl refl (rw causes m)
  where
    by : (o : Option ArKind) (q : Option AwKind) → read_kind x ≡ o → write_kind x ≡ q → is_some_and (snoop_kind_of o q) is_make_invalid_snoop ≡ true → may_lose_data x ≡ true
    by (Some r) q is_r is_q t =
        let replaces = is_make_unique r || is_some_and (write_kind x) is_write_line_unique in
        rw is_r (elim (or_cases (is_make_unique r) (is_make_invalid r) (read_invalid r t)) [
          | inl make ↦ or_left replaces (is_make_invalid r) (or_left (is_make_unique r) _ make)
          | inr discards ↦ or_right replaces (is_make_invalid r) discards
        ])
    by None (Some w) is_r is_q t = let line = write_invalid w t in rw (is_r, is_q, line) refl
    by None None is_r is_q t = cc

module _ (h : Header) (past : Trace) where
  -- The read of a granted line that an RK ends.
  record EndsGranted (q : ℕ) (st : LineState) (l : ℕ) (x : Transaction) : Type 0 where
    r : EndsLine h past q st q l
    same : r.one ≡ x
    after : state_of h (Rk q st ∷ past) q l ≡ st

  ends_granted : (q : ℕ) (st : LineState) → IsAccepted h (Rk q st ∷ past) → (l : ℕ) (x : Transaction) → granted h past l ≡ Some x
      → (z : Transaction) → acknowledged past q Read ≡ Some z → z.place ≡ x.place → EndsGranted q st l x
  ends_granted q st a l x g z is same =
      let o = (accepted_holds h past a.0).grants l x g in
      let n = acknowledged_is past q Read z is in
      let one : z ≡ x = same_place past q x.port Read x.chan n.id x.id z x n.named (outstanding-named h past x.port x.chan x.id x o.0) same in
      let on : is_some_on (acknowledged past q Read) l ≡ true = rw (is, one) o.1 in
      let t : is_named_by_rk past q q l ≡ true = and_from _ _ (eq-eqb q q refl) on in
      let r = ends_line_of h past q st a q l t in
      record { r = r; same = Some-injective r.one x (sym r.ends_it ∙ is ∙ ap Some one); after = rw t refl }

  -- a granted write ends with memory the value
  ended_write_stored : IsAccepted h past → BegunTrue h past → (l : ℕ) (x : Transaction) → granted h past l ≡ Some x → (q : ℕ) (z : Transaction)
      → EndsWrite h past q z → z.place ≡ x.place → memory_of past l ≡ value_of past l
  ended_write_stored a f l x g q z w same =
      let o = (accepted_holds h past a).grants l x g in
      let one : z ≡ x = same_place past q x.port Write x.chan w.id x.id z x (outstanding-named h past q Write w.id z w.out) (outstanding-named h past x.port x.chan x.id x o.0) same in
      let writes : is_read x.chan ≡ false = ap (λ (y : Transaction). is_read y.chan) (sym one) ∙ ap is_read w.chan in
      let k = granted_write x (granted_given h past a l x g).kind writes in
      let sends : is_some_and (write_kind z) has_write_data ≡ true = rw (ap write_kind one ∙ k.1) (granted_data k.0 k.2) in
      let had : has_memory_write past x.port x.chan x.id ≡ true = subst (λ (y : Transaction). has_memory_write past y.port y.chan y.id ≡ true) one (w.written sends) in
      (f l x g (inl (grant_stores x k.0 k.1 k.2)) (rw writes had)).stored

  -- the end of a granted transaction that has passed data, or may lose data
  pub ended_safe : (e : Event) → IsAccepted h (e ∷ past) → AllByRecursion FitsFields past → BegunTrue h past → (l : ℕ) (x : Transaction) → granted h past l ≡ Some x
      → (has_passed_data h past x ≡ true) ⊎ (may_lose_data x ≡ true) → (z : Transaction) → ended h past e ≡ Some z → z.place ≡ x.place → IsValueSafe h (e ∷ past) l
  ended_safe (Rk q st) a range f l x g wants z is same =
      let n = ends_granted q st a l x g z is same in
      let r = n.r in
      let some = full_some past q r.id r.one r.full in
      let holder : (is_some_and (first_resp past q r.id) passes_dirty || is_dirty (state_of h past q l) || is_make_unique r.kind) ≡ true → IsValueSafe h (Rk q st ∷ past) l =
      λ t. let dirty : is_dirty st ≡ true = r.state.keeps_dirt t in inr (inl (q, rw n.after dirty)) in
      elim wants [
        | inl has ↦
            let pass = first_passes h past a.0 q r.id r.one r.out (and_parts (is_line r.one) _ r.on).0 some (rw n.same has) in
            holder (or_left _ (is_make_unique r.kind) (or_left (is_some_and (first_resp past q r.id) passes_dirty) _ pass))
        | inr loses ↦ elim (read_loses r.one r.kind r.is_kind (rw n.same loses)) [
          | inl make ↦ holder (or_right _ (is_make_unique r.kind) make)
          | inr discards ↦
              let begun = begun_read h past q r.id r.one r.out some in
              inl (f l r.one (g ∙ ap (λ v. Some v) (sym n.same)) (inr discards) begun).stored
        ]
      ]
  ended_safe (Wk q st) a range f l x g wants z is same = inl (ended_write_stored a.0 f l x g q z (ends_write_of h past q st a z is) same)
  ended_safe (B q j resp) a range f l x g wants z is same = inl (ended_write_stored a.0 f l x g q z (ends_lite_written h past q j resp a z is) same)
  ended_safe (R q j resp last word) a range f l x g wants z is same =
      let lite = ends_lite h past q j resp last word z is in
      let o = (accepted_holds h past a.0).grants l x g in
      let one : z ≡ x = same_place past q x.port Read x.chan j x.id z x lite.1 (outstanding-named h past x.port x.chan x.id x o.0) same in
      let m = may_of h past q j resp last word a in
      let same_m : m.one ≡ x = Some-injective m.one z (sym m.named ∙ lite.1) ∙ one in
      let out : outstanding h past q Read j ≡ Some x = m.out ∙ ap Some same_m in
      let at_ace : is_ace h q ≡ true → IsValueSafe h (R q j resp last word ∷ past) l = λ ace. let bad : true ≡ false = sym ace ∙ lite.0 in cc in
      elim wants [
        | inl has ↦
            let line = (and_parts (is_line x) _ o.1).0 in
            let takes = (line_due h past q j resp last word a x out line).takes has in
            let pass : passes_dirty resp ≡ true = (and_parts _ (passes_dirty resp) takes).1 in
            let bits = is_none_or-at (outstanding h past q Read j) (has_upper_bits h past resp) x (accepted_keeps h past (R q j resp last word) a).rule_19 out in
            let early = implies (passes_dirty resp) (has_passed_data h past x) && is_none_or (read_kind x) (fits_kind h past x resp) in
            let share = implies (passes_dirty resp || is_shared resp) (is_ace h x.port) in
            let both = and_parts early share (and_parts (early && share) _ bits).0 in
            let here = implies-at (passes_dirty resp || is_shared resp) (is_ace h x.port) both.1 (or_left (passes_dirty resp) (is_shared resp) pass) in
            at_ace (ap (is_ace h) (sym m.port ∙ ap (λ (y : Transaction). y.port) same_m) ∙ here)
        | inr loses ↦
            let kind : read_kind x ≡ Some m.kind = ap read_kind (sym same_m) ∙ m.is_kind in
            elim (read_loses x m.kind kind loses) [
              | inl make ↦ at_ace (ace_read h past a.0 q j x read.MakeUnique out (kind ∙ ap (λ v. Some v) (make_unique_is m.kind make)) refl)
              | inr discards ↦
                  let d = discards_r h past q j resp last word l a x (m.named ∙ ap (λ v. Some v) same_m) (and_from _ _ discards o.1) in
                  inl (sym (discard_true h past q j resp last word l range d))
            ]
      ]
  ended_safe e a range f l x g wants z is same = cc

  -- a port that answers a snoop of its dirty line keeps it dirty, passes it on, or the line is replaced
  pub answered_safe : (p resp : ℕ) (st : LineState) → IsAccepted h (Cr p resp st ∷ past) → DirtyPlaced h past → (l : ℕ) → is_dirty (state_of h past p l) ≡ true
      → Answering h past p resp st l → IsValueSafe h (Cr p resp st ∷ past) l
  answered_safe p resp st a f l d n =
      elim (cases_Bool (is_make_invalid_snoop n.kind)) [
        | inl m ↦
            inr (inr (inr (rw n.pending.stands (invalid_loses n.pending.one n.kind n.causes m))))
        | inr m ↦ elim (cases_Bool (passes_dirty resp)) [
          | inr keeps ↦
              let after = dirty_stays n.kind (state_of h past p l) false resp st n.of_line n.row m d keeps in
              inr (inl (p, rw n.leaves after))
          | inl pass ↦
              let both : (nat_eq p p && answers_grant past p l) ≡ true = and_from _ _ (eq-eqb p p refl) n.under in
              let now : Answer = record { place = length past; resp = resp; bursts = data_answers past p } in
              let is : answer_of (Cr p resp st ∷ past) p l ≡ Some now = rw both refl in
              passed_safe h (Cr p resp st ∷ past) a (passed_step h past (Cr p resp st) a f) l p n.pending.one now n.pending.stands unwritten is pass
        ]
      ]
    where
      unwritten : has_memory_write past n.pending.one.port n.pending.one.chan n.pending.one.id ≡ false
      unwritten =
          elim (cases_Bool (has_memory_write past n.pending.one.port n.pending.one.chan n.pending.one.id)) [
            | inr none ↦ none
            | inl had ↦ elim (cases_Bool (is_read n.pending.one.chan)) [
              | inr writes ↦ let unbegun = n.pending.unbegun in let bad : true ≡ false = sym had ∙ (rw writes at unbegun) in cc
              | inl reads ↦
                  let w = written_passed h past a.0 l n.pending.one n.pending.stands reads had in
                  elim (cases_eq p w.port) [
                    | inl own ↦
                        let bad : None ≡ Some w.answer = sym n.pending.unanswered ∙ ap (λ v. answer_of past v l) own ∙ w.is in cc
                    | inr apart ↦
                        absurd (dirty_unsettled (state_of h past p l) d (others_settled h past a.0 l w.port p n.pending.one w.answer n.pending.stands w.is w.dirty apart))
                  ]
            ]
          ]

module _ (h : Header) (past : Trace) where
  -- where there are passed data, a granted transaction has them
  passed_granted : (l : ℕ) (d : Line) → passed_data h past l ≡ Some d → (x : Transaction) × (granted h past l ≡ Some x) × (has_passed_data h past x ≡ true)
  passed_granted l d is = by (granted h past l) refl
    where
      by : (o : Option Transaction) → granted h past l ≡ o → (x : Transaction) × (granted h past l ≡ Some x) × (has_passed_data h past x ≡ true)
      by None g = let bad : None ≡ Some d = rw g at is in cc
      by (Some x) g = (x, g, passed_has h past l x d g is)

  module _ (e : Event) (a : IsAccepted h (e ∷ past)) (r : AllByRecursion FitsFields (e ∷ past)) (f : DirtyPlaced h past) (l : ℕ) where
    -- the M of passed data makes memory the value, or a port holds the line dirty
    passed_written : (w : WritesLine h past e l) → ByPassed h past l w.one → IsValueSafe h (e ∷ past) l
    passed_written w b =
        elim (passed_true h past a.0 f.passed l w.one b.stands b.has) [
          | inl same ↦
              let addr = is_on-addr w.one l w.on in
              let is : data_of h past w.one ≡ Some (value_of past l) =
              then_of (is_read w.one.chan) (passed_data h past w.one.addr) _ b.reads ∙ ap (passed_data h past) addr ∙ same in
              inl (memory_now h past e l w ∙ line_is h past e l w a r.0 (value_of past l) is (value-length past l r.1) ∙ sym value)
          | inr holder ↦ inr (inl (holder.0, rw w.is holder.1))
        ]
      where
        value : value_of (e ∷ past) l ≡ value_of past l
        value =
            let named = outstanding-named h past w.port w.chan w.id w.one w.out in
            rw (w.is, named, b.reads) refl

    -- so an M leaves the value safe
    memory_written : WritesLine h past e l → IsValueSafe h (e ∷ past) l
    memory_written w =
        elim (writer h past e l w a) [
          | inl passed ↦ passed_written w passed
          | inr (inl u) ↦ inl (update_true h past e l w a r f.updates u)
          | inr (inr s) ↦ inl (store_true h past e a r f l w s)
        ]

    -- the M of a store is one of the line
    store_writes : (q : ℕ) (c : Channel) (j : ℕ) (line : Line) → e ≡ M q c j line → Writes h past q c j l → WritesLine h past e l
    store_writes q c j line is s =
        let m = may_write h past q c j line (subst (λ v. IsAccepted h (v ∷ past)) is a) s.one s.named in
        record { port = q; chan = c; id = j; line = line; is = is; one = s.one; out = m.out; on = s.on; may = m.may }

    -- and so does every event
    pub safe_step : IsValueSafe h (e ∷ past) l
    safe_step =
        elim (memory_moves h past e a l) [
          | inr (inl w) ↦ memory_written w
          | inr (inr m) ↦ inl (m.stored l)
          | inl kept ↦ elim (value_moves h past e a l) [
            | inl same ↦ carries kept same
            | inr (inl d) ↦ inr (inl (d.port, rw d.is (store_dirty h past d.port l d.strobe d.ex d.line d.may)))
            | inr (inr (inl d)) ↦
                inr (inr (inr (rw (d.is, d.made.stands, d.made.kind) refl)))
            | inr (inr (inr (inl (inl d)))) ↦ memory_written (store_writes d.port d.chan d.id d.line d.is d.by)
            | inr (inr (inr (inl (inr d)))) ↦ inl (kept ∙ sym (rw d.is (discard_true h past d.port d.id d.resp d.last d.word l r.1 d.by)))
            | inr (inr (inr (inr m))) ↦ inl (m.stored l)
          ]
        ]
      where
        passed_on : (x : Transaction) → granted h past l ≡ Some x → has_passed_data h past x ≡ true → Stays h past e l x → IsValueSafe h (e ∷ past) l
        passed_on x g has stays =
            let o = (accepted_holds h past a.0).grants l x g in
            let w = passes_line h past a.0 l x g has in
            elim (cases_Bool (has_memory_write (e ∷ past) x.port x.chan x.id)) [
              | inr none ↦
                  passed_safe h (e ∷ past) a (passed_step h past e a f) l w.port x w.answer stays.is none (answer_kept h past a.0 e w.port l w.answer stays.gives w.is) w.dirty
              | inl t ↦ elim (written_cases h past e a x.port x.chan x.id x o.0 t) [
                | inl now ↦
                    memory_written (record { port = x.port; chan = x.chan; id = x.id; line = now.line; is = now.is; one = x; out = o.0; on = o.1; may = now.may })
                | inr earlier ↦ let bad : true ≡ false = sym earlier ∙ (has_passed h past x has).unwritten in cc
              ]
            ]

        carries : memory_of (e ∷ past) l ≡ memory_of past l → value_of (e ∷ past) l ≡ value_of past l → IsValueSafe h (e ∷ past) l
        carries kept same =
            elim (f.safe l) [
              | inl m ↦ inl (kept ∙ m ∙ sym same)
              | inr (inl d) ↦ elim (dirt_moves h past e a f.updated d.0 l d.1) [
                | inl still ↦ inr (inl (d.0, still))
                | inr (inl u) ↦ inl (kept ∙ u.stored ∙ sym same)
                | inr (inr c) ↦
                    rw c.is
                    (answered_safe h past d.0 c.resp c.st (subst (λ v. IsAccepted h (v ∷ past)) c.is a) f l d.1 c.answering)
              ]
              | inr (inr (inl passed)) ↦
                  let x = passed_granted l (value_of past l) passed in
                  elim (granted_after h past e a l x.0 x.1) [
                    | inl stays ↦ passed_on x.0 x.1 x.2 stays
                    | inr z ↦ ended_safe h past e a r.1 f.begun l x.0 x.1 (inl x.2) z.0 z.1 z.2
                  ]
              | inr (inr (inr loses)) ↦
                  let x = is_some_and-is (granted h past l) may_lose_data loses in
                  elim (granted_after h past e a l x.0 x.1) [
                    | inl stays ↦ inr (inr (inr (rw stays.is x.2)))
                    | inr z ↦ ended_safe h past e a r.1 f.begun l x.0 x.1 (inr x.2) z.0 z.1 z.2
                  ]
            ]
