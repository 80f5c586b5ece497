-- Under the grant of a read of a line, while no port has sent data, memory was the value right after the last G or M of the
-- line, or a port that holds the line dirty hasn't answered. Once the snoops of the read are done there is no such port.
use Rattle.std.proofs.Common.{[], None, Option, Some, ap, arith, false, inl, inr, le_refl, length, nat_eq, refl, subst, sym, true, ℕ, ◌+◌, ◌&&◌, ◌||◌, ◌∙◌, ◌∷◌, ◌≡◌, ◌≤◌, ◌⊎◌}
use Rattle.std.proofs.lemmas.Bool.{false_from_ne_true, or_left, or_right, or_cases, and_from, and_parts, cases_Bool, eq-eqb, eqb-true}
use Rattle.std.specs.List.{AllByRecursion}
use Rattle.ace_model.specs.declared.transactions.Transaction.{Transaction}
use Rattle.ace_model.specs.declared.snoops.Answer.{Answer}
use Rattle.ace_model.proofs.Terms.{has_failed, is_on, ArKind, AwKind, Channel, Cr, D, Event, HasDirtyHolder, Header, I, FitsFields, IsAccepted, IsValueSafe, M, Mem, Read, Rk, S, SnoopKind, Trace, Wk, Write, answer_of}
use Rattle.ace_model.proofs.Terms.{acknowledged, answers_grant, answers_line, are_snoops_done, at_point, data_answers, first_sender, gives_line, grant_place, granted, has_memory_write, has_passed_data, is_clean_unique, is_dirty, is_granted_write, is_line, is_line_read, is_line_write, is_make_unique, is_some_on}
use Rattle.ace_model.proofs.Terms.{is_exclusive_store, is_line_read_transaction, is_no_snoop, is_no_snoop_read, is_no_snoop_write, is_read, is_some_and}
use Rattle.ace_model.proofs.Terms.{memory_of, outstanding, read_kind, reads_a_line, may_lose_data, snoop_kind_of, snoop_of, snoop_of_read, state_of, transaction_of, transfers_data, value_of, write_kind}
use Rattle.ace_model.proofs.Tables.Kinds.{dirty_updates, is_clean_write, is_dirty_update, read_invalid, reads_apart, reads_unsnooped, update_data, write_kinds}
use Rattle.ace_model.proofs.Trace.Issued.{Stands, outstanding-named, outstanding-origin, transaction_of-stands}
use Rattle.ace_model.proofs.Trace.Looks.{snoops_done-ports, is_on-addr}
use Rattle.ace_model.proofs.Trace.Opening.{Opens, opens_of}
use Rattle.ace_model.proofs.General.Options.{Some-injective, is_some_and-is}
use Rattle.ace_model.proofs.Trace.Growth.{at_point-before, at_point-end}
use Rattle.ace_model.proofs.Holders.Acknowledge.{is_named_by_rk}
use Rattle.ace_model.proofs.Holders.Law.{accepted_holds}
use Rattle.ace_model.proofs.Holders.Rises.{ends_line_of, stays_empty}
use Rattle.ace_model.proofs.Holders.Stores.{is_named_by_d}
use Rattle.ace_model.proofs.Grants.Stays.{Stays, granted_before}
use Rattle.ace_model.proofs.Tables.SnoopRows.{is_make_invalid_snoop, dirty_sends, silent_dirty}
use Rattle.ace_model.proofs.Tables.States.{dirty_valid}
use Rattle.ace_model.proofs.Holders.FirstTransfer.{done_port}
use Rattle.ace_model.proofs.Holders.ShareableLines.{no_snoop_unheld}
use Rattle.ace_model.proofs.Grants.Granted.{has_passed, new_unwritten, passes_of, written_cases}
use Rattle.ace_model.proofs.Grants.SnoopAnswers.{NewAnswer, answer_cases, answering_cr}
use Rattle.ace_model.proofs.Grants.Answers.{new_answer, new_causes, passed_kind}
use Rattle.ace_model.proofs.Values.DirtMoves.{AnswersNow}
use Rattle.ace_model.proofs.Values.Ended.{write_ends}
use Rattle.ace_model.proofs.Values.Replies.{sent_sender, sender_before}
use Rattle.ace_model.proofs.Values.MemoryWrites.{WritesLine, writer, update_true}
use Rattle.ace_model.proofs.Values.Stores.{may_write}
use Rattle.ace_model.proofs.Values.UpdateHolds.{stays_clean, moves_silently}
use Rattle.ace_model.proofs.Values.Law.{facts}
use Rattle.ace_model.proofs.ReadsFollow.Memory.{DirtyUnanswered}
use Rattle.ace_model.proofs.ReadsFollow.Outstanding.{line_read-chan, empty_while_read}
use Rattle.ace_cert_make.specs.Places.{memory_place, writes_line}

-- the point is no later than now, and not before the grant
pub memory_place-low : (past : Trace) (l : ℕ) → memory_place past l ≤ length past
memory_place-low [] l = le_refl 0
memory_place-low (e ∷ past) l =
    elim (cases_Bool (gives_line past e l || writes_line past e l)) [
      | inl t ↦ rw t (omega arith)
      | inr f ↦ let low = memory_place-low past l in rw f (omega arith)
    ]

pub memory_place-after : (past : Trace) (l : ℕ) → grant_place past l ≤ memory_place past l
memory_place-after [] l = le_refl 0
memory_place-after (e ∷ past) l =
    elim (cases_Bool (gives_line past e l)) [
      | inl t ↦ rw t (le_refl (length past + 1))
      | inr g ↦ elim (cases_Bool (writes_line past e l)) [
        | inl t ↦ let low = memory_place-low past l in let after = memory_place-after past l in rw (g, t) (omega arith)
        | inr f ↦ rw (g, f) (memory_place-after past l)
      ]
    ]

-- at that point the value was what memory has now
abbrev pub HasMemory : Trace → ℕ → Type 0
HasMemory past l = memory_of past l ≡ value_of (at_point (memory_place past l) past) l

-- a read of a line loses no data
reads-lose : (x : Transaction) → is_line_read_transaction x ≡ true → may_lose_data x ≡ true → ⊥
reads-lose x reads loses =
    let k = is_some_and-is (read_kind x) reads_a_line reads in
    let apart = reads_apart k.0 k.2 in
    let none : write_kind x ≡ None = rw (line_read-chan x reads) refl in
    let bad : false ≡ true = rw (k.1, none, apart.0, apart.2) at loses in cc

line_write : (x : Transaction) → x.chan ≡ Write → is_line x ≡ true → (k : AwKind) × (write_kind x ≡ Some k) × (is_line_write k ≡ true)
line_write x chan line =
    let none : read_kind x ≡ None = rw chan refl in
    elim (or_cases (is_some_and (read_kind x) is_line_read) (is_some_and (write_kind x) is_line_write) line) [
      | inl reads ↦ let bad : false ≡ true = rw none at reads in cc
      | inr writes ↦ is_some_and-is (write_kind x) is_line_write writes
    ]

-- an update of a dirty line, outstanding at the port, that has written memory
record WroteBack (h : Header) (past : Trace) (p l : ℕ) : Type 0 where
  id : ℕ
  one : Transaction
  out : outstanding h past p Write id ≡ Some one
  on : is_on one l ≡ true
  updates : is_some_and (write_kind one) is_dirty_update ≡ true
  written : has_memory_write past p Write id ≡ true

module _ (h : Header) (past : Trace) where
  -- an event leaves memory of the line, or is an M on it, or opens memory
  memory-moves : (e : Event) → IsAccepted h (e ∷ past) → (l : ℕ)
      → ((memory_of (e ∷ past) l ≡ memory_of past l) × (writes_line past e l ≡ false))
      ⊎ (WritesLine h past e l × (writes_line past e l ≡ true)) ⊎ Opens h past e
  memory-moves (M q c j line) a l = by (transaction_of past q c j) refl
    where
      by : (o : Option Transaction) → transaction_of past q c j ≡ o
          → ((memory_of (M q c j line ∷ past) l ≡ memory_of past l) × (writes_line past (M q c j line) l ≡ false))
          ⊎ (WritesLine h past (M q c j line) l × (writes_line past (M q c j line) l ≡ true)) ⊎ Opens h past (M q c j line)
      by None is = inl (rw is refl, rw is refl)
      by (Some x) is =
          elim (cases_Bool (is_on x l)) [
            | inr f ↦ inl (rw (is, f) refl, rw (is, f) refl)
            | inl t ↦
                let m = may_write h past q c j line a x is in
                inr (inl (record { port = q; chan = c; id = j; line = line; is = refl; one = x; out = m.out; on = t; may = m.may }, rw (is, t) refl))
          ]
  memory-moves (Mem addr line) a l = inr (inr (opens_of h past addr line a))
  memory-moves _ a l = inl (refl, refl)

  -- memory is the value after a G or M
  value-here : (e : Event) (l : ℕ) → memory_of (e ∷ past) l ≡ value_of (e ∷ past) l → (gives_line past e l || writes_line past e l) ≡ true
      → HasMemory (e ∷ past) l
  value-here e l same t = rw t (same ∙ ap (λ (s : Trace). value_of s l) (sym (at_point-end (e ∷ past) (length past + 1) (omega arith))))

  kept-here : (e : Event) (l : ℕ) → memory_of (e ∷ past) l ≡ memory_of past l → gives_line past e l ≡ false → writes_line past e l ≡ false → HasMemory past l
      → HasMemory (e ∷ past) l
  kept-here e l kept gives writes m =
      rw (gives, writes) (kept ∙ m ∙ ap (λ (s : Trace). value_of s l) (sym (at_point-before e past (memory_place past l) (memory_place-low past l))))

  -- where no port has sent data there are no passed data
  none-passed : IsAccepted h past → (l : ℕ) (x : Transaction) → granted h past l ≡ Some x → has_passed_data h past x ≡ true → first_sender past l ≡ None → ⊥
  none-passed a l x g has none =
      let addr = is_on-addr x l ((accepted_holds h past a).grants l x g).1 in
      let p = passes_of h past x.addr (has_passed h past x has).some in
      let is : answer_of past p.port l ≡ Some p.answer = ap (answer_of past p.port) (sym addr) ∙ p.is in
      sent_sender past p.port l p.answer is (passed_kind h past a l p.port x p.answer g is p.dirty).3 none

  -- a dirty line stays dirty at its port, or its update has written memory, or its port answers a snoop of it
  dirt-moves : (e : Event) → IsAccepted h (e ∷ past) → (p l : ℕ) → is_dirty (state_of h past p l) ≡ true
      → (is_dirty (state_of h (e ∷ past) p l) ≡ true) ⊎ WroteBack h past p l ⊎ AnswersNow h past e p l
  dirt-moves (Rk q st) a p l d =
      elim (cases_Bool (is_named_by_rk past q p l)) [
        | inr other ↦ inl (rw other d)
        | inl t ↦
            let r = ends_line_of h past q st a p l t in
            inl (rw t (r.state.keeps_dirt (or_left _ (is_make_unique r.kind) (or_right _ (is_dirty (state_of h past p l)) d))))
      ]
  dirt-moves (Wk q st) a p l d =
      elim (cases_Bool (nat_eq p q && is_some_on (acknowledged past p Write) l)) [
        | inr other ↦ inl (rw other d)
        | inl t ↦
            let w = write_ends h past q st a p l t in
            let k = line_write w.one w.chan (and_parts (is_line w.one) _ w.on).0 in
            elim (or_cases (is_dirty_update k.0 || is_clean_write k.0) (is_granted_write k.0) (write_kinds k.0 k.2)) [
              | inl told ↦ elim (or_cases (is_dirty_update k.0) (is_clean_write k.0) told) [
                | inl updates ↦ inr (inl (record {
                  id = w.id;
                  one = w.one;
                  out = w.out;
                  on = w.on;
                  updates = rw k.1 updates;
                  written = w.written (rw k.1 (update_data k.0 (dirty_updates k.0 updates)));
                }))
                | inr clean ↦ let none = stays_clean h past a.0 p w.id l w.one w.out w.on (rw k.1 clean) in cc
              ]
              | inr granted ↦
                  let empty = stays_empty h past a.0 p Write w.id l w.one w.out w.on (inr (inl (rw k.1 granted))) in
                  absurd (dirty_valid (state_of h past p l) d empty)
            ]
      ]
  dirt-moves (Cr q resp st) a p l d =
      elim (cases_Bool (nat_eq p q && answers_line past p l)) [
        | inr other ↦ inl (rw other d)
        | inl t ↦
            let parts = and_parts (nat_eq p q) (answers_line past p l) t in
            let is : Cr q resp st ≡ Cr p resp st = ap (λ b. Cr b resp st) (sym (eqb-true p q parts.0)) in
            inr (inr (record {
              resp = resp;
              st = st;
              is = is;
              answering = answering_cr h past p resp st
                  (subst (λ v. IsAccepted h (v ∷ past)) is a) l parts.1;
            }))
      ]
  dirt-moves (S q addr st) a p l d =
      elim (cases_Bool (nat_eq p q && nat_eq l addr)) [
        | inr other ↦ inl (rw other d)
        | inl t ↦ inl (rw t (silent_dirty (state_of h past p l) st (moves_silently h past q addr st a p l t).move d))
      ]
  dirt-moves (D q addr strobe s line) a p l d =
      elim (cases_Bool (is_named_by_d h past q addr p l)) [
        | inr other ↦ inl (rw other d)
        | inl t ↦ inl (rw t refl)
      ]
  dirt-moves _ a p l d = inl d

  module _ (l : ℕ) (x : Transaction) where
    -- without a sender memory is the value or a port holds the line dirty
    by-value : IsAccepted h past → IsValueSafe h past l → granted h past l ≡ Some x → is_line_read_transaction x ≡ true → first_sender past l ≡ None
        → (memory_of past l ≡ value_of past l) ⊎ HasDirtyHolder h past l
    by-value a safe g reads none =
        elim safe [
          | inl same ↦ inl same
          | inr (inl holder) ↦ inr holder
          | inr (inr (inl passed)) ↦
              elim (cases_Bool (has_passed_data h past x)) [
                | inl has ↦ absurd (none-passed a l x g has none)
                | inr unpassed ↦ let bad : None ≡ Some (value_of past l) = rw (g, unpassed) at passed in cc
              ]
          | inr (inr (inr loses)) ↦ absurd (reads-lose x reads (rw g at loses))
        ]

    -- a port that holds the line dirty sends it with its answer
    dirty-sent : (e : Event) (q : ℕ) (w : Answer) → IsAccepted h (e ∷ past) → granted h past l ≡ Some x → is_line_read_transaction x ≡ true
        → is_dirty (state_of h past q l) ≡ true → NewAnswer past e q l w → transfers_data w.resp ≡ true
    dirty-sent e q w a g reads dirty new =
        let n = new_answer h past e a q l w new in
        let k = is_some_and-is (read_kind x) reads_a_line reads in
        let causes : snoop_of_read k.0 ≡ Some n.1.kind = sym (ap (λ o. snoop_kind_of o (write_kind x)) k.1) ∙ new_causes h past q l w x n g in
        let other : is_make_invalid_snoop n.1.kind ≡ false = false_from_ne_true (is_make_invalid_snoop n.1.kind) (λ t.
        let makes = read_invalid k.0 (subst (λ o. is_some_and o is_make_invalid_snoop ≡ true) (sym causes) t) in
        let apart = reads_apart k.0 k.2 in
        let bad : false ≡ true = rw (apart.0, apart.2) at makes in cc) in
        dirty_sends n.1.kind (state_of h past q l) w.resp n.0 n.1.of_line n.1.row other dirty

    -- an M on the line is that of an update, which writes the value
    written-now : (e : Event) → IsAccepted h (e ∷ past) → AllByRecursion FitsFields (e ∷ past) → is_line_read_transaction x ≡ true → Stays h past e l x
        → first_sender past l ≡ None
        → WritesLine h past e l → memory_of (e ∷ past) l ≡ value_of (e ∷ past) l
    written-now e a range reads stays before w =
        elim (writer h past e l w a) [
          | inl passed ↦ absurd (none-passed a.0 l w.one passed.stands passed.has before)
          | inr (inl u) ↦ update_true h past e l w a range (facts h past a.0 range.1).updates u
          | inr (inr s) ↦
              let one : s.one ≡ x = Some-injective s.one x (sym s.stands ∙ stays.was) in
              let bad : false ≡ true = sym s.writes ∙ ap (λ (y : Transaction). is_read y.chan) one ∙ ap is_read (line_read-chan x reads) in cc
        ]

    moves-on : (e : Event) → IsAccepted h (e ∷ past) → AllByRecursion FitsFields (e ∷ past) → is_line_read_transaction x ≡ true → Stays h past e l x
        → first_sender past l ≡ None
        → HasMemory past l → HasMemory (e ∷ past) l
    moves-on e a range reads stays before m =
        elim (memory-moves e a l) [
          | inl kept ↦ kept-here e l kept.0 stays.gives kept.1 m
          | inr (inr opens) ↦ let none = opens.ungranted l in let was = stays.was in cc
          | inr (inl w) ↦ value-here e l (written-now e a range reads stays before w.0) (or_right (gives_line past e l) (writes_line past e l) w.1)
        ]

-- once an update of the dirty line has written memory, memory was the value at that point
updated-memory : (h : Header) (past : Trace) → IsAccepted h past → AllByRecursion FitsFields past → (l : ℕ) (x : Transaction) → granted h past l ≡ Some x
    → is_line_read_transaction x ≡ true → first_sender past l ≡ None → (p : ℕ) → WroteBack h past p l → HasMemory past l
updated-memory h [] a range l x g reads none p u = cc
updated-memory h (e ∷ past) a range l x g reads none p u =
    elim (granted_before h past e l x g) [
      | inr gives ↦ value-here h past e l ((facts h (e ∷ past) a range).updated p u.id l u.one u.out u.on u.updates u.written).stored
          (or_left (gives_line past e l) (writes_line past e l) gives)
      | inl stays ↦
          let before = (sender_before past e l stays.gives none).0 in
          elim (outstanding-origin h past e p Write u.id u.one u.out) [
            | inl new ↦ absurd (new_unwritten past e u.one p Write u.id new.0 new.1 u.written)
            | inr old ↦ elim (written_cases h past e a p Write u.id u.one old.was u.written) [
              | inr earlier ↦
                  moves-on h past l x e a range reads stays before
                  (updated-memory h past a.0 range.1 l x stays.was reads before p
                  (record { id = u.id; one = u.one; out = old.was; on = u.on; updates = u.updates; written = earlier }))
              | inl now ↦
                  let w : WritesLine h past e l =
                  record { port = p; chan = Write; id = u.id; line = now.line; is = now.is; one = u.one; out = old.was; on = u.on; may = now.may } in
                  let named = outstanding-named h past p Write u.id u.one old.was in
                  let is = now.is in
                  let on = u.on in
                  let writes : writes_line past e l ≡ true = rw (is, named, on) refl in
                  value-here h past e l (written-now h past l x e a range reads stays before w) (or_right (gives_line past e l) (writes_line past e l) writes)
            ]
          ]
    ]

memory-or_holder : (h : Header) (past : Trace) → IsAccepted h past → AllByRecursion FitsFields past → (l : ℕ) (x : Transaction) → granted h past l ≡ Some x
    → is_line_read_transaction x ≡ true → first_sender past l ≡ None → HasMemory past l ⊎ DirtyUnanswered h past l
memory-or_holder h [] a range l x g reads none = cc
memory-or_holder h (e ∷ past) a range l x g reads none =
    elim (granted_before h past e l x g) [
      | inr gives ↦ elim (by-value h (e ∷ past) l x a ((facts h (e ∷ past) a range).safe l) g reads none) [
        | inl same ↦ inl (value-here h past e l same (or_left (gives_line past e l) (writes_line past e l) gives))
        | inr q ↦ inr (record { port = q.0; dirty = q.1; unanswered = rw gives refl })
      ]
      | inl stays ↦
          let before = (sender_before past e l stays.gives none).0 in
          elim (memory-or_holder h past a.0 range.1 l x stays.was reads before) [
            | inl m ↦ inl (moves-on h past l x e a range reads stays before m)
            | inr q ↦ elim (dirt-moves h past e a q.port l q.dirty) [
              | inl still ↦ inr (record { port = q.port; dirty = still; unanswered = unsent stays q (answer_of (e ∷ past) q.port l) refl })
              | inr (inl u) ↦ inl (moves-on h past l x e a range reads stays before (updated-memory h past a.0 range.1 l x stays.was reads before q.port u))
              | inr (inr c) ↦
                  let test : (nat_eq q.port q.port && answers_grant past q.port l) ≡ true = and_from _ _ (eq-eqb q.port q.port refl) c.answering.under in
                  let now : answer_of (Cr q.port c.resp c.st ∷ past) q.port l ≡
                  Some (record { place = length past; resp = c.resp; bursts = data_answers past q.port }) = rw test refl in
                  let no = subst (λ (d : Event). answer_of (d ∷ past) q.port l ≡ None) c.is (unsent stays q (answer_of (e ∷ past) q.port l) refl) in cc
            ]
          ]
    ]
  where
    -- an answer of the dirty holder would have sent data
    unsent : Stays h past e l x → (q : DirtyUnanswered h past l) → (o : Option Answer) → answer_of (e ∷ past) q.port l ≡ o
        → answer_of (e ∷ past) q.port l ≡ None
    unsent stays q None is = is
    unsent stays q (Some w) is =
        elim (answer_cases past e q.port l w stays.gives is) [
          | inl old ↦ let unanswered = q.unanswered in cc
          | inr new ↦ absurd (sent_sender (e ∷ past) q.port l w is (dirty-sent h past l x e q.port w a stays.was reads q.dirty new) none)
        ]

-- once the snoops are done no port that holds the line dirty has to answer
none-dirty : (h : Header) (past : Trace) → IsAccepted h past → (x : Transaction) → granted h past x.addr ≡ Some x → is_line_read_transaction x ≡ true
    → are_snoops_done h past x ≡ true → DirtyUnanswered h past x.addr → ⊥
none-dirty h past a x g reads done q =
    let s = (accepted_holds h past a).grants x.addr x g in
    let out : outstanding h past x.port Read x.id ≡ Some x = ap (λ (v : Channel). outstanding h past x.port v x.id) (sym (line_read-chan x reads)) ∙ s.0 in
    let stands = transaction_of-stands past x.port Read x.id x (outstanding-named h past x.port Read x.id x out) in
    by (snoop_of x) refl (λ own. not_dirty (ap (λ v. state_of h past v x.addr) (sym own) ∙ empty_while_read h past a x.port x.id x out reads)) stands s.1
  where
    not_dirty : state_of h past q.port x.addr ≡ I → ⊥
    not_dirty gone = let bad : is_dirty I ≡ true = subst (λ s. is_dirty s ≡ true) gone q.dirty in cc

    kind : (k : ArKind) × (read_kind x ≡ Some k) × (reads_a_line k ≡ true)
    kind = is_some_and-is (read_kind x) reads_a_line reads

    unfailed : has_failed past x ≡ false
    unfailed =
        false_from_ne_true (has_failed past x) (λ failed.
        let store = (and_parts x.lock (is_some_and (read_kind x) is_clean_unique) (and_parts (is_exclusive_store x) _ failed).0).1 in
        let cleans : is_clean_unique kind.0 ≡ true = subst (λ o. is_some_and o is_clean_unique ≡ true) kind.1 store in
        let none = (reads_apart kind.0 kind.2).1 in cc)

    by : (o : Option SnoopKind) → snoop_of x ≡ o → (x.port ≡ q.port → ⊥) → Stands past x.port Read x.id x → is_on x x.addr ≡ true → ⊥
    by None none apart stands on =
        let uncaused : snoop_of_read kind.0 ≡ None = sym (ap (λ o. snoop_kind_of o (write_kind x)) kind.1) ∙ none in
        let no_snoop : is_no_snoop x ≡ true =
        or_left (is_some_and (read_kind x) is_no_snoop_read) (is_some_and (write_kind x) is_no_snoop_write)
        (subst (λ o. is_some_and o is_no_snoop_read ≡ true) (sym kind.1) (reads_unsnooped kind.0 kind.2 uncaused)) in
        not_dirty (no_snoop_unheld h past x q.port x.addr a (record { there = stands.there; before = stands.before }) on no_snoop)
    by (Some c) causes apart stands on =
        elim (done_port h past x q.port (accepted_holds h past a) (snoops_done-ports h past x c causes unfailed done) apart) [
          | inl gone ↦ not_dirty gone
          | inr answer ↦ let is = answer.is in let none = q.unanswered in cc
        ]

-- Where the snoops of a read of a line are done and no port has sent data under its grant, memory was the value at that point.
pub memory-was : (h : Header) (past : Trace) → IsAccepted h past → AllByRecursion FitsFields past → (x : Transaction) → granted h past x.addr ≡ Some x
    → is_line_read_transaction x ≡ true → are_snoops_done h past x ≡ true → first_sender past x.addr ≡ None → HasMemory past x.addr
memory-was h past a range x g reads done none =
    elim (memory-or_holder h past a range x.addr x g reads none) [
      | inl m ↦ m
      | inr q ↦ absurd (none-dirty h past a x g reads done q)
    ]
