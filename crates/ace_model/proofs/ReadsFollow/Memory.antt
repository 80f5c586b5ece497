-- Under the grant of a read of a line, while no port has sent data, memory was the value at a point since, or a port that holds the
-- line dirty hasn't answered. Once the snoops of the read are done there is no such port.
use Rattle.std.proofs.Common.{[], None, Option, Some, ap, arith, false, inl, inr, le_refl, length, nat_eq, refl, subst, sym, true, ℕ, ◌&&◌, ◌∙◌, ◌∷◌, ◌≡◌, ◌≤◌, ◌⊎◌}
use Rattle.std.proofs.lemmas.Bool.{false_from_ne_true, or_left, and_from, and_parts, cases_Bool, eq-eqb}
use Rattle.std.specs.List.{AllByRecursion}
use Rattle.ace_model.proofs.Terms.{has_failed, is_on, Answer, ArKind, Channel, Cr, Event, HasDirtyHolder, Header, I, FitsFields, IsAccepted, IsValueSafe, Read, SnoopKind, Trace, Transaction, answer_of}
use Rattle.ace_model.proofs.Terms.{answers_grant, are_snoops_done, at_point, data_answers, first_sender, grant_place, granted, has_passed_data, is_clean_unique, is_dirty}
use Rattle.ace_model.proofs.Terms.{is_exclusive_store, is_line_read_transaction, is_no_snoop, is_no_snoop_read, is_no_snoop_write, is_read, is_some_and}
use Rattle.ace_model.proofs.Terms.{memory_of, outstanding, read_kind, reads_a_line, may_lose_data, snoop_kind_of, snoop_of, snoop_of_read, state_of, transfers_data, value_of, write_kind}
use Rattle.ace_model.proofs.Tables.Kinds.{read_invalid, reads_apart, reads_unsnooped}
use Rattle.ace_model.proofs.Trace.Issued.{Stands, outstanding-named, transaction_of-stands}
use Rattle.ace_model.proofs.Trace.Looks.{snoops_done-ports, is_on-addr}
use Rattle.ace_model.proofs.General.Options.{Some-injective, is_some_and-is}
use Rattle.ace_model.proofs.Trace.Growth.{at_point-before, at_point-end}
use Rattle.ace_model.proofs.Holders.Law.{accepted_holds}
use Rattle.ace_model.proofs.Grants.Stays.{Stays, grant_place-low, granted_before}
use Rattle.ace_model.proofs.Tables.SnoopRows.{is_make_invalid_snoop, dirty_sends}
use Rattle.ace_model.proofs.Holders.FirstTransfer.{done_port}
use Rattle.ace_model.proofs.Holders.ShareableLines.{no_snoop_unheld}
use Rattle.ace_model.proofs.Grants.Granted.{has_passed, passes_of}
use Rattle.ace_model.proofs.Grants.SnoopAnswers.{NewAnswer, answer_cases}
use Rattle.ace_model.proofs.Grants.Answers.{new_answer, new_causes, passed_kind}
use Rattle.ace_model.proofs.Values.Replies.{sent_sender, sender_before}
use Rattle.ace_model.proofs.Values.MemoryWrites.{memory_moves, writer, update_true}
use Rattle.ace_model.proofs.Values.DirtMoves.{dirt_moves}
use Rattle.ace_model.proofs.Values.Facts.{DirtyPlaced}
use Rattle.ace_model.proofs.Values.Law.{facts}
use Rattle.ace_model.proofs.ReadsFollow.Outstanding.{line_read-chan, empty_while_read}

-- At a point since the grant of the line its value was what memory has now.
pub record MemorySince (past : Trace) (l : ℕ) : Type 0 where
  pub point : ℕ
  pub after : grant_place past l ≤ point
  pub low : point ≤ length past
  pub same : memory_of past l ≡ value_of (at_point point past) l

-- A port that holds the line dirty hasn't answered under the grant.
pub record DirtyUnanswered (h : Header) (past : Trace) (l : ℕ) : Type 0 where
  pub port : ℕ
  pub dirty : is_dirty (state_of h past port l) ≡ true
  pub unanswered : answer_of past port l ≡ None

-- a read of a line loses no data
reads-lose : (x : Transaction) → is_line_read_transaction x ≡ true → may_lose_data x ≡ true → ⊥
reads-lose x reads loses =
    let k = is_some_and-is (read_kind x) reads_a_line reads in
    let apart = reads_apart k.0 k.2 in
    let none : write_kind x ≡ None = rw (line_read-chan x reads) refl in
    let bad : false ≡ true = rw (k.1, none, apart.0, apart.2) at loses in cc

module _ (h : Header) (past : Trace) where
  -- memory is the value now
  value-now : (l : ℕ) → memory_of past l ≡ value_of past l → MemorySince past l
  value-now l same = record {
    point = length past;
    after = grant_place-low past l;
    low = le_refl (length past);
    same = same ∙ ap (λ (t : Trace). value_of t l) (sym (at_point-end past (length past) refl));
  }

  -- where no port has sent data there are no passed data
  none-passed : IsAccepted h past → (l : ℕ) (x : Transaction) → granted h past l ≡ Some x → has_passed_data h past x ≡ true → first_sender past l ≡ None → ⊥
  none-passed a l x g has none =
      let addr = is_on-addr x l ((accepted_holds h past a).grants l x g).1 in
      let p = passes_of h past x.addr (has_passed h past x has).some in
      let is : answer_of past p.port l ≡ Some p.answer = ap (answer_of past p.port) (sym addr) ∙ p.is in
      sent_sender past p.port l p.answer is (passed_kind h past a l p.port x p.answer g is p.dirty).3 none

  module _ (l : ℕ) (x : Transaction) where
    -- then memory is the value or a port holds the line dirty
    by-value : IsAccepted h past → IsValueSafe h past l → granted h past l ≡ Some x → is_line_read_transaction x ≡ true → first_sender past l ≡ None
        → (memory_of past l ≡ value_of past l) ⊎ HasDirtyHolder h past l
    by-value a safe g reads none =
        elim safe [
          | inl same ↦ inl same
          | inr (inl holder) ↦ inr holder
          | inr (inr (inl passed)) ↦
              elim (cases_Bool (has_passed_data h past x)) [
                | inl has ↦ absurd (none-passed a l x g has none)
                | inr unpassed ↦ let bad : None ≡ Some (value_of past l) = rw (g, unpassed) at passed in cc
              ]
          | inr (inr (inr loses)) ↦ absurd (reads-lose x reads (rw g at loses))
        ]

    -- a port that holds the line dirty sends it with its answer
    dirty-sent : (e : Event) (q : ℕ) (w : Answer) → IsAccepted h (e ∷ past) → granted h past l ≡ Some x → is_line_read_transaction x ≡ true
        → is_dirty (state_of h past q l) ≡ true → NewAnswer past e q l w → transfers_data w.resp ≡ true
    dirty-sent e q w a g reads dirty new =
        let n = new_answer h past e a q l w new in
        let k = is_some_and-is (read_kind x) reads_a_line reads in
        let causes : snoop_of_read k.0 ≡ Some n.1.kind = sym (ap (λ o. snoop_kind_of o (write_kind x)) k.1) ∙ new_causes h past q l w x n g in
        let other : is_make_invalid_snoop n.1.kind ≡ false = false_from_ne_true (is_make_invalid_snoop n.1.kind) (λ t.
        let makes = read_invalid k.0 (subst (λ o. is_some_and o is_make_invalid_snoop ≡ true) (sym causes) t) in
        let apart = reads_apart k.0 k.2 in
        let bad : false ≡ true = rw (apart.0, apart.2) at makes in cc) in
        dirty_sends n.1.kind (state_of h past q l) w.resp n.0 n.1.of_line n.1.row other dirty

memory_or_holder : (h : Header) (past : Trace) → IsAccepted h past → AllByRecursion FitsFields past → (l : ℕ) (x : Transaction) → granted h past l ≡ Some x
    → is_line_read_transaction x ≡ true → first_sender past l ≡ None → MemorySince past l ⊎ DirtyUnanswered h past l
memory_or_holder h [] a range l x g reads none = cc
memory_or_holder h (e ∷ past) a range l x g reads none =
    elim (granted_before h past e l x g) [
      | inr gives ↦ elim (by-value h (e ∷ past) l x a ((facts h (e ∷ past) a range).safe l) g reads none) [
        | inl same ↦ inl (value-now h (e ∷ past) l same)
        | inr q ↦ inr (record { port = q.0; dirty = q.1; unanswered = rw gives refl })
      ]
      | inl stays ↦
          let before = (sender_before past e l stays.gives none).0 in
          elim (memory_or_holder h past a.0 range.1 l x stays.was reads before) [
            | inl m ↦ inl (since stays before m)
            | inr q ↦ elim (dirt_moves h past e a f.updated q.port l q.dirty) [
              | inl still ↦ inr (record { port = q.port; dirty = still; unanswered = unsent stays q (answer_of (e ∷ past) q.port l) refl })
              | inr (inl u) ↦ inl (since stays before (value-now h past l u.stored))
              | inr (inr c) ↦
                  let test : (nat_eq q.port q.port && answers_grant past q.port l) ≡ true = and_from _ _ (eq-eqb q.port q.port refl) c.answering.under in
                  let now : answer_of (Cr q.port c.resp c.st ∷ past) q.port l ≡ Some (record { place = length past; resp = c.resp; bursts = data_answers past q.port }) = rw test refl in
                  let no = subst (λ (d : Event). answer_of (d ∷ past) q.port l ≡ None) c.is (unsent stays q (answer_of (e ∷ past) q.port l) refl) in cc
            ]
          ]
    ]
  where
    f : DirtyPlaced h past
    f = facts h past a.0 range.1

    -- memory stays, or an update writes the value
    since : Stays h past e l x → first_sender past l ≡ None → MemorySince past l → MemorySince (e ∷ past) l
    since stays before m =
        elim (memory_moves h past e a l) [
          | inl kept ↦
              let low = m.low in
              record {
                point = m.point;
                after = rw stays.gives m.after;
                low = omega arith;
                same = kept ∙ m.same ∙ ap (λ (t : Trace). value_of t l) (sym (at_point-before e past m.point low));
              }
          | inr (inr opens) ↦ value-now h (e ∷ past) l (opens.stored l)
          | inr (inl w) ↦ elim (writer h past e l w a) [
            | inl passed ↦ absurd (none-passed h past a.0 l w.one passed.stands passed.has before)
            | inr (inl u) ↦ value-now h (e ∷ past) l (update_true h past e l w a range f.updates u)
            | inr (inr s) ↦
                let one : s.one ≡ x = Some-injective s.one x (sym s.stands ∙ stays.was) in
                let bad : false ≡ true = sym s.writes ∙ ap (λ (y : Transaction). is_read y.chan) one ∙ ap is_read (line_read-chan x reads) in cc
          ]
        ]

    -- an answer of the dirty holder would have sent data
    unsent : Stays h past e l x → (q : DirtyUnanswered h past l) → (o : Option Answer) → answer_of (e ∷ past) q.port l ≡ o → answer_of (e ∷ past) q.port l ≡ None
    unsent stays q None is = is
    unsent stays q (Some w) is =
        elim (answer_cases past e q.port l w stays.gives is) [
          | inl old ↦ let unanswered = q.unanswered in cc
          | inr new ↦ absurd (sent_sender (e ∷ past) q.port l w is (dirty-sent h past l x e q.port w a stays.was reads q.dirty new) none)
        ]

-- once the snoops are done no port that holds the line dirty has to answer
none-dirty : (h : Header) (past : Trace) → IsAccepted h past → (x : Transaction) → granted h past x.addr ≡ Some x → is_line_read_transaction x ≡ true
    → are_snoops_done h past x ≡ true → DirtyUnanswered h past x.addr → ⊥
none-dirty h past a x g reads done q =
    let s = (accepted_holds h past a).grants x.addr x g in
    let out : outstanding h past x.port Read x.id ≡ Some x = ap (λ (v : Channel). outstanding h past x.port v x.id) (sym (line_read-chan x reads)) ∙ s.0 in
    let stands = transaction_of-stands past x.port Read x.id x (outstanding-named h past x.port Read x.id x out) in
    by (snoop_of x) refl (λ own. not_dirty (ap (λ v. state_of h past v x.addr) (sym own) ∙ empty_while_read h past a x.port x.id x out reads)) stands s.1
  where
    not_dirty : state_of h past q.port x.addr ≡ I → ⊥
    not_dirty gone = let bad : is_dirty I ≡ true = subst (λ s. is_dirty s ≡ true) gone q.dirty in cc

    kind : (k : ArKind) × (read_kind x ≡ Some k) × (reads_a_line k ≡ true)
    kind = is_some_and-is (read_kind x) reads_a_line reads

    unfailed : has_failed past x ≡ false
    unfailed =
        false_from_ne_true (has_failed past x) (λ failed.
        let store = (and_parts x.lock (is_some_and (read_kind x) is_clean_unique) (and_parts (is_exclusive_store x) _ failed).0).1 in
        let cleans : is_clean_unique kind.0 ≡ true = subst (λ o. is_some_and o is_clean_unique ≡ true) kind.1 store in
        let none = (reads_apart kind.0 kind.2).1 in cc)

    by : (o : Option SnoopKind) → snoop_of x ≡ o → (x.port ≡ q.port → ⊥) → Stands past x.port Read x.id x → is_on x x.addr ≡ true → ⊥
    by None none apart stands on =
        let uncaused : snoop_of_read kind.0 ≡ None = sym (ap (λ o. snoop_kind_of o (write_kind x)) kind.1) ∙ none in
        let no_snoop : is_no_snoop x ≡ true =
        or_left (is_some_and (read_kind x) is_no_snoop_read) (is_some_and (write_kind x) is_no_snoop_write)
        (subst (λ o. is_some_and o is_no_snoop_read ≡ true) (sym kind.1) (reads_unsnooped kind.0 kind.2 uncaused)) in
        not_dirty (no_snoop_unheld h past x q.port x.addr a (record { there = stands.there; before = stands.before }) on no_snoop)
    by (Some c) causes apart stands on =
        elim (done_port h past x q.port (accepted_holds h past a) (snoops_done-ports h past x c causes unfailed done) apart) [
          | inl gone ↦ not_dirty gone
          | inr answer ↦ let is = answer.is in let none = q.unanswered in cc
        ]

-- Where the snoops of a read of a line are done and no port has sent data under its grant, memory was the value at a point since.
pub memory_follows : (h : Header) (past : Trace) → IsAccepted h past → AllByRecursion FitsFields past → (x : Transaction) → granted h past x.addr ≡ Some x
    → is_line_read_transaction x ≡ true → are_snoops_done h past x ≡ true → first_sender past x.addr ≡ None → MemorySince past x.addr
memory_follows h past a range x g reads done none =
    elim (memory_or_holder h past a range x.addr x g reads none) [
      | inl m ↦ m
      | inr q ↦ absurd (none-dirty h past a x g reads done q)
    ]
