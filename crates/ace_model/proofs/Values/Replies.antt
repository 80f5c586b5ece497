-- The reply to a read that keeps the line is the line's value.
use Rattle.std.proofs.Common.{◌≡◌, ℕ, true, false, ◌&&◌, nat_eq, [], ◌∷◌, length, Option, Some, None, option_and_then, unwrap_or, refl, sym, ap, subst, ◌∙◌, inl, inr}
use Rattle.std.proofs.lemmas.Bool.{and_parts, and_from, cases_Bool, cases_eq, eq-eqb}
use Rattle.ace_model.proofs.Terms.{ArKind, SnoopKind, snoop_of_read, transfers_data, Event, Cr, Header, is_fetch, is_dirty, Answer, Transaction, Trace, at_point, is_some_and, newer, transfers}
use Rattle.ace_model.proofs.Terms.{is_make_invalid, is_make_unique, is_on, read_kind, write_kind, snoop_of, snoop_kind_of, outstanding, data_answers, gives_line, granted, answers_grant, answer_of}
use Rattle.ace_model.proofs.Terms.{list_all, ports_below, has_failed, state_of, are_snoops_done, is_port_done, is_line_read_transaction, copy_of, memory_of, copy_at_answer, passed_data, sender_at, first_sender}
use Rattle.ace_model.proofs.Terms.{memory_at_first_beat, reply_of, value_of, IsAccepted, may_lose_data}
use Rattle.ace_model.proofs.Holders.FirstTransfer.{done_port}
use Rattle.ace_model.proofs.Holders.Rises.{stays_empty}
use Rattle.ace_model.proofs.Grants.SnoopAnswers.{answer_cases}
use Rattle.ace_model.proofs.Grants.Answers.{is_levelling, unsent_clean, passed_kind}
use Rattle.ace_model.proofs.Trace.Looks.{read_writes_none, is_on-addr, snoops_done-ports}
use Rattle.std.proofs.Math.Bool.{and-false}
use Rattle.ace_model.proofs.Tables.Kinds.{Fetch, fetch_is}
use Rattle.ace_model.proofs.Tables.States.{dirty_valid}
use Rattle.ace_model.proofs.Values.Facts.{SentTrue, DirtyPlaced}
use Rattle.ace_model.proofs.Holders.Law.{accepted_holds}
use Rattle.ace_model.proofs.General.Options.{Some-injective, is_some_and-is}
use Rattle.ace_model.proofs.Values.PassedData.{answer_kept, passes_line, passed_has}

-- The answer with data of the first sender.
pub record Sends (past : Trace) (s l : ℕ) : Type 0 where
  pub answer : Answer
  pub is : answer_of past s l ≡ Some answer
  pub sends : transfers_data answer.resp ≡ true

new_sender : (past : Trace) (e : Event) (s l : ℕ) → gives_line past e l ≡ false → sender_at past e l ≡ Some s → Sends (e ∷ past) s l
new_sender past (Cr q resp st) s l gives is =
    elim (cases_Bool (transfers_data resp && answers_grant past q l)) [
      | inr f ↦ let bad : None ≡ Some s = rw f at is in cc
      | inl t ↦
          let parts = and_parts (transfers_data resp) (answers_grant past q l) t in
          let same : Some q ≡ Some s = rw t at is in
          let port : q ≡ s = Some-injective q s same in
          let here : (nat_eq q q && answers_grant past q l) ≡ true = and_from _ _ (eq-eqb q q refl) parts.1 in
          subst (λ v. Sends (Cr q resp st ∷ past) v l) port
          (record { answer = record { place = length past; resp = resp; bursts = data_answers past q }; is = rw here refl; sends = parts.0 })
    ]
new_sender past e s l gives is = cc

pub sender_sent : (h : Header) (past : Trace) → IsAccepted h past → (s l : ℕ) → first_sender past l ≡ Some s → Sends past s l
sender_sent h [] a s l is = cc
sender_sent h (e ∷ past) a s l is =
    elim (cases_Bool (gives_line past e l)) [
      | inl t ↦ let bad : None ≡ Some s = rw t at is in cc
      | inr f ↦
          let n : newer (first_sender past l) (sender_at past e l) ≡ Some s = rw f at is in
          by f (first_sender past l) refl n (λ o. sender_sent h past a.0 s l o)
    ]
  where
    by : gives_line past e l ≡ false → (o : Option ℕ) → first_sender past l ≡ o → newer o (sender_at past e l) ≡ Some s → (first_sender past l ≡ Some s → Sends past s l) → Sends (e ∷ past) s l
    by gives None o n before = new_sender past e s l gives n
    by gives (Some r) o n before =
        let w = before (o ∙ n) in
        record { answer = w.answer; is = answer_kept h past a.0 e s l w.answer gives w.is; sends = w.sends }

newer_none : (o p : Option ℕ) → newer o p ≡ None → (o ≡ None) × (p ≡ None)
newer_none None p e = (refl, e)
newer_none (Some x) p e = cc

-- the first sender of a longer trace under the same grant
pub sender_before : (past : Trace) (e : Event) (l : ℕ) → gives_line past e l ≡ false → first_sender (e ∷ past) l ≡ None → (first_sender past l ≡ None) × (sender_at past e l ≡ None)
sender_before past e l gives none = newer_none (first_sender past l) (sender_at past e l) (rw gives at none)

-- where there is no sender, no port has sent
pub sent_sender : (past : Trace) (r l : ℕ) (w : Answer) → answer_of past r l ≡ Some w → transfers_data w.resp ≡ true → first_sender past l ≡ None → ⊥
sent_sender [] r l w is d none = cc
sent_sender (e ∷ past) r l w is d none =
    elim (cases_Bool (gives_line past e l)) [
      | inl t ↦ let bad : None ≡ Some w = rw t at is in cc
      | inr f ↦
          let before = sender_before past e l f none in
          elim (answer_cases past e r l w f is) [
            | inl old ↦ sent_sender past r l w old d before.0
            | inr new ↦
                let bits : new.resp ≡ w.resp = ap (λ (v : Answer). v.resp) (sym new.now) in
                let both : (transfers_data new.resp && answers_grant past r l) ≡ true = and_from _ _ (ap transfers_data bits ∙ d) new.under in
                let silent : sender_at past (Cr r new.resp new.st) l ≡ None = subst (λ e. sender_at past e l ≡ None) new.is before.1 in
                let bad : Some r ≡ None = rw both at silent in cc
          ]
    ]

-- where memory has the value if no port has sent, the reply is the value
pub reply_true : (h : Header) (past : Trace) → IsAccepted h past → SentTrue h past → (l : ℕ) (x : Transaction) (k : ArKind) → granted h past l ≡ Some x → x.addr ≡ l
    → read_kind x ≡ Some k → is_fetch k ≡ true → (first_sender past l ≡ None → memory_at_first_beat past x.port x.id l ≡ value_of past l) → reply_of past x ≡ value_of past l
reply_true h past a sent l x k g addr kind fetch memory =
    ap (λ b. unwrap_or (option_and_then (copy_at_answer past b) (first_sender past b)) (memory_at_first_beat past x.port x.id b)) addr
    ∙ by (first_sender past l) refl
  where
    by : (o : Option ℕ) → first_sender past l ≡ o → unwrap_or (option_and_then (copy_at_answer past l) o) (memory_at_first_beat past x.port x.id l) ≡ value_of past l
    by None is = memory is
    by (Some s) is =
        let w = sender_sent h past a s l is in
        let same : copy_at_answer past l s ≡ Some (copy_of (at_point w.answer.place past) s l) = rw w.is refl in
        ap (λ o. unwrap_or o (memory_at_first_beat past x.port x.id l)) same ∙ sent l s x w.answer k g w.is w.sends kind fetch

-- where the snoops of the read are done and no port has sent data, memory is the value
pub memory_true : (h : Header) (past : Trace) → IsAccepted h past → DirtyPlaced h past → (l : ℕ) (x : Transaction) (k : ArKind) → granted h past l ≡ Some x → read_kind x ≡ Some k
    → is_fetch k ≡ true → are_snoops_done h past x ≡ true → first_sender past l ≡ None → memory_of past l ≡ value_of past l
memory_true h past a f l x k g kind fetch done none =
    elim (f.safe l) [
      | inl same ↦ same
      | inr (inl dirty) ↦ absurd (no_holder dirty.0 dirty.1)
      | inr (inr (inl passed)) ↦ absurd (no_passed passed)
      | inr (inr (inr loses)) ↦
          let r : may_lose_data x ≡ true = subst (λ o. is_some_and o may_lose_data ≡ true) g loses in
          let writes = (read_writes_none x k kind).0 in
          let reads : is_some_and (read_kind x) is_make_unique ≡ false = ap (λ o. is_some_and o is_make_unique) kind ∙ fetches.makes in
          let discards : is_some_and (read_kind x) is_make_invalid ≡ false = ap (λ o. is_some_and o is_make_invalid) kind ∙ fetches.discards in
          let bad : false ≡ true = rw (reads, writes, discards) at r in cc
    ]
  where
    fetches : Fetch k
    fetches = fetch_is k fetch

    snoop : (s : SnoopKind) × (snoop_of x ≡ Some s) × (is_levelling s ≡ true)
    snoop = let s = is_some_and-is (snoop_of_read k) is_levelling fetches.snoops in (s.0, ap (λ o. snoop_kind_of o (write_kind x)) kind ∙ s.1, s.2)

    outs : (outstanding h past x.port x.chan x.id ≡ Some x) × (is_on x l ≡ true)
    outs = (accepted_holds h past a).grants l x g

    addr : x.addr ≡ l
    addr = is_on-addr x l outs.1

    all : list_all (is_port_done h past x) (ports_below h.ports) ≡ true
    all =
        let failed : has_failed past x ≡ false = rw (kind, fetches.cleans, and-false x.lock) refl in
        snoops_done-ports h past x snoop.0 snoop.1 failed done

    no_holder : (q : ℕ) → is_dirty (state_of h past q l) ≡ true → ⊥
    no_holder q d =
        elim (cases_eq x.port q) [
          | inl own ↦
              let reads : is_line_read_transaction x ≡ true = rw kind fetches.reads in
              let gone = stays_empty h past a x.port x.chan x.id l x outs.0 outs.1 (inl reads) in
              dirty_valid (state_of h past q l) d (ap (λ b. state_of h past b l) (sym own) ∙ gone)
          | inr apart ↦ elim (done_port h past x q (accepted_holds h past a) all apart) [
            | inl gone ↦ dirty_valid (state_of h past q l) d (ap (state_of h past q) (sym addr) ∙ gone)
            | inr w ↦
                let is : answer_of past q l ≡ Some w.answer = ap (answer_of past q) (sym addr) ∙ w.is in
                elim (cases_Bool (transfers_data w.answer.resp)) [
                  | inl sends ↦ absurd (sent_sender past q l w.answer is sends none)
                  | inr silent ↦ let clean = unsent_clean h past a l q x w.answer snoop.0 g is silent snoop.1 snoop.2 in cc
                ]
          ]
        ]

    no_passed : passed_data h past l ≡ Some (value_of past l) → ⊥
    no_passed passed =
        let w = passes_line h past a l x g (passed_has h past l x (value_of past l) g passed) in
        sent_sender past w.port l w.answer w.is (passed_kind h past a l w.port x w.answer g w.is w.dirty).3 none

-- memory before the first beat is memory now
pub memory-before : (past : Trace) (p i l : ℕ) → transfers past p i ≡ 0 → memory_at_first_beat past p i l ≡ memory_of past l
memory-before [] p i l none = refl
memory-before (e ∷ past) p i l none = rw (eq-eqb (transfers (e ∷ past) p i) 0 none) refl
