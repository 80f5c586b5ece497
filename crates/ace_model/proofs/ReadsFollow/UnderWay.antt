-- From its first beat on a read of a line is granted, no answer comes under its grant any more, and its reply stays the same.
use Rattle.std.proofs.Common.{ap, None, Option, Some, false, inl, inr, nat_eq, option_and_then, option_map, refl, subst, sym, true, ℕ, ◌∙◌, ◌∷◌, ◌≡◌, ◌≢◌}
use Rattle.std.proofs.Math.Bool.{and-false}
use Rattle.std.proofs.lemmas.Bool.{false_from_ne_true, and_from, cases_eq, eq-eqb, ne_eqb}
use Rattle.ace_model.proofs.Terms.{Answer, Cr, Event, Header, IsAccepted, Read, Trace, Transaction, answer_at, answer_of, answers, answers_grant, at_point}
use Rattle.ace_model.proofs.Terms.{copy_at_answer, copy_of, first_sender, gives_line, granted, is_begun, is_line_read_transaction, memory_at_first_beat, outstanding, reply_of, sender_at}
use Rattle.ace_model.proofs.Terms.{transfers, transfers_data}
use Rattle.ace_model.proofs.Trace.Issued.{outstanding-origin, outstanding-name}
use Rattle.ace_model.proofs.General.Options.{Some-injective, newer-none}
use Rattle.ace_model.proofs.Grants.Stays.{gives_none}
use Rattle.ace_model.proofs.Grants.Pending.{answering, snoops}
use Rattle.ace_model.proofs.Values.FullReads.{issue_transfers, first-transfer, under_way, begun_read}
use Rattle.ace_model.proofs.Values.Stays.{copy_at-old}
use Rattle.ace_model.proofs.ReadsFollow.Outstanding.{line_read-line}

-- The event leaves the grant of the line and the answers under it.
record LeavesAnswers (past : Trace) (e : Event) (l : ℕ) : Type 0 where
  gives : gives_line past e l ≡ false
  answer : (q : ℕ) → answer_at past e q l ≡ None
  sender : sender_at past e l ≡ None

module _ (h : Header) (past : Trace) (x : Transaction) where
  -- no answer is due under the grant of a read that has begun: its snoop would be pending, and then the read hasn't begun
  no_answer : IsAccepted h past → granted h past x.addr ≡ Some x → is_begun past x ≡ true → (q : ℕ) → answers_grant past q x.addr ≡ false
  no_answer a g begun q =
      false_from_ne_true (answers_grant past q x.addr) (λ t.
      let s = answering past q q x.addr (and_from _ _ (eq-eqb q q refl) t) in
      let p = (snoops h past a).pending q (answers past q) x.addr s.0 s.1 in
      let one : p.one ≡ x = Some-injective p.one x (sym p.stands ∙ g) in
      let unbegun : is_begun past x ≡ false = subst (λ (v : Transaction). is_begun past v ≡ false) one p.unbegun in cc)

  leaves_answers : (e : Event) → IsAccepted h (e ∷ past) → granted h past x.addr ≡ Some x → is_begun past x ≡ true → LeavesAnswers past e x.addr
  leaves_answers e a g begun = record { gives = gives_none h past e a x.addr x g; answer = answer e; sender = sender e }
    where
      none : (q : ℕ) → answers_grant past q x.addr ≡ false
      none = no_answer a.0 g begun

      answer : (d : Event) (q : ℕ) → answer_at past d q x.addr ≡ None
      answer (Cr p resp st) q = rw (none q, and-false (nat_eq q p)) refl
      answer d q = refl

      sender : (d : Event) → sender_at past d x.addr ≡ None
      sender (Cr p resp st) = rw (none p, and-false (transfers_data resp)) refl
      sender d = refl

  -- the reply to a read that is under way
  pub reply-stays : (e : Event) (p i : ℕ) → IsAccepted h (e ∷ past) → outstanding h (e ∷ past) p Read i ≡ Some x
      → is_line_read_transaction x ≡ true → transfers (e ∷ past) p i ≢ 0 → reply_of (e ∷ past) x ≡ reply_of past x
  reply-stays e p i a o reads some =
      elim (outstanding-origin h past e p Read i x o) [
        | inl new ↦ absurd (some (issue_transfers past e p i x new.0 new.1))
        | inr old ↦ elim (cases_eq (transfers past p i) 0) [
          | inr earlier ↦ same (leaves_answers e a (under_way h past a.0 p i x old.was (line_read-line x reads) earlier) (begun_read h past p i x old.was earlier))
          | inl none ↦
              let b = first-transfer e past p i old.other none some in
              same (subst (λ (v : Event). LeavesAnswers past v x.addr) (sym b.is) (record { gives = refl; answer = λ q. refl; sender = refl }))
        ]
      ]
    where
      memory : memory_at_first_beat (e ∷ past) x.port x.id x.addr ≡ memory_at_first_beat past x.port x.id x.addr
      memory =
          let n = outstanding-name h (e ∷ past) p Read i x o in
          let count : transfers (e ∷ past) x.port x.id ≡ transfers (e ∷ past) p i = ap (λ v. transfers (e ∷ past) v x.id) n.port ∙ ap (transfers (e ∷ past) p) n.id in
          rw (ne_eqb (transfers (e ∷ past) x.port x.id) 0 (λ z. some (sym count ∙ z))) refl

      copies : LeavesAnswers past e x.addr → (v : Option ℕ) → option_and_then (copy_at_answer (e ∷ past) x.addr) v ≡ option_and_then (copy_at_answer past x.addr) v
      copies s None = refl
      copies s (Some q) =
          let gives = s.gives in
          let none = s.answer q in
          ap (option_map (λ (w : Answer). copy_of (at_point w.place (e ∷ past)) q x.addr)) (rw (gives, none) (refl {a = answer_of past q x.addr})) ∙ there (answer_of past q x.addr) refl
        where
          there : (o : Option Answer) → answer_of past q x.addr ≡ o
              → option_map (λ (w : Answer). copy_of (at_point w.place (e ∷ past)) q x.addr) o ≡ option_map (λ (w : Answer). copy_of (at_point w.place past) q x.addr) o
          there None is = refl
          there (Some w) is = ap (λ v. Some v) (copy_at-old past e q x.addr w is)

      same : LeavesAnswers past e x.addr → reply_of (e ∷ past) x ≡ reply_of past x
      same s =
          let gives = s.gives in
          let silent = s.sender in
          let sender : first_sender (e ∷ past) x.addr ≡ first_sender past x.addr = rw (gives, silent) (newer-none (first_sender past x.addr)) in
          rw (sender, memory, copies s (first_sender past x.addr)) refl
