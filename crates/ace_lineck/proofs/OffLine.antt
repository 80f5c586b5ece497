-- An event of another line, or of another port, leaves what a port has of a line; and an event of another line leaves its memory and
-- how it is used.
use Rattle.std.proofs.Common.{◌≡◌, ℕ, true, false, Bool, ◌&&◌, nat_eq, ◌∷◌, length, Some, refl, sym, ap, subst, ◌∙◌}
use Rattle.std.proofs.lemmas.Bool.{and_parts, eqb-true, false_from_ne_true}
use Rattle.ace_lineck.proofs.Terms.{port_of, Header, Trace, Channel, Read, Write, Event, R, Rk, Wk, Cr, M, S, D, Mem, LineState, IsAccepted, is_ace, is_some_and, is_on, is_some_on, outstanding, transaction_of, acknowledged, answers_line, answered, transfers_data, state_of, copy_of, memory_of, words_read, is_line_read_transaction, is_due, may_write_memory, line_in, Holder, HolderStands, sent_on}
use Rattle.ace_model.proofs.Rules.Keeps.{accepted_keeps}
use Rattle.ace_model.proofs.General.Options.{is_some_and-is}
use Rattle.ace_lineck.proofs.OnLine.{IsOff, line-transaction, line-snoop, outstanding-of}

module _ (h : Header) (past : Trace) where
  -- the line of an acknowledge is that of the transaction that it belongs to
  pub ace-of_rk : (q : ℕ) (st : LineState) → IsAccepted h (Rk q st ∷ past) → is_ace h q ≡ true
  ace-of_rk q st a = (and_parts _ (is_ace h q) (accepted_keeps h past (Rk q st) a).rule_1).1

  pub ace-of_wk : (q : ℕ) (st : LineState) → IsAccepted h (Wk q st ∷ past) → is_ace h q ≡ true
  ace-of_wk q st a = (and_parts _ (is_ace h q) (accepted_keeps h past (Wk q st) a).rule_1).1

  line-rk : (q : ℕ) (st : LineState) → IsAccepted h (Rk q st ∷ past) → (l : ℕ) → is_some_on (acknowledged past q Read) l ≡ true → line_in h past (Rk q st) ≡ Some l
  line-rk q st a l t = let ace = ace-of_rk q st a in rw ace (line-transaction h past (acknowledged past q Read) l t)

  line-wk : (q : ℕ) (st : LineState) → IsAccepted h (Wk q st ∷ past) → (l : ℕ) → is_some_on (acknowledged past q Write) l ≡ true → line_in h past (Wk q st) ≡ Some l
  line-wk q st a l t = let ace = ace-of_wk q st a in rw ace (line-transaction h past (acknowledged past q Write) l t)

  -- that of an R or M is that of the last transaction of the name
  pub read-of : (q i resp : ℕ) (last : Bool) (word : ℕ) → IsAccepted h (R q i resp last word ∷ past) → transaction_of past q Read i ≡ outstanding h past q Read i
  read-of q i resp last word a = outstanding-of h past q Read i (is_due h past resp last) (accepted_keeps h past (R q i resp last word) a).rule_18

  pub written-of : (q : ℕ) (c : Channel) (i : ℕ) (line : _) → IsAccepted h (M q c i line ∷ past) → transaction_of past q c i ≡ outstanding h past q c i
  written-of q c i line a = outstanding-of h past q c i (may_write_memory h past) (accepted_keeps h past (M q c i line) a).rule_24

  -- the event isn't one of the port on the line
  abbrev pub IsApart : Event → ℕ → ℕ → Type 0
  IsApart e p l = port_of e ≡ Some p → IsOff h past e l

  -- what would be so of the line of the event at its port isn't so at another line or port
  no-part : (e : Event) (p q l : ℕ) (test : ℕ → Bool) → IsApart e p l → port_of e ≡ Some q → (test q ≡ true → line_in h past e ≡ Some l) → (nat_eq p q && test p) ≡ false
  no-part e p q l test n port on =
      false_from_ne_true (nat_eq p q && test p) (λ t.
      let parts = and_parts (nat_eq p q) (test p) t in
      let same = eqb-true p q parts.0 in
      n (port ∙ ap Some (sym same)) (on (subst (λ v. test v ≡ true) same parts.1)))

  between : (x b t : Bool) → (x && t) ≡ false → ((x && b) && t) ≡ false
  between true true t f = f
  between true false t f = refl
  between false b t f = refl

  on-addr : (l addr : ℕ) → nat_eq l addr ≡ true → Some addr ≡ Some l
  on-addr l addr t = ap Some (sym (eqb-true l addr t))

  pub off-state : (e : Event) → IsAccepted h (e ∷ past) → (p l : ℕ) → IsApart e p l → state_of h (e ∷ past) p l ≡ state_of h past p l
  off-state (Rk q st) a p l n = let f = no-part (Rk q st) p q l (λ v. is_some_on (acknowledged past v Read) l) n refl (line-rk q st a l) in rw f refl
  off-state (Wk q st) a p l n = let f = no-part (Wk q st) p q l (λ v. is_some_on (acknowledged past v Write) l) n refl (line-wk q st a l) in rw f refl
  off-state (Cr q resp st) a p l n = let f = no-part (Cr q resp st) p q l (λ v. answers_line past v l) n refl (line-snoop (answered past q) l) in rw f refl
  off-state (S q addr st) a p l n = let f = no-part (S q addr st) p q l (λ v. nat_eq l addr) n refl (on-addr l addr) in rw f refl
  off-state (D q addr strobe x line) a p l n = let f = no-part (D q addr strobe x line) p q l (λ v. nat_eq l addr) n refl (on-addr l addr) in rw f refl
  off-state _ a p l n = refl

  -- a line that is received whole is that of the event
  received-on : (q i resp : ℕ) (last : Bool) (word : ℕ) → IsAccepted h (R q i resp last word ∷ past) → (l : ℕ)
      → is_some_and (transaction_of past q Read i) (λ x. is_on x l && is_line_read_transaction x) ≡ true → line_in h past (R q i resp last word) ≡ Some l
  received-on q i resp last word a l t =
      let m = read-of q i resp last word a in
      let x = is_some_and-is (transaction_of past q Read i) (λ x. is_on x l && is_line_read_transaction x) t in
      let there = sym m ∙ x.1 in
      let on = (and_parts (is_on x.0 l) (is_line_read_transaction x.0) x.2).0 in
      line-transaction h past (outstanding h past q Read i) l (rw there on)

  pub off-copy : (e : Event) → IsAccepted h (e ∷ past) → (p l : ℕ) → IsApart e p l → copy_of (e ∷ past) p l ≡ copy_of past p l
  off-copy (R q i resp last word) a p l n =
      let test = λ (v : ℕ). is_some_and (transaction_of past v Read i) (λ x. is_on x l && is_line_read_transaction x) in
      let f = between (nat_eq p q) (nat_eq (length (words_read past p i)) 3) (test p) (no-part (R q i resp last word) p q l test n refl (received-on q i resp last word a l)) in rw f refl
  off-copy (D q addr strobe x line) a p l n = let f = no-part (D q addr strobe x line) p q l (λ v. nat_eq l addr) n refl (on-addr l addr) in rw f refl
  off-copy _ a p l n = refl

  pub off-sent : (e : Event) → (p l : ℕ) → IsApart e p l → sent_on (e ∷ past) p l ≡ sent_on past p l
  off-sent (Cr q resp st) p l n =
      let f = between (nat_eq p q) (transfers_data resp) (answers_line past p l) (no-part (Cr q resp st) p q l (λ v. answers_line past v l) n refl (line-snoop (answered past q) l)) in rw f refl
  off-sent _ p l n = refl

  -- what is kept of a port stays
  pub holder-stays : (e : Event) → IsAccepted h (e ∷ past) → (p l : ℕ) (x : Holder) → IsApart e p l → HolderStands past p l x → HolderStands (e ∷ past) p l x
  holder-stays e a p l x n s = record {
    copy = s.copy ∙ sym (off-copy e a p l n);
    sent = s.sent ∙ sym (off-sent e p l n);
  }

  -- and so does memory
  pub off-memory : (e : Event) → IsAccepted h (e ∷ past) → (l : ℕ) → IsOff h past e l → memory_of (e ∷ past) l ≡ memory_of past l
  off-memory (M q c i line) a l n =
      let f = false_from_ne_true (is_some_on (transaction_of past q c i) l)
      (λ t. n (line-transaction h past (outstanding h past q c i) l (subst (λ o. is_some_on o l ≡ true) (written-of q c i line a) t))) in rw f refl
  off-memory (Mem addr line) a l n = let f = false_from_ne_true (nat_eq l addr) (λ t. n (on-addr l addr t)) in rw f refl
  off-memory _ a l n = refl
