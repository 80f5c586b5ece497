-- What is kept of a grant stays at an event that doesn't care about it, and at every event of another line.
use Rattle.std.proofs.Common.{◌≡◌, ◌≢◌, ℕ, true, false, ◌&&◌, nat_eq, ◌∷◌, length, Option, Some, None, option_map, unwrap_or, refl, sym, ap, subst, ◌∙◌, inl, inr}
use Rattle.std.proofs.Math.Bool.{and-false}
use Rattle.std.proofs.lemmas.Bool.{false_from_ne_true, and_parts, and_from, cases_Bool, cases_eq, eqb-true, eq-eqb, ne_eqb}
use Rattle.ace_lineck.proofs.Terms.{Answer, Transaction, is_short, zero_line, Header, Trace, Channel, Read, Write, Event, R, Rk, B, Wk, Ac, Cr, Cd, G, M, LineState, IsAccepted, newer, is_read, is_on, ended, outstanding, acknowledged, without, given, gives_line, granted, is_snoop_to, was_snooped, answered, answers_grant, answer_at, answer_of, is_snoop_on, snoops_a_line, transfers_data, sender_at, passer, transfers, is_memory_write, copy_at_answer, memory_at_first_beat, may_be_granted, line_in, Passed, Grant, GrantFits, GrantStands, stage_by, stage_of, passed_by, fetched, settled_reply}
use Rattle.ace_model.proofs.Rules.Keeps.{accepted_keeps}
use Rattle.ace_model.proofs.General.Options.{is_some_and-is}
use Rattle.ace_model.proofs.Trace.Looks.{is_read-is, newest_on-older}
use Rattle.ace_model.proofs.Trace.Issued.{same_place, outstanding-named}
use Rattle.ace_model.proofs.Trace.Outstanding.{acknowledged_is, ends_lite, ends_lite_write}
use Rattle.ace_model.proofs.Holders.Law.{accepted_holds}
use Rattle.ace_model.proofs.Grants.Stays.{Stays, granted_after}
use Rattle.ace_model.proofs.Grants.Granted.{writes_now}
use Rattle.ace_model.proofs.Values.FullReads.{Transfer}
use Rattle.ace_model.proofs.GrantLooks.Quiet.{Quiet, copy_at_answer-old, snooped-stays, answer-stays, sharer-stays, passer-stays, sent-stays}
use Rattle.ace_model.proofs.GrantLooks.Progress.{Untouched, begun-stays, first_beat-stays, untouched}
use Rattle.ace_lineck.proofs.OnLine.{IsOff, line-transaction, off-transaction, line-snoop, outstanding-of}
use Rattle.ace_lineck.proofs.OffLine.{ace-of_rk, ace-of_wk, read-of}
use Rattle.ace_lineck.proofs.Bursts.{short-apart, short-off}

-- the stage of a port, by what tells it
pub stage-same : (longer past : Trace) (p l : ℕ) → was_snooped longer p l ≡ was_snooped past p l → answer_of longer p l ≡ answer_of past p l
    → ((w : Answer) → answer_of past p l ≡ Some w → is_short longer p w ≡ is_short past p w) → stage_of longer p l ≡ stage_of past p l
stage-same longer past p l snooped answer short = rw (snooped, answer) (by (answer_of past p l) refl)
  where
    by : (o : Option Answer) → answer_of past p l ≡ o → stage_by longer p (was_snooped past p l) o ≡ stage_by past p (was_snooped past p l) o
    by None is = refl
    by (Some w) is = let same = short w is in rw same refl

-- memory at the first beat of a read, by what tells it
pub fetched-same : (longer past : Trace) (x : Transaction) → (is_read x.chan ≡ true → transfers longer x.port x.id ≡ transfers past x.port x.id)
    → (transfers longer x.port x.id ≢ 0 → memory_at_first_beat longer x.port x.id x.addr ≡ memory_at_first_beat past x.port x.id x.addr)
    → fetched longer x ≡ fetched past x
fetched-same longer past x count memory =
    elim (cases_Bool (is_read x.chan)) [
      | inr writes ↦ rw writes refl
      | inl reads ↦
          let same = count reads in
          elim (cases_eq (transfers past x.port x.id) 0) [
            | inl none ↦ rw (reads, same, none) refl
            | inr some ↦
                let fetch = memory (λ z. some (sym same ∙ z)) in
                let more = ne_eqb (transfers past x.port x.id) 0 some in
                rw (reads, same, more, fetch) refl
          ]
    ]

-- the port, and its copy at its answer under the grant
abbrev pub passed_at : Trace → ℕ → ℕ → Passed
passed_at past l p = record { port = p; line = unwrap_or (copy_at_answer past l p) zero_line }

module _ (h : Header) (past : Trace) (e : Event) (l : ℕ) where
  -- without a grant there is none after the event, unless it gives one
  pub none-stays : gives_line past e l ≡ false → granted h past l ≡ None → granted h (e ∷ past) l ≡ None
  none-stays gives none =
      newest_on-older (given past e) l (without (ended h past e) (granted h past l)) gives ∙ ap (without (ended h past e)) none ∙ nothing (ended h past e)
    where
      nothing : (o : Option Transaction) → without o None ≡ None
      nothing None = refl
      nothing (Some y) = refl

  pub passed-stays : Quiet past e l → passed_by h (e ∷ past) l ≡ passed_by h past l
  passed-stays q = ap (option_map (passed_at (e ∷ past) l)) (passer-stays h past e l q) ∙ by (passer h past l)
    where
      by : (o : Option ℕ) → option_map (passed_at (e ∷ past) l) o ≡ option_map (passed_at past l) o
      by None = refl
      by (Some p) = ap (λ c. Some (record { port = p; line = unwrap_or c zero_line })) (copy_at_answer-old past e p l (answer-stays h past e l q p))

  pub fetched-stays : (x : Transaction) → Untouched past e x → fetched (e ∷ past) x ≡ fetched past x
  fetched-stays x u = fetched-same (e ∷ past) past x u.count (first_beat-stays past e x.port x.id x.addr)

  pub reply-stays : (x : Transaction) → Quiet past e l → Untouched past e x → settled_reply (e ∷ past) l x ≡ settled_reply past l x
  reply-stays x q u =
      ap (newer (_)) (fetched-stays x u) ∙ ap (λ o. newer o (fetched past x)) (sent-stays h past e l q)

  -- the grant stays, with all that is kept of it
  pub fits-stays : (g : Grant) → Stays h past e l g.transaction → Quiet past e l → Untouched past e g.transaction
      → ((p : ℕ) → stage_of (e ∷ past) p l ≡ stage_of past p l) → GrantFits h past l g → GrantFits h (e ∷ past) l g
  fits-stays g s q u stage f = record {
    granted = s.is;
    begun = f.begun ∙ sym (begun-stays past e g.transaction u);
    written = f.written ∙ sym u.written;
    stages = λ p. f.stages p ∙ sym (stage p);
    shared = f.shared ∙ sym (sharer-stays h past e l q);
    passed = f.passed ∙ sym (passed-stays q);
    reply = f.reply ∙ sym (reply-stays g.transaction q u);
  }

  -- the stages stay where no beat comes for an answer of the line
  pub stages-stay : Quiet past e l → ((p : ℕ) (w : Answer) → answer_of past p l ≡ Some w → is_short (e ∷ past) p w ≡ is_short past p w) → (p : ℕ) → stage_of (e ∷ past) p l ≡ stage_of past p l
  stages-stay q short p = stage-same (e ∷ past) past p l (snooped-stays h past e l q p) (answer-stays h past e l q p) (short p)

module _ (h : Header) (past : Trace) (l : ℕ) where
  -- the granted transaction, and its line
  pub line-of_granted : IsAccepted h past → (x : Transaction) → granted h past l ≡ Some x → (outstanding h past x.port x.chan x.id ≡ Some x) × (is_on x l ≡ true)
  line-of_granted a x g = (accepted_holds h past a).grants l x g

  -- what ends the granted transaction is an event of the line
  pub ends-on : (e : Event) → IsAccepted h (e ∷ past) → (x z : Transaction) → granted h past l ≡ Some x → ended h past e ≡ Some z → z.place ≡ x.place → line_in h past e ≡ Some l
  ends-on (Rk q st) a x z g is same =
      let n = acknowledged_is past q Read z is in
      let o = line-of_granted a.0 x g in
      let one = same_place past q x.port Read x.chan n.id x.id z x n.named (outstanding-named h past x.port x.chan x.id x o.0) same in
      let ace = ace-of_rk h past q st a in
      rw ace (line-transaction h past (acknowledged past q Read) l (rw is (subst (λ (v : Transaction). is_on v l ≡ true) (sym one) o.1)))
  ends-on (Wk q st) a x z g is same =
      let n = acknowledged_is past q Write z is in
      let o = line-of_granted a.0 x g in
      let one = same_place past q x.port Write x.chan n.id x.id z x n.named (outstanding-named h past x.port x.chan x.id x o.0) same in
      let ace = ace-of_wk h past q st a in
      rw ace (line-transaction h past (acknowledged past q Write) l (rw is (subst (λ (v : Transaction). is_on v l ≡ true) (sym one) o.1)))
  ends-on (R q j resp last word) a x z g is same =
      let n = (ends_lite h past q j resp last word z is).1 in
      let o = line-of_granted a.0 x g in
      let one = same_place past q x.port Read x.chan j x.id z x n (outstanding-named h past x.port x.chan x.id x o.0) same in
      let there = sym (read-of h past q j resp last word a) ∙ n in
      line-transaction h past (outstanding h past q Read j) l (rw there (subst (λ (v : Transaction). is_on v l ≡ true) (sym one) o.1))
  ends-on (B q j resp) a x z g is same =
      let n = (ends_lite_write h past q j resp z is).1 in
      let o = line-of_granted a.0 x g in
      let one = same_place past q x.port Write x.chan j x.id z x n (outstanding-named h past x.port x.chan x.id x o.0) same in
      let m = outstanding-of h past q Write j _ (and_parts (nat_eq resp 0) _ (accepted_keeps h past (B q j resp) a).rule_26).1 in
      let there = sym m ∙ n in
      line-transaction h past (outstanding h past q Write j) l (rw there (subst (λ (v : Transaction). is_on v l ≡ true) (sym one) o.1))
  ends-on e a x z g is same = cc

  -- an event of another line
  pub stays-off : (e : Event) → IsAccepted h (e ∷ past) → (x : Transaction) → granted h past l ≡ Some x → IsOff h past e l → Stays h past e l x
  stays-off e a x g off =
      elim (granted_after h past e a l x g) [
        | inl stays ↦ stays
        | inr ends ↦ absurd (off (ends-on e a x ends.0 g ends.1 ends.2))
      ]

  pub gives-off : (e : Event) → IsAccepted h (e ∷ past) → IsOff h past e l → gives_line past e l ≡ false
  gives-off (G q c j) a off =
      let m = outstanding-of h past q c j (may_be_granted h past) (accepted_keeps h past (G q c j) a).rule_12 in
      rw m (off-transaction h past (outstanding h past q c j) l off)
  gives-off _ a off = refl

  -- an answer under the grant is of the line
  answers-on : (q resp : ℕ) (st : LineState) → IsOff h past (Cr q resp st) l → answers_grant past q l ≡ false
  answers-on q resp st off =
      false_from_ne_true (answers_grant past q l) (λ t.
      let s = is_some_and-is (answered past q) (λ s. is_snoop_on s l && _) t in
      off (line-snoop (answered past q) l (let there = s.1 in rw there (and_parts (is_snoop_on s.0 l) _ s.2).0)))

  pub quiet-off : (e : Event) → IsAccepted h (e ∷ past) → IsOff h past e l → Quiet past e l
  quiet-off e a off = record { gives = gives-off e a off; snoop = λ p. snoop e off p; answer = λ p. answer e off p; sender = sender e off }
    where
      snoop : (d : Event) → IsOff h past d l → (p : ℕ) → is_snoop_to d p l ≡ false
      snoop (Ac q addr code) off p =
          false_from_ne_true ((nat_eq p q && snoops_a_line code) && nat_eq l addr) (λ t.
          let all = and_parts (nat_eq p q && snoops_a_line code) (nat_eq l addr) t in
          let line = (and_parts (nat_eq p q) (snoops_a_line code) all.0).1 in
          let addr_is : nat_eq addr l ≡ true = eq-eqb addr l (sym (eqb-true l addr all.1)) in
          off (rw (eq-eqb q q (refl {a = q})) (line-snoop (Some (record { place = length past; addr = addr; snoop = code })) l (and_from _ _ line addr_is))))
      snoop d off p = refl

      answer : (d : Event) → IsOff h past d l → (p : ℕ) → answer_at past d p l ≡ None
      answer (Cr q resp st) off p =
          elim (cases_Bool (nat_eq p q)) [
            | inr f ↦ rw f refl
            | inl t ↦
                let none : answers_grant past p l ≡ false = ap (λ v. answers_grant past v l) (eqb-true p q t) ∙ answers-on q resp st off in
                rw (none, and-false (nat_eq p q)) refl
          ]
      answer d off p = refl

      sender : (d : Event) → IsOff h past d l → sender_at past d l ≡ None
      sender (Cr q resp st) off = rw (answers-on q resp st off, and-false (transfers_data resp)) refl
      sender d off = refl

  -- a transfer or an M of the granted transaction is of its line
  pub untouched-off : (e : Event) → IsAccepted h (e ∷ past) → (x : Transaction) → granted h past l ≡ Some x → IsOff h past e l → Untouched past e x
  untouched-off e a x g off = untouched h past e a l x g beat (false_from_ne_true (is_memory_write e x.port x.chan x.id) write)
    where
      o : (outstanding h past x.port x.chan x.id ≡ Some x) × (is_on x l ≡ true)
      o = line-of_granted a.0 x g

      beat : is_read x.chan ≡ true → Transfer e x.port x.id → ⊥
      beat reads t =
          let out : outstanding h past x.port Read x.id ≡ Some x = subst (λ (v : Channel). outstanding h past x.port v x.id ≡ Some x) (is_read-is x.chan reads) o.0 in
          let line : line_in h past (R x.port x.id t.resp t.last t.word) ≡ Some l = line-transaction h past (outstanding h past x.port Read x.id) l (rw out o.1) in
          off (ap (line_in h past) t.is ∙ line)

      write : is_memory_write e x.port x.chan x.id ≡ true → ⊥
      write t =
          let w = writes_now h past e a x.port x.chan x.id x o.0 t in
          let line : line_in h past (M x.port x.chan x.id w.line) ≡ Some l = line-transaction h past (outstanding h past x.port x.chan x.id) l (let out = o.0 in rw out o.1) in
          off (ap (line_in h past) w.is ∙ line)

  -- and so is a beat of the data of an answer
  short-stays : (e : Event) → IsAccepted h (e ∷ past) → IsOff h past e l → (p : ℕ) (w : Answer) → answer_of past p l ≡ Some w → is_short (e ∷ past) p w ≡ is_short past p w
  short-stays (Cd q last word) a off p w is =
      elim (cases_eq p q) [
        | inr apart ↦ short-apart h past q last word a l p apart w
        | inl same ↦ subst (λ v. is_short (Cd q last word ∷ past) v w ≡ is_short past v w) (sym same) (short-off h past q last word a l off w (ap (λ v. answer_of past v l) (sym same) ∙ is))
      ]
  short-stays _ a off p w is = refl

-- what is kept of the grant of a line stays at an event of another line
pub grant_stays : (h : Header) (past : Trace) (e : Event) → IsAccepted h (e ∷ past) → (l : ℕ) (g : Option Grant) → IsOff h past e l
    → GrantStands h past l g → GrantStands h (e ∷ past) l g
grant_stays h past e a l None off none = none-stays h past e l (gives-off h past l e a off) none
grant_stays h past e a l (Some g) off f =
    let q = quiet-off h past l e a off in
    fits-stays h past e l g (stays-off h past l e a g.transaction f.granted off) q (untouched-off h past l e a g.transaction f.granted off)
    (stages-stay h past e l q (short-stays h past l e a off)) f
