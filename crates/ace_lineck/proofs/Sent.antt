-- The line that a port's next CD belongs to, where that is a snoop of a line: the port's copy at its last answer with data for it.
use Rattle.std.proofs.Common.{◌≡◌, ℕ, ◌+◌, ◌*◌, ◌/◌, ◌<◌, arith, true, false, ◌&&◌, nat_eq, [], ◌∷◌, length, slice_get, Some, None, is_some, refl, sym, ap, subst, ◌∙◌, inl, inr}
use Rattle.std.proofs.lemmas.Bool.{and_parts, cases_Bool, eqb-true, eq-eqb}
use Rattle.ace_lineck.proofs.Terms.{SnoopKind, LineState, transfers_data, ac_kind_of, is_snoop_row, is_plain_row, is_invalid, Snoop, is_line_snoop, data_beats, answers_by_row, sent_at, sent, next_sent, Header, Trace, Event, Ac, Cr, IsAccepted, is_some_and, snoop_at, snoops_of, snoops_a_line, answered, answers_line, is_snoop_on, copy_of, state_of, data_snoop_at, data_snoops, sending, sends_line, sent_on}
use Rattle.ace_codes.specs.declared.kind.SnoopKind.TheVariants as snoop
use Rattle.ace_model.proofs.General.Options.{some_is, some_if-is, is_none_or-at}
use Rattle.ace_model.proofs.General.Lists.{slice_get-more, slice_get-at_end, slice_get-grown}
use Rattle.ace_model.proofs.Rules.Keeps.{accepted_keeps}
use Rattle.ace_model.proofs.Grants.SnoopAnswers.{answering_cr}
use Rattle.ace_model.proofs.Lines.Owing.{data_beats-grow}
use Rattle.ace_lineck.proofs.Bursts.{data_count, sent_count, unfinished}

-- The answer with data that the event is, and its snoop.
record NewSnoop (past : Trace) (e : Event) (p : ℕ) (s : Snoop) : Type 0 where
  resp : ℕ
  st : LineState
  is : e ≡ Cr p resp st
  sends : transfers_data resp ≡ true
  there : answered past p ≡ Some s

new_snoop : (past : Trace) (e : Event) (p : ℕ) (s : Snoop) → data_snoop_at past e p ≡ Some s → NewSnoop past e p s
new_snoop past (Cr q resp st) p s is =
    elim (cases_Bool (nat_eq p q && transfers_data resp)) [
      | inr f ↦ let none : None ≡ Some s = rw f at is in cc
      | inl t ↦
          let parts = and_parts (nat_eq p q) (transfers_data resp) t in
          record { resp = resp; st = st; is = ap (λ v. Cr v resp st) (sym (eqb-true p q parts.0)); sends = parts.1; there = rw t at is }
    ]
new_snoop past e p s is = cc

-- while a burst of the line isn't whole, its port gives no other answer with data for the line
quiet : (h : Header) (past : Trace) (e : Event) → IsAccepted h (e ∷ past) → (p n l : ℕ) (s : Snoop) → slice_get (data_snoops past p) n ≡ Some s → is_snoop_on s l ≡ true
    → data_beats past p < 4 * (n + 1) → sends_line past e p l ≡ false
quiet h past (Cr q resp st) a p n l s there on short =
    elim (cases_Bool ((nat_eq p q && transfers_data resp) && answers_line past p l)) [
      | inr f ↦ f
      | inl t ↦
          let parts = and_parts (nat_eq p q && transfers_data resp) (answers_line past p l) t in
          let port = eqb-true p q (and_parts (nat_eq p q) (transfers_data resp) parts.0).0 in
          let one : Cr q resp st ≡ Cr p resp st = ap (λ v. Cr v resp st) (sym port) in
          let n' = answering_cr h past p resp st (subst (λ d. IsAccepted h (d ∷ past)) one a) l parts.1 in
          let none = n'.pending.unanswered in
          let u = (unfinished h past a.0 p n l s there on short).owing.answer in
          cc
    ]
quiet h past e a p n l s there on short = refl

pub sent-line : (h : Header) (past : Trace) → IsAccepted h past → (p n l : ℕ) (s : Snoop) → slice_get (data_snoops past p) n ≡ Some s → is_snoop_on s l ≡ true
    → data_beats past p < 4 * (n + 1) → slice_get (sent past p) n ≡ Some (sent_on past p l)
sent-line h [] a p n l s there on short = cc
sent-line h (e ∷ past) a p n l s there on short =
    elim (slice_get-more (data_snoops past p) (data_snoop_at past e p) n s there) [
      | inl old ↦
          let grow = data_beats-grow e past p in
          let before : data_beats past p < 4 * (n + 1) = omega arith in
          let none = quiet h past e a p n l s old on before in
          rw none (slice_get-grown (sent past p) (sent_at past e p) n (sent_on past p l) (sent-line h past a.0 p n l s old on before))
      | inr new ↦
          let c = new_snoop past e p s new.1 in
          let at : n ≡ length (sent past p) = new.0 ∙ data_count h past a.0 p ∙ sym (sent_count h past a.0 p) in
          subst (λ d. slice_get (sent (d ∷ past) p) n ≡ Some (sent_on (d ∷ past) p l)) (sym c.is) (answer c.resp c.st c.sends c.there at)
    ]
  where
    answer : (resp : ℕ) (st : LineState) → transfers_data resp ≡ true → answered past p ≡ Some s → n ≡ length (sent past p)
        → slice_get (sent (Cr p resp st ∷ past) p) n ≡ Some (sent_on (Cr p resp st ∷ past) p l)
    answer resp st sends is at =
        let addr : s.addr ≡ l = eqb-true s.addr l (and_parts (snoops_a_line s.snoop) (nat_eq s.addr l) on).1 in
        let line : answers_line past p l ≡ true = rw is on in
        rw (eq-eqb p p (refl {a = p}), sends, line, is) (slice_get-at_end (sent past p) n (copy_of past p s.addr) at ∙ ap (λ v. Some (copy_of past p v)) addr)

-- the line of the next CD
pub next-sent : (h : Header) (past : Trace) → IsAccepted h past → (p l : ℕ) (s : Snoop) → sending past p ≡ Some s → is_snoop_on s l ≡ true
    → next_sent past p ≡ Some (sent_on past p l)
next-sent h past a p l s is on = sent-line h past a p (data_beats past p / 4) l s is on (omega arith)

-- a snoop of the trace has a kind
snoop-kind : (h : Header) (past : Trace) → IsAccepted h past → (p n : ℕ) (s : Snoop) → slice_get (snoops_of past p) n ≡ Some s → is_some (ac_kind_of s.snoop) ≡ true
snoop-kind h [] a p n s there = cc
snoop-kind h (e ∷ past) a p n s there =
    elim (slice_get-more (snoops_of past p) (snoop_at (length past) e p) n s there) [
      | inl old ↦ snoop-kind h past a.0 p n s old
      | inr new ↦ by e a new.1
    ]
  where
    by : (d : Event) → IsAccepted h (d ∷ past) → snoop_at (length past) d p ≡ Some s → is_some (ac_kind_of s.snoop) ≡ true
    by (Ac q addr code) b is =
        let same = (some_if-is (nat_eq p q) (record { place = length past; addr = addr; snoop = code }) s is).1 in
        subst (λ (v : Snoop). is_some (ac_kind_of v.snoop) ≡ true) same (accepted_keeps h past (Ac q addr code) b).rule_2
    by d b is = cc

-- a snoop that isn't of a line is answered without data
silent : (resp : ℕ) (st : LineState) → is_plain_row resp st ≡ true → transfers_data resp ≡ true → false ≡ true
silent resp st row sends = subst (λ v. transfers_data v ≡ true) (eqb-true resp 0 (and_parts (nat_eq resp 0) (is_invalid st) row).0) sends

plain_sends : (k : SnoopKind) (held : LineState) (resp : ℕ) (st : LineState) → is_snoop_row k held false resp st ≡ true → transfers_data resp ≡ true → is_line_snoop k ≡ true
plain_sends snoop.DvmComplete held resp st row sends = silent resp st row sends
plain_sends snoop.DvmMessage held resp st row sends = silent resp st row sends
plain_sends k held resp st row sends = refl

-- so a snoop that is answered with data is one of a line
pub sends-a_line : (h : Header) (past : Trace) → IsAccepted h past → (p n : ℕ) (s : Snoop) → slice_get (data_snoops past p) n ≡ Some s → snoops_a_line s.snoop ≡ true
sends-a_line h [] a p n s there = cc
sends-a_line h (e ∷ past) a p n s there =
    elim (slice_get-more (data_snoops past p) (data_snoop_at past e p) n s there) [
      | inl old ↦ sends-a_line h past a.0 p n s old
      | inr new ↦
          let c = new_snoop past e p s new.1 in
          let k = some_is (ac_kind_of s.snoop) (snoop-kind h past a.0 p _ s c.there) in
          let row = is_none_or-at (answered past p) (answers_by_row h past p c.resp c.st) s (accepted_keeps h past (Cr p c.resp c.st) (subst (λ d. IsAccepted h (d ∷ past)) c.is a)).rule_15 c.there in
          let one = is_none_or-at (ac_kind_of s.snoop) (λ k. is_snoop_row k (state_of h past p s.addr) false c.resp c.st) k.0 row k.1 in
          subst (λ o. is_some_and o is_line_snoop ≡ true) (sym k.1) (plain_sends k.0 (state_of h past p s.addr) c.resp c.st one c.sends)
    ]
