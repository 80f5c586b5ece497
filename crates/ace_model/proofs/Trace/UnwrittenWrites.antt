-- The writes with data that have had no M. Such a write stays outstanding until its M, which comes once its burst is whole.
use Rattle.std.proofs.Common.{◌≡◌, ◌≢◌, ◌⊎◌, ℕ, ◌+◌, ◌-◌, ◌*◌, ◌/◌, ◌<◌, ◌≤◌, Bool, true, false, not, ◌&&◌, ◌||◌, nat_eq, min, List, [], ◌∷◌, length, take, drop, Option, Some, None, slice_get, refl, sym, ap, subst, ◌∙◌, arith, inl, inr, length-drop}
use Rattle.std.proofs.lemmas.Bool.{and_parts, and_right, or_cases, or_parts, cases_Bool, eqb-true, eq-eqb}
use Rattle.std.proofs.lemmas.List.{length-take}
use Rattle.std.proofs.lemmas.Option.{slice_get_within}
use Rattle.ace_model.proofs.Terms.{LineState, Channel, Read, Write, Event, Ar, R, Rk, Aw, W, B, Wk, M, Header, Transaction, Trace, IsAccepted, at_point, is_some_and, more, has_write_data, is_read, same_channel, has_name, is_named, issued, ended}
use Rattle.ace_model.proofs.Terms.{write_kind, transaction_of, outstanding, acknowledged, newest_named, without, is_memory_write, has_memory_write, may_write_memory, may_write_data, may_write_passed, option_filter, is_data_write_of, issued, data_writes, beats, beat_at, burst_of, is_burst_whole}
use Rattle.ace_model.proofs.General.Booleans.{else_of}
use Rattle.ace_model.proofs.General.Lists.{slice_get-more, start-more, start-length}
use Rattle.ace_model.proofs.General.Options.{some_if-is, Some-injective, is_some_and-at}
use Rattle.ace_model.proofs.Rules.Keeps.{accepted_keeps}
use Rattle.ace_model.proofs.Trace.Looks.{Named, at_name, has_name-is, newest_named-first, same_channel-is, without-other}
use Rattle.ace_model.proofs.Trace.Issued.{issued-place, outstanding-name, outstanding-named, outstanding-origin, same_place}
use Rattle.ace_model.proofs.Trace.Outstanding.{acknowledged_is, ends_lite, outstanding_stays, read_issued, write_apart, write_issued}
use Rattle.ace_model.proofs.Trace.Growth.{IsIssued, at_point-before, issued-new, issued-old}
use Rattle.ace_model.proofs.Trace.Places.{at_point-last}
use Rattle.ace_model.proofs.Trace.WriteBursts.{start_of}
use Rattle.ace_model.proofs.Trace.WriteQueue.{EndsWrite, ends_write_of, ends_lite_written}

-- The port's outstanding write with data under the identifier, which has had no M.
pub record Unwritten (h : Header) (past : Trace) (p i : ℕ) (x : Transaction) : Type 0 where
  pub out : outstanding h past p Write i ≡ Some x
  pub sends : is_some_and (write_kind x) has_write_data ≡ true
  pub unwritten : has_memory_write past p Write i ≡ false

-- there is one under an identifier
pub one_unwritten : (h : Header) (past : Trace) (p i j : ℕ) (x y : Transaction) → Unwritten h past p i x → Unwritten h past p j y → i ≡ j → x ≡ y
one_unwritten h past p i j x y u v same = Some-injective x y (sym u.out ∙ ap (outstanding h past p Write) same ∙ v.out)

module _ (h : Header) (past : Trace) (p i : ℕ) (x : Transaction) (u : Unwritten h past p i x) where
  named : transaction_of past p Write i ≡ Some x
  named = outstanding-named h past p Write i x u.out

  -- a read ends
  other_read : (read : Option Transaction) (q : ℕ) → ((z : Transaction) → read ≡ Some z → (j : ℕ) × (transaction_of past q Read j ≡ Some z))
      → without read (outstanding h past p Write i) ≡ Some x
  other_read read q reads =
      without-other read (outstanding h past p Write i) x u.out
      (λ z is same. let r = reads z is in write_apart past q p r.0 i z x r.1 named (sym same))

  -- a write ends, which has written memory
  other_write : (write : Option Transaction) (q : ℕ) → ((z : Transaction) → write ≡ Some z → EndsWrite h past q z)
      → without write (outstanding h past p Write i) ≡ Some x
  other_write write q ends =
      without-other write (outstanding h past p Write i) x u.out
      (λ z is same.
      let w = ends z is in
      let one : z ≡ x = same_place past q p Write Write w.id i z x (outstanding-named h past q Write w.id z w.out) named same in
      let name = outstanding-name h past p Write i x u.out in
      let written : has_memory_write past x.port x.chan x.id ≡ true =
      subst (λ (v : Transaction). has_memory_write past v.port v.chan v.id ≡ true) one (w.written (rw one u.sends)) in
      let there : has_memory_write past p Write i ≡ true = sym (at_name (has_memory_write past) x p Write i name) ∙ written in
      let none = u.unwritten in cc)

  out_stays : (e : Event) → IsAccepted h (e ∷ past) → outstanding h (e ∷ past) p Write i ≡ Some x
  out_stays (Ar q j addr snoop dom bar lock) a =
      (outstanding_stays h past (read_issued past q j addr snoop dom bar lock) p Write i x
      (accepted_keeps h past (Ar q j addr snoop dom bar lock) a).rule_4 u.out).1
  out_stays (Aw q j addr snoop dom bar) a =
      (outstanding_stays h past (write_issued past q j addr snoop dom bar) p Write i x
      (accepted_keeps h past (Aw q j addr snoop dom bar) a).rule_4 u.out).1
  out_stays (R q j resp last word) a =
      other_read (ended h past (R q j resp last word)) q (λ z is. (j, (ends_lite h past q j resp last word z is).1))
  out_stays (Rk q st) a = other_read (acknowledged past q Read) q (λ z is. let n = acknowledged_is past q Read z is in (n.id, n.named))
  out_stays (B q j resp) a = other_write (ended h past (B q j resp)) q (ends_lite_written h past q j resp a)
  out_stays (Wk q st) a = other_write (acknowledged past q Write) q (ends_write_of h past q st a)
  out_stays _ a = u.out

  -- it stays so until its M
  pub unwritten_stays : (e : Event) → IsAccepted h (e ∷ past) → is_memory_write e p Write i ≡ false → Unwritten h (e ∷ past) p i x
  unwritten_stays e a not_now = record {
    out = out_stays e a;
    sends = u.sends;
    unwritten =
        let before = u.unwritten in
        let idle = and_right (not (is_named (issued (length past) e) p Write i)) false refl in
        rw (not_now, before) idle;
  }

  -- and its M comes once its burst is whole
  pub written_whole : (e : Event) → IsAccepted h (e ∷ past) → is_memory_write e p Write i ≡ true → is_burst_whole past x ≡ true
  written_whole (M q d j line) a now =
      let parts = and_parts (nat_eq p q && same_channel Write d) (nat_eq i j) now in
      let first = and_parts (nat_eq p q) (same_channel Write d) parts.0 in
      let out : outstanding h past q d j ≡ Some x =
      rw (← eqb-true p q first.0, ← same_channel-is Write d first.1, ← eqb-true i j parts.1) u.out in
      let may = is_some_and-at (outstanding h past q d j) (may_write_memory h past) x (accepted_keeps h past (M q d j line) a).rule_24 out in
      let chan = (outstanding-name h past p Write i x u.out).chan in
      let data' = else_of (is_read x.chan) (may_write_passed h past x) (may_write_data h past x) (ap is_read chan) may in
      (and_parts (is_burst_whole past x) _ (and_parts (is_burst_whole past x && not (has_memory_write past x.port x.chan x.id)) _ data').0).0
  written_whole e a now = cc

-- after an event it was there, or is new
pub unwritten_origin : (h : Header) (past : Trace) (e : Event) (p i : ℕ) (x : Transaction) → Unwritten h (e ∷ past) p i x
    → (issued (length past) e ≡ Some x) ⊎ (Unwritten h past p i x × (is_memory_write e p Write i ≡ false))
unwritten_origin h past e p i x u =
    elim (outstanding-origin h past e p Write i x u.out) [
      | inl new ↦ inl new.0
      | inr old ↦
          let parts = or_parts (is_memory_write e p Write i) _ u.unwritten in
          inr (record { out = old.was; sends = u.sends; unwritten = rw old.other at parts.1 }, parts.0)
    ]

-- A write with data of the port, and where it stands among them.
pub record IsDataWrite (past : Trace) (p m : ℕ) (x : Transaction) : Type 0 where
  pub issued : IsIssued past x
  pub port : x.port ≡ p
  pub sends : is_some_and (write_kind x) has_write_data ≡ true
  pub start : start_of past x ≡ m

data_write-is : (o : Option Transaction) (p : ℕ) (x : Transaction) → option_filter (is_data_write_of p) o ≡ Some x
    → (o ≡ Some x) × (x.port ≡ p) × (is_some_and (write_kind x) has_write_data ≡ true)
data_write-is None p x e = cc
data_write-is (Some y) p x e =
    let s = some_if-is (nat_eq y.port p && is_some_and (write_kind y) has_write_data) y x e in
    let parts = and_parts (nat_eq y.port p) _ s.0 in
    let one = s.1 in (
      ap Some one,
      subst (λ (v : Transaction). v.port ≡ p) one (eqb-true y.port p parts.0),
      subst (λ (v : Transaction). is_some_and (write_kind v) has_write_data ≡ true) one parts.1,
    )

pub data_write-at : (past : Trace) (p m : ℕ) (x : Transaction) → slice_get (data_writes past p) m ≡ Some x → IsDataWrite past p m x
data_write-at [] p m x there = cc
data_write-at (e ∷ past) p m x there =
    elim (slice_get-more (data_writes past p) (option_filter (is_data_write_of p) (issued (length past) e)) m x there) [
      | inl old ↦
          let d = data_write-at past p m x old in
          let at = at_point-before e past x.place (let low = d.issued.before in omega arith) in
          record { issued = issued-old e past x d.issued; port = d.port; sends = d.sends; start = rw at d.start }
      | inr new ↦
          let d = data_write-is (issued (length past) e) p x new.1 in
          let at = at_point-last e past x.place (issued-place (length past) e x d.0) in
          record {
            issued = issued-new e past x d.0;
            port = d.1;
            sends = d.2;
            start = rw at (ap (λ q. length (data_writes past q)) d.1 ∙ sym new.0);
          }
    ]

-- the burst of a write that isn't among the first, for whose bursts there are beats enough, isn't whole
pub burst_short : (past : Trace) (p m : ℕ) (x : Transaction) → slice_get (data_writes past p) m ≡ Some x → length (beats past p) / 4 ≤ m
    → is_burst_whole past x ≡ false
burst_short past p m x there low =
    elim (cases_Bool (is_burst_whole past x)) [
      | inr f ↦ f
      | inl t ↦
          let d = data_write-at past p m x there in
          let whole = eqb-true (length (burst_of past x)) 4 t in
          let long = length-take 4 (drop (4 * start_of past x) (beats past x.port)) in
          let rest = length-drop (4 * start_of past x) (beats past x.port) in
          let at = d.start in
          let same : length (beats past x.port) ≡ length (beats past p) = ap (λ q. length (beats past q)) d.port in
          absurd (omega (arith, whole, long, rest, at, same, low))
    ]

-- a new write with data has had no M
unwritten_new : (h : Header) (past : Trace) (e : Event) (p : ℕ) (x : Transaction) → issued (length past) e ≡ Some x → x.port ≡ p
    → is_some_and (write_kind x) has_write_data ≡ true → Unwritten h (e ∷ past) p x.id x
unwritten_new h past (Aw q j addr snoop dom bar) p x new port sends =
    let one = Some-injective (write_issued past q j addr snoop dom bar) x new in
    let named : has_name x p Write x.id ≡ true = subst (λ (v : Transaction). has_name v p Write v.id ≡ true) one own in
    let issues : has_name (write_issued past q j addr snoop dom bar) p Write x.id ≡ true =
    subst (λ (v : Transaction). has_name (write_issued past q j addr snoop dom bar) p Write v.id ≡ true) one own in
    record {
      out = newest_named-first (issued (length past) (Aw q j addr snoop dom bar)) p Write x.id (outstanding h past p Write x.id) x new named;
      sends = sends;
      unwritten = rw issues refl;
    }
  where
    own : has_name (write_issued past q j addr snoop dom bar) p Write j ≡ true
    own =
        let same : q ≡ p = ap (λ (v : Transaction). v.port) (Some-injective _ x new) ∙ port in
        rw (eq-eqb q p same, eq-eqb j j (refl {a = j})) refl
unwritten_new h past (Ar q j addr snoop dom bar lock) p x new port sends =
    let one = Some-injective _ x new in
    let none : is_some_and (write_kind (read_issued past q j addr snoop dom bar lock)) has_write_data ≡ true =
    subst (λ (v : Transaction). is_some_and (write_kind v) has_write_data ≡ true) (sym one) sends in cc
unwritten_new h past e p x new port sends = cc

-- the writes of a port whose bursts aren't whole have had no M
pub filling_unwritten : (h : Header) (past : Trace) → IsAccepted h past → (p m : ℕ) (x : Transaction) → length (beats past p) / 4 ≤ m
    → slice_get (data_writes past p) m ≡ Some x → Unwritten h past p x.id x
filling_unwritten h [] a p m x low there = cc
filling_unwritten h (e ∷ past) a p m x low there =
    elim (slice_get-more (data_writes past p) (option_filter (is_data_write_of p) (issued (length past) e)) m x there) [
      | inl old ↦
          let grown = start-length (beats past p) (beats (e ∷ past) p) (start-more (beats past p) (beat_at (beats past p) (data_writes past p) e p)) in
          let before : length (beats past p) / 4 ≤ m = omega (arith, grown, low) in
          let u = filling_unwritten h past a.0 p m x before old in
          elim (cases_Bool (is_memory_write e p Write x.id)) [
            | inr not_now ↦ unwritten_stays h past p x.id x u e a not_now
            | inl now ↦
                let whole = written_whole h past p x.id x u e a now in
                let short = burst_short past p m x old before in
                let bad : false ≡ true = sym short ∙ whole in cc
          ]
      | inr new ↦
          let d = data_write-is (issued (length past) e) p x new.1 in
          unwritten_new h past e p x d.0 d.1 d.2
    ]
