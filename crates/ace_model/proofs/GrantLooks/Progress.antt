-- How far the granted transaction has come: its transfers, its M, and memory at its first beat.
use Rattle.std.proofs.Common.{◌≡◌, ◌≢◌, ℕ, true, false, not, ◌&&◌, ◌||◌, nat_eq, ◌∷◌, length, Some, None, refl, sym, ap, subst, ◌∙◌, inl, inr}
use Rattle.std.proofs.lemmas.Bool.{false_from_ne_true, and_parts, cases_Bool, cases_eq, ne_eqb}
use Rattle.ace_model.proofs.Terms.{Channel, Read, Event, G, Header, Transaction, Trace, is_read, is_line, is_named, issued, outstanding, transfers, first_resp, has_memory_write, is_memory_write, is_begun, granted, gives_line}
use Rattle.ace_model.proofs.Terms.{given, memory_at_first_beat, may_be_granted, takes_grant, has_grant, IsAccepted}
use Rattle.ace_model.proofs.General.Options.{Some-injective, none_is, is_some_and-is}
use Rattle.ace_model.proofs.Trace.Looks.{is_read-is, newest_on-cases}
use Rattle.ace_model.proofs.Trace.Issued.{outstanding-named}
use Rattle.ace_model.proofs.Holders.Law.{accepted_holds}
use Rattle.ace_model.proofs.Rules.Keeps.{accepted_keeps}
use Rattle.ace_model.proofs.Grants.Granted.{not_named, given_unwritten}
use Rattle.ace_model.proofs.Values.FullReads.{Transfer, transfer_moves, under_way}

-- The event is neither a transfer nor the M of the transaction.
pub record Untouched (past : Trace) (e : Event) (x : Transaction) : Type 0 where
  pub count : is_read x.chan ≡ true → transfers (e ∷ past) x.port x.id ≡ transfers past x.port x.id
  pub first : is_read x.chan ≡ true → first_resp (e ∷ past) x.port x.id ≡ first_resp past x.port x.id
  pub written : has_memory_write (e ∷ past) x.port x.chan x.id ≡ has_memory_write past x.port x.chan x.id

-- a look that only the transfers, or only the M, tell
begun_same : (past longer : Trace) (x : Transaction)
    → (is_read x.chan ≡ true → transfers longer x.port x.id ≡ transfers past x.port x.id)
    → has_memory_write longer x.port x.chan x.id ≡ has_memory_write past x.port x.chan x.id
    → is_begun longer x ≡ is_begun past x
begun_same past longer x reads writes =
    elim (cases_Bool (is_read x.chan)) [
      | inl t ↦ rw t (ap (λ n. not (nat_eq n 0)) (reads t))
      | inr f ↦ rw f writes
    ]

-- then it has begun or not as before
pub begun-stays : (past : Trace) (e : Event) (x : Transaction) → Untouched past e x → is_begun (e ∷ past) x ≡ is_begun past x
begun-stays past e x u = begun_same past (e ∷ past) x u.count u.written

begun_none : (past : Trace) (x : Transaction) → (is_read x.chan ≡ true → transfers past x.port x.id ≡ 0)
    → has_memory_write past x.port x.chan x.id ≡ false → is_begun past x ≡ false
begun_none past x reads writes =
    elim (cases_Bool (is_read x.chan)) [
      | inl t ↦ let none = reads t in rw (t, none) refl
      | inr f ↦ rw f writes
    ]

-- memory at the first beat is settled by then
pub first_beat-stays : (past : Trace) (e : Event) (p i l : ℕ) → transfers (e ∷ past) p i ≢ 0 → memory_at_first_beat (e ∷ past) p i l ≡ memory_at_first_beat past p i l
first_beat-stays past e p i l some = rw (ne_eqb (transfers (e ∷ past) p i) 0 some) refl

module _ (h : Header) (past : Trace) (e : Event) (a : IsAccepted h (e ∷ past)) (p : ℕ) (c : Channel) (i : ℕ) (x : Transaction) (o : outstanding h past p c i ≡ Some x) where
  -- an M is that of the transaction, or it has had it before
  pub written-now : has_memory_write (e ∷ past) p c i ≡ (is_memory_write e p c i || has_memory_write past p c i)
  written-now = let other = not_named h past e a p c i x o in rw other refl

module _ (h : Header) (past : Trace) (e : Event) (a : IsAccepted h (e ∷ past)) (l : ℕ) (x : Transaction) (g : granted h past l ≡ Some x) where
  out : outstanding h past x.port x.chan x.id ≡ Some x
  out = ((accepted_holds h past a.0).grants l x g).0

  pub untouched : (is_read x.chan ≡ true → Transfer e x.port x.id → ⊥) → is_memory_write e x.port x.chan x.id ≡ false → Untouched past e x
  untouched no_beat no_write = record {
    count = λ reads. elim (transfer_moves past e x.port x.id (other reads)) [
      | inl none ↦ none.count
      | inr beat ↦ absurd (no_beat reads beat)
    ];
    first = λ reads. elim (transfer_moves past e x.port x.id (other reads)) [
      | inl none ↦ none.first
      | inr beat ↦ absurd (no_beat reads beat)
    ];
    written = written-now h past e a x.port x.chan x.id x out ∙ rw no_write refl;
  }
    where
      other : is_read x.chan ≡ true → is_named (issued (length past) e) x.port Read x.id ≡ false
      other reads =
          subst (λ (v : Channel). is_named (issued (length past) e) x.port v x.id ≡ false) (is_read-is x.chan reads)
          (not_named h past e a x.port x.chan x.id x out)

-- at its G a transaction hasn't begun, and has had no M
pub record GivenFresh (past : Trace) (x : Transaction) : Type 0 where
  pub count : is_read x.chan ≡ true → transfers past x.port x.id ≡ 0
  pub written : has_memory_write past x.port x.chan x.id ≡ false
  pub unbegun : is_begun past x ≡ false

pub given_fresh : (h : Header) (past : Trace) (q : ℕ) (c : Channel) (j : ℕ) → IsAccepted h (G q c j ∷ past) → (l : ℕ) (x : Transaction)
    → granted h (G q c j ∷ past) l ≡ Some x → gives_line past (G q c j) l ≡ true → GivenFresh (G q c j ∷ past) x
given_fresh h past q c j a l x g gives = record { count = count; written = written; unbegun = unbegun }
  where
    written : has_memory_write (G q c j ∷ past) x.port x.chan x.id ≡ false
    written = false_from_ne_true (has_memory_write (G q c j ∷ past) x.port x.chan x.id) (given_unwritten h past (G q c j) a l x g gives)

    -- a read that has had a transfer is granted, and the line is free at a G
    count : is_read x.chan ≡ true → transfers past x.port x.id ≡ 0
    count reads =
        elim (cases_eq (transfers past x.port x.id) 0) [
          | inl none ↦ none
          | inr some ↦
              let k = is_some_and-is (outstanding h past q c j) (may_be_granted h past) (accepted_keeps h past (G q c j) a).rule_12 in
              let s = (accepted_holds h (G q c j ∷ past) a).grants l x g in
              let o : outstanding h past x.port Read x.id ≡ Some x = subst (λ (v : Channel). outstanding h past x.port v x.id ≡ Some x) (is_read-is x.chan reads) s.0 in
              let line = (and_parts (is_line x) _ s.1).0 in
              let was = under_way h past a.0 x.port x.id x o line some in
              let one : k.0 ≡ x = elim (newest_on-cases (given past (G q c j)) l (granted h past l) x g) [
                | inl new ↦ Some-injective k.0 x (sym (outstanding-named h past q c j k.0 k.1) ∙ new.0)
                | inr old ↦ let f = old.1 in cc
              ] in
              let free : granted h past x.addr ≡ None = subst (λ (v : Transaction). granted h past v.addr ≡ None) one
              (none_is (granted h past k.0.addr) (and_parts (takes_grant k.0 && not (has_grant past k.0.port k.0.chan k.0.id)) _ k.2).1) in cc
        ]

    unbegun : is_begun (G q c j ∷ past) x ≡ false
    unbegun = begun_none (G q c j ∷ past) x count written
