-- The transfers of a read: what an event adds to them, that a read which is complete has had them all, and that a read of a line
-- is granted from its first transfer on.
use Rattle.std.proofs.Common.{◌≡◌, ◌≢◌, ◌⊎◌, ◌==◌, ℕ, ◌+◌, Bool, true, false, not, ◌&&◌, nat_eq, [], ◌∷◌, length, Some, refl, sym, ap, subst, ◌∙◌, arith, inl, inr, length-append}
use Rattle.std.proofs.lemmas.Bool.{and_parts, or_cases, cases_Bool, cases_eq, eqb-true, eq-eqb, ne_eqb}
use Rattle.ace_model.proofs.Trace.Transfers.{full_count}
use Rattle.ace_model.proofs.Terms.{Read, Write, Event, Ar, Aw, R, Header, Transaction, Trace, is_some_and, beats_of, has_name, is_named, read_kind, issued, transfers, first_resp}
use Rattle.ace_model.proofs.Terms.{outstanding, is_completion, is_complete, words_read, is_line, is_read, granted, is_begun, are_snoops_done, IsAccepted}
use Rattle.ace_model.proofs.Trace.Looks.{has_name-is}
use Rattle.ace_model.proofs.Trace.Issued.{outstanding-origin, outstanding-name}
use Rattle.ace_model.proofs.Trace.WriteQueue.{issue_completes}
use Rattle.ace_model.proofs.Trace.Outstanding.{named_read}
use Rattle.ace_model.proofs.Grants.Begins.{may_of, line_due}
use Rattle.ace_model.proofs.Grants.Granted.{granted_at}
use Rattle.ace_model.proofs.Grants.Stays.{granted_after}
use Rattle.ace_model.proofs.General.Options.{Some-injective}
use Rattle.ace_model.proofs.Trace.Transfers.{IsFull}

-- The event is a transfer under the name.
pub record Transfer (e : Event) (p i : ℕ) : Type 0 where
  pub resp : ℕ
  pub last : Bool
  pub word : ℕ
  pub is : e ≡ R p i resp last word

-- The event is none, and nothing changes under the name.
pub record NoTransfer (past : Trace) (e : Event) (p i : ℕ) : Type 0 where
  pub count : transfers (e ∷ past) p i ≡ transfers past p i
  pub first : first_resp (e ∷ past) p i ≡ first_resp past p i
  pub words : words_read (e ∷ past) p i ≡ words_read past p i

pub transfer_moves : (past : Trace) (e : Event) (p i : ℕ) → is_named (issued (length past) e) p Read i ≡ false → NoTransfer past e p i ⊎ Transfer e p i
transfer_moves past (Ar q j addr snoop dom bar lock) p i other =
    let f = named_read past q j addr snoop dom bar lock p i false other in inl (record { count = rw f refl; first = rw f refl; words = rw f refl })
transfer_moves past (R q j resp last word) p i other =
    elim (cases_Bool (nat_eq p q && nat_eq i j)) [
      | inr f ↦ inl (record { count = rw f refl; first = rw f refl; words = rw f refl })
      | inl t ↦
          let parts = and_parts (nat_eq p q) (nat_eq i j) t in
          let port = eqb-true p q parts.0 in
          let id = eqb-true i j parts.1 in
          inr (record { resp = resp; last = last; word = word; is = cc })
    ]
transfer_moves past _ p i other = inl (record { count = refl; first = refl; words = refl })

-- a new read has had none
pub issue_transfers : (past : Trace) (e : Event) (p i : ℕ) (x : Transaction) → issued (length past) e ≡ Some x → has_name x p Read i ≡ true → transfers (e ∷ past) p i ≡ 0
issue_transfers past (Ar q j addr snoop dom bar lock) p i x new named =
    let same = Some-injective _ x new in
    rw (named_read past q j addr snoop dom bar lock p i true (subst (λ (y : Transaction). has_name y p Read i ≡ true) (sym same) named)) refl
issue_transfers past (Aw q j addr snoop dom bar) p i x new named =
    let same = Some-injective _ x new in
    let bad : Write ≡ Read = ap (λ (y : Transaction). y.chan) same ∙ (has_name-is x p Read i named).chan in cc
issue_transfers past e p i x new named = cc

-- the words that a read has had are as many as its transfers
pub words-length : (past : Trace) (p i : ℕ) → length (words_read past p i) ≡ transfers past p i
words-length [] p i = refl
words-length (Ar q j addr snoop dom bar lock ∷ past) p i =
    elim (cases_Bool (nat_eq p q && nat_eq i j)) [
      | inl t ↦ rw t refl
      | inr f ↦ rw f (words-length past p i)
    ]
words-length (R q j resp last word ∷ past) p i =
    elim (cases_Bool (nat_eq p q && nat_eq i j)) [
      | inl t ↦ rw t (length-append (words_read past p i) (word ∷ []) ∙ ap (λ m. m + 1) (words-length past p i))
      | inr f ↦ rw f (words-length past p i)
    ]
words-length (_ ∷ past) p i = words-length past p i

module _ (h : Header) where
  -- the last transfer makes a read full
  completed_read : (past : Trace) (e : Event) → IsAccepted h (e ∷ past) → (p i : ℕ) (x : Transaction) → outstanding h past p Read i ≡ Some x
      → is_completion e p Read i ≡ true → IsFull (e ∷ past) p i x
  completed_read past (R q j resp last word) a p i x o c =
      let m = may_of h past q j resp last word a in
      elim (cases_Bool (nat_eq p q && last)) [
        | inr f ↦ let bad : false ≡ true = rw f at c in cc
        | inl t ↦
            let parts = and_parts (nat_eq p q) last t in
            let id : nat_eq i j ≡ true = rw t at c in
            let pq = eqb-true p q parts.0 in
            let ij = eqb-true i j id in
            let kind : read_kind x ≡ Some m.kind = ap read_kind (Some-injective x m.one (sym o ∙ ap (λ b. outstanding h past b Read i) pq ∙ ap (outstanding h past q Read) ij ∙ m.out)) ∙ m.is_kind in
            let count : transfers past p i + 1 ≡ beats_of m.kind = ap (λ b. transfers past b i + 1) pq ∙ ap (λ b. transfers past q b + 1) ij ∙ m.ends parts.1 in
            rw (kind, parts.0, id) (eq-eqb (transfers past p i + 1) (beats_of m.kind) count)
      ]
  completed_read past e a p i x o c = cc

  -- a full read has no more transfers
  transfers_stay : (past : Trace) (e : Event) → IsAccepted h (e ∷ past) → (p i : ℕ) (x : Transaction) → outstanding h past p Read i ≡ Some x
      → is_named (issued (length past) e) p Read i ≡ false → IsFull past p i x → transfers (e ∷ past) p i ≡ transfers past p i
  transfers_stay past e a p i x o other full =
      elim (transfer_moves past e p i other) [
        | inl none ↦ none.count
        | inr t ↦
            let m = may_of h past p i t.resp t.last t.word (subst (λ d. IsAccepted h (d ∷ past)) t.is a) in
            let kind : read_kind x ≡ Some m.kind = ap read_kind (Some-injective x m.one (sym o ∙ m.out)) ∙ m.is_kind in
            let all = full_count past p i x m.kind full kind in
            absurd (omega (arith, m.few, all))
      ]

  -- a read is complete with its last transfer
  pub done_read : (past : Trace) → IsAccepted h past → (p i : ℕ) (x : Transaction) → outstanding h past p Read i ≡ Some x
      → is_complete past p Read i ≡ true → IsFull past p i x
  done_read [] a p i x o c = cc
  done_read (e ∷ past) a p i x o c =
      elim (outstanding-origin h past e p Read i x o) [
        | inl new ↦
            let none = issue_completes (length past) e x p Read i new.0 in
            let bad : false ≡ true = rw (new.0, new.1, none) at c in cc
        | inr old ↦ elim (or_cases (is_completion e p Read i) (not (is_named (issued (length past) e) p Read i) && is_complete past p Read i) c) [
          | inl now ↦ completed_read past e a p i x old.was now
          | inr earlier ↦
              let full = done_read past a.0 p i x old.was (and_parts (not (is_named (issued (length past) e) p Read i)) _ earlier).1 in
              subst (λ n. is_some_and (read_kind x) (λ k. n == beats_of k) ≡ true) (sym (transfers_stay past e a p i x old.was old.other full)) full
        ]
      ]

-- a name that has its first transfer with the event
pub first-transfer : (e : Event) (past : Trace) (p i : ℕ) → is_named (issued (length past) e) p Read i ≡ false → transfers past p i ≡ 0 → transfers (e ∷ past) p i ≢ 0 → Transfer e p i
first-transfer e past p i other none some =
    elim (transfer_moves past e p i other) [
      | inl same ↦ absurd (some (same.count ∙ none))
      | inr t ↦ t
    ]

-- What the rule on transfers says of a read of a line.
pub record BeatDue (h : Header) (past : Trace) (p i : ℕ) (x : Transaction) : Type 0 where
  pub stands : granted h past x.addr ≡ Some x
  pub done : transfers past p i ≡ 0 → are_snoops_done h past x ≡ true

pub beat_due : (h : Header) (past : Trace) (p i : ℕ) (x : Transaction) (e : Event) → IsAccepted h (e ∷ past) → Transfer e p i
    → outstanding h past p Read i ≡ Some x → is_line x ≡ true → BeatDue h past p i x
beat_due h past p i x e a b o line =
    let t = line_due h past p i b.resp b.last b.word (subst (λ (v : Event). IsAccepted h (v ∷ past)) b.is a) x o line in
    let n = outstanding-name h past p Read i x o in
    record {
      stands = granted_at h past a.0 p Read i x o t.stands;
      done = λ none. t.first (eq-eqb (transfers past x.port x.id) 0 (ap (λ v. transfers past v x.id) n.port ∙ ap (transfers past p) n.id ∙ none));
    }

-- a read of a line that has had a beat is granted
pub under_way : (h : Header) (past : Trace) → IsAccepted h past → (p i : ℕ) (x : Transaction) → outstanding h past p Read i ≡ Some x
    → is_line x ≡ true → transfers past p i ≢ 0 → granted h past x.addr ≡ Some x
under_way h [] a p i x o line some = cc
under_way h (e ∷ past) a p i x o line some =
    elim (outstanding-origin h past e p Read i x o) [
      | inl new ↦ absurd (some (issue_transfers past e p i x new.0 new.1))
      | inr old ↦
          let was : granted h past x.addr ≡ Some x = elim (cases_eq (transfers past p i) 0) [
            | inr earlier ↦ under_way h past a.0 p i x old.was line earlier
            | inl none ↦ (beat_due h past p i x e a (first-transfer e past p i old.other none some) old.was line).stands
          ] in
          elim (granted_after h past e a x.addr x was) [
            | inl stays ↦ stays.is
            | inr ends ↦ absurd (old.lasts ends.0 ends.1 ends.2)
          ]
    ]

-- then it has begun
pub begun_read : (h : Header) (past : Trace) (p i : ℕ) (x : Transaction) → outstanding h past p Read i ≡ Some x → transfers past p i ≢ 0 → is_begun past x ≡ true
begun_read h past p i x o some =
    let n = outstanding-name h past p Read i x o in
    let count : transfers past x.port x.id ≡ transfers past p i = ap (λ v. transfers past v x.id) n.port ∙ ap (transfers past p) n.id in
    rw (ap is_read n.chan) (rw count (rw (ne_eqb (transfers past p i) 0 some) refl))
