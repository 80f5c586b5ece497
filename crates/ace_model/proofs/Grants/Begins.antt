-- A granted transaction begins, by the first transfer of a read or the M of a write, once its snoops are done.
use Rattle.std.proofs.Common.{◌≡◌, ◌⊎◌, ℕ, Bool, true, false, not, ◌&&◌, nat_eq, ◌∷◌, Some, refl, sym, ap, subst, ◌∙◌, inl, inr}
use Rattle.std.proofs.lemmas.Bool.{not-false, and_parts, cases_Bool, eqb-true}
use Rattle.ace_model.proofs.Terms.{Channel, Read, Event, Ar, R, Aw, M, Header, Transaction, Trace, implies, is_read, is_line, same_channel, transfers}
use Rattle.ace_model.proofs.Terms.{outstanding, updates_memory, has_memory_write, is_granted, is_begun, has_passed_data, are_snoops_done, may_transfer, takes_passed, IsAccepted}
use Rattle.ace_model.proofs.General.Options.{Some-injective}
use Rattle.ace_model.proofs.Grants.Granted.{data_may, writes_now}
use Rattle.ace_model.proofs.Grants.Stays.{read_apart, stays_apart, Stays}
use Rattle.ace_model.proofs.Trace.Looks.{is_read-is}
use Rattle.ace_model.proofs.Rules.Keeps.{accepted_keeps}
use Rattle.ace_model.proofs.Holders.Transfer.{MayTransfer, may}
use Rattle.ace_model.proofs.Holders.Law.{accepted_holds}
use Rattle.ace_model.proofs.General.Booleans.{implies-at}
use Rattle.ace_model.proofs.Trace.Outstanding.{read_issued, write_issued, named_read}

begun_same : (past longer : Trace) (x : Transaction)
    → (is_read x.chan ≡ true → transfers longer x.port x.id ≡ transfers past x.port x.id)
    → (is_read x.chan ≡ false → has_memory_write longer x.port x.chan x.id ≡ has_memory_write past x.port x.chan x.id)
    → is_begun longer x ≡ is_begun past x
begun_same past longer x reads writes =
    elim (cases_Bool (is_read x.chan)) [
      | inl t ↦ rw t (ap (λ n. not (nat_eq n 0)) (reads t))
      | inr f ↦ rw f (writes f)
    ]

module _ (h : Header) (past : Trace) where
  -- the transfer that the event is
  pub may_of : (q j resp : ℕ) (last : Bool) (word : ℕ) → IsAccepted h (R q j resp last word ∷ past) → MayTransfer h past q j resp last
  may_of q j resp last word a = may h past q j resp last word (accepted_keeps h past (R q j resp last word) a).rule_18

  -- what the rule on transfers says of a line transaction
  pub record LineTransfer (x : Transaction) (resp : ℕ) : Type 0 where
    pub stands : is_granted h past x ≡ true
    pub first : nat_eq (transfers past x.port x.id) 0 ≡ true → are_snoops_done h past x ≡ true
    pub takes : has_passed_data h past x ≡ true → takes_passed h past x resp ≡ true

  line_transfer : (x : Transaction) (resp : ℕ) → may_transfer h past x resp ≡ true → LineTransfer x resp
  line_transfer x resp m =
      let all = and_parts (is_granted h past x && implies (nat_eq (transfers past x.port x.id) 0) (are_snoops_done h past x)) _ m in
      let two = and_parts (is_granted h past x) _ all.0 in
      record {
        stands = two.0;
        first = λ t. implies-at _ _ two.1 t;
        takes = λ t. implies-at _ _ all.1 t;
      }

  -- and of the one whose transfer the event is
  pub line_due : (q j resp : ℕ) (last : Bool) (word : ℕ) → IsAccepted h (R q j resp last word ∷ past) → (x : Transaction) → outstanding h past q Read j ≡ Some x
      → is_line x ≡ true → LineTransfer x resp
  line_due q j resp last word a x o line =
      let m = may_of q j resp last word a in
      let one : m.one ≡ x = Some-injective m.one x (sym m.out ∙ o) in
      line_transfer x resp (subst (λ y. may_transfer h past y resp ≡ true) one (m.may (ap is_line one ∙ line)))

-- as long as its grant stays, a transaction that hasn't begun doesn't, or its snoops are done, or it is an update
abbrev pub MayBegin : Header → Trace → Transaction → Type 0
MayBegin h past x = (are_snoops_done h past x ≡ true) ⊎ (updates_memory x ≡ true)

pub begins : (h : Header) (past : Trace) (e : Event) → IsAccepted h (e ∷ past) → (l : ℕ) (x : Transaction) → Stays h past e l x → is_begun past x ≡ false
    → (is_begun (e ∷ past) x ≡ false) ⊎ MayBegin h past x
begins h past (Ar q j addr snoop dom bar lock) a l x s b =
    let e = Ar q j addr snoop dom bar lock in
    let y = read_issued past q j addr snoop dom bar lock in
    let apart = stays_apart h past e a l x y s refl in
    inl (begun_same past (e ∷ past) x (λ t. rw (named_read past q j addr snoop dom bar lock x.port x.id false (read_apart h past e a l x y s refl t)) refl)
    (λ f. rw apart refl) ∙ b)
begins h past (Aw q j addr snoop dom bar) a l x s b =
    let e = Aw q j addr snoop dom bar in
    let apart = stays_apart h past e a l x (write_issued past q j addr snoop dom bar) s refl in
    inl (begun_same past (e ∷ past) x (λ t. refl) (λ f. rw apart refl) ∙ b)
begins h past (R q j resp last word) a l x s b =
    let e = R q j resp last word in
    let o = (accepted_holds h past a.0).grants l x s.was in
    elim (cases_Bool (is_read x.chan)) [
      | inr f ↦ inl (begun_same past (e ∷ past) x (λ t. cc) (λ g. refl) ∙ b)
      | inl reads ↦ elim (cases_Bool (nat_eq x.port q && nat_eq x.id j)) [
        | inr other ↦ inl (begun_same past (e ∷ past) x (λ t. rw other refl) (λ g. cc) ∙ b)
        | inl same ↦
            let parts = and_parts (nat_eq x.port q) (nat_eq x.id j) same in
            let out : outstanding h past q Read j ≡ Some x =
            sym (ap (λ p. outstanding h past p x.chan x.id) (eqb-true x.port q parts.0) ∙ ap (λ (c : Channel). outstanding h past q c x.id) (is_read-is x.chan reads)
            ∙ ap (outstanding h past q Read) (eqb-true x.id j parts.1)) ∙ o.0 in
            let t = line_due h past q j resp last word a x out (and_parts (is_line x) _ o.1).0 in
            let b_read : not (nat_eq (transfers past x.port x.id) 0) ≡ false = rw reads at b in
            inr (inl (t.first (not-false (nat_eq (transfers past x.port x.id) 0) b_read)))
      ]
    ]
begins h past (M q c j line) a l x s b =
    let e = M q c j line in
    let o = (accepted_holds h past a.0).grants l x s.was in
    elim (cases_Bool (is_read x.chan)) [
      | inl reads ↦ inl (begun_same past (e ∷ past) x (λ t. refl) (λ g. cc) ∙ b)
      | inr writes ↦ elim (cases_Bool ((nat_eq x.port q && same_channel x.chan c) && nat_eq x.id j)) [
        | inr other ↦ inl (begun_same past (e ∷ past) x (λ t. refl) (λ g. rw other refl) ∙ b)
        | inl same ↦
            let m = writes_now h past e a x.port x.chan x.id x o.0 same in
            elim (data_may h past x m.may writes).how [
              | inl due ↦ inr (inl (and_parts (is_granted h past x) _ due).1)
              | inr due ↦ inr (inr (and_parts (updates_memory x) _ due).0)
            ]
      ]
    ]
begins h past _ a l x s b = inl b
