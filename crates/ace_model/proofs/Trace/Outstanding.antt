-- What is outstanding: the name of a transaction, and what an event issues or ends.
use Rattle.std.proofs.Common.{◌≡◌, ◌≢◌, ◌⊎◌, not, ℕ, Bool, true, false, if◌then◌else◌, ◌&&◌, nat_eq, length, Option, Some, None, is_none, refl, sym, subst, ◌∙◌, inl, inr, arith}
use Rattle.std.proofs.lemmas.Bool.{cases_Bool}
use Rattle.ace_model.proofs.Terms.{Header, Channel, Read, Write, R, B, Transaction, Trace, transaction_of, next_complete, acknowledged, ended, is_ace, transaction_under, has_name, outstanding, newest_named, is_exclusive_store, is_some_and, passed_at_grant, has_failed}
use Rattle.ace_model.proofs.Trace.Looks.{Named, at_name, has_name-is, newest_named-cases, newest_named-older}
use Rattle.ace_model.proofs.Trace.Issued.{transaction_of-name, outstanding-name, same_place}
use Rattle.ace_model.proofs.General.Options.{none_if-is, none_is, Some-injective}
use Rattle.std.proofs.lemmas.Bool.Decides.{nat_tests}

-- the transaction of the AR, of the AW
abbrev pub read_issued : Trace → ℕ → ℕ → ℕ → ℕ → ℕ → ℕ → Bool → Transaction
read_issued past q j addr snoop dom bar lock =
    record { place = length past; port = q; chan = Read; id = j; addr = addr; snoop = snoop; dom = dom; bar = bar; lock = lock }

abbrev pub write_issued : Trace → ℕ → ℕ → ℕ → ℕ → ℕ → ℕ → Transaction
write_issued past q j addr snoop dom bar =
    record { place = length past; port = q; chan = Write; id = j; addr = addr; snoop = snoop; dom = dom; bar = bar; lock = false }

-- what is outstanding is the new transaction, or was outstanding before under another name
pub outstanding_new : (h : Header) (past : Trace) (y : Transaction) (p : ℕ) (c : Channel) (i : ℕ) (x : Transaction)
    → newest_named (Some y) p c i (outstanding h past p c i) ≡ Some x
    → ((y ≡ x) × (has_name y p c i ≡ true)) ⊎ ((outstanding h past p c i ≡ Some x) × (has_name y p c i ≡ false))
outstanding_new h past y p c i x o =
    elim (newest_named-cases (Some y) p c i (outstanding h past p c i) x o) [
      | inl new ↦
          let same = Some-injective y x new.0 in
          inl (same, subst (λ (z : Transaction). has_name z p c i ≡ true) (sym same) new.1)
      | inr old ↦ inr old
    ]

-- where the name is free, what was outstanding stays so
pub outstanding_stays : (h : Header) (past : Trace) (y : Transaction) (p : ℕ) (c : Channel) (i : ℕ) (x : Transaction)
    → is_none (outstanding h past y.port y.chan y.id) ≡ true → outstanding h past p c i ≡ Some x
    → (has_name y p c i ≡ false) × (newest_named (Some y) p c i (outstanding h past p c i) ≡ Some x)
outstanding_stays h past y p c i x free o =
    elim (cases_Bool (has_name y p c i)) [
      | inl t ↦
          let same = at_name (outstanding h past) y p c i (has_name-is y p c i t) in
          let bad : None ≡ Some x = sym (none_is (outstanding h past y.port y.chan y.id) free) ∙ same ∙ o in cc
      | inr f ↦ (f, newest_named-older (Some y) p c i (outstanding h past p c i) f ∙ o)
    ]

-- the answer to the exclusive store under a name stays where another name is issued
pub failed_issued : (past : Trace) (y : Transaction) (x : Transaction) → has_name y x.port Read x.id ≡ false
    → (is_exclusive_store x && is_some_and (if has_name y x.port Read x.id then None else passed_at_grant past x.port x.id) not) ≡ has_failed past x
failed_issued past y x other = rw other refl

-- the other name is that of an outstanding read
pub other_name : (h : Header) (past : Trace) (y : Transaction) (p i : ℕ) (x : Transaction) → outstanding h past p Read i ≡ Some x → has_name y p Read i ≡ false
    → has_name y x.port Read x.id ≡ false
other_name h past y p i x o other = let name = outstanding-name h past p Read i x o in rw (name.port, name.id) other

-- the count of transfers begins anew for the name of the read
pub named_read : (past : Trace) (q j addr snoop dom bar : ℕ) (lock : Bool) (p i : ℕ) (b : Bool)
    → has_name (read_issued past q j addr snoop dom bar lock) p Read i ≡ b → (nat_eq p q && nat_eq i j) ≡ b
named_read past q j addr snoop dom bar lock p i b e =
    let same : (nat_eq p q && nat_eq i j) ≡ ((nat_eq q p && true) && nat_eq j i) = grind (arith, nat_tests) in same ∙ e

-- Two names of one transaction.
pub record OneName (p : ℕ) (c : Channel) (i q : ℕ) (d : Channel) (j : ℕ) : Type 0 where
  pub port : p ≡ q
  pub chan : c ≡ d
  pub id : i ≡ j

module _ (past : Trace) where
  pub one_name : (p q : ℕ) (c d : Channel) (i j : ℕ) (x y : Transaction)
      → transaction_of past p c i ≡ Some x → transaction_of past q d j ≡ Some y → x.place ≡ y.place → OneName p c i q d j
  one_name p q c d i j x y a b e =
      let one = same_place past p q c d i j x y a b e in
      let n = transaction_of-name past p c i x a in
      let m : Named x q d j = rw one (transaction_of-name past q d j y b) in
      record { port = sym n.port ∙ m.port; chan = sym n.chan ∙ m.chan; id = sym n.id ∙ m.id }

  -- a write is no read
  pub write_apart : (p q i j : ℕ) (x z : Transaction) → transaction_of past p Read i ≡ Some x → transaction_of past q Write j ≡ Some z → z.place ≢ x.place
  write_apart p q i j x z a b e = let chan = (one_name q p Write Read j i z x b a e).chan in cc

  -- the transaction that an acknowledge belongs to is the one under the identifier that waits next
  pub record IsNext (q : ℕ) (c : Channel) (y : Transaction) : Type 0 where
    pub id : ℕ
    pub next : next_complete past q c ≡ Some id
    pub named : transaction_of past q c id ≡ Some y

  pub acknowledged_is : (q : ℕ) (c : Channel) (y : Transaction) → acknowledged past q c ≡ Some y → IsNext q c y
  acknowledged_is q c y e = under (next_complete past q c) refl e
    where
      under : (o : Option ℕ) → next_complete past q c ≡ o → transaction_under past q c o ≡ Some y → IsNext q c y
      under None is e = cc
      under (Some id) is e = record { id = id; next = is; named = e }

-- the transaction that a transfer ends is the read of a port that is no ACE port
pub ends_lite : (h : Header) (past : Trace) (q j resp : ℕ) (last : Bool) (word : ℕ) (z : Transaction) → ended h past (R q j resp last word) ≡ Some z
    → (is_ace h q ≡ false) × (transaction_of past q Read j ≡ Some z)
ends_lite h past q j resp last word z e = lite last (is_ace h q) e
  where
    lite : (l b : Bool) → (if l && not b then transaction_of past q Read j else None) ≡ Some z → (b ≡ false) × (transaction_of past q Read j ≡ Some z)
    lite true false e = (refl, e)
    lite l b e = cc

-- and so is the port of the write that a B ends
pub ends_lite_write : (h : Header) (past : Trace) (q j resp : ℕ) (z : Transaction) → ended h past (B q j resp) ≡ Some z
    → (is_ace h q ≡ false) × (transaction_of past q Write j ≡ Some z)
ends_lite_write h past q j resp z e = none_if-is (is_ace h q) (transaction_of past q Write j) z e

-- an outstanding transaction is so by its own name
pub outstanding_own : (h : Header) (past : Trace) (p : ℕ) (c : Channel) (i : ℕ) (x : Transaction)
    → outstanding h past p c i ≡ Some x → outstanding h past x.port x.chan x.id ≡ Some x
outstanding_own h past p c i x o = at_name (outstanding h past) x p c i (outstanding-name h past p c i x o) ∙ o
