-- A line that the trace has come upon is known: a line transaction names it.
use Rattle.std.proofs.Common.{◌≡◌, ℕ, true, false, Bool, ◌&&◌, nat_eq, [], ◌∷◌, length, Option, Some, None, slice_get, sym, ap, subst, ◌∙◌, inl, inr}
use Rattle.std.proofs.lemmas.Bool.{and_parts, or_right, cases_Bool, eqb-true}
use Rattle.ace_model.specs.Lines.{is_known}
use Rattle.ace_model.proofs.Terms.{Event, Ac, Channel, Header, Transaction, Snoop, Trace, IsAccepted, is_some_and, is_invalid, is_on, issued, outstanding, acknowledged, granted, state_of, next_write, data_writes, option_filter, is_data_write_of}
use Rattle.ace_model.proofs.Terms.{snoop_at, snoops_of, snoops_a_line, is_snoop_on, may_snoop, may_snoop_for, was_snooped, has_write_data, write_kind}
use Rattle.ace_model.proofs.General.Booleans.{implies-at}
use Rattle.ace_model.proofs.General.Lists.{slice_get-more}
use Rattle.ace_model.proofs.General.Options.{Some-injective, some_if-is, is_some_and-is}
use Rattle.ace_model.proofs.Trace.Growth.{IsIssued, issued-new, issued-old, named-issued, some_issued-found, some_issued-is}
use Rattle.ace_model.proofs.Trace.Issued.{outstanding-named}
use Rattle.ace_model.proofs.Trace.Outstanding.{acknowledged_is}
use Rattle.ace_model.proofs.Rules.Keeps.{accepted_keeps}
use Rattle.ace_model.proofs.Holders.Law.{accepted_holds}
use Rattle.ace_model.proofs.Holders.ShareableLines.{held_is_shareable}

pub known-issued : (past : Trace) (x : Transaction) (l : ℕ) → IsIssued past x → is_on x l ≡ true → is_known past l ≡ true
known-issued past x l i on = some_issued-found past (λ y. is_on y l) x.place x i.there on

-- a known line is that of a transaction
pub known-is : (past : Trace) (l : ℕ) → is_known past l ≡ true → (x : Transaction) × IsIssued past x × (is_on x l ≡ true)
known-is past l k = some_issued-is past (λ y. is_on y l) k

pub known-grown : (e : Event) (past : Trace) (l : ℕ) → is_known past l ≡ true → is_known (e ∷ past) l ≡ true
known-grown e past l k = or_right (is_some_and (issued (length past) e) (λ x. is_on x l)) (is_known past l) k

pub known-outstanding : (h : Header) (past : Trace) (p : ℕ) (c : Channel) (i l : ℕ) (x : Transaction) → outstanding h past p c i ≡ Some x → is_on x l ≡ true
    → is_known past l ≡ true
known-outstanding h past p c i l x o on = known-issued past x l (named-issued past p c i x (outstanding-named h past p c i x o)) on

pub known-acknowledged : (past : Trace) (p : ℕ) (c : Channel) (l : ℕ) (x : Transaction) → acknowledged past p c ≡ Some x → is_on x l ≡ true → is_known past l ≡ true
known-acknowledged past p c l x is on =
    let n = acknowledged_is past p c x is in
    known-issued past x l (named-issued past p c n.id x n.named) on

pub known-granted : (h : Header) (past : Trace) → IsAccepted h past → (l : ℕ) (x : Transaction) → granted h past l ≡ Some x → is_known past l ≡ true
known-granted h past a l x g =
    let o = (accepted_holds h past a).grants l x g in
    known-outstanding h past x.port x.chan x.id l x o.0 o.1

-- a line that a port holds
pub known-held : (h : Header) (past : Trace) → IsAccepted h past → (p l : ℕ) → is_invalid (state_of h past p l) ≡ false → is_known past l ≡ true
known-held h past a p l held =
    let s = held_is_shareable h past a p l held in
    known-issued past s.one l s.stands s.on

-- a line that a line snoop of the event names has a granted transaction
pub snooped-granted : (h : Header) (past : Trace) (q addr code : ℕ) → IsAccepted h (Ac q addr code ∷ past) → snoops_a_line code ≡ true
    → (x : Transaction) × (granted h past addr ≡ Some x)
snooped-granted h past q addr code a line =
    let may = implies-at (snoops_a_line code) (may_snoop h past q addr code) (accepted_keeps h past (Ac q addr code) a).rule_13 line in
    let two = and_parts (is_some_and (granted h past addr) (λ y. may_snoop_for past y q code) && _) _ may in
    let x = is_some_and-is (granted h past addr) (λ y. may_snoop_for past y q code) (and_parts (is_some_and (granted h past addr) (λ y. may_snoop_for past y q code)) _ two.0).0 in
    (x.0, x.1)

pub known-snooped : (h : Header) (past : Trace) → IsAccepted h past → (p n l : ℕ) (s : Snoop) → slice_get (snoops_of past p) n ≡ Some s → is_snoop_on s l ≡ true
    → is_known past l ≡ true
known-snooped h [] a p n l s there on = cc
known-snooped h (e ∷ past) a p n l s there on =
    elim (slice_get-more (snoops_of past p) (snoop_at (length past) e p) n s there) [
      | inl old ↦ known-grown e past l (known-snooped h past a.0 p n l s old on)
      | inr new ↦ known-grown e past l (by e a new.1)
    ]
  where
    by : (d : Event) → IsAccepted h (d ∷ past) → snoop_at (length past) d p ≡ Some s → is_known past l ≡ true
    by (Ac q addr code) b is =
        let same = (some_if-is (nat_eq p q) (record { place = length past; addr = addr; snoop = code }) s is).1 in
        let parts = and_parts (snoops_a_line code) (nat_eq addr l) (subst (λ (v : Snoop). is_snoop_on v l ≡ true) (sym same) on) in
        let x = snooped-granted h past q addr code b parts.0 in
        known-granted h past b.0 l x.0 (ap (granted h past) (sym (eqb-true addr l parts.1)) ∙ x.1)
    by d b is = cc

data_write_in-is : (o : Option Transaction) (p : ℕ) (y : Transaction) → option_filter (is_data_write_of p) o ≡ Some y → (o ≡ Some y) × (y.port ≡ p)
data_write_in-is None p y w = cc
data_write_in-is (Some x) p y w =
    let s = some_if-is (nat_eq x.port p && is_some_and (write_kind x) has_write_data) x y w in
    (ap Some s.1, ap (λ (v : Transaction). v.port) (sym s.1) ∙ eqb-true x.port p (and_parts (nat_eq x.port p) _ s.0).0)

-- a write with data was issued, by its port
pub data_write-issued : (past : Trace) (p k : ℕ) (x : Transaction) → slice_get (data_writes past p) k ≡ Some x → IsIssued past x × (x.port ≡ p)
data_write-issued [] p k x there = cc
data_write-issued (e ∷ past) p k x there =
    elim (slice_get-more (data_writes past p) (option_filter (is_data_write_of p) (issued (length past) e)) k x there) [
      | inl old ↦ let i = data_write-issued past p k x old in (issued-old e past x i.0, i.1)
      | inr new ↦ let i = data_write_in-is (issued (length past) e) p x new.1 in (issued-new e past x i.0, i.1)
    ]

pub known-write : (past : Trace) (p l : ℕ) (x : Transaction) → next_write past p ≡ Some x → is_on x l ≡ true → is_known past l ≡ true
known-write past p l x is on = known-issued past x l (data_write-issued past p _ x is).0 on
