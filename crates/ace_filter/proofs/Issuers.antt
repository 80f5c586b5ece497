-- What the rules say of the transactions that take and give up lines: their ports are ACE ports, and their lines are known.
use Rattle.std.proofs.Common.{◌≡◌, ℕ, Bool, true, false, ◌&&◌, ◌||◌, nat_eq, length, Option, Some, None, refl, subst, inl, inr}
use Rattle.std.proofs.lemmas.Bool.{and_from, and_parts, cases_Bool, eq-eqb, eqb-true, or_left}
use Rattle.ace_codes.specs.declared.kind.ArKind.TheVariants as read
use Rattle.ace_codes.specs.declared.kind.AwKind.TheVariants as write
use Rattle.ace_model.specs.AddressRules.{k2}
use Rattle.ace_model.specs.Kinds.{is_lite_read, is_lite_write}
use Rattle.ace_model.specs.Trace.{implies}
use Rattle.ace_filter.proofs.Terms.{ArKind, AwKind, Event, Ar, Aw, G, Header, Transaction, Trace, IsAccepted, is_some_and, is_none_or, ar_kind_of, aw_kind_of, is_ace, is_line, is_on, is_line_read, is_known, issued, given, read_kind, write_kind, may_issue_read, may_issue_write}
use Rattle.ace_filter.proofs.Terms.{is_take_of, takes_at, takes_line, drops_line, dropped_line, is_drop_of}
use Rattle.ace_model.proofs.General.Booleans.{implies-at}
use Rattle.ace_model.proofs.General.Options.{is_some_and-is, some_if-is}
use Rattle.ace_model.proofs.Lines.Known.{known-issued}
use Rattle.ace_model.proofs.Rules.Keeps.{accepted_keeps}
use Rattle.ace_model.proofs.Trace.Growth.{IsIssued, named-issued}
use Rattle.ace_model.proofs.Trace.IssuedTransactions.{issued-by-rule}

-- ---- kinds -------------------------------------------------------------------------------------------

take_full : (k : ArKind) → takes_line k ≡ true → is_lite_read k ≡ false
take_full read.ReadShared t = refl
take_full read.ReadClean t = refl
take_full read.ReadNotSharedDirty t = refl
take_full read.ReadUnique t = refl
take_full read.MakeUnique t = refl
take_full k t = cc

take_reads : (k : ArKind) → takes_line k ≡ true → is_line_read k ≡ true
take_reads read.ReadShared t = refl
take_reads read.ReadClean t = refl
take_reads read.ReadNotSharedDirty t = refl
take_reads read.ReadUnique t = refl
take_reads read.MakeUnique t = refl
take_reads k t = cc

drop_full : (k : AwKind) → drops_line k ≡ true → is_lite_write k ≡ false
drop_full write.WriteBack d = refl
drop_full write.WriteEvict d = refl
drop_full write.Evict d = refl
drop_full k d = cc

-- ---- ports -------------------------------------------------------------------------------------------

-- a port that may issue what an ACE-Lite port may not is an ACE port
full-ace : (ace lite : Bool) → (ace || lite) ≡ true → lite ≡ false → ace ≡ true
full-ace true lite may none = refl
full-ace false lite may none = cc

take-may : (h : Header) (p : ℕ) (o : Option ArKind) → is_some_and o (may_issue_read h p) ≡ true → implies (is_some_and o takes_line) (is_ace h p) ≡ true
take-may h p None may = refl
take-may h p (Some k) may =
    elim (cases_Bool (takes_line k)) [
      | inl t ↦ rw (t, full-ace (is_ace h p) (is_lite_read k) may (take_full k t)) refl
      | inr f ↦ rw f refl
    ]

drop-may : (h : Header) (p : ℕ) (o : Option AwKind) → is_some_and o (may_issue_write h p) ≡ true → implies (is_some_and o drops_line) (is_ace h p) ≡ true
drop-may h p None may = refl
drop-may h p (Some k) may =
    elim (cases_Bool (drops_line k)) [
      | inl t ↦ rw (t, full-ace (is_ace h p) (is_lite_write k) may (drop_full k t)) refl
      | inr f ↦ rw f refl
    ]

abbrev taker_is_ace : Header → Transaction → Bool
taker_is_ace h x = implies (is_some_and (read_kind x) takes_line) (is_ace h x.port)

abbrev dropper_is_ace : Header → Transaction → Bool
dropper_is_ace h x = implies (is_some_and (write_kind x) drops_line) (is_ace h x.port)

taker-by-rule : (h : Header) (past : Trace) (e : Event) (n : ℕ) → k2 h past e ≡ true → is_none_or (issued n e) (taker_is_ace h) ≡ true
taker-by-rule h past (Ar p i addr snoop dom bar lock) n k = take-may h p (ar_kind_of snoop dom bar) k
taker-by-rule h past (Aw p i addr snoop dom bar) n k = refl
taker-by-rule h past e n k = refl

dropper-by-rule : (h : Header) (past : Trace) (e : Event) (n : ℕ) → k2 h past e ≡ true → is_none_or (issued n e) (dropper_is_ace h) ≡ true
dropper-by-rule h past (Ar p i addr snoop dom bar lock) n k = refl
dropper-by-rule h past (Aw p i addr snoop dom bar) n k = drop-may h p (aw_kind_of snoop dom bar) k
dropper-by-rule h past e n k = refl

pub dropper-ace : (h : Header) (past : Trace) (x : Transaction) (l : ℕ) → IsAccepted h past → IsIssued past x → is_drop_of x l ≡ true → is_ace h x.port ≡ true
dropper-ace h past x l a i d =
    implies-at (is_some_and (write_kind x) drops_line) (is_ace h x.port)
    (issued-by-rule (dropper_is_ace h) h (λ past e a. dropper-by-rule h past e (length past) (accepted_keeps h past e a).rule_2) past x a i)
    (and_parts (is_some_and (write_kind x) drops_line) _ d).0

-- ---- what takes a line -------------------------------------------------------------------------------

-- The transaction by which an event takes the line.
pub record Taking (h : Header) (past : Trace) (p l : ℕ) : Type 0 where
  pub ace : is_ace h p ≡ true
  pub known : is_known past l ≡ true

named-taking : (h : Header) (past : Trace) (p l : ℕ) (x : Transaction) → IsAccepted h past → IsIssued past x
    → (nat_eq x.port p && is_take_of x l) ≡ true → Taking h past p l
named-taking h past p l x a i t =
    let parts = and_parts (nat_eq x.port p) (is_take_of x l) t in
    let kind = and_parts (is_some_and (read_kind x) takes_line) (nat_eq x.addr l) parts.1 in
    let k = is_some_and-is (read_kind x) takes_line kind.0 in
    let line : is_some_and (read_kind x) is_line_read ≡ true = rw k.1 (take_reads k.0 k.2) in
    let on : is_on x l ≡ true = and_from (is_line x) (nat_eq x.addr l) (or_left (is_some_and (read_kind x) is_line_read) _ line) kind.1 in
    record {
      ace = subst (λ q. is_ace h q ≡ true) (eqb-true x.port p parts.0)
          (implies-at (is_some_and (read_kind x) takes_line) (is_ace h x.port)
          (issued-by-rule (taker_is_ace h) h (λ past e a. taker-by-rule h past e (length past) (accepted_keeps h past e a).rule_2) past x a i) kind.0);
      known = known-issued past x l i on;
    }

pub taking : (h : Header) (past : Trace) (e : Event) (p l : ℕ) → IsAccepted h past → takes_at past e p l ≡ true → Taking h past p l
taking h past e p l a t =
    let x = is_some_and-is (given past e) (λ x. nat_eq x.port p && is_take_of x l) t in
    named-taking h past p l x.0 a (given-issued e x.0 x.1) x.2
  where
    given-issued : (e : Event) (x : Transaction) → given past e ≡ Some x → IsIssued past x
    given-issued (G q c i) x is = named-issued past q c i x is
    given-issued e x is = cc

-- the line that the last write under an identifier gives up
pub dropped-is : (o : Option Transaction) (l : ℕ) → dropped_line o ≡ Some l → (x : Transaction) × (o ≡ Some x) × (is_drop_of x l ≡ true)
dropped-is None l is = cc
dropped-is (Some x) l is =
    let s = some_if-is (is_some_and (write_kind x) drops_line) x.addr l is in
    (x, refl, and_from _ (nat_eq x.addr l) s.0 (eq-eqb x.addr l s.1))
