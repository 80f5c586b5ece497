-- What the rules say of each transaction that was issued: its port is in the header, that of a write may issue its kind, and the address of a line
-- transaction is that of a line.
use Rattle.std.proofs.Common.{◌≡◌, ℕ, Bool, true, false, ◌||◌, [], ◌∷◌, length, Option, Some, None, is_some, nat_lt, refl, inl, inr, arith, if◌then◌else◌, ◌&&◌}
use Rattle.std.proofs.lemmas.Bool.{and_parts, cases_Bool}
use Rattle.ace_codes.specs.Reads.{ar_kind_of}
use Rattle.ace_codes.specs.declared.kind.AwKind.{AwKind}
use Rattle.ace_codes.specs.declared.kind.AwKind.TheVariants as write
use Rattle.ace_codes.specs.Writes.{aw_kind_of}
use Rattle.ace_event.specs.declared.event.Channel.{Channel}
use Rattle.ace_event.specs.declared.event.Channel.TheVariants.{Read, Write}
use Rattle.ace_event.specs.declared.event.Event.{Event}
use Rattle.ace_event.specs.declared.event.Event.TheVariants.{Ar, Aw}
use Rattle.ace_event.specs.declared.header.Header.{Header}
use Rattle.ace_model.specs.declared.transactions.Transaction.{Transaction}
use Rattle.ace_model.specs.Accepted.{IsAccepted}
use Rattle.ace_model.specs.AddressRules.{k1, k2, may_issue_read, may_issue_write, k3, is_aligned}
use Rattle.ace_model.specs.Kinds.{is_update, is_line_read, is_line_write}
use Rattle.ace_model.specs.Progress.{updates_memory}
use Rattle.ace_model.specs.Trace.{Trace, is_none_or, is_some_and, implies}
use Rattle.ace_model.specs.Transactions.{is_ace, is_read, issued, read_kind, write_kind, is_line, acknowledged, outstanding, transaction_of}
use Rattle.ace_model.proofs.Trace.Outstanding.{acknowledged_is}
use Rattle.ace_model.proofs.Trace.Issued.{outstanding-name, outstanding-named, transaction_of-name}
use Rattle.ace_model.proofs.General.Booleans.{implies-at}
use Rattle.ace_model.proofs.General.Options.{is_none_or-at, is_some_and-is}
use Rattle.ace_model.proofs.Rules.Keeps.{accepted_keeps}
use Rattle.ace_model.proofs.Trace.Growth.{IsIssued, issued-cases, named-issued}

-- what a rule says of each transaction that an event issues is so of each that was issued
pub issued-by-rule : (test : Transaction → Bool) (h : Header) → ((past : Trace) (e : Event) → IsAccepted h (e ∷ past) → is_none_or (issued (length past) e) test ≡ true)
    → (past : Trace) (x : Transaction) → IsAccepted h past → IsIssued past x → test x ≡ true
issued-by-rule test h each [] x a i = let low = i.before in absurd (omega (arith, low))
issued-by-rule test h each (e ∷ past) x a i =
    elim (issued-cases e past x i) [
      | inl new ↦ is_none_or-at (issued (length past) e) test x (each past e a) new
      | inr old ↦ issued-by-rule test h each past x a.0 old
    ]

pub some-none : {A : Type 0} → (o : Option A) (test : A → Bool) → is_some_and o test ≡ true → is_none_or o test ≡ true
some-none None test s = refl
some-none (Some k) test s = s

low-by-rule : (h : Header) (past : Trace) (e : Event) (n : ℕ) → k1 h past e ≡ true → is_none_or (issued n e) (λ x. nat_lt x.port h.ports) ≡ true
low-by-rule h past (Ar p i addr snoop dom bar lock) n k = (and_parts (nat_lt p h.ports) _ k).0
low-by-rule h past (Aw p i addr snoop dom bar) n k = (and_parts (nat_lt p h.ports) _ k).0
low-by-rule h past e n k = refl

kind-by-rule : (h : Header) (past : Trace) (e : Event) (n : ℕ) → k2 h past e ≡ true
    → is_none_or (issued n e) (λ x. is_none_or (write_kind x) (may_issue_write h x.port)) ≡ true
kind-by-rule h past (Ar p i addr snoop dom bar lock) n k = refl
kind-by-rule h past (Aw p i addr snoop dom bar) n k = some-none (aw_kind_of snoop dom bar) (may_issue_write h p) k
kind-by-rule h past e n k = refl

-- the port of a transaction is in the header
pub issuer-low : (h : Header) (past : Trace) (x : Transaction) → IsAccepted h past → IsIssued past x → nat_lt x.port h.ports ≡ true
issuer-low h past x a i =
    issued-by-rule (λ x. nat_lt x.port h.ports) h (λ past e a. low-by-rule h past e (length past) (accepted_keeps h past e a).rule_1) past x a i

writer-may : (h : Header) (past : Trace) (x : Transaction) → IsAccepted h past → IsIssued past x → is_none_or (write_kind x) (may_issue_write h x.port) ≡ true
writer-may h past x a i =
    issued-by-rule (λ x. is_none_or (write_kind x) (may_issue_write h x.port)) h (λ past e a. kind-by-rule h past e (length past) (accepted_keeps h past e a).rule_2) past x a i

by-either : (b : Bool) → (b || false) ≡ true → b ≡ true
by-either true m = refl
by-either false m = cc

update-of-ace : (h : Header) (p : ℕ) (k : AwKind) → is_update k ≡ true → may_issue_write h p k ≡ true → is_ace h p ≡ true
update-of-ace h p write.WriteBack u m = by-either (is_ace h p) m
update-of-ace h p write.WriteClean u m = by-either (is_ace h p) m
update-of-ace h p write.WriteEvict u m = by-either (is_ace h p) m
update-of-ace h p k u m = cc

-- the port of a memory update is an ACE port
pub updater-ace : (h : Header) (past : Trace) (x : Transaction) → IsAccepted h past → IsIssued past x → updates_memory x ≡ true → is_ace h x.port ≡ true
updater-ace h past x a i u =
    let k = is_some_and-is (write_kind x) is_update u in
    update-of-ace h x.port k.0 k.2 (is_none_or-at (write_kind x) (may_issue_write h x.port) k.0 (writer-may h past x a i) k.1)

some-of : {A : Type 0} → (o : Option A) (test : A → Bool) → is_some_and o test ≡ true → is_some o ≡ true
some-of None test s = cc
some-of (Some v) test s = refl

abbrev has_kind : Transaction → Bool
has_kind x = if is_read x.chan then is_some (ar_kind_of x.snoop x.dom x.bar) else is_some (aw_kind_of x.snoop x.dom x.bar)

known-by-rule : (h : Header) (past : Trace) (e : Event) (n : ℕ) → k2 h past e ≡ true → is_none_or (issued n e) has_kind ≡ true
known-by-rule h past (Ar p i addr snoop dom bar lock) n k = some-of (ar_kind_of snoop dom bar) (may_issue_read h p) k
known-by-rule h past (Aw p i addr snoop dom bar) n k = some-of (aw_kind_of snoop dom bar) (may_issue_write h p) k
known-by-rule h past e n k = refl

known : (h : Header) (past : Trace) (x : Transaction) → IsAccepted h past → IsIssued past x → has_kind x ≡ true
known h past x a i =
    issued-by-rule has_kind h (λ past e a. known-by-rule h past e (length past) (accepted_keeps h past e a).rule_2) past x a i

read-of : (c : Channel) (s d b : ℕ) → c ≡ Read → (if is_read c then is_some (ar_kind_of s d b) else is_some (aw_kind_of s d b)) ≡ true
    → is_some (if is_read c then ar_kind_of s d b else None) ≡ true
read-of Read s d b is k = k
read-of Write s d b is k = cc

write-of : (c : Channel) (s d b : ℕ) → c ≡ Write → (if is_read c then is_some (ar_kind_of s d b) else is_some (aw_kind_of s d b)) ≡ true
    → is_some (if is_read c then None else aw_kind_of s d b) ≡ true
write-of Read s d b is k = cc
write-of Write s d b is k = k

-- each read has a kind, and each write
pub read-known : (h : Header) (past : Trace) (x : Transaction) → IsAccepted h past → IsIssued past x → x.chan ≡ Read → is_some (read_kind x) ≡ true
read-known h past x a i c = read-of x.chan x.snoop x.dom x.bar c (known h past x a i)

pub write-known : (h : Header) (past : Trace) (x : Transaction) → IsAccepted h past → IsIssued past x → x.chan ≡ Write → is_some (write_kind x) ≡ true
write-known h past x a i c = write-of x.chan x.snoop x.dom x.bar c (known h past x a i)

-- ---- lines -------------------------------------------------------------------------------------------

aligned-if : (b : Bool) (addr : ℕ) → (is_none_or (if b then Some addr else None) is_aligned && true) ≡ true → implies (b || false) (is_aligned addr) ≡ true
aligned-if true addr k = (and_parts (is_aligned addr) true k).0
aligned-if false addr k = refl

aligned-by-rule : (h : Header) (past : Trace) (e : Event) (n : ℕ) → k3 h past e ≡ true → is_none_or (issued n e) (λ x. implies (is_line x) (is_aligned x.addr)) ≡ true
aligned-by-rule h past (Ar p i addr snoop dom bar lock) n k = aligned-if (is_some_and (ar_kind_of snoop dom bar) is_line_read) addr k
aligned-by-rule h past (Aw p i addr snoop dom bar) n k =
    let of = aligned-if (is_some_and (aw_kind_of snoop dom bar) is_line_write) addr k in
    elim (cases_Bool (is_some_and (aw_kind_of snoop dom bar) is_line_write)) [
      | inl t ↦ rw t (rw t at of)
      | inr f ↦ rw f refl
    ]
aligned-by-rule h past e n k = refl

-- the address of a line transaction is that of a line
pub line-aligned : (h : Header) (past : Trace) (x : Transaction) → IsAccepted h past → IsIssued past x → is_line x ≡ true → is_aligned x.addr ≡ true
line-aligned h past x a i line =
    implies-at (is_line x) (is_aligned x.addr)
    (issued-by-rule (λ x. implies (is_line x) (is_aligned x.addr)) h (λ past e a. aligned-by-rule h past e (length past) (accepted_keeps h past e a).rule_3) past x a i) line

-- ---- names -------------------------------------------------------------------------------------------

-- a transaction that is named, or is to be acknowledged, was issued by the port
pub named-of : (past : Trace) (q : ℕ) (c : Channel) (i : ℕ) (z : Transaction) → transaction_of past q c i ≡ Some z → IsIssued past z × (z.port ≡ q)
named-of past q c i z named = (named-issued past q c i z named, (transaction_of-name past q c i z named).port)

pub acknowledged-of : (past : Trace) (q : ℕ) (c : Channel) (z : Transaction) → acknowledged past q c ≡ Some z → IsIssued past z × (z.port ≡ q)
acknowledged-of past q c z next = let n = acknowledged_is past q c z next in named-of past q c n.id z n.named

-- what is outstanding was issued
pub outstanding-issued : (h : Header) (past : Trace) (q : ℕ) (c : Channel) (i : ℕ) (z : Transaction) → outstanding h past q c i ≡ Some z → IsIssued past z
outstanding-issued h past q c i z o = named-issued past q c i z (outstanding-named h past q c i z o)

-- an outstanding read has a kind, and an outstanding write
pub outstanding-read : (h : Header) (past : Trace) (q i : ℕ) (z : Transaction) → IsAccepted h past → outstanding h past q Read i ≡ Some z
    → is_some (read_kind z) ≡ true
outstanding-read h past q i z a o = read-known h past z a (outstanding-issued h past q Read i z o) (outstanding-name h past q Read i z o).chan

pub outstanding-write : (h : Header) (past : Trace) (q i : ℕ) (z : Transaction) → IsAccepted h past → outstanding h past q Write i ≡ Some z
    → is_some (write_kind z) ≡ true
outstanding-write h past q i z a o = write-known h past z a (outstanding-issued h past q Write i z o) (outstanding-name h past q Write i z o).chan

-- so has one that is to be acknowledged
pub acknowledged-read : (h : Header) (past : Trace) (q : ℕ) (z : Transaction) → IsAccepted h past → acknowledged past q Read ≡ Some z
    → is_some (read_kind z) ≡ true
acknowledged-read h past q z a next =
    let n = acknowledged_is past q Read z next in
    read-known h past z a (named-issued past q Read n.id z n.named) (transaction_of-name past q Read n.id z n.named).chan

pub acknowledged-write : (h : Header) (past : Trace) (q : ℕ) (z : Transaction) → IsAccepted h past → acknowledged past q Write ≡ Some z
    → is_some (write_kind z) ≡ true
acknowledged-write h past q z a next =
    let n = acknowledged_is past q Write z next in
    write-known h past z a (named-issued past q Write n.id z n.named) (transaction_of-name past q Write n.id z n.named).chan
