-- What an AR or AW asks of each share, and what one without a line leaves of the lines.
use Rattle.std.proofs.Common.{◌≡◌, ◌<◌, ◌-◌, ◌^◌, ◌≤◌, ◌&&◌, ◌||◌, ℕ, Bool, true, false, not, if◌then◌else◌, nat_le, Option, Some, None, length, refl, sym, ap, subst, ◌∙◌, arith}
use Rattle.ace_check.proofs.Terms.{IsAccepted, IssuesHalf, Shares, PortCheck, SysCheck, SharesTell, Recording, MayApply, Stands, IsRoomy, after, IsHeard, Fine, ar_kind_of, aw_kind_of, ArKind, AwKind, Write, Event, Ac, Ar, Aw, Header, Transaction, least_broken, least_of, is_no_snoop, k1, k2, k3, k4, k5, k7, k9, k10, may_issue_read, may_issue_write, is_barrier_half, is_line_read, is_line_write, is_no_snoop_read, is_no_snoop_write, may_be_exclusive, is_known, known_lines, k38, lesser, port_rules, line_rules, system_rules, Trace, implies, is_some_and, option_filter, is_line, issued, line_in, goes_over_within}
use Rattle.ace_codes.specs.declared.kind.ArKind.TheVariants as read
use Rattle.ace_codes.specs.declared.kind.AwKind.TheVariants as write
use Rattle.ace_model.proofs.General.Options.{Some-injective}
use Rattle.ace_model.proofs.Trace.Outstanding.{write_issued}
use Rattle.ace_portck.proofs.BarrierAddresses.{read_half-kind, write_half-kind}
use Rattle.ace_portck.proofs.ReadAddresses.{read_of}
use Rattle.ace_lineck.proofs.AllLines.{unchanged}
use Rattle.ace_model.proofs.Rules.Keeps.{accepted_keeps}
use Rattle.ace_sysck.specs.Stands as system
use Rattle.ace_check.proofs.Steps.{least_with}
use Rattle.ace_check.proofs.WhatComes.{heard-by, lesser-none, of-two, ports-first}

abbrev write_of : ℕ → ℕ → ℕ → ℕ → ℕ → ℕ → ℕ → Transaction
write_of place p i addr snoop dom bar = record { place = place; port = p; chan = Write; id = i; addr = addr; snoop = snoop; dom = dom; bar = bar; lock = false }

-- where the system says nothing, the lesser of the rules about its port and its line is the least
pub lesser-of-two : (h : Header) (past : Trace) (e : Event) (a b : Option ℕ) → a ≡ least_of port_rules h past e → b ≡ least_of line_rules h past e
    → None ≡ least_of system_rules h past e → lesser a b ≡ least_broken h past e
lesser-of-two h past e a b p l s = ap (lesser a) (sym (lesser-none b)) ∙ least_with h past e a b None p l s

-- ---- a transaction with a line ----

-- it names one too many where its line isn't known and all are
pub line-over : (most : ℕ) (past : Trace) (e : Event) (x : Transaction) → issued (length past) e ≡ Some x → is_line x ≡ true
    → goes_over_within most past e ≡ (not (is_known past x.addr) && nat_le most (length (known_lines past)))
line-over most past e x new on = rw (new, on) refl

-- by its codes
pub read-on_line : (place p i addr snoop dom bar : ℕ) (lock : Bool) (k : ArKind) → ar_kind_of snoop dom bar ≡ Some k → is_line_read k ≡ true
    → is_line (read_of place p i addr snoop dom bar lock) ≡ true
read-on_line place p i addr snoop dom bar lock k kind on = rw (kind, on) refl

pub write-on_line : (past : Trace) (p i addr snoop dom bar : ℕ) (k : AwKind) → aw_kind_of snoop dom bar ≡ Some k → is_line_write k ≡ true
    → is_line (write_issued past p i addr snoop dom bar) ≡ true
write-on_line past p i addr snoop dom bar k kind on = rw (kind, on) refl

-- and is of a line that no cache holds by its kind
pub read-unshared : (place p i addr snoop dom bar : ℕ) (lock : Bool) (k : ArKind) → ar_kind_of snoop dom bar ≡ Some k
    → is_no_snoop (read_of place p i addr snoop dom bar lock) ≡ is_no_snoop_read k
read-unshared place p i addr snoop dom bar lock k kind = ap (λ o. is_some_and o is_no_snoop_read || false) kind ∙ or-false (is_no_snoop_read k)
  where
    or-false : (b : Bool) → (b || false) ≡ b
    or-false true = refl
    or-false false = refl

pub write-unshared : (past : Trace) (p i addr snoop dom bar : ℕ) (k : AwKind) → aw_kind_of snoop dom bar ≡ Some k
    → is_no_snoop (write_issued past p i addr snoop dom bar) ≡ is_no_snoop_write k
write-unshared past p i addr snoop dom bar k kind = ap (λ o. is_some_and o is_no_snoop_write) kind

-- ---- one without a line ----

-- it names none too many
lineless-over : (most : ℕ) (past : Trace) (e : Event) (x : Transaction) → issued (length past) e ≡ Some x → is_line x ≡ false → goes_over_within most past e ≡ false
lineless-over most past e x new off = rw (new, off) refl

-- what is so of ARs and AWs is so of each event that issues a transaction
each-issue : (P : Event → Transaction → Type 0) (past : Trace)
    → ((p i addr snoop dom bar : ℕ) (lock : Bool) → P (Ar p i addr snoop dom bar lock) (read_of (length past) p i addr snoop dom bar lock))
    → ((p i addr snoop dom bar : ℕ) → P (Aw p i addr snoop dom bar) (write_issued past p i addr snoop dom bar))
    → (e : Event) (x : Transaction) → issued (length past) e ≡ Some x → P e x
each-issue P past reads writes (Ar p i addr snoop dom bar lock) x new =
    subst (P (Ar p i addr snoop dom bar lock)) (Some-injective (read_of (length past) p i addr snoop dom bar lock) x new) (reads p i addr snoop dom bar lock)
each-issue P past reads writes (Aw p i addr snoop dom bar) x new =
    subst (P (Aw p i addr snoop dom bar)) (Some-injective (write_issued past p i addr snoop dom bar) x new) (writes p i addr snoop dom bar)
each-issue P past reads writes e x new = let bad : None ≡ Some x = new in cc

-- no rule about a line is broken by it, and it is of no line
pub lineless-keeps : (h : Header) (past : Trace) (e : Event) (x : Transaction) → issued (length past) e ≡ Some x → is_line x ≡ false → least_of line_rules h past e ≡ None
lineless-keeps h past =
    each-issue (λ e x. is_line x ≡ false → least_of line_rules h past e ≡ None) past (λ p i addr snoop dom bar lock off. rw off refl) (λ p i addr snoop dom bar off. rw off refl)

pub lineless-off : (h : Header) (past : Trace) (e : Event) (x : Transaction) → issued (length past) e ≡ Some x → is_line x ≡ false → line_in h past e ≡ None
lineless-off h past =
    each-issue (λ e x. is_line x ≡ false → line_in h past e ≡ None) past (λ p i addr snoop dom bar lock off. rw off refl) (λ p i addr snoop dom bar off. rw off refl)

line-exclusive : (k : ArKind) → is_line_read k ≡ false → may_be_exclusive k ≡ false
line-exclusive read.Barrier off = refl
line-exclusive read.DvmMessage off = refl
line-exclusive read.DvmComplete off = refl
line-exclusive k off = cc

no-exclusive : (o : Option ArKind) → (is_some_and o is_line_read || false) ≡ false → is_some_and o may_be_exclusive ≡ false
no-exclusive None off = refl
no-exclusive (Some k) off = line-exclusive k (left (is_line_read k) off)
  where
    left : (b : Bool) → (b || false) ≡ false → b ≡ false
    left true off = cc
    left false off = refl

locks-none : (l b c : Bool) → c ≡ false → implies l (b && c) ≡ true → l ≡ false
locks-none false b c off kept = refl
locks-none true false c off kept = cc
locks-none true true true off kept = cc
locks-none true true false off kept = cc

-- where it keeps K7 its lock is 0
pub lineless-unlocked : (h : Header) (past : Trace) (e : Event) (x : Transaction) → issued (length past) e ≡ Some x → is_line x ≡ false → k7 h past e ≡ true → x.lock ≡ false
lineless-unlocked h past =
    each-issue (λ e x. is_line x ≡ false → k7 h past e ≡ true → x.lock ≡ false) past
    (λ p i addr snoop dom bar lock off kept. locks-none lock _ _ (no-exclusive (ar_kind_of snoop dom bar) off) kept)
    (λ p i addr snoop dom bar off kept. refl)

-- half of a barrier has none
pub half-off : (past : Trace) (e : Event) (x : Transaction) → issued (length past) e ≡ Some x → is_barrier_half x ≡ true → is_line x ≡ false
half-off past =
    each-issue (λ e x. is_barrier_half x ≡ true → is_line x ≡ false) past
    (λ p i addr snoop dom bar lock half. let kind = read_half-kind (length past) p i addr snoop dom bar lock half in rw kind refl)
    (λ p i addr snoop dom bar half. let kind = write_half-kind past p i addr snoop dom bar half in rw kind refl)

-- half of a barrier
pub half-issued : (h : Header) (past : Trace) (e : Event) (x : Transaction) → issued (length past) e ≡ Some x → is_barrier_half x ≡ true → IsAccepted h past
    → least_broken h past e ≡ None → IssuesHalf past e x
half-issued h past e x new half accepted fine =
    record { issues = new; half = half; unlocked = lineless-unlocked h past e x new (half-off past e x new half) (accepted_keeps h past e (accepted, fine)).rule_7 }

-- it leaves the lines as they are
pub heard-lineless : (s : Shares) (p : PortCheck) (y : SysCheck) (e : Event) → ((h : Header) (past : Trace) → SharesTell s h past → None ≡ least_broken h past e)
    → ((r : Recording) → MayApply s.ports r e → Stands p (after r e)) → ((n : ℕ) → IsRoomy n s.ports → IsRoomy n p) → ((q addr snoop : ℕ) → e ≡ Ac q addr snoop → ⊥)
    → ((r : Recording) → SharesTell s r.header r.past → least_broken r.header r.past e ≡ None → length r.past < 2 ^ 64 - 1
    → (x : Transaction) × (issued (length r.past) e ≡ Some x) × (is_line x ≡ false) × system.Stands y (after r e))
    → ((past : Trace) → system.IsRoomy 4096 past s.system → system.IsRoomy 4096 past y) → IsHeard s e (record { most = s.most; ports = p; lines = s.lines; system = y }) Fine
heard-lineless s p y e least hear room other tells system =
    heard-by s (record { most = s.most; ports = p; lines = s.lines; system = y }) e refl least hear room other
    (λ r tell fine few.
    let t = tells r tell fine few in
    let none = lineless-off r.header r.past e t.0 t.1 t.2 in
    (lineless-over s.most r.past e t.0 t.1 t.2, unchanged s.lines r e tell.lines fine none, t.3))
    (λ past roomy. roomy) system

-- ---- which rules the ports may name of it ----

abbrev first_of : ℕ → Bool → Bool → Bool → Bool → Bool → Bool → Option ℕ
first_of n a b c d e f =
    if a then (if b then (if c then (if d then (if e then (if f then None else Some n) else Some 5) else Some 4) else Some 3) else Some 2) else Some 1

at-most : (n : ℕ) (a b c d e f : Bool) (k : ℕ) → 5 ≤ n → Some k ≡ first_of n a b c d e f → k ≤ n
at-most n false b c d e f k le is = let same : k ≡ 1 = cc in omega (arith, le, same)
at-most n true false c d e f k le is = let same : k ≡ 2 = cc in omega (arith, le, same)
at-most n true true false d e f k le is = let same : k ≡ 3 = cc in omega (arith, le, same)
at-most n true true true false e f k le is = let same : k ≡ 4 = cc in omega (arith, le, same)
at-most n true true true true false f k le is = let same : k ≡ 5 = cc in omega (arith, le, same)
at-most n true true true true true false k le is = let same : k ≡ n = cc in omega (arith, same)
at-most n true true true true true true k le is = let bad : Some k ≡ None = is in cc

-- a kind that does not pass the test
pub filtered-off : {A : Type 0} (test : A → Bool) (o : Option A) (k : A) → o ≡ Some k → option_filter test o ≡ None → test k ≡ false
filtered-off test o k is none = by (test k) refl
  where
    by : (b : Bool) → test k ≡ b → test k ≡ false
    by true t = let bad : Some k ≡ None = rw (is, t) at none in cc
    by false f = f

no-read : (o : Option ArKind) → option_filter is_line_read o ≡ None → (is_some_and o is_line_read || false) ≡ false
no-read None none = refl
no-read (Some k) none = let off = filtered-off is_line_read (Some k) k refl none in rw off refl

no-write : (o : Option AwKind) → option_filter is_line_write o ≡ None → is_some_and o is_line_write ≡ false
no-write None none = refl
no-write (Some k) none = filtered-off is_line_write (Some k) k refl none

pub lineless_ar-keeps : (h : Header) (past : Trace) (p i addr snoop dom bar : ℕ) (lock : Bool) → option_filter is_line_read (ar_kind_of snoop dom bar) ≡ None
    → least_of line_rules h past (Ar p i addr snoop dom bar lock) ≡ None
lineless_ar-keeps h past p i addr snoop dom bar lock none =
    lineless-keeps h past (Ar p i addr snoop dom bar lock) (read_of (length past) p i addr snoop dom bar lock) refl (no-read (ar_kind_of snoop dom bar) none)

pub lineless_aw-keeps : (h : Header) (past : Trace) (p i addr snoop dom bar : ℕ) → option_filter is_line_write (aw_kind_of snoop dom bar) ≡ None
    → least_of line_rules h past (Aw p i addr snoop dom bar) ≡ None
lineless_aw-keeps h past p i addr snoop dom bar none =
    lineless-keeps h past (Aw p i addr snoop dom bar) (write_issued past p i addr snoop dom bar) refl (no-write (aw_kind_of snoop dom bar) none)

-- an AR without a line breaks a rule about its port first
pub lineless_ar-first : (h : Header) (past : Trace) (p i addr snoop dom bar : ℕ) (lock : Bool) (k : ℕ) → option_filter is_line_read (ar_kind_of snoop dom bar) ≡ None
    → Some k ≡ least_of port_rules h past (Ar p i addr snoop dom bar lock) → least_broken h past (Ar p i addr snoop dom bar lock) ≡ Some k
lineless_ar-first h past p i addr snoop dom bar lock k none ports =
    let e : Event = Ar p i addr snoop dom bar lock in
    let most = at-most 7 (k1 h past e) (k2 h past e) (k3 h past e) (k4 h past e) (k5 h past e) (k7 h past e) k (omega arith) ports in
    ports-first h past e k ports
    (λ m is. let bad : None ≡ Some m = sym (lineless_ar-keeps h past p i addr snoop dom bar lock none) ∙ is in cc)
    (λ m is. let least = (of-two 9 38 (k9 h past e) (k38 h past e) m (omega arith) (sym is)).0 in omega (arith, most, least))

-- and so does an AW, of which K10 says nothing
write-apart : (h : Header) (past : Trace) (p i addr snoop dom bar : ℕ) → option_filter is_line_write (aw_kind_of snoop dom bar) ≡ None → k10 h past (Aw p i addr snoop dom bar) ≡ true
write-apart h past p i addr snoop dom bar = by (aw_kind_of snoop dom bar) refl
  where
    by : (o : Option AwKind) → aw_kind_of snoop dom bar ≡ o → option_filter is_line_write o ≡ None → k10 h past (Aw p i addr snoop dom bar) ≡ true
    by None is none = rw is refl
    by (Some write.Barrier) is none = rw is refl
    by (Some k) is none = cc

pub lineless_aw-first : (h : Header) (past : Trace) (p i addr snoop dom bar k : ℕ) → option_filter is_line_write (aw_kind_of snoop dom bar) ≡ None
    → Some k ≡ least_of port_rules h past (Aw p i addr snoop dom bar) → least_broken h past (Aw p i addr snoop dom bar) ≡ Some k
lineless_aw-first h past p i addr snoop dom bar k none ports =
    let e : Event = Aw p i addr snoop dom bar in
    let kept : Some k ≡ first_of 5 (k1 h past e) (k2 h past e) (k3 h past e) (k4 h past e) (k5 h past e) true =
    subst (λ b. Some k ≡ first_of 10 (k1 h past e) (k2 h past e) (k3 h past e) (k4 h past e) (k5 h past e) b) (write-apart h past p i addr snoop dom bar none) ports in
    let most = at-most 5 (k1 h past e) (k2 h past e) (k3 h past e) (k4 h past e) (k5 h past e) true k (omega arith) kept in
    ports-first h past e k ports
    (λ m is. let bad : None ≡ Some m = sym (lineless_aw-keeps h past p i addr snoop dom bar none) ∙ is in cc)
    (λ m is. let least = (of-two 9 38 (k9 h past e) (k38 h past e) m (omega arith) (sym is)).0 in omega (arith, most, least))

-- ---- which kind it has where it keeps K2 ----

kept-2 : (a b : Bool) (rest : Option ℕ) → (if a then (if b then rest else Some 2) else Some 1) ≡ None → b ≡ true
kept-2 true true rest none = refl
kept-2 false b rest none = cc
kept-2 true false rest none = cc

pub keeps-2 : (h : Header) (past : Trace) (e : Event) → least_of port_rules h past e ≡ None → k2 h past e ≡ true
keeps-2 h past e ports = kept-2 (k1 h past e) (k2 h past e) _ ports

has-kind : {A : Type 0} (o : Option A) (test : A → Bool) → o ≡ None → is_some_and o test ≡ true → ⊥
has-kind o test none some = let bad : is_some_and None test ≡ true = subst (λ v. is_some_and v test ≡ true) none some in cc

-- a read has one
pub ar-has_kind : (h : Header) (past : Trace) (p i addr snoop dom bar : ℕ) (lock : Bool) → ar_kind_of snoop dom bar ≡ None → k2 h past (Ar p i addr snoop dom bar lock) ≡ true → ⊥
ar-has_kind h past p i addr snoop dom bar lock none known = has-kind (ar_kind_of snoop dom bar) (may_issue_read h p) none known

-- a write without a line is half of a barrier
left-write : (o : Option AwKind) (test : AwKind → Bool) → option_filter is_line_write o ≡ None → is_some_and o test ≡ true → o ≡ Some write.Barrier
left-write None test none some = cc
left-write (Some write.Barrier) test none some = refl
left-write (Some k) test none some = cc

pub lineless_aw-kind : (h : Header) (past : Trace) (p i addr snoop dom bar : ℕ) → option_filter is_line_write (aw_kind_of snoop dom bar) ≡ None
    → k2 h past (Aw p i addr snoop dom bar) ≡ true → aw_kind_of snoop dom bar ≡ Some write.Barrier
lineless_aw-kind h past p i addr snoop dom bar none known = left-write (aw_kind_of snoop dom bar) (may_issue_write h p) none known

pub write-half : (place p i addr snoop dom bar : ℕ) → aw_kind_of snoop dom bar ≡ Some write.Barrier → is_barrier_half (write_of place p i addr snoop dom bar) ≡ true
write-half place p i addr snoop dom bar kind = rw kind refl

-- a read without a line that is none of DVM
pub left-half : (k : ArKind) → is_line_read k ≡ false → (k ≡ read.DvmMessage → ⊥) → (k ≡ read.DvmComplete → ⊥) → k ≡ read.Barrier
left-half read.Barrier off message completion = refl
left-half read.DvmMessage off message completion = absurd (message refl)
left-half read.DvmComplete off message completion = absurd (completion refl)
left-half k off message completion = cc
