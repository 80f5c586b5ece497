-- What a line read is that is no exclusive store, and which rules about one port look at an R.
use Rattle.std.proofs.Common.{◌≡◌, ℕ, Bool, true, false, not, ◌&&◌, nat_lt, if◌then◌else◌, Option, Some, None, is_none, option_map, option_and_then, refl, ap, subst, ◌∙◌}
use Rattle.ace_portck.proofs.Terms.{ArKind, ar_kind_of, low_bits, Read, R, Header, least_of, is_barrier_half, is_dvm_message, is_line_read, is_read_barrier, is_message_part, k18_transfer, port_rules, Trace, is_exclusive_store, is_read, outstanding, read_kind, write_kind, Transaction, unfailing_read, progress_of, Progress}
use Rattle.ace_codes.specs.declared.kind.ArKind.TheVariants as read
use Rattle.ace_portck.specs.Reads.{is_next_beat}

-- The transaction is a line read of the kind, and no exclusive store.
pub record IsUnfailingRead (x : Transaction) (k : ArKind) : Type 0 where
  pub chan : is_read x.chan ≡ true
  pub kind : read_kind x ≡ Some k
  pub line : is_line_read k ≡ true
  pub unfailing : is_exclusive_store x ≡ false

from_test : (b barred : Bool) (j k : ArKind) → (if b && not barred then Some j else None) ≡ Some k → (b ≡ true) × (barred ≡ false) × (j ≡ k)
from_test true false j k is = (refl, refl, cc)
from_test true true j k is = cc
from_test false barred j k is = cc

from_kind : (o : Option ArKind) (barred : Bool) (k : ArKind) → option_and_then (λ j. if is_line_read j && not barred then Some j else None) o ≡ Some k
    → (o ≡ Some k) × (is_line_read k ≡ true) × (barred ≡ false)
from_kind None barred k is = cc
from_kind (Some j) barred k is =
    let t = from_test (is_line_read j) barred j k is in
    (ap Some t.2, subst (λ v. is_line_read v ≡ true) t.2 t.0, t.1)

pub on_reads : (b : Bool) (o : Option ArKind) (k : ArKind) → (if b then o else None) ≡ Some k → b ≡ true
on_reads true o k is = refl
on_reads false o k is = cc

pub unfailing_read-is : (x : Transaction) (k : ArKind) → unfailing_read x ≡ Some k → IsUnfailingRead x k
unfailing_read-is x k is =
    let t = from_kind (read_kind x) (is_exclusive_store x) k is in
    record { chan = on_reads (is_read x.chan) (ar_kind_of x.snoop x.dom x.bar) k t.0; kind = t.0; line = t.1; unfailing = t.2 }

-- it is no write
pub unfailing_read-writes_none : (x : Transaction) (k : ArKind) → IsUnfailingRead x k → write_kind x ≡ None
unfailing_read-writes_none x k p = rw p.chan refl

line-no_barrier : (k : ArKind) → is_line_read k ≡ true → is_read_barrier k ≡ false
line-no_barrier read.Barrier line = cc
line-no_barrier k line = refl

line-no_message : (k : ArKind) → is_line_read k ≡ true → is_dvm_message k ≡ false
line-no_message read.DvmMessage line = cc
line-no_message k line = refl

-- neither half of a barrier nor part of a DVM message
pub unfailing_read-no_half : (x : Transaction) (k : ArKind) → IsUnfailingRead x k → is_barrier_half x ≡ false
unfailing_read-no_half x k p = rw (p.kind, unfailing_read-writes_none x k p, line-no_barrier k p.line) refl

pub unfailing_read-no_message : (x : Transaction) (k : ArKind) → IsUnfailingRead x k → is_message_part x ≡ false
unfailing_read-no_message x k p = rw (p.kind, line-no_message k p.line) refl

-- of K18, how many transfers came, and whether the next is the last
pub beat_transfer : (h : Header) (past : Trace) (p id resp : ℕ) (last : Bool) (word : ℕ) (x : Progress) (k : ArKind)
    → option_map (progress_of h past) (outstanding h past p Read id) ≡ Some x → read_kind x.transaction ≡ Some k
    → k18_transfer h past (R p id resp last word) ≡ is_next_beat x.transfers last k
beat_transfer h past p id resp last word x k out kind = by (outstanding h past p Read id) refl
  where
    by : (o : Option Transaction) → outstanding h past p Read id ≡ o → k18_transfer h past (R p id resp last word) ≡ is_next_beat x.transfers last k
    by None is = let bad : None ≡ Some x = rw is at out in cc
    by (Some y) is =
        let same : Some (progress_of h past y) ≡ Some x = rw is at out in
        let one : progress_of h past y ≡ x = cc in
        let own : read_kind y ≡ Some k = ap (λ (v : Progress). read_kind v.transaction) one ∙ kind in
        let chan = on_reads (is_read y.chan) (ar_kind_of y.snoop y.dom y.bar) k own in
        rw (is, own, ← one, chan) refl

-- the rules about one port that look at an R
pub beat_rules : (h : Header) (past : Trace) (p id resp : ℕ) (last : Bool) (word : ℕ) (x : Progress) (k : ArKind)
    → option_map (progress_of h past) (outstanding h past p Read id) ≡ Some x → read_kind x.transaction ≡ Some k
    → is_none (least_of port_rules h past (R p id resp last word)) ≡ ((nat_lt p h.ports && nat_lt (low_bits resp) 2) && is_next_beat x.transfers last k)
beat_rules h past p id resp last word x k out kind =
    by (nat_lt p h.ports) (nat_lt (low_bits resp) 2) (is_next_beat x.transfers last k) refl refl (beat_transfer h past p id resp last word x k out kind)
  where
    by : (a b d : Bool) → nat_lt p h.ports ≡ a → nat_lt (low_bits resp) 2 ≡ b → k18_transfer h past (R p id resp last word) ≡ d
        → is_none (least_of port_rules h past (R p id resp last word)) ≡ ((a && b) && d)
    by true true true port codes next = rw (port, codes, next) refl
    by true true false port codes next = rw (port, codes, next) refl
    by true false d port codes next = rw (port, codes) refl
    by false b d port codes next = rw port refl
