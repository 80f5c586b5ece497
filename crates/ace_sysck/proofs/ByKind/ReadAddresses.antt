-- The AR of a line read, whatever its lock is: it breaks no rule of the share, and moves the results alone. What moves them at most.
use Rattle.std.proofs.Common.{◌≡◌, ◌<◌, ◌-◌, ◌^◌, ℕ, Bool, true, false, ◌&&◌, if◌then◌else◌, length, Option, Some, None, slice_set, refl, ap}
use Rattle.ace_sysck.proofs.Terms.{ArKind, ar_kind_of, Ar, Aw, least_broken, least_of, begins_well, k9, is_barrier_half, is_dvm_complete, is_line_read, is_dvm_completion, is_message_part, k38, owes_completion, system_rules, implies, issued, Transaction, Event, Header, Trace, Recording, after, target_of, Barriers, Results, SysCheck, BarriersStand, begun_in, is_issue, ResultsStand, slot_of, Stands, IsStep}
use Rattle.ace_codes.specs.declared.kind.ArKind.TheVariants as read
use Rattle.ace_model.proofs.General.Options.{Some-injective}
use Rattle.ace_model.proofs.Trace.Outstanding.{write_issued}
use Rattle.ace_portck.proofs.LineReads.{IsUnfailingRead, unfailing_read-no_half, unfailing_read-no_message}
use Rattle.ace_portck.proofs.ReadAddresses.{read_of, unlocked-unfailing}
use Rattle.ace_sysck.proofs.BarrierSteps.{barriers_other_issue}
use Rattle.ace_sysck.proofs.Forwarding.InboxHears.{inboxes_other_issue}
use Rattle.ace_sysck.proofs.MessageSteps.{messages_other_issue}
use Rattle.ace_sysck.proofs.ResultSteps.{results_ar}
use Rattle.ace_sysck.proofs.Steps.{port_within}
use Rattle.ace_sysck.proofs.SyncSteps.{syncs_other_issue}
use Rattle.ace_sysck.proofs.Unmoved.{system_issued}

line-no_completion : (k : ArKind) → is_line_read k ≡ true → is_dvm_complete k ≡ false
line-no_completion read.DvmComplete line = cc
line-no_completion k line = refl

-- no line read is a DVM Complete
pub line_read-no_completion : (x : Transaction) (k : ArKind) → IsUnfailingRead x k → is_dvm_completion x ≡ false
line_read-no_completion x k p = rw (p.kind, line-no_completion k p.line) refl

pub idle : (b c : Bool) → b ≡ false → implies b c ≡ true
idle false c f = refl
idle true c f = cc

pub all-three : (a b c : Bool) → a ≡ true → b ≡ true → c ≡ true → (a && b && c) ≡ true
all-three true true true is also too = refl
all-three false b c is also too = cc
all-three true false c is also too = cc
all-three true true false is also too = cc

abbrev pub least_of_two : Bool → Bool → Option ℕ
least_of_two a b = if a then if b then None else Some 38 else Some 9

-- of an event that issues a transaction only K9 and K38 can be broken
pub issue-rules : (h : Header) (past : Trace) (e : Event) (x : Transaction) → issued (length past) e ≡ Some x
    → least_of system_rules h past e ≡ least_of_two (begins_well past x) (owes_completion past x)
issue-rules h past (Ar p i addr snoop dom bar lock) x is =
    ap (λ z. least_of_two (begins_well past z) (owes_completion past z)) (Some-injective (read_of (length past) p i addr snoop dom bar lock) x is)
issue-rules h past (Aw p i addr snoop dom bar) x is =
    ap (λ z. least_of_two (begins_well past z) (owes_completion past z)) (Some-injective (write_issued past p i addr snoop dom bar) x is)
issue-rules h past e x is = let bad : None ≡ Some x = is in cc

-- and K9 alone, where K38 is kept
abbrev pub least_of_one : Bool → Option ℕ
least_of_one a = if a then None else Some 9

pub first-rule : (a b : Bool) → b ≡ true → least_of_two a b ≡ least_of_one a
first-rule true true kept = refl
first-rule false b kept = refl
first-rule true false kept = cc

pub two-rules : (a b : Bool) → a ≡ true → b ≡ true → least_of_two a b ≡ None
two-rules true true is also = refl
two-rules false b is also = cc
two-rules true false is also = cc

module _ (h : Header) (past : Trace) (p i addr snoop dom bar : ℕ) (lock : Bool) (k : ArKind) (kind : ar_kind_of snoop dom bar ≡ Some k) (line : is_line_read k ≡ true) where
  abbrev begun : Transaction
  begun = read_of (length past) p i addr snoop dom bar lock

  abbrev unlocked : Transaction
  unlocked = read_of (length past) p i addr snoop dom bar false

  plain : IsUnfailingRead unlocked k
  plain = unlocked-unfailing (length past) p i addr snoop dom bar k kind line

  pub no_half : is_barrier_half begun ≡ false
  no_half = unfailing_read-no_half unlocked k plain

  pub no_part : is_message_part begun ≡ false
  no_part = unfailing_read-no_message unlocked k plain

  pub no_completion : is_dvm_completion begun ≡ false
  no_completion = line_read-no_completion unlocked k plain

  k9-kept : k9 h past (Ar p i addr snoop dom bar lock) ≡ true
  k9-kept = all-three _ _ _ (idle (is_barrier_half begun) _ no_half) (idle (is_message_part begun) _ no_part) (idle (is_dvm_completion begun) _ no_completion)

  k38-kept : k38 h past (Ar p i addr snoop dom bar lock) ≡ true
  k38-kept = idle (is_dvm_completion begun) _ no_completion

  -- it breaks no rule of the share
  pub system-keeps : least_of system_rules h past (Ar p i addr snoop dom bar lock) ≡ None
  system-keeps = two-rules (k9 h past (Ar p i addr snoop dom bar lock)) (k38 h past (Ar p i addr snoop dom bar lock)) k9-kept k38-kept

-- an event that issues a transaction which is no part of a message, and completes none, moves the barriers and the results at most
pub begin-stands : (s : SysCheck) (b : Barriers) (n : Results) (r : Recording) (e : Event) (x : Transaction) → Stands s r → is_issue e ≡ true
    → begun_in e (target_of r.header r.past e) ≡ Some x → is_message_part x ≡ false → is_dvm_completion x ≡ false → x.id < 256
    → least_broken r.header r.past e ≡ None → length r.past < 2 ^ 64 - 1 → BarriersStand (after r e) b → ResultsStand (after r e) n
    → Stands (record s { barriers = b; results = n }) (after r e)
begin-stands s b n r e x st is begins part completion low fine few barriers results =
    let t = target_of r.header r.past e in
    let step : IsStep r e t = record { header = st.ports; accepted = (st.accepted, fine); target = refl; few = few } in
    system_issued s b n s.messages s.inboxes s.syncs r e st fine few is barriers results (messages_other_issue r s.messages e t x refl begins part st.messages)
    (inboxes_other_issue r s.inboxes e t x refl begins low part st.inboxes) (syncs_other_issue r s.syncs e t x step begins part completion st.syncs)

-- one that is no half of a barrier either moves the results at most
pub issue-stands : (s : SysCheck) (n : Results) (r : Recording) (e : Event) (x : Transaction) → Stands s r → is_issue e ≡ true → begun_in e (target_of r.header r.past e) ≡ Some x
    → is_barrier_half x ≡ false → is_message_part x ≡ false → is_dvm_completion x ≡ false → x.id < 256
    → least_broken r.header r.past e ≡ None → length r.past < 2 ^ 64 - 1 → ResultsStand (after r e) n → Stands (record s { results = n }) (after r e)
issue-stands s n r e x st is begins half part completion low fine few results =
    begin-stands s s.barriers n r e x st is begins part completion low fine few
    (barriers_other_issue r s.barriers e (target_of r.header r.past e) x refl begins half st.barriers) results

-- a line read moves the results alone
pub begun_stands : (s : SysCheck) (n : Results) (r : Recording) (p i addr snoop dom bar : ℕ) (lock : Bool) (k : ArKind) → Stands s r
    → ar_kind_of snoop dom bar ≡ Some k → is_line_read k ≡ true → least_broken r.header r.past (Ar p i addr snoop dom bar lock) ≡ None → length r.past < 2 ^ 64 - 1 → i < 256
    → n.passed.items ≡ slice_set s.results.passed.items (slot_of p i) None → Stands (record s { results = n }) (after r (Ar p i addr snoop dom bar lock))
begun_stands s n r p i addr snoop dom bar lock k st kind line fine few low items =
    issue-stands s n r (Ar p i addr snoop dom bar lock) (read_of (length r.past) p i addr snoop dom bar lock) st refl refl
    (no_half r.header r.past p i addr snoop dom bar lock k kind line) (no_part r.header r.past p i addr snoop dom bar lock k kind line)
    (no_completion r.header r.past p i addr snoop dom bar lock k kind line) low fine few
    (results_ar r s.results n p i addr snoop dom bar lock st.results (port_within r.header r.past (Ar p i addr snoop dom bar lock) p (st.accepted, fine) refl) low items)
