-- Sorts of events: which exclude each other, and which make up a greater one.
use Rattle.std.proofs.Common.{◌≡◌, ◌+◌, ◌≤◌, Bool, true, false, not, ◌&&◌, ◌||◌, ◌==◌, nat_lt, [], ◌∷◌, length, Option, Some, None, is_some, refl, arith}
use Rattle.std.proofs.lemmas.Bool.{and_parts}
use Rattle.ace_codes.specs.Reads.{ar_kind_of}
use Rattle.ace_codes.specs.Writes.{aw_kind_of}
use Rattle.ace_codes.specs.Snoops.{ac_kind_of}
use Rattle.ace_codes.specs.declared.kind.ArKind.{ArKind}
use Rattle.ace_codes.specs.declared.kind.ArKind.TheVariants as read
use Rattle.ace_codes.specs.declared.kind.SnoopKind.{SnoopKind}
use Rattle.ace_codes.specs.declared.kind.SnoopKind.TheVariants as snoop_kind
use Rattle.ace_event.specs.declared.event.Channel.TheVariants.{Write}
use Rattle.ace_event.specs.declared.event.Event.{Event}
use Rattle.ace_event.specs.declared.event.Event.TheVariants.{Ar, Aw, Ac, L, D, Mem}
use Rattle.ace_event.specs.declared.header.Header.{Header}
use Rattle.ace_model.specs.Accepted.{IsAccepted}
use Rattle.ace_model.specs.Trace.{Trace, is_some_and}
use Rattle.ace_model.specs.Kinds.{is_line_read, is_granted_write, is_dvm_message, is_dvm_complete, is_line_snoop, is_message_snoop, is_complete_snoop}
use Rattle.ace_model.specs.AddressRules.{is_aligned, is_opened_below, opens_memory}
use Rattle.ace_model.proofs.Rules.Keeps.{accepted_keeps}
use Rattle.ace_runs.specs.Acts.{is_act_read, is_load_or_store, is_act}
use Rattle.ace_runs.specs.Counts.{counted, issues, issues_for_operation, issues_completion, issues_granted, issues_part, issues_on, reads_for_operation, is_snoop, snoops_line, forwards_part, says_complete, sets_memory}
use Rattle.ace_runs.proofs.Few.Counting.{one, one-most, counted-one, counted-split, counted-apart}

one-or-not : (b : Bool) → 1 ≡ one (not b) + one b
one-or-not true = refl
one-or-not false = refl

-- ---- transactions ------------------------------------------------------------------------------------

for-operation-or-not : (e : Event) → one (issues e) ≡ one (issues_for_operation e) + one (issues_completion e)
for-operation-or-not (Ar p i addr snoop dom bar lock) = one-or-not (is_some_and (ar_kind_of snoop dom bar) is_dvm_complete)
for-operation-or-not (Aw p i addr snoop dom bar) = refl
for-operation-or-not _ = refl

pub issues-split : (past : Trace) → counted issues past ≡ counted issues_for_operation past + counted issues_completion past
issues-split past = counted-split issues issues_for_operation issues_completion past for-operation-or-not

read-sorts : (k : Option ArKind) → one (is_some_and k is_line_read || false) + one (is_some_and k is_dvm_message) ≤ one (not (is_some_and k is_dvm_complete))
read-sorts None = omega arith
read-sorts (Some read.Barrier) = omega arith
read-sorts (Some read.DvmComplete) = omega arith
read-sorts (Some read.DvmMessage) = omega arith
read-sorts (Some k) = omega arith

granted-or-part : (e : Event) → one (issues_granted e) + one (issues_part e) ≤ one (issues_for_operation e)
granted-or-part (Ar p i addr snoop dom bar lock) = read-sorts (ar_kind_of snoop dom bar)
granted-or-part (Aw p i addr snoop dom bar) = let most = one-most (is_some_and (aw_kind_of snoop dom bar) is_granted_write) in omega (arith, most)
granted-or-part _ = omega arith

pub granted-and-parts : (past : Trace) → counted issues_granted past + counted issues_part past ≤ counted issues_for_operation past
granted-and-parts past = counted-apart issues_for_operation issues_granted issues_part past granted-or-part

act-reads : (k : Option ArKind) (b : Bool) → one (is_some_and k is_dvm_message) + 0 ≤ one (false || (is_some_and k is_act_read || b))
act-reads None b = omega arith
act-reads (Some read.DvmMessage) b = omega arith
act-reads (Some k) b = omega arith

part-or-access : (e : Event) → one (issues_part e) + one (is_load_or_store e) ≤ one (is_act e)
part-or-access (Ar p i addr snoop dom bar lock) = act-reads (ar_kind_of snoop dom bar) false
part-or-access (L p addr w x word) = omega arith
part-or-access (D p addr strobe x line) = omega arith
part-or-access _ = omega arith

pub parts-and-accesses : (past : Trace) → counted issues_part past + counted is_load_or_store past ≤ counted is_act past
parts-and-accesses past = counted-apart is_act issues_part is_load_or_store past part-or-access

read-or-write : (e : Event) → one (reads_for_operation e) + one (issues_on Write e) ≤ one (issues_for_operation e)
read-or-write (Ar p i addr snoop dom bar lock) = omega arith
read-or-write (Aw p i addr snoop dom bar) = omega arith
read-or-write _ = omega arith

pub reads-and-writes : (past : Trace) → counted reads_for_operation past + counted (issues_on Write) past ≤ counted issues_for_operation past
reads-and-writes past = counted-apart issues_for_operation reads_for_operation (issues_on Write) past read-or-write

-- ---- snoops ------------------------------------------------------------------------------------------

pub snoop-sorts : (k : Option SnoopKind) → is_some k ≡ true → 1 ≤ one (is_some_and k is_line_snoop) + one (is_some_and k is_message_snoop) + one (is_some_and k is_complete_snoop)
snoop-sorts None some = cc
snoop-sorts (Some snoop_kind.DvmComplete) some = omega arith
snoop-sorts (Some snoop_kind.DvmMessage) some = omega arith
snoop-sorts (Some k) some = omega arith

pub snoops-split : (h : Header) (past : Trace) → IsAccepted h past
    → counted is_snoop past ≤ counted snoops_line past + counted forwards_part past + counted says_complete past
snoops-split h [] a = omega arith
snoops-split h (Ac p addr snoop ∷ past) a =
    let e = Ac p addr snoop in
    let rest = snoops-split h past a.0 in
    let here = snoop-sorts (ac_kind_of snoop) (accepted_keeps h past e a).rule_2 in
    let line = counted-one snoops_line e past in
    let part = counted-one forwards_part e past in
    let complete = counted-one says_complete e past in
    omega (arith, rest, here, line, part, complete)
snoops-split h (_ ∷ past) a = snoops-split h past a.0

-- ---- memory ------------------------------------------------------------------------------------------

pub none-opens : (h : Header) (past : Trace) → h.version ≡ 1 → IsAccepted h past → counted sets_memory past ≡ 0
none-opens h [] first a = refl
none-opens h (Mem addr line ∷ past) first a =
    let may = and_parts (is_aligned addr) (opens_memory h past addr) (accepted_keeps h past (Mem addr line) a).rule_3 in
    let below = and_parts (h.version == 2 && is_opened_below past addr) (nat_lt (length past) 4096) may.1 in
    let two = and_parts (h.version == 2) (is_opened_below past addr) below.0 in
    let bad : (1 == 2) ≡ true = rw first at two.0 in
    cc
none-opens h (_ ∷ past) first a = none-opens h past first a.0
