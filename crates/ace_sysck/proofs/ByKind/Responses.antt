-- Which rules an R or B may break by the transaction that it answers, and what the completion of a transaction leaves of the system.
use Rattle.std.proofs.Common.{◌≡◌, ◌∷◌, ◌∙◌, ◌<◌, ◌-◌, ◌^◌, Bool, true, false, length, get_or, slice_set, Option, Some, None, refl, sym, inl, inr}
use Rattle.std.proofs.lemmas.Bool.{cases_Bool}
use Rattle.ace_sysck.proofs.Terms.{IsAccepted, ar_kind_of, ArKind, Transaction, least_broken, is_barrier_half, is_dvm_message, is_read_barrier, is_message_part, is_some_and, is_read, read_kind, write_kind, Event, Recording, after, target_of, Idle, Barriers, Messages, SysCheck, completed_in, is_response, part_completed, silent, Stands}
use Rattle.ace_codes.specs.declared.kind.ArKind.TheVariants as read
use Rattle.ace_portck.proofs.LineReads.{on_reads}
use Rattle.ace_sysck.specs.Barriers.{answered}
use Rattle.ace_sysck.proofs.BarrierSteps.{barriers_completed}
use Rattle.ace_sysck.proofs.MessageSteps.{messages_completed}
use Rattle.ace_sysck.proofs.Unmoved.{system_responded}

-- half of a barrier is a read of no other kind
pub half_other : (x : Transaction) (test : ArKind → Bool) → test read.Barrier ≡ false → is_barrier_half x ≡ true → is_some_and (read_kind x) test ≡ false
half_other x test off half = by (read_kind x) refl
  where
    by : (o : Option ArKind) → read_kind x ≡ o → is_some_and (read_kind x) test ≡ false
    by None is = rw is refl
    by (Some read.Barrier) is = rw (is, off) refl
    by (Some k) is =
        let chan = on_reads (is_read x.chan) (ar_kind_of x.snoop x.dom x.bar) k is in
        let none : write_kind x ≡ None = rw chan refl in
        let bad : false ≡ true = rw (is, none) at half in cc

-- so part of a message is no half
pub part_no_half : (x : Transaction) → is_message_part x ≡ true → is_barrier_half x ≡ false
part_no_half x part =
    elim (cases_Bool (is_barrier_half x)) [
      | inl half ↦ let bad : false ≡ true = sym (half_other x is_dvm_message refl half) ∙ part in cc
      | inr none ↦ none
    ]

-- a read of another kind is neither
other-kind : (k : ArKind) → (k ≡ read.Barrier → ⊥) → (k ≡ read.DvmMessage → ⊥) → (is_read_barrier k ≡ false) × (is_dvm_message k ≡ false)
other-kind read.Barrier no_barrier no_message = absurd (no_barrier refl)
other-kind read.DvmMessage no_barrier no_message = absurd (no_message refl)
other-kind k no_barrier no_message = (refl, refl)

pub other-read : (x : Transaction) (k : ArKind) → read_kind x ≡ Some k → (k ≡ read.Barrier → ⊥) → (k ≡ read.DvmMessage → ⊥)
    → (is_barrier_half x ≡ false) × (is_message_part x ≡ false)
other-read x k kind no_barrier no_message =
    let other = other-kind k no_barrier no_message in
    let chan = on_reads (is_read x.chan) (ar_kind_of x.snoop x.dom x.bar) k kind in
    let none : write_kind x ≡ None = rw chan refl in
    (rw (kind, none, other.0) refl, rw (kind, other.1) refl)

-- the completion of a transaction moves the barriers of its port, of which one may be complete, and its messages, of which the last Sync may be
pub transaction_completed : (s : SysCheck) (b : Barriers) (n : Messages) (r : Recording) (e : Event) (x : Transaction) → Stands s r → is_response e ≡ true
    → completed_in e (target_of r.header r.past e) ≡ Some x → least_broken r.header r.past e ≡ None → length r.past < 2 ^ 64 - 1
    → b.ports.items ≡ slice_set s.barriers.ports.items x.port (answered (get_or s.barriers.ports.items x.port Idle) x.place)
    → n.ports.items ≡ slice_set s.messages.ports.items x.port (part_completed (get_or s.messages.ports.items x.port silent) x.place)
    → Stands (record s { barriers = b; messages = n }) (after r e)
transaction_completed s b n r e x st is completed fine few barriers messages =
    let t = target_of r.header r.past e in
    let accepted : IsAccepted r.header (e ∷ r.past) = (st.accepted, fine) in
    system_responded s b n r e st fine few is (barriers_completed r s.barriers b e t x accepted refl completed st.barriers barriers)
    (messages_completed r s.messages n e t x accepted refl completed st.messages messages)
