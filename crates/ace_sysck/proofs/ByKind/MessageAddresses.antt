-- What the AR of a DVM Message and of a DVM Complete ask of the system, and what they move: the results, the Syncs, and of a DVM Message the
-- inboxes and the messages of its port.
use Rattle.std.proofs.Common.{◌≡◌, ◌∙◌, ◌<◌, ◌-◌, ◌^◌, ℕ, Bool, true, false, ◌&&◌, nat_lt, ◌∷◌, length, get_or, slice_set, Some, None, refl, sym, ap, subst}
use Rattle.std.proofs.lemmas.Bool.{and_parts, ltb-true}
use Rattle.ace_sysck.proofs.Terms.{ar_kind_of, Ar, Aw, IsAccepted, least_broken, least_of, is_part_in_order, k1, k9, is_barrier_half, first_waiting, is_dvm_completion, is_message_part, k38, system_rules, implies, issued, Transaction, Event, Header, Trace, Recording, after, target_of, Target, Inboxes, Messages, PortMessages, Results, Syncs, SysCheck, begun_in, SendsAll, parts_sent, PortMessagesStand, part_issued, silent, slot_of, Stands, IsStep, SyncsStand, one_completed, untold}
use Rattle.ace_codes.specs.declared.kind.ArKind.TheVariants as read
use Rattle.ace_model.proofs.General.Options.{Some-injective}
use Rattle.ace_model.proofs.Trace.Outstanding.{write_issued}
use Rattle.ace_portck.specs.DvmReads.{is_completion}
use Rattle.ace_portck.proofs.DvmReads.{completion-is}
use Rattle.ace_portck.proofs.ReadAddresses.{read_of}
use Rattle.ace_sysck.proofs.BarrierSteps.{barriers_other_issue}
use Rattle.ace_sysck.proofs.Forwarding.InboxHears.{inboxes_other_issue, inboxes_sent}
use Rattle.ace_sysck.proofs.MessageSteps.{messages_part, messages_other_issue}
use Rattle.ace_sysck.proofs.ResultSteps.{results_ar}
use Rattle.ace_sysck.proofs.ByKind.ReadAddresses.{first-rule, idle, least_of_one}
use Rattle.ace_sysck.proofs.ByKind.Responses.{part_no_half}
use Rattle.ace_sysck.proofs.Steps.{port_within}
use Rattle.ace_sysck.proofs.SyncSteps.{syncs_completion}
use Rattle.ace_sysck.proofs.Unmoved.{system_issued}

-- of three things that must hold under tests, the second is left where its test alone passes
only-second : (a b c x y z : Bool) → a ≡ false → b ≡ true → c ≡ false → (implies a x && implies b y && implies c z) ≡ y
only-second false true false x true z off on out = refl
only-second false true false x false z off on out = refl
only-second true b c x y z off on out = cc
only-second false false c x y z off on out = cc
only-second false true true x y z off on out = cc

module _ (h : Header) (past : Trace) (p i addr snoop dom bar : ℕ) (lock : Bool) where
  abbrev begun : Transaction
  begun = read_of (length past) p i addr snoop dom bar lock

  -- where it keeps K1 its port is one of the header
  pub ar_within : k1 h past (Ar p i addr snoop dom bar lock) ≡ true → p < h.ports
  ar_within first = ltb-true p h.ports (and_parts (nat_lt p h.ports) _ first).0

  module _ (kind : ar_kind_of snoop dom bar ≡ Some read.DvmMessage) where
    message-no_half : is_barrier_half begun ≡ false
    message-no_half = rw kind refl

    message-part : is_message_part begun ≡ true
    message-part = rw kind refl

    message-no_completion : is_dvm_completion begun ≡ false
    message-no_completion = rw kind refl

    -- the order of the parts is all that is asked of a DVM Message
    pub message_rule : least_of system_rules h past (Ar p i addr snoop dom bar lock) ≡ least_of_one (is_part_in_order past begun (first_waiting past p))
    message_rule =
        first-rule (k9 h past (Ar p i addr snoop dom bar lock)) (k38 h past (Ar p i addr snoop dom bar lock)) (idle (is_dvm_completion begun) _ message-no_completion)
        ∙ ap least_of_one (only-second (is_barrier_half begun) (is_message_part begun) (is_dvm_completion begun) _ _ _ message-no_half message-part message-no_completion)

pub completion_stands : (s : SysCheck) (n : Results) (m : Syncs) (r : Recording) (p i addr snoop dom bar : ℕ) (lock : Bool) → Stands s r → is_completion snoop dom bar lock ≡ true
    → least_broken r.header r.past (Ar p i addr snoop dom bar lock) ≡ None → length r.past < 2 ^ 64 - 1 → i < 256
    → n.passed.items ≡ slice_set s.results.passed.items (slot_of p i) None → m.ports.items ≡ slice_set s.syncs.ports.items p (one_completed (get_or s.syncs.ports.items p untold))
    → Stands (record s { results = n; syncs = m }) (after r (Ar p i addr snoop dom bar lock))
completion_stands s n m r p i addr snoop dom bar lock st is fine few low items ports =
    system_issued s s.barriers n s.messages s.inboxes m r e st fine few refl (barriers_other_issue r s.barriers e t x refl refl (rw kind refl) st.barriers)
    (results_ar r s.results n p i addr snoop dom bar lock st.results (port_within r.header r.past e p accepted refl) low items)
    (messages_other_issue r s.messages e t x refl refl none st.messages) (inboxes_other_issue r s.inboxes e t x refl refl low none st.inboxes)
    (syncs_completion r s.syncs m e t x step refl none (rw kind refl) st.syncs ports)
  where
    kind : ar_kind_of snoop dom bar ≡ Some read.DvmComplete
    kind = (completion-is snoop dom bar lock is).kind

    e : Event
    e = Ar p i addr snoop dom bar lock

    t : Target
    t = target_of r.header r.past e

    x : Transaction
    x = read_of (length r.past) p i addr snoop dom bar lock

    none : is_message_part x ≡ false
    none = rw kind refl

    accepted : IsAccepted r.header (e ∷ r.past)
    accepted = (st.accepted, fine)

    step : IsStep r e t
    step = record { header = st.ports; accepted = accepted; target = refl; few = few }

-- the event that issues the part is an AR
pub message_begun : (s : SysCheck) (n : Results) (y : Syncs) (b : Inboxes) (m : Messages) (kept : PortMessages) (r : Recording) (e : Event) (x : Transaction)
    → Stands s r → is_message_part x ≡ true → least_broken r.header r.past e ≡ None → length r.past < 2 ^ 64 - 1
    → issued (length r.past) e ≡ Some x → x.id < 256 → PortMessagesStand r.past x.port kept
    → n.passed.items ≡ slice_set s.results.passed.items (slot_of x.port x.id) None
    → ((t : Target) → IsStep r e t → begun_in e t ≡ Some x → is_message_part x ≡ true → SyncsStand (after r e) y)
    → length b.ports.items ≡ length s.inboxes.ports.items → SendsAll x.port (parts_sent kept x) s.inboxes b
    → m.ports.items ≡ slice_set s.messages.ports.items x.port (part_issued (get_or s.messages.ports.items x.port silent) x)
    → Stands (record s { results = n; syncs = y; inboxes = b; messages = m }) (after r e)
message_begun s n y b m kept r (Ar p i addr snoop dom bar lock) x st part fine few new low stands items syncs size sends sets =
    let e : Event = Ar p i addr snoop dom bar lock in
    let t = target_of r.header r.past e in
    let accepted : IsAccepted r.header (e ∷ r.past) = (st.accepted, fine) in
    let same = Some-injective (read_of (length r.past) p i addr snoop dom bar lock) x new in
    system_issued s s.barriers n m b y r e st fine few refl (barriers_other_issue r s.barriers e t x refl new (part_no_half x part) st.barriers)
    (results_ar r s.results n p i addr snoop dom bar lock st.results (port_within r.header r.past e p accepted refl) (subst (λ (z : Transaction). z.id < 256) (sym same) low)
    (items ∙ ap (λ (z : Transaction). slice_set s.results.passed.items (slot_of z.port z.id) None) (sym same)))
    (messages_part r s.messages m e t x accepted refl new part st.messages sets) (inboxes_sent r s.inboxes b e t x kept accepted refl new low part stands st.inboxes size sends)
    (syncs t (record { header = st.ports; accepted = accepted; target = refl; few = few }) new part)
message_begun s n y b m kept r (Aw p i addr snoop dom bar) x st part fine few new low stands items syncs size sends sets =
    let bad : false ≡ true = ap is_message_part (Some-injective (write_issued r.past p i addr snoop dom bar) x new) ∙ part in cc
message_begun s n y b m kept r e x st part fine few new low stands items syncs size sends sets = let bad : None ≡ Some x = new in cc
