-- What a line snoop and its answer ask of their port, in the words of what is kept.
use Rattle.std.proofs.Common.{◌≡◌, ℕ, Bool, true, false, not, ◌&&◌, ◌==◌, List, map, refl, sym, ap, ◌∙◌}
use Rattle.std.proofs.Math.Bool.{and_comm, and-true}
use Rattle.std.proofs.lemmas.Bool.{and_right}
use Rattle.ace_portck.proofs.Terms.{list_any, Channel, Read, Write, Header, Transaction, has_update, is_update_on, transactions, updates_memory, owes_wack, awaits_wack, Trace, is_complete, is_on, is_outstanding, is_read, same_channel, Progress, is_pending, pending_of, progress_of}
use Rattle.ace_model.proofs.Outstanding.Issued.{some_issued-any}
use Rattle.ace_model.proofs.Outstanding.Lists.{any_kept}

-- a write with B and without WK is a complete one of the list of writes
pub owes_wack_is : (h : Header) (past : Trace) (p l : ℕ) (writes : List Progress) → writes ≡ map (progress_of h past) (pending_of h past p Write)
    → list_any (λ (v : Progress). is_on v.transaction l && v.complete) writes ≡ owes_wack h past p l
owes_wack_is h past p l writes are =
    ap (list_any (λ (v : Progress). is_on v.transaction l && v.complete)) are
    ∙ any_kept (progress_of h past) (is_pending h past p Write) (λ v. is_on v.transaction l && v.complete) (awaits_wack h past p l) (transactions past) same
    ∙ sym (some_issued-any past (awaits_wack h past p l))
  where
    turned : (c : Channel) (port on out complete : Bool)
        → ((((port && on) && out) && not (is_read c)) && complete) ≡ (((port && same_channel c Write) && out) && (on && complete))
    turned c false on out complete = refl
    turned c true false out complete = sym (and_right (same_channel c Write && out) false refl)
    turned Read true true out complete = ap (λ b. b && complete) (and_comm out false)
    turned Write true true out complete = ap (λ b. b && complete) (and_comm out true)

    same : (x : Transaction) → awaits_wack h past p l x ≡ (is_pending h past p Write x && (is_on x l && is_complete past x.port x.chan x.id))
    same x = turned x.chan (x.port == p) (is_on x l) (is_outstanding h past x) (is_complete past x.port x.chan x.id)

-- a memory update of the line is one of the list of writes
pub has_update_is : (h : Header) (past : Trace) (p l : ℕ) (writes : List Progress) → writes ≡ map (progress_of h past) (pending_of h past p Write)
    → list_any (λ (v : Progress). is_on v.transaction l && updates_memory v.transaction) writes ≡ has_update h past p l
has_update_is h past p l writes are =
    ap (list_any (λ (v : Progress). is_on v.transaction l && updates_memory v.transaction)) are
    ∙ any_kept (progress_of h past) (is_pending h past p Write) (λ v. is_on v.transaction l && updates_memory v.transaction) (is_update_on h past p l) (transactions past) same
    ∙ sym (some_issued-any past (is_update_on h past p l))
  where
    turned : (port write on out updates : Bool) → updates ≡ (write && updates) → (((port && updates) && on) && out) ≡ (((port && write) && out) && (on && updates))
    turned false write on out updates is = refl
    turned true true on out true is = and_comm on out ∙ ap (λ b. out && b) (sym (and-true on))
    turned true false on out true is = cc
    turned true write on out false is = sym (ap (λ b. (write && out) && b) (and_right on false refl) ∙ and_right (write && out) false refl)

    -- a read is none
    writes-update : (x : Transaction) (c : Channel) → x.chan ≡ c → updates_memory x ≡ (same_channel c Write && updates_memory x)
    writes-update x Read is = rw is refl
    writes-update x Write is = refl

    same : (x : Transaction) → is_update_on h past p l x ≡ (is_pending h past p Write x && (is_on x l && updates_memory x))
    same x = turned (x.port == p) (same_channel x.chan Write) (is_on x l) (is_outstanding h past x) (updates_memory x) (writes-update x x.chan refl)
