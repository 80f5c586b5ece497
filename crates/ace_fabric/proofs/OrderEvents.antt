-- The steps of the engine of barriers and DVM give its own events.
use Rattle.std.proofs.Common.{◌≡◌, ℕ, Bool, true, false, not, ◌&&◌, ◌||◌, List, [], ◌∷◌, filter, Option, Some, None, is_some, is_none, inl, inr, refl, ap, subst, ◌∙◌}
use Rattle.std.specs.List.{list_all}
use Rattle.std.proofs.lemmas.Bool.{and_from, and_parts, cases_Bool, or_cases, ltb-true}
use Rattle.ace_codes.specs.declared.kind.ArKind.{ArKind}
use Rattle.ace_codes.specs.declared.kind.ArKind.TheVariants as read
use Rattle.ace_codes.specs.declared.kind.SnoopKind.TheVariants as snoop
use Rattle.ace_codes.specs.Snoops.{ac_code}
use Rattle.ace_event.specs.declared.event.Channel.TheVariants.{Read}
use Rattle.ace_event.specs.declared.event.Event.{Event}
use Rattle.ace_event.specs.declared.event.Event.TheVariants.{Ac}
use Rattle.ace_event.specs.declared.header.Header.{Header}
use Rattle.ace_model.specs.declared.transactions.Transaction.{Transaction}
use Rattle.ace_model.specs.Accepted.{IsAccepted}
use Rattle.ace_model.specs.Grants.{ports_below}
use Rattle.ace_model.specs.Kinds.{is_dvm_complete, is_dvm_message, is_line_read, is_line_snoop}
use Rattle.ace_model.specs.Snoops.{snoops_a_line}
use Rattle.ace_model.specs.Messages.{has_part, is_dvm_completion, is_message_part, is_other_ace, next_part}
use Rattle.ace_model.specs.Trace.{Trace, is_some_and, port_of}
use Rattle.ace_model.specs.Transactions.{is_line, read_kind, transaction_of}
use Rattle.ace_model.proofs.General.Options.{is_some_and-is}
use Rattle.ace_model.proofs.General.Ports.{each_at}
use Rattle.ace_model.proofs.Tables.ReadSnoops.{kind_of_code}
use Rattle.ace_model.proofs.Trace.Growth.{some_issued-is}
use Rattle.ace_model.proofs.Trace.Looks.{is_read-is}
use Rattle.ace_runs.specs.Bursts.{are_kept, is_kept, serves}
use Rattle.ace_runs.specs.OrderSteps.{dvm_burst, forwarded_to, forwards, gets_message, gives_completion, is_by_port, is_part_of, message_of, parts_missing, plain_transfer, sync_completion}
use Rattle.ace_runs.specs.Segments.{is_at_port}
use Rattle.ace_runs.proofs.Accepting.{kept-breaks-none}
use Rattle.ace_runs.proofs.Few.KnownLines.{each-names-port}
use Rattle.ace_runs.proofs.NeverStuck.Barriers.Responses.{dvm-reads}
use Rattle.ace_runs.proofs.NeverStuck.Reads.PlainTransfers.{no-line}
use Rattle.ace_runs.proofs.NeverStuck.Steps.Lists.{all-if, all-map}
use Rattle.ace_runs.proofs.NeverStuck.Steps.SameBursts.{all-as, same-burst-all}
use Rattle.ace_runs.proofs.NeverStuck.Steps.SameEvents.{TellsSame, tells-same}
use Rattle.ace_runs.proofs.NeverStuck.Steps.Serving.{served}
use Rattle.ace_runs.proofs.NeverStuck.Steps.StepShapes.{all-by-ports, filtered-all}
use Rattle.ace_engine.specs.Engines.{is_of_order}
use Rattle.ace_fabric.proofs.LineEvents.{named-own, named-passes}

pub same-order : (past : Trace) → TellsSame (is_of_order past)
same-order past = tells-same (is_of_order past) (λ p c i line. refl) (λ p a s x line. refl) (λ a line. refl)

-- ---- step 11 -----------------------------------------------------------------------------------------

-- the events of step 11 pass a test that ACs of messages pass, and events of no port
module _ (test : Event → Bool) (same : TellsSame test) (portless : (e : Event) → port_of e ≡ None → test e ≡ true)
    (acs : (q addr : ℕ) → test (Ac q addr (ac_code snoop.DvmMessage)) ≡ true) (h : Header) (past : Trace) where
  sent-all : (x : Transaction) (q : ℕ) → list_all test (forwarded_to h past x q) ≡ true
  sent-all x q =
      all-if test (is_other_ace h x.port q && is_some_and (next_part past q) (has_part (message_of past x))) _ []
      (all-map test (λ (y : Transaction). Ac q y.addr (ac_code snoop.DvmMessage)) (parts_missing past x q) (λ y. acs q y.addr)) refl

  messages-all : (p : ℕ) (burst : List Event) → are_kept h past burst ≡ true → forwards h past p burst ≡ true → list_all test burst ≡ true
  messages-all p burst k s =
      let x = some_issued-is past (λ x. is_part_of p x && list_all (gets_message h past x burst) (ports_below h.ports)) (and_parts (is_by_port burst) _ s).1 in
      let all = (and_parts (is_part_of p x.0) (list_all (gets_message h past x.0 burst) (ports_below h.ports)) x.2).1 in
      all-by-ports test portless h past burst k (λ q low.
      let gets = each_at h.ports (gets_message h past x.0 burst) q all (ltb-true q h.ports low) in
      filtered-all test q burst (same-burst-all test same (filter (is_at_port q) burst) (forwarded_to h past x.0 q) gets ∙ sent-all x.0 q))

-- a snoop of DVM is none of a line
message-own : not (snoops_a_line (ac_code snoop.DvmMessage)) ≡ true
message-own = ap (λ o. not (is_some_and o is_line_snoop)) (kind_of_code snoop.DvmMessage)

complete-own : not (snoops_a_line (ac_code snoop.DvmComplete)) ≡ true
complete-own = ap (λ o. not (is_some_and o is_line_snoop)) (kind_of_code snoop.DvmComplete)

-- an event of the engine, or of no port
abbrev is_of_order_or_none : Trace → Event → Bool
is_of_order_or_none past e = is_none (port_of e) || is_of_order past e

same-or-none : (past : Trace) → TellsSame (is_of_order_or_none past)
same-or-none past = tells-same (is_of_order_or_none past) (λ p c i line. refl) (λ p a s x line. refl) (λ a line. refl)

-- in a run of version 1 each event names a port
drop-none : (o : Option ℕ) (b : Bool) → is_some o ≡ true → (is_none o || b) ≡ true → b ≡ true
drop-none None b s t = cc
drop-none (Some p) b s t = t

all-named : (h : Header) (before past : Trace) (burst : List Event) → h.version ≡ 1 → IsAccepted h past → are_kept h past burst ≡ true
    → list_all (is_of_order_or_none before) burst ≡ true → list_all (is_of_order before) burst ≡ true
all-named h before past [] first a k all = refl
all-named h before past (e ∷ burst) first a k all =
    let keeps = and_parts (is_kept h past e) (are_kept h (e ∷ past) burst) k in
    let parts = and_parts (is_of_order_or_none before e) (list_all (is_of_order_or_none before) burst) all in
    let later : IsAccepted h (e ∷ past) = (a, kept-breaks-none h past e keeps.0) in
    and_from _ _ (drop-none (port_of e) (is_of_order before e) (each-names-port h past e first later) parts.0)
    (all-named h before (e ∷ past) burst first later keeps.1 parts.1)

pub forwards-own : (h : Header) (past : Trace) (p : ℕ) (burst : List Event) → h.version ≡ 1 → IsAccepted h past → are_kept h past burst ≡ true → forwards h past p burst ≡ true
    → list_all (is_of_order past) burst ≡ true
forwards-own h past p burst first a k s =
    all-named h past past burst first a k
    (messages-all (is_of_order_or_none past) (same-or-none past) (λ e none. ap (λ o. is_none o || is_of_order past e) none) (λ q addr. message-own) h past p burst k s)

-- ---- steps 12 and 13 ---------------------------------------------------------------------------------

plain-message : (k : ArKind) → is_dvm_message k ≡ true → is_line_read k ≡ false
plain-message read.DvmMessage m = refl
plain-message k m = cc

plain-completion : (k : ArKind) → is_dvm_complete k ≡ true → is_line_read k ≡ false
plain-completion read.DvmComplete m = refl
plain-completion k m = cc

dvm-no-line : (x : Transaction) → (is_message_part x || is_dvm_completion x) ≡ true → is_line x ≡ false
dvm-no-line x d =
    elim (or_cases (is_message_part x) (is_dvm_completion x) d) [
      | inl m ↦ let k = is_some_and-is (read_kind x) is_dvm_message m in no-line x k.0 k.1 (plain-message k.0 k.2)
      | inr c ↦ let k = is_some_and-is (read_kind x) is_dvm_complete c in no-line x k.0 k.1 (plain-completion k.0 k.2)
    ]

pub dvm-own : (h : Header) (past : Trace) (p : ℕ) (burst : List Event) → serves dvm_burst h past p burst ≡ true → list_all (is_of_order past) burst ≡ true
dvm-own h past p burst g =
    let s = served dvm_burst h past p burst g in
    let x = s.of in
    let own = named-own dvm_burst h past burst s in
    elim (cases_Bool (is_message_part x || is_dvm_completion x)) [
      | inl t ↦
          let there : transaction_of past x.port Read x.id ≡ Some x = subst (λ c. transaction_of past x.port c x.id ≡ Some x) (is_read-is x.chan (dvm-reads x t)) own in
          all-as (is_of_order past) (same-order past) (plain_transfer x ∷ []) burst (rw t at s.same)
          (and_from _ _ (named-passes past x.port Read x.id x (λ y. not (is_line y)) there (ap not (dvm-no-line x t))) refl)
      | inr f ↦ all-as (is_of_order past) (same-order past) [] burst (rw f at s.same) refl
    ]

pub completion-own : (h : Header) (past : Trace) (p : ℕ) (burst : List Event) → gives_completion h past p burst ≡ true → list_all (is_of_order past) burst ≡ true
completion-own h past p burst g = all-as (is_of_order past) (same-order past) (sync_completion p) burst g (and_from _ _ complete-own refl)
