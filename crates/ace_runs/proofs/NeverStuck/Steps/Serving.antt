-- The steps that serve a transaction, and which tests pass for the events of their bursts.
use Rattle.std.proofs.Common.{◌≡◌, ℕ, Bool, true, not, ◌&&◌, ◌||◌, ◌==◌, List, [], ◌++◌, map, Option, Some, None, refl}
use Rattle.std.specs.List.{list_all}
use Rattle.std.specs.Option.{option_to_list}
use Rattle.std.proofs.lemmas.Bool.{and_parts, and_from}
use Rattle.ace_event.specs.declared.event.Channel.{Channel}
use Rattle.ace_event.specs.declared.event.Event.{Event}
use Rattle.ace_event.specs.declared.event.Event.TheVariants.{R, B, G, M}
use Rattle.ace_event.specs.declared.header.Header.{Header}
use Rattle.ace_event.specs.declared.line.Line.{Line}
use Rattle.ace_model.specs.declared.transactions.Transaction.{Transaction}
use Rattle.ace_model.specs.Barriers.{Pair, pair_of}
use Rattle.ace_model.specs.Grants.{has_passed_data}
use Rattle.ace_model.specs.Kinds.{is_read_barrier}
use Rattle.ace_model.specs.Messages.{is_dvm_completion, is_message_part}
use Rattle.ace_model.specs.Progress.{evicts, updates_memory}
use Rattle.ace_model.specs.Trace.{Trace, implies, is_some_and}
use Rattle.ace_model.specs.Transactions.{is_line, is_outstanding, is_read, read_kind, takes_grant}
use Rattle.ace_model.specs.WriteRules.{data_of}
use Rattle.ace_model.proofs.Trace.Growth.{IsIssued, some_issued-is}
use Rattle.ace_runs.specs.Bursts.{serves}
use Rattle.ace_runs.specs.LineSteps.{grant_burst, is_first_to_wait, memory_write, passed_burst, response, takes_dirt, transfer_burst, update_burst, write_burst}
use Rattle.ace_runs.specs.OrderSteps.{barrier_burst, dvm_burst, pair_burst}
use Rattle.ace_runs.specs.SameEvents.{same_burst}
use Rattle.ace_runs.proofs.NeverStuck.Steps.SameBursts.{all-as}
use Rattle.ace_runs.proofs.NeverStuck.Steps.SameEvents.{TellsSame}
use Rattle.ace_runs.proofs.NeverStuck.Steps.Lists.{all-append, all-if}

-- ---- the transaction that is served ------------------------------------------------------------------

-- An outstanding transaction whose burst a step gives.
pub record IsServed (burst_for : Header → Trace → Transaction → List Event) (h : Header) (past : Trace) (burst : List Event) : Type 0 where
  pub of : Transaction
  pub issued : IsIssued past of
  pub out : is_outstanding h past of ≡ true
  pub same : same_burst (burst_for h past of) burst ≡ true

pub served : (burst_for : Header → Trace → Transaction → List Event) (h : Header) (past : Trace) (p : ℕ) (burst : List Event)
    → serves burst_for h past p burst ≡ true → IsServed burst_for h past burst
served burst_for h past p burst s =
    let x = some_issued-is past (λ x. (x.port == p) && is_outstanding h past x && same_burst (burst_for h past x) burst) s in
    let parts = and_parts ((x.0.port == p) && is_outstanding h past x.0) (same_burst (burst_for h past x.0) burst) x.2 in
    record { of = x.0; issued = x.1; out = (and_parts (x.0.port == p) (is_outstanding h past x.0) parts.0).1; same = parts.1 }

pub served-all : (test : Event → Bool) → TellsSame test → (burst_for : Header → Trace → Transaction → List Event) (h : Header) (past : Trace) (p : ℕ) (burst : List Event)
    → ((x : Transaction) → list_all test (burst_for h past x) ≡ true) → serves burst_for h past p burst ≡ true → list_all test burst ≡ true
served-all test same burst_for h past p burst each s =
    let x = served burst_for h past p burst s in all-as test same (burst_for h past x.of) burst x.same (each x.of)

-- ---- their bursts ------------------------------------------------------------------------------------

-- what the test passes for
abbrev pub Grants : (Event → Bool) → Type 0
Grants test = (p : ℕ) (c : Channel) (i : ℕ) → test (G p c i) ≡ true

abbrev pub WritesMemory : (Event → Bool) → Type 0
WritesMemory test = (p : ℕ) (c : Channel) (i : ℕ) (line : Line) → test (M p c i line) ≡ true

abbrev pub Transfers : (Event → Bool) → Type 0
Transfers test = (p i resp : ℕ) (last : Bool) (word : ℕ) → test (R p i resp last word) ≡ true

abbrev pub Responds : (Event → Bool) → Type 0
Responds test = (p i resp : ℕ) → test (B p i resp) ≡ true

pub written-all : (test : Event → Bool) → WritesMemory test → (h : Header) (past : Trace) (x : Transaction) → list_all test (memory_write h past x) ≡ true
written-all test writes h past x = by (data_of h past x)
  where
    by : (o : Option Line) → list_all test (map (λ line. M x.port x.chan x.id line) (option_to_list o)) ≡ true
    by None = refl
    by (Some line) = and_from _ _ (writes x.port x.chan x.id line) refl

response-all : (test : Event → Bool) → Responds test → (x : Transaction) → list_all test (response x) ≡ true
response-all test responds x = and_from _ _ (responds x.port x.id 0) refl

pub responded-all : (test : Event → Bool) → WritesMemory test → Responds test → (h : Header) (past : Trace) (x : Transaction)
    → list_all test (memory_write h past x ++ response x) ≡ true
responded-all test writes responds h past x = all-append test (memory_write h past x) (response x) (written-all test writes h past x) (response-all test responds x)

pub update-all : (test : Event → Bool) → WritesMemory test → Responds test → (h : Header) (past : Trace) (x : Transaction) → list_all test (update_burst h past x) ≡ true
update-all test writes responds h past x =
    all-if test (updates_memory x) _ _ (responded-all test writes responds h past x) (all-if test (evicts x) (response x) [] (response-all test responds x) refl)

pub grant-all : (test : Event → Bool) → Grants test → (h : Header) (past : Trace) (x : Transaction) → list_all test (grant_burst h past x) ≡ true
grant-all test grants h past x = all-if test (takes_grant x && is_first_to_wait h past x) _ [] (and_from _ _ (grants x.port x.chan x.id) refl) refl

pub passed-all : (test : Event → Bool) → WritesMemory test → (h : Header) (past : Trace) (x : Transaction) → list_all test (passed_burst h past x) ≡ true
passed-all test writes h past x = all-if test (is_read x.chan && has_passed_data h past x && not (takes_dirt h past x)) _ [] (written-all test writes h past x) refl

pub transfer-all : (test : Event → Bool) → Transfers test → (h : Header) (past : Trace) (x : Transaction) → list_all test (transfer_burst h past x) ≡ true
transfer-all test transfers h past x =
    all-if test (is_read x.chan && is_line x && implies (has_passed_data h past x) (takes_dirt h past x)) _ [] (and_from _ _ (transfers x.port x.id _ _ _) refl) refl

pub write-all : (test : Event → Bool) → WritesMemory test → Responds test → (h : Header) (past : Trace) (x : Transaction) → list_all test (write_burst h past x) ≡ true
write-all test writes responds h past x = all-if test (not (is_read x.chan) && takes_grant x) _ [] (responded-all test writes responds h past x) refl

pub barrier-all : (test : Event → Bool) → Transfers test → Responds test → (h : Header) (past : Trace) (x : Transaction) → list_all test (barrier_burst h past x) ≡ true
barrier-all test transfers responds h past x = all-if test (is_some_and (read_kind x) is_read_barrier) _ [] (by (pair_of past x)) refl
  where
    by : (o : Option Pair) → list_all test (pair_burst o) ≡ true
    by None = refl
    by (Some b) = and_from _ _ (transfers b.read.port b.read.id 0 true 0) (and_from _ _ (responds b.write.port b.write.id 0) refl)

pub dvm-all : (test : Event → Bool) → Transfers test → (h : Header) (past : Trace) (x : Transaction) → list_all test (dvm_burst h past x) ≡ true
dvm-all test transfers h past x = all-if test (is_message_part x || is_dvm_completion x) _ [] (and_from _ _ (transfers x.port x.id 0 true 0) refl) refl
