-- What the steps give has identifiers and read responses with the digits of their fields: a master takes one of the sixteen identifiers, and the
-- interconnect sets no bit of RRESP that isn't there.
use Rattle.std.proofs.Common.{◌≡◌, ◌<◌, ℕ, Bool, true, not, ◌&&◌, ◌||◌, ◌+◌, ◌==◌, nat_lt, List, [], ◌∷◌, ◌++◌, length, Option, Some, None, inl, inr, refl, subst, arith}
use Rattle.std.specs.List.{list_all, list_any}
use Rattle.std.proofs.lemmas.Bool.{and_from, and_parts, lt-ltb, ltb-true}
use Rattle.ace_codes.specs.declared.kind.SnoopKind.{SnoopKind}
use Rattle.ace_event.specs.declared.event.Channel.{Channel}
use Rattle.ace_event.specs.declared.event.Event.{Event}
use Rattle.ace_event.specs.declared.event.Event.TheVariants.{Ar, R, Aw}
use Rattle.ace_event.specs.declared.header.Header.{Header}
use Rattle.ace_model.specs.declared.transactions.Transaction.{Transaction}
use Rattle.ace_model.specs.Barriers.{Pair, pair_of}
use Rattle.ace_model.specs.Grants.{has_passed_data}
use Rattle.ace_model.specs.Kinds.{is_read_barrier}
use Rattle.ace_model.specs.Messages.{is_dvm_completion, is_message_part}
use Rattle.ace_model.specs.Plans.{Plan}
use Rattle.ace_model.specs.Progress.{evicts, updates_memory}
use Rattle.ace_model.specs.ReadRules.{is_exclusive_okay, must_be_shared}
use Rattle.ace_model.specs.Trace.{Trace, implies, is_none_or, is_some_and, port_of}
use Rattle.ace_model.specs.Transactions.{is_line, is_read, issued, outstanding, read_kind, takes_grant}
use Rattle.ace_model.proofs.General.Booleans.{each_flags}
use Rattle.ace_model.proofs.General.Options.{is_none_or-at}
use Rattle.ace_model.proofs.Trace.Growth.{IsIssued, issued-cases}
use Rattle.ace_model.proofs.Trace.Issued.{outstanding-name}
use Rattle.ace_model.proofs.Trace.IssuedTransactions.{outstanding-issued}
use Rattle.ace_runs.specs.Bursts.{onto, serves}
use Rattle.ace_runs.specs.LineSteps.{bit_if, grant_burst, is_snoop_for, memory_write, passed_burst, response, takes_dirt, transfer_burst, update_burst, write_burst}
use Rattle.ace_runs.specs.MasterSteps.{is_beat}
use Rattle.ace_runs.specs.Operations.{next_operation}
use Rattle.ace_runs.specs.OrderSteps.{barrier_burst, dvm_burst, pair_burst, sync_completion}
use Rattle.ace_runs.specs.Steps.{AreSteps, is_sound, is_step, may_give, steps, steps_of}
use Rattle.ace_runs.proofs.Turns.{of-each-run, step-kept}
use Rattle.ace_runs.proofs.NeverStuck.Steps.Asking.{NamedAsks, named-goes-on-all}
use Rattle.ace_runs.proofs.NeverStuck.Steps.Concluding.{Concludes, acknowledges-all}
use Rattle.ace_runs.proofs.NeverStuck.Steps.Lists.{all-append, all-if, all-implied}
use Rattle.ace_runs.proofs.NeverStuck.Steps.SameBursts.{all-as}
use Rattle.ace_runs.proofs.NeverStuck.Steps.SameEvents.{TellsSame, tells-same}
use Rattle.ace_runs.proofs.NeverStuck.Steps.Serving.{grant-all, passed-all, served-all, written-all}
use Rattle.ace_runs.proofs.NeverStuck.Steps.StepEvents.{answers-answering, is_answering}
use Rattle.ace_runs.proofs.NeverStuck.Steps.StepShapes.{forwards-all, of-any, snoops-all}

-- the identifier of an AR or AW and RRESP have the digits of their fields
abbrev pub is_low : Event → Bool
is_low (Ar p i addr snoop dom bar lock) = nat_lt i 16
is_low (R p i resp last word) = nat_lt resp 16
is_low (Aw p i addr snoop dom bar) = nat_lt i 16
is_low _ = true

abbrev pub are_low : List Event → Bool
are_low events = list_all is_low events

same-low : TellsSame is_low
same-low = tells-same is_low (λ p c i line. refl) (λ p a s x line. refl) (λ a line. refl)

-- ---- events of other kinds ---------------------------------------------------------------------------

answering-low : (e : Event) → is_answering e ≡ true → is_low e ≡ true
answering-low (Ar p i addr snoop dom bar lock) m = cc
answering-low (R p i resp last word) m = cc
answering-low (Aw p i addr snoop dom bar) m = cc
answering-low e m = refl

beat-low : (q : ℕ) (e : Event) → is_beat q e ≡ true → is_low e ≡ true
beat-low q (Ar p i addr snoop dom bar lock) m = cc
beat-low q (R p i resp last word) m = cc
beat-low q (Aw p i addr snoop dom bar) m = cc
beat-low q e m = refl

snoop-low : (x : Transaction) (k : SnoopKind) (e : Event) → is_snoop_for x k e ≡ true → is_low e ≡ true
snoop-low x k (Ar p i addr snoop dom bar lock) m = cc
snoop-low x k (R p i resp last word) m = cc
snoop-low x k (Aw p i addr snoop dom bar) m = cc
snoop-low x k e m = refl

portless-low : (e : Event) → port_of e ≡ None → is_low e ≡ true
portless-low (Ar p i addr snoop dom bar lock) m = cc
portless-low (R p i resp last word) m = cc
portless-low (Aw p i addr snoop dom bar) m = cc
portless-low e m = refl

-- ---- steps that serve a transaction ------------------------------------------------------------------

bits-low : (a b c : Bool) → nat_lt (bit_if 4 a + bit_if 8 b + bit_if 1 c) 16 ≡ true
bits-low = each_flags (λ a b c. nat_lt (bit_if 4 a + bit_if 8 b + bit_if 1 c) 16) refl

written-low : (h : Header) (past : Trace) (x : Transaction) → are_low (memory_write h past x ++ response x) ≡ true
written-low h past x = all-append is_low (memory_write h past x) (response x) (written-all is_low (λ q c i line. refl) h past x) refl

update-low : (h : Header) (past : Trace) (x : Transaction) → are_low (update_burst h past x) ≡ true
update-low h past x = all-if is_low (updates_memory x) _ _ (written-low h past x) (all-if is_low (evicts x) (response x) [] refl refl)

transfer-low : (h : Header) (past : Trace) (x : Transaction) → are_low (transfer_burst h past x) ≡ true
transfer-low h past x =
    all-if is_low (is_read x.chan && is_line x && implies (has_passed_data h past x) (takes_dirt h past x)) _ []
    (and_from _ _ (bits-low (has_passed_data h past x) (is_some_and (read_kind x) (must_be_shared h past x)) (is_exclusive_okay past x)) refl) refl

write-low : (h : Header) (past : Trace) (x : Transaction) → are_low (write_burst h past x) ≡ true
write-low h past x = all-if is_low (not (is_read x.chan) && takes_grant x) _ [] (written-low h past x) refl

pair-low : (o : Option Pair) → are_low (pair_burst o) ≡ true
pair-low None = refl
pair-low (Some b) = refl

barrier-low : (h : Header) (past : Trace) (x : Transaction) → are_low (barrier_burst h past x) ≡ true
barrier-low h past x = all-if is_low (is_some_and (read_kind x) is_read_barrier) _ [] (pair-low (pair_of past x)) refl

dvm-low : (h : Header) (past : Trace) (x : Transaction) → are_low (dvm_burst h past x) ≡ true
dvm-low h past x = all-if is_low (is_message_part x || is_dvm_completion x) _ [] refl refl

-- ---- all steps ---------------------------------------------------------------------------------------

low-concludes : (p : ℕ) → Concludes p is_low
low-concludes p = record { reads = λ st. refl; writes = λ st. refl; loads = λ a w x word. refl; stores = λ a s x line. refl; retires = λ k res. refl }

low-asks : (p : ℕ) → NamedAsks p is_low
low-asks p = record { reads = λ i a code dom lock low. lt-ltb i 16 low; writes = λ i a code dom low. lt-ltb i 16 low; drops = λ a st. refl }

low-step : (plan : Plan) (past : Trace) (p : ℕ) (burst : List Event) → is_step plan past p burst ≡ true → are_low burst ≡ true
low-step plan past p burst s =
    let h = plan.header in
    let next = next_operation plan past p in
    let sound = and_parts (is_sound h past burst) (list_any (may_give h past p burst) (steps_of plan past p)) s in
    let serving = λ (burst_for : Header → Trace → Transaction → List Event) (each : (x : Transaction) → are_low (burst_for h past x) ≡ true) (g : serves burst_for h past p burst ≡ true).
    served-all is_low same-low burst_for h past p burst each g in
    of-any h past p burst (are_low burst ≡ true) (steps plan.ways next)
    ((λ g. all-implied is_answering is_low answering-low burst (answers-answering h past p burst g)), ((λ g. all-implied (is_beat p) is_low (beat-low p) burst (and_parts (list_all (is_beat p) burst) (length burst == 4) g).0), ((λ g. serving update_burst (update-low h past) g), ((λ g. acknowledges-all p is_low (low-concludes p) same-low next h past burst g), ((λ g. serving grant_burst (grant-all is_low (λ q c i. refl) h past) g), ((λ g. snoops-all is_low snoop-low h past p burst g), ((λ g. serving passed_burst (passed-all is_low (λ q c i line. refl) h past) g), ((λ g. serving transfer_burst (transfer-low h past) g), ((λ g. serving write_burst (write-low h past) g), ((λ g. serving barrier_burst (barrier-low h past) g), ((λ g. forwards-all is_low same-low portless-low (λ q addr code. refl) h past p burst (step-kept plan past p burst s) g), ((λ g. serving dvm_burst (dvm-low h past) g), ((λ g. all-as is_low same-low (sync_completion p) burst g refl), ((λ g. named-goes-on-all p is_low (low-asks p) (low-concludes p) same-low (λ r bar i low is. and_from _ _ (lt-ltb i 16 low) (and_from _ _ (lt-ltb i 16 low) refl)) plan.ways next h past burst g), tt))))))))))))))
    sound.1

all-onto : (burst : List Event) (past : Trace) → are_low burst ≡ true → are_low past ≡ true → are_low (onto burst past) ≡ true
all-onto [] past new old = old
all-onto (e ∷ burst) past new old = let parts = and_parts (is_low e) (are_low burst) new in all-onto burst (e ∷ past) parts.1 (and_from _ _ parts.0 old)

pub low-run : (plan : Plan) (past : Trace) → AreSteps plan past → are_low past ≡ true
low-run plan past s =
    of-each-run plan (λ past. are_low past ≡ true) refl (λ before p burst low step. all-onto burst before (low-step plan before p burst step) low) past s

-- ---- names of transactions ---------------------------------------------------------------------------

issues-low : (e : Event) (n : ℕ) → is_low e ≡ true → is_none_or (issued n e) (λ x. nat_lt x.id 16) ≡ true
issues-low (Ar p i addr snoop dom bar lock) n low = low
issues-low (Aw p i addr snoop dom bar) n low = low
issues-low e n low = refl

issued-low : (past : Trace) (x : Transaction) → are_low past ≡ true → IsIssued past x → nat_lt x.id 16 ≡ true
issued-low [] x low i = let none = i.before in absurd (omega (arith, none))
issued-low (e ∷ past) x low i =
    let parts = and_parts (is_low e) (are_low past) low in
    elim (issued-cases e past x i) [
      | inl new ↦ is_none_or-at (issued (length past) e) (λ x. nat_lt x.id 16) x (issues-low e (length past) parts.0) new
      | inr old ↦ issued-low past x parts.1 old
    ]

-- the identifier of an outstanding transaction
pub name-low : (h : Header) (past : Trace) (p : ℕ) (c : Channel) (i : ℕ) (x : Transaction) → are_low past ≡ true → outstanding h past p c i ≡ Some x → i < 16
name-low h past p c i x low is =
    ltb-true i 16 (subst (λ n. nat_lt n 16 ≡ true) (outstanding-name h past p c i x is).id (issued-low past x low (outstanding-issued h past p c i x is)))
