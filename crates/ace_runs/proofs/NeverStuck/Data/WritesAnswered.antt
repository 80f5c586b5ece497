-- Between the steps of a run a write that has written memory has its response: a step that writes memory for a write puts both.
use Rattle.std.proofs.Common.{◌≡◌, ℕ, Bool, true, false, not, ◌&&◌, ◌==◌, List, [], ◌∷◌, ◌++◌, length, map, Option, Some, None, inl, inr, refl, sym, ◌∙◌}
use Rattle.std.specs.List.{list_all}
use Rattle.std.specs.Option.{option_to_list}
use Rattle.std.proofs.lemmas.Bool.{and_parts, and_from, or_cases, or_left, or_right, eqb-true, eq-eqb}
use Rattle.ace_event.specs.declared.event.Channel.TheVariants.{Read, Write}
use Rattle.ace_event.specs.declared.event.Event.{Event}
use Rattle.ace_event.specs.declared.event.Event.TheVariants.{B, M}
use Rattle.ace_event.specs.declared.header.Header.{Header}
use Rattle.ace_event.specs.declared.line.Line.{Line}
use Rattle.ace_model.specs.declared.transactions.Transaction.{Transaction}
use Rattle.ace_model.specs.Plans.{Plan}
use Rattle.ace_model.specs.Trace.{Trace}
use Rattle.ace_model.specs.Transactions.{is_complete, is_completion, is_named, is_read, issued, same_channel}
use Rattle.ace_model.specs.WriteRules.{data_of}
use Rattle.ace_model.specs.Writes.{has_memory_write, is_memory_write}
use Rattle.ace_runs.specs.Bursts.{onto}
use Rattle.ace_runs.specs.LineSteps.{response}
use Rattle.ace_runs.specs.MasterSteps.{is_beat}
use Rattle.ace_runs.specs.SameEvents.{same_burst, same_event}
use Rattle.ace_runs.specs.Steps.{AreSteps, is_step}
use Rattle.ace_runs.proofs.Turns.{of-each-run}
use Rattle.ace_runs.proofs.NeverStuck.Steps.SameEvents.{TellsSame, tells-same}
use Rattle.ace_runs.proofs.NeverStuck.Steps.Lists.{all-implied}
use Rattle.ace_runs.proofs.NeverStuck.Steps.StepEvents.{answers-answering, is_answering}
use Rattle.ace_runs.proofs.NeverStuck.Steps.StepShapes.{WritesFor, is_plain, plain-as, step-shape}

-- a write that has written memory has its response
abbrev pub AreWritesAnswered : Trace → Type 0
AreWritesAnswered past = (p i : ℕ) → has_memory_write past p Write i ≡ true → is_complete past p Write i ≡ true

-- ---- without a write of memory for a write -----------------------------------------------------------

-- the event writes no memory for a write
abbrev writes_none : Event → Bool
writes_none (M p c i line) = is_read c
writes_none _ = true

none-written : (e : Event) (p i : ℕ) → writes_none e ≡ true → is_memory_write e p Write i ≡ false
none-written (M q Read j line) p i n = by (p == q)
  where
    by : (b : Bool) → (b && false && (i == j)) ≡ false
    by true = refl
    by false = refl
none-written (M q Write j line) p i n = cc
none-written e p i n = refl

kept-by-event : (e : Event) (past : Trace) → AreWritesAnswered past → writes_none e ≡ true → AreWritesAnswered (e ∷ past)
kept-by-event e past answered n p i m =
    let old : (not (is_named (issued (length past) e) p Write i) && has_memory_write past p Write i) ≡ true = rw (none-written e p i n) at m in
    let parts = and_parts (not (is_named (issued (length past) e) p Write i)) (has_memory_write past p Write i) old in
    or_right (is_completion e p Write i) _ (and_from _ _ parts.0 (answered p i parts.1))

kept-by-events : (burst : List Event) (past : Trace) → AreWritesAnswered past → list_all writes_none burst ≡ true → AreWritesAnswered (onto burst past)
kept-by-events [] past answered n = answered
kept-by-events (e ∷ burst) past answered n =
    let parts = and_parts (writes_none e) (list_all writes_none burst) n in
    kept-by-events burst (e ∷ past) (kept-by-event e past answered parts.0) parts.1

plain-none : (e : Event) → is_plain e ≡ true → writes_none e ≡ true
plain-none (M p c i line) m = cc
plain-none e m = refl

answering-none : (e : Event) → is_answering e ≡ true → writes_none e ≡ true
answering-none (M p c i line) m = cc
answering-none e m = refl

beat-none : (q : ℕ) (e : Event) → is_beat q e ≡ true → writes_none e ≡ true
beat-none q (M p c i line) b = cc
beat-none q e b = refl

-- ---- with one ----------------------------------------------------------------------------------------

-- the response to the write whose memory was written
answers : (q j p i : ℕ) (r k l resp : ℕ) → (q == r) ≡ true → (j == k) ≡ true → (p == r) ≡ true → (i == k) ≡ true → (q == l) ≡ true
    → (n : ℕ) → (j == n) ≡ true → is_completion (B l n resp) p Write i ≡ true
answers q j p i r k l resp a b c d e n f =
    let at : p ≡ l = eqb-true p r c ∙ sym (eqb-true q r a) ∙ eqb-true q l e in
    let under : i ≡ n = eqb-true i k d ∙ sym (eqb-true j k b) ∙ eqb-true j n f in
    rw (eq-eqb p l at) (eq-eqb i n under)

kept-by-pair : (d e : Event) (past : Trace) (x : Transaction) (line : Line) → AreWritesAnswered past
    → same_event (M x.port x.chan x.id line) d ≡ true → same_event (B x.port x.id 0) e ≡ true → AreWritesAnswered (e ∷ d ∷ past)
kept-by-pair (M r c k other) (B l n resp) past x line answered s t p i m =
    let here = and_parts ((x.port == r) && same_channel x.chan c && (x.id == k)) _ s in
    let three = and_parts ((x.port == r) && same_channel x.chan c) (x.id == k) here.0 in
    let port = (and_parts (x.port == r) (same_channel x.chan c) three.0).0 in
    let there = and_parts ((x.port == l) && (x.id == n)) _ t in
    let two = and_parts (x.port == l) (x.id == n) there.0 in
    elim (or_cases ((p == r) && same_channel Write c && (i == k)) (has_memory_write past p Write i) m) [
      | inl now ↦
          let of = and_parts ((p == r) && same_channel Write c) (i == k) now in
          or_left (is_completion (B l n resp) p Write i) _
          (answers x.port x.id p i r k l resp port three.1 (and_parts (p == r) (same_channel Write c) of.0).0 of.1 two.0 n two.1)
      | inr old ↦ or_right (is_completion (B l n resp) p Write i) _ (answered p i old)
    ]
kept-by-pair (M r c k other) e past x line answered s t p i m = cc
kept-by-pair d e past x line answered s t p i m = cc

kept-by-write : (past : Trace) (burst : List Event) (x : Transaction) (o : Option Line) → AreWritesAnswered past
    → same_burst (map (λ line. M x.port x.chan x.id line) (option_to_list o) ++ response x) burst ≡ true → AreWritesAnswered (onto burst past)
kept-by-write past burst x None answered s = kept-by-events burst past answered (all-implied is_plain writes_none plain-none burst (plain-as (response x) burst s refl))
kept-by-write past [] x (Some line) answered s = cc
kept-by-write past (d ∷ []) x (Some line) answered s =
    let parts = and_parts (same_event (M x.port x.chan x.id line) d) false s in cc
kept-by-write past (d ∷ e ∷ []) x (Some line) answered s =
    let parts = and_parts (same_event (M x.port x.chan x.id line) d) (same_event (B x.port x.id 0) e && true) s in
    kept-by-pair d e past x line answered parts.0 (and_parts (same_event (B x.port x.id 0) e) true parts.1).0
kept-by-write past (d ∷ e ∷ f ∷ burst) x (Some line) answered s =
    let parts = and_parts (same_event (M x.port x.chan x.id line) d) (same_event (B x.port x.id 0) e && false) s in
    let none = and_parts (same_event (B x.port x.id 0) e) false parts.1 in cc

same-writes : TellsSame writes_none
same-writes = tells-same writes_none (λ p c i line. refl) (λ p a s x line. refl) (λ a line. refl)

read-none : (d : Event) (x : Transaction) (line : Line) → is_read x.chan ≡ true → same_event (M x.port x.chan x.id line) d ≡ true → writes_none d ≡ true
read-none d x line reads s = sym (same-writes (M x.port x.chan x.id line) d s) ∙ reads

kept-by-passed : (past : Trace) (burst : List Event) (x : Transaction) (o : Option Line) → AreWritesAnswered past → is_read x.chan ≡ true
    → same_burst (map (λ line. M x.port x.chan x.id line) (option_to_list o)) burst ≡ true → AreWritesAnswered (onto burst past)
kept-by-passed past [] x o answered reads s = answered
kept-by-passed past (d ∷ burst) x None answered reads s = cc
kept-by-passed past (d ∷ []) x (Some line) answered reads s =
    kept-by-event d past answered (read-none d x line reads (and_parts (same_event (M x.port x.chan x.id line) d) true s).0)
kept-by-passed past (d ∷ e ∷ burst) x (Some line) answered reads s =
    let none = and_parts (same_event (M x.port x.chan x.id line) d) false s in cc

-- ---- all steps ---------------------------------------------------------------------------------------

for-one : (h : Header) (past : Trace) (burst : List Event) (x : Transaction) → AreWritesAnswered past → WritesFor h past burst x → AreWritesAnswered (onto burst past)
for-one h past burst x answered (inl w) = kept-by-write past burst x (data_of h past x) answered w.1
for-one h past burst x answered (inr w) = kept-by-passed past burst x (data_of h past x) answered w.0 w.1

pub answered-kept : (plan : Plan) (past : Trace) (p : ℕ) (burst : List Event) → AreWritesAnswered past → is_step plan past p burst ≡ true → AreWritesAnswered (onto burst past)
answered-kept plan past p burst answered s =
    elim (step-shape plan past p burst s) [
      | inl plain ↦ kept-by-events burst past answered (all-implied is_plain writes_none plain-none burst plain)
      | inr (inl sent) ↦ kept-by-events burst past answered (all-implied (is_beat p) writes_none (beat-none p) burst (and_parts (list_all (is_beat p) burst) (length burst == 4) sent).0)
      | inr (inr (inl g)) ↦ kept-by-events burst past answered (all-implied is_answering writes_none answering-none burst (answers-answering plan.header past p burst g))
      | inr (inr (inr w)) ↦ for-one plan.header past burst w.0 answered w.1
    ]

-- In each run, what has written memory has its response.
pub writes-answered : (plan : Plan) (past : Trace) → AreSteps plan past → AreWritesAnswered past
writes-answered plan past s =
    of-each-run plan AreWritesAnswered (λ p i m. cc) (λ before p burst answered step. answered-kept plan before p burst answered step) past s
