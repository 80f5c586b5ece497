-- Between the steps of a run the beats of write data of each port are whole bursts: a step puts none, or the four of one burst.
use Rattle.std.proofs.Common.{◌≡◌, ℕ, ◌+◌, ◌*◌, true, false, not, ◌==◌, List, [], ◌∷◌, ◌++◌, length, inl, inr, refl, ap, ◌∙◌, arith}
use Rattle.std.specs.List.{list_all}
use Rattle.std.proofs.lemmas.Bool.{and_parts, cases_Bool, eqb-true}
use Rattle.ace_event.specs.declared.event.Event.{Event}
use Rattle.ace_event.specs.declared.event.Event.TheVariants.{W}
use Rattle.ace_event.specs.declared.header.Header.{Header}
use Rattle.ace_model.specs.declared.transactions.Transaction.{Transaction}
use Rattle.ace_model.specs.Plans.{Plan}
use Rattle.ace_model.specs.Trace.{Trace}
use Rattle.ace_runs.specs.Bursts.{onto}
use Rattle.ace_runs.specs.Counts.{counted, is_write_beat}
use Rattle.ace_runs.specs.LineSteps.{memory_write, response}
use Rattle.ace_runs.specs.MasterSteps.{is_beat, sends}
use Rattle.ace_runs.specs.Steps.{AreSteps, is_step}
use Rattle.ace_runs.proofs.Few.Ports.{at_port}
use Rattle.ace_runs.proofs.Turns.{of-each-run}
use Rattle.ace_runs.proofs.NeverStuck.Steps.SameBursts.{all-as}
use Rattle.ace_runs.proofs.NeverStuck.Steps.SameEvents.{TellsSame, tells-same}
use Rattle.ace_runs.proofs.NeverStuck.Steps.Lists.{all-implied}
use Rattle.ace_runs.proofs.NeverStuck.Steps.Serving.{responded-all, written-all}
use Rattle.ace_runs.proofs.NeverStuck.Steps.StepEvents.{answers-answering, is_answering}
use Rattle.ace_runs.proofs.NeverStuck.Steps.StepShapes.{WritesFor, is_plain, step-shape}

-- how many beats of write data the port has
abbrev pub beats_of_port : Trace → ℕ → ℕ
beats_of_port past p = counted (at_port is_write_beat p) past

-- each port has four for each of its bursts
abbrev pub AreBurstsWhole : Trace → Type 0
AreBurstsWhole past = (p : ℕ) → (n : ℕ) × (beats_of_port past p ≡ n * 4)

-- ---- without beats -----------------------------------------------------------------------------------

no-beat-same : (e : Event) (past : Trace) (p : ℕ) → not (is_write_beat e) ≡ true → beats_of_port (e ∷ past) p ≡ beats_of_port past p
no-beat-same (W q strb last word) past p none = cc
no-beat-same e past p none = refl

no-beats-same : (burst : List Event) (past : Trace) (p : ℕ) → list_all (λ e. not (is_write_beat e)) burst ≡ true → beats_of_port (onto burst past) p ≡ beats_of_port past p
no-beats-same [] past p none = refl
no-beats-same (e ∷ burst) past p none =
    let parts = and_parts (not (is_write_beat e)) (list_all (λ e. not (is_write_beat e)) burst) none in
    no-beats-same burst (e ∷ past) p parts.1 ∙ no-beat-same e past p parts.0

plain-no-beat : (e : Event) → is_plain e ≡ true → not (is_write_beat e) ≡ true
plain-no-beat (W q strb last word) m = cc
plain-no-beat e m = refl

answering-no-beat : (e : Event) → is_answering e ≡ true → not (is_write_beat e) ≡ true
answering-no-beat (W q strb last word) m = cc
answering-no-beat e m = refl

same-beat : TellsSame (λ e. not (is_write_beat e))
same-beat = tells-same (λ e. not (is_write_beat e)) (λ p c i line. refl) (λ p a s x line. refl) (λ a line. refl)

writes-no-beats : (h : Header) (past : Trace) (burst : List Event) (x : Transaction) → WritesFor h past burst x → list_all (λ e. not (is_write_beat e)) burst ≡ true
writes-no-beats h past burst x (inl w) = all-as (λ e. not (is_write_beat e)) same-beat (memory_write h past x ++ response x) burst w.1 (responded-all (λ e. not (is_write_beat e)) (λ p c i line. refl) (λ p i resp. refl) h past x)
writes-no-beats h past burst x (inr w) = all-as (λ e. not (is_write_beat e)) same-beat (memory_write h past x) burst w.1 (written-all (λ e. not (is_write_beat e)) (λ p c i line. refl) h past x)

-- ---- the beats of one burst --------------------------------------------------------------------------

beat-of-port : (e : Event) (past : Trace) (q p : ℕ) → is_beat q e ≡ true → (q == p) ≡ true → beats_of_port (e ∷ past) p ≡ beats_of_port past p + 1
beat-of-port (W r strb last word) past q p b same = let one = eqb-true q r b in rw (← one, same) refl
beat-of-port e past q p b same = cc

beat-of-other : (e : Event) (past : Trace) (q p : ℕ) → is_beat q e ≡ true → (q == p) ≡ false → beats_of_port (e ∷ past) p ≡ beats_of_port past p
beat-of-other (W r strb last word) past q p b other = let one = eqb-true q r b in rw (← one, other) refl
beat-of-other e past q p b other = cc

beats-of-port : (burst : List Event) (past : Trace) (q p : ℕ) → list_all (is_beat q) burst ≡ true → (q == p) ≡ true → beats_of_port (onto burst past) p ≡ beats_of_port past p + length burst
beats-of-port [] past q p b same = omega arith
beats-of-port (e ∷ burst) past q p b same =
    let parts = and_parts (is_beat q e) (list_all (is_beat q) burst) b in
    let rest = beats-of-port burst (e ∷ past) q p parts.1 same in
    let first = beat-of-port e past q p parts.0 same in
    rest ∙ ap (λ n. n + length burst) first ∙ (omega arith)

beats-of-other : (burst : List Event) (past : Trace) (q p : ℕ) → list_all (is_beat q) burst ≡ true → (q == p) ≡ false → beats_of_port (onto burst past) p ≡ beats_of_port past p
beats-of-other [] past q p b other = refl
beats-of-other (e ∷ burst) past q p b other =
    let parts = and_parts (is_beat q e) (list_all (is_beat q) burst) b in
    beats-of-other burst (e ∷ past) q p parts.1 other ∙ beat-of-other e past q p parts.0 other

-- ---- all steps ---------------------------------------------------------------------------------------

kept-by-none : (burst : List Event) (past : Trace) → AreBurstsWhole past → list_all (λ e. not (is_write_beat e)) burst ≡ true → AreBurstsWhole (onto burst past)
kept-by-none burst past whole none p = ((whole p).0, no-beats-same burst past p none ∙ (whole p).1)

kept-by-burst : (h : Header) (burst : List Event) (past : Trace) (q : ℕ) → AreBurstsWhole past → sends h past q burst ≡ true → AreBurstsWhole (onto burst past)
kept-by-burst h burst past q whole s p =
    let parts = and_parts (list_all (is_beat q) burst) (length burst == 4) s in
    let four = eqb-true (length burst) 4 parts.1 in
    let w = whole p in
    elim (cases_Bool (q == p)) [
      | inl same ↦ (w.0 + 1, beats-of-port burst past q p parts.0 same ∙ ap (λ n. beats_of_port past p + n) four ∙ ap (λ n. n + 4) w.1 ∙ (omega arith))
      | inr other ↦ (w.0, beats-of-other burst past q p parts.0 other ∙ w.1)
    ]

pub whole-kept : (plan : Plan) (past : Trace) (p : ℕ) (burst : List Event) → AreBurstsWhole past → is_step plan past p burst ≡ true → AreBurstsWhole (onto burst past)
whole-kept plan past p burst whole s =
    elim (step-shape plan past p burst s) [
      | inl plain ↦ kept-by-none burst past whole (all-implied is_plain (λ e. not (is_write_beat e)) plain-no-beat burst plain)
      | inr (inl sent) ↦ kept-by-burst plan.header burst past p whole sent
      | inr (inr (inl g)) ↦ kept-by-none burst past whole (all-implied is_answering (λ e. not (is_write_beat e)) answering-no-beat burst (answers-answering plan.header past p burst g))
      | inr (inr (inr w)) ↦ kept-by-none burst past whole (writes-no-beats plan.header past burst w.0 w.1)
    ]

-- Each run has whole bursts.
pub bursts-whole : (plan : Plan) (past : Trace) → AreSteps plan past → AreBurstsWhole past
bursts-whole plan past s = of-each-run plan AreBurstsWhole (λ p. (0, refl)) (λ before p burst whole step. whole-kept plan before p burst whole step) past s
