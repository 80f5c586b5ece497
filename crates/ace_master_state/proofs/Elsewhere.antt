-- An event of another port leaves all that a port's master keeps beside its transactions and snoops.
use Rattle.std.specs.List.{count_by}
use Rattle.std.proofs.Common.{◌≡◌, ℕ, ◌∷◌, [], true, false, Bool, ◌&&◌, ◌==◌, not, if◌then◌else◌, Some, is_some, refl, sym, ap, ◌∙◌}
use Rattle.std.proofs.lemmas.Bool.{eq-eqb, eqb-true, false_from_ne_true}
use Rattle.ace_event.specs.declared.event.Event.{Event}
use Rattle.ace_event.specs.declared.event.Event.TheVariants.{D, L}
use Rattle.ace_event.specs.declared.header.Header.{Header}
use Rattle.ace_event.specs.Range.{FitsFields}
use Rattle.ace_tables.specs.States.{is_invalid}
use Rattle.ace_model.specs.Accepted.{IsAccepted}
use Rattle.ace_model.specs.Monitors.{is_monitored, is_set_by}
use Rattle.ace_model.specs.Plans.{Plan}
use Rattle.ace_model.specs.States.{state_of}
use Rattle.ace_model.specs.Trace.{Trace, port_of}
use Rattle.ace_runs.specs.Retiring.{tells_completion}
use Rattle.ace_runs.specs.Segments.{is_at_port}
use Rattle.ace_engine.specs.Engines.{IsLegal}
use Rattle.ace_cache.specs.Ways.{way_of}
use Rattle.ace_master_state.specs.declared.cached.Cached.{Cached}
use Rattle.ace_master_state.specs.declared.completions.Completions.{Completions}
use Rattle.ace_master_state.specs.declared.kept.Kept.{Kept}
use Rattle.ace_master_state.specs.declared.monitor.Monitor.{Monitor}
use Rattle.ace_master_state.specs.declared.segment.Segment.{Segment}
use Rattle.ace_master_state.specs.declared.syncs.Syncs.{Syncs}
use Rattle.ace_master_state.specs.Cached.{CachedStands, HasLowId}
use Rattle.ace_master_state.specs.Completions.{CompletionsStand}
use Rattle.ace_master_state.specs.Kept.{KeptStands, RestStands}
use Rattle.ace_master_state.specs.Monitor.{MonitorStands}
use Rattle.ace_master_state.specs.Segment.{SegmentStands}
use Rattle.ace_master_state.specs.Syncs.{SyncsStand}
use Rattle.ace_master_state.proofs.ArrivingHeard.{arriving-heard, elsewhere-brings}
use Rattle.ace_master_state.proofs.IdentifierMoves.{stands-elsewhere}
use Rattle.ace_master_state.proofs.LinesHeard.{held-elsewhere, state-elsewhere}
use Rattle.ace_master_state.proofs.SegmentMoves.{acts-elsewhere, segment-elsewhere}
use Rattle.ace_master_state.proofs.SyncMoves.{completed-elsewhere, unanswered-elsewhere, waits-elsewhere}
use Rattle.ace_master_state.proofs.SyncsAnswered.{answered-stay, awaits-stays, completes-elsewhere, syncs-stay}

module _ (plan : Plan) (past : Trace) (p : ℕ) (e : Event) (legal : IsLegal plan (e ∷ past)) (apart : is_at_port p e ≡ false) where
  pub lines-elsewhere : (s : Cached) → FitsFields e → (port_of e ≡ Some p → HasLowId e)
      → CachedStands plan.header plan.ways past p s → CachedStands plan.header plan.ways (e ∷ past) p s
  lines-elsewhere s fits low k =
      let h = plan.header in
      record {
        fits = (fits, k.fits);
        ways = k.ways;
        lines = λ l. held-elsewhere h past e legal.accepted p l (way_of s.cache.held l) apart (k.lines l);
        arriving = arriving-heard h past e p s.arriving s.arriving k.arriving low (elsewhere-brings h past e legal.accepted p s.arriving k.arriving apart);
      }

  pub segment-stays : (s : Segment) → SegmentStands past p s → SegmentStands (e ∷ past) p s
  segment-stays s k = record {
    port = k.port;
    issued = k.issued ∙ sym (segment-elsewhere past e p apart);
    acts = k.acts ∙ sym (acts-elsewhere past e p apart);
    room = k.room;
  }

  pub completions-stay : (s : Completions) → CompletionsStand past p s → CompletionsStand (e ∷ past) p s
  completions-stay s k =
      let same = answered-stay plan.header past e p legal.accepted (λ q resp st is there.
      let here : is_at_port p e ≡ true = ap (is_at_port p) is ∙ eq-eqb q p there in
      let bad : true ≡ false = sym here ∙ apart in cc) in
      record {
        port = k.port;
        answered = k.answered ∙ sym (syncs-stay past e p same);
        issued = k.issued ∙ sym (completes-elsewhere past e p apart);
        second = k.second ∙ sym (awaits-stays past e p same);
      }

  pub syncs-unmoved : (s : Syncs) → SyncsStand past p s → SyncsStand (e ∷ past) p s
  syncs-unmoved s k = record {
    port = k.port;
    second = k.second ∙ sym (ap is_some (waits-elsewhere past e p apart));
    completed = k.completed ∙ sym (completed-elsewhere past e p apart);
    unanswered = k.unanswered ∙ sym (ap (count_by tells_completion) (unanswered-elsewhere past e p apart));
  }

-- a port's monitor is set and reset by its own accesses
swap : (a b : ℕ) → (a == b) ≡ false → (b == a) ≡ false
swap a b f = false_from_ne_true (b == a) (λ t. let back = eq-eqb a b (sym (eqb-true b a t)) in cc)

set-elsewhere : (e : Event) (p l : ℕ) (was : Bool) → is_at_port p e ≡ false → is_set_by e p l was ≡ was
set-elsewhere (L q addr w x word) p l was apart = ap (λ b. if b && x then l == addr else was) (swap q p apart)
set-elsewhere (D q addr strobe x line) p l was apart = ap (λ b. was && not (b && x)) (swap q p apart) ∙ by was
  where
    by : (b : Bool) → (b && true) ≡ b
    by true = refl
    by false = refl
set-elsewhere e p l was apart = refl

-- and for no line that it doesn't hold
monitored-held : (h : Header) (past : Trace) (p l : ℕ) → (is_monitored h past p l && not (is_invalid (state_of h past p l))) ≡ is_monitored h past p l
monitored-held h [] p l = refl
monitored-held h (e ∷ past) p l = twice (is_set_by e p l (is_monitored h past p l)) (not (is_invalid (state_of h (e ∷ past) p l)))
  where
    twice : (a b : Bool) → ((a && b) && b) ≡ (a && b)
    twice true true = refl
    twice true false = refl
    twice false b = refl

pub monitor-stays : (h : Header) (past : Trace) (p : ℕ) (e : Event) → IsAccepted h (e ∷ past) → is_at_port p e ≡ false
    → (s : Monitor) → MonitorStands h past p s → MonitorStands h (e ∷ past) p s
monitor-stays h past p e a apart s k = record { port = k.port; set = λ l. same l ∙ k.set l }
  where
    same : (l : ℕ) → is_monitored h (e ∷ past) p l ≡ is_monitored h past p l
    same l =
        ap (λ b. b && not (is_invalid (state_of h (e ∷ past) p l))) (set-elsewhere e p l (is_monitored h past p l) apart)
        ∙ ap (λ st. is_monitored h past p l && not (is_invalid st)) (state-elsewhere h past e a p l apart)
        ∙ monitored-held h past p l

-- all that
pub rest-stays : (plan : Plan) (past : Trace) (p : ℕ) (e : Event) → IsLegal plan (e ∷ past) → is_at_port p e ≡ false → FitsFields e
    → (port_of e ≡ Some p → HasLowId e) → (s : Kept) → KeptStands plan past p s → RestStands plan (e ∷ past) p s
rest-stays plan past p e legal apart fits low s k = record {
  identifiers = stands-elsewhere plan.header past p e apart s.identifiers k.identifiers;
  lines = lines-elsewhere plan past p e legal apart s.lines fits low k.lines;
  monitor = monitor-stays plan.header past p e legal.accepted apart s.monitor k.monitor;
  segment = segment-stays plan past p e legal apart s.segment k.segment;
  completions = completions-stay plan past p e legal apart s.completions k.completions;
  syncs = syncs-unmoved plan past p e legal apart s.syncs k.syncs;
}
