-- A step of an ACE port, and what its master keeps then.
use Rattle.std.proofs.Common.{◌≡◌, ℕ, ◌≤◌, ◌<◌, Bool, true, false, ◌&&◌, ◌||◌, ◌==◌, if◌then◌else◌, List, [], ◌∷◌, length, Option, Some, None, refl, sym, ap, subst, le-leb, arith, eqb-true}
use Rattle.std.specs.List.{list_all}
use Rattle.ace_codes.specs.declared.kind.ArKind.TheVariants as read
use Rattle.ace_codes.specs.Reads.{ar_code}
use Rattle.ace_codes.specs.Responses.{transfers_data}
use Rattle.ace_event.specs.declared.event.Channel.TheVariants.{Read}
use Rattle.ace_event.specs.declared.event.Event.TheVariants.{Ar, Cr}
use Rattle.ace_event.specs.declared.event.Outcome.TheVariants.{Ok}
use Rattle.ace_event.specs.declared.header.Header.{Header}
use Rattle.ace_model.specs.Copies.{copy_of}
use Rattle.ace_model.specs.Snoops.{answered, snoops_a_line}
use Rattle.ace_model.proofs.General.Options.{is_some_and-is}
use Rattle.ace_runs.specs.Closing.{retirement}
use Rattle.ace_runs.specs.Follows.{owes_completion}
use Rattle.ace_runs.specs.Operations.{next_operation}
use Rattle.ace_runs.specs.Requests.{free_on, is_free, with_identifier}
use Rattle.ace_runs.specs.Retiring.{tells_completion}
use Rattle.ace_runs.specs.SameEvents.{same_burst}
use Rattle.ace_runs.proofs.NeverStuck.Operations.Identifiers.{least-low}
use Rattle.ace_runs.proofs.NeverStuck.Steps.Lists.{all-if}
use Rattle.ace_runs.proofs.NeverStuck.Steps.SameBursts.{all-as}
use Rattle.ace_runs.proofs.NeverStuck.Steps.SameEvents.{TellsSame, tells-same}
use Rattle.std.proofs.lemmas.Bool.{and_from, and_parts, or_left, or_right}
use Rattle.ace_event.specs.declared.event.Event.{Event}
use Rattle.ace_model.specs.declared.plans.Op.{Op}
use Rattle.ace_model.specs.Plans.{Plan}
use Rattle.ace_model.specs.Trace.{Trace, is_some_and, more}
use Rattle.ace_model.specs.Transactions.{is_ace}
use Rattle.std.proofs.Math.Bool.{and-false}
use Rattle.ace_model.specs.Writes.{data_writes}
use Rattle.ace_model.proofs.Trace.Outstanding.{read_issued}
use Rattle.ace_runs.specs.Bursts.{onto}
use Rattle.ace_runs.specs.MasterSteps.{acknowledges, after_answer, answers_snoop, completion_bursts, data_burst, goes_on, is_beat, may_acknowledge, may_answer_snoop, may_go_on, may_send, sends}
use Rattle.ace_runs.specs.Steps.{is_sound, is_step_by, most_events}
use Rattle.ace_engine.specs.Engines.{IsLegal}
use Rattle.ace_portck.specs.declared.target.WriteData.{WriteData}
use Rattle.ace_portck.specs.OnePort.{OnePortStands}
use Rattle.ace_master_laws.specs.Chosen.{AreChosen}
use Rattle.ace_master_laws.proofs.MasterLaw.{orderly-step}
use Rattle.ace_master_state.specs.declared.kept.Kept.{Kept}
use Rattle.ace_master_state.specs.Cached.{CachedStands}
use Rattle.ace_master_state.specs.Kept.{KeptStands}
use Rattle.ace_master.specs.AceEvents.{HaveLowIds}
use Rattle.ace_master.specs.AcePort.{AceTells}
use Rattle.ace_master.specs.Answering.{AreDataSent, IsAnswer, Stands}
use Rattle.ace_master.specs.KeptPort.{KeepsPort}
use Rattle.ace_master.specs.Lite.{own_steps}
use Rattle.ace_master.specs.Sending.{IsSent, UnsentStands}
use Rattle.ace_master.proofs.AcePorts.Bursts.{beats-answered, beats-low, is_quiet, quiet-low, quiet-unsent}
use Rattle.ace_master.proofs.AnsweredSnoops.AnnouncedData.{data-sent-left}
use Rattle.ace_master.proofs.WriteData.UnsentData.{unsent-left, unsent-sent}

-- what is kept of the port alone
pub keeps-port : (plan : Plan) (past : Trace) (p : ℕ) (s : Kept) → KeptStands plan past p s → KeepsPort s.port plan past
keeps-port plan past p s k = record {
  legal = k.legal;
  kept = subst (OnePortStands s.port plan.header past) (sym k.port.port) k.port;
  room = λ ace. k.room;
}

-- what the answers to its snoops go by
pub answers-by : (plan : Plan) (past : Trace) (p : ℕ) (s : Kept) → KeptStands plan past p s → AreDataSent past p → Stands plan past s.port s.lines
answers-by plan past p s k answered =
    let same = k.port.port in
    record {
      kept = keeps-port plan past p s k;
      lines = subst (λ q. CachedStands plan.header plan.ways past q s.lines) (sym same) k.lines;
      data_sent = subst (AreDataSent past) (sym same) answered;
    }

-- The burst is a step of the port, the trace stays legal with it, and this is what the master keeps then.
pub record IsTaken (plan : Plan) (past : Trace) (p : ℕ) (burst : List Event) (operations : List Op) (unsent : Option WriteData) : Type 0 where
  pub step : is_step_by own_steps plan past p burst ≡ true
  pub legal : IsLegal plan (onto burst past)
  pub low : HaveLowIds burst
  pub tells : AceTells plan (onto burst past) p operations unsent

-- ---- the bursts of steps -----------------------------------------------------------------------------

same-quiet : TellsSame is_quiet
same-quiet = tells-same is_quiet (λ p c i line. refl) (λ p a s x line. refl) (λ a line. refl)

answers-quiet : (h : Header) (past : Trace) (p : ℕ) (burst : List Event) → answers_snoop h past p burst ≡ true → list_all is_quiet burst ≡ true
answers-quiet h past p (Cr q resp st ∷ rest) g =
    let parts = and_parts (p == q) (is_some_and (answered past p) (λ s. same_burst (after_answer past p s resp) rest)) g in
    let s = is_some_and-is (answered past p) (λ s. same_burst (after_answer past p s resp) rest) parts.1 in
    all-as is_quiet same-quiet (after_answer past p s.0 resp) rest s.2
    (all-if is_quiet (tells_completion s.0) (retirement past p Ok) _ refl
    (all-if is_quiet (snoops_a_line s.0.snoop && transfers_data resp) (data_burst p (copy_of past p s.0.addr)) [] refl refl))
answers-quiet h past p _ g = cc

answers-some : (h : Header) (past : Trace) (p : ℕ) (burst : List Event) → answers_snoop h past p burst ≡ true → 1 ≤ length burst
answers-some h past p [] g = cc
answers-some h past p (e ∷ rest) g = omega arith

-- the first of the bursts
abbrev first_of : List (List Event) → List Event
first_of [] = []
first_of (burst ∷ bursts) = burst

-- the burst of a DVM Complete
pub completion-at : (h : Header) (past : Trace) (p : ℕ) (burst : List Event) → completion_bursts h past p ≡ burst ∷ []
    → (i : ℕ) × (i < 16) × (burst ≡ Ar p i 0 (ar_code read.DvmComplete) 1 0 false ∷ [])
completion-at h past p burst is = by (is_ace h p && owes_completion past p) (free_on h past p Read) refl is
  where
    by : (b : Bool) (o : Option ℕ) → free_on h past p Read ≡ o
        → (if b then with_identifier o (λ i. Ar p i 0 (ar_code read.DvmComplete) 1 0 false ∷ []) else []) ≡ burst ∷ []
        → (i : ℕ) × (i < 16) × (burst ≡ Ar p i 0 (ar_code read.DvmComplete) 1 0 false ∷ [])
    by true (Some i) free same = (i, (least-low 16 (is_free h past p Read) i free).0, sym (ap first_of same))
    by true None free same = cc
    by false o free same = cc

-- a step of number 14 is one of a master
pub going-own : (plan : Plan) (past : Trace) (p : ℕ) (burst : List Event) → is_step_by (14 ∷ []) plan past p burst ≡ true → is_step_by own_steps plan past p burst ≡ true
going-own plan past p burst s =
    let h = plan.header in
    let next = next_operation plan past p in
    let goes : Bool = (may_go_on plan.ways next h past p && goes_on plan.ways next h past p burst) || false in
    let parts = and_parts (is_sound h past burst) goes s in
    and_from _ _ parts.0
    (or_right (may_answer_snoop h past p && answers_snoop h past p burst) _
    (or_right (may_send h past p && sends h past p burst) _
    (or_right (may_acknowledge next h past p && acknowledges next h past p burst) goes parts.1)))

module _ (plan : Plan) (past : Trace) (p : ℕ) (burst : List Event) (ace : is_ace plan.header p ≡ true) (legal : IsLegal plan past) (operations : List Op) (before : Option WriteData)
    (t : AceTells plan past p operations before) where
  -- a step by which the data of answers and the burst that isn't sent stay as they are to be
  pub taken : (unsent : Option WriteData) → is_step_by own_steps plan past p burst ≡ true → AreChosen plan past burst → HaveLowIds burst → AreDataSent (onto burst past) p
      → UnsentStands plan (onto burst past) p unsent → IsTaken plan past p burst operations unsent
  taken unsent step chosen low answered unsent_is =
      let law = orderly-step plan past p burst ace legal t.orderly step chosen in
      record {
        step = step;
        legal = law.0;
        low = low;
        tells = record { operations_are = t.operations_are; orderly = law.1; answered = answered; unsent_is = unsent_is };
      }

  -- ---- step 2 ----

  pub sent-taken : IsSent plan past p burst → IsTaken plan past p burst operations before
  sent-taken s =
      let parts = and_parts (list_all (is_beat p) burst) (length burst == 4) s.step in
      let four = eqb-true (length burst) 4 parts.1 in
      let sound : is_sound plan.header past burst ≡ true =
      and_from _ _ (and_from _ _ (le-leb 1 (length burst) (omega (arith, four))) (le-leb (length burst) most_events (omega (arith, four)))) s.kept in
      let step : is_step_by own_steps plan past p burst ≡ true =
      and_from _ _ sound
      (or_right (may_answer_snoop plan.header past p && answers_snoop plan.header past p burst) _
      (or_left (may_send plan.header past p && sends plan.header past p burst) _ (and_from _ _ s.may s.step))) in
      taken before step s.chosen (beats-low p burst parts.0) (beats-answered p burst past parts.0 t.answered) (unsent-sent plan past p burst before before s t.unsent_is)

  -- ---- step 1 ----

  pub answer-taken : IsAnswer plan past p burst → AreChosen plan past burst → length burst ≤ most_events → IsTaken plan past p burst operations before
  answer-taken s chosen few =
      let h = plan.header in
      let quiet = answers-quiet h past p burst s.step in
      let sound : is_sound h past burst ≡ true =
      and_from _ _ (and_from _ _ (le-leb 1 (length burst) (answers-some h past p burst s.step)) (le-leb (length burst) most_events few)) s.kept in
      let step : is_step_by own_steps plan past p burst ≡ true =
      and_from _ _ sound (or_left (may_answer_snoop h past p && answers_snoop h past p burst) _ (and_from _ _ s.may s.step)) in
      taken before step chosen (quiet-low burst quiet) s.data_sent (quiet-unsent plan p before burst past quiet t.unsent_is)

  -- ---- the DVM Complete of step 14 ----

  pub completion-taken : completion_bursts plan.header past p ≡ burst ∷ [] → is_step_by (14 ∷ []) plan past p burst ≡ true → IsTaken plan past p burst operations before
  completion-taken is step =
      let at = completion-at plan.header past p burst is in
      let e = Ar p at.0 0 (ar_code read.DvmComplete) 1 0 false in
      let x = read_issued past p at.0 0 (ar_code read.DvmComplete) 1 0 false in
      let one = sym at.2 in
      let writes : data_writes (e ∷ past) p ≡ data_writes past p = ap (λ b. more (data_writes past p) (if b then Some x else None)) (and-false (p == p)) in
      taken before (going-own plan past p burst step) (subst (AreChosen plan past) one (refl, tt)) (subst HaveLowIds one (at.1, tt))
      (subst (λ es. AreDataSent (onto es past) p) one (data-sent-left past p e refl t.answered))
      (subst (λ es. UnsentStands plan (onto es past) p before) one (unsent-left plan past p e before writes refl t.unsent_is))
