-- Answering snoops, and sending write data: what a master does by steps 1 and 2 obeys the plan and stays lean, where its choices meet what they have
-- to, and leaves how far its operations have come.
use Rattle.std.proofs.Common.{◌≡◌, ℕ, Bool, true, false, not, ◌&&◌, ◌==◌, if◌then◌else◌, List, [], ◌∷◌, Some, None, refl, sym, subst, ◌∙◌}
use Rattle.std.specs.List.{list_all}
use Rattle.std.proofs.lemmas.Bool.{and_parts, eqb-true, or_right}
use Rattle.ace_codes.specs.Responses.{transfers_data}
use Rattle.ace_codes.specs.declared.state.LineState.{LineState}
use Rattle.ace_event.specs.declared.event.Event.{Event}
use Rattle.ace_event.specs.declared.event.Event.TheVariants.{W, Cr, Cd}
use Rattle.ace_event.specs.declared.event.Outcome.TheVariants.{Ok}
use Rattle.ace_event.specs.declared.header.Header.{Header}
use Rattle.ace_model.specs.declared.plans.Op.{Op}
use Rattle.ace_model.specs.declared.plans.Op.TheVariants as op
use Rattle.ace_model.specs.declared.snoops.Snoop.{Snoop}
use Rattle.ace_model.specs.Accepted.{IsAccepted}
use Rattle.ace_model.specs.Copies.{copy_of}
use Rattle.ace_model.specs.Plans.{IsRight, Plan}
use Rattle.ace_model.specs.Snoops.{answered, snoops_a_line}
use Rattle.ace_model.specs.Trace.{Trace, is_some_and}
use Rattle.ace_model.specs.Transactions.{is_ace}
use Rattle.ace_model.proofs.General.Options.{is_some_and-is, Some-injective}
use Rattle.ace_runs.specs.Bursts.{are_kept, is_kept, onto}
use Rattle.ace_runs.specs.Follows.{FollowsSoFar, answers_well, carries_data}
use Rattle.ace_runs.specs.MasterSteps.{after_answer, answers_snoop, data_burst, is_beat, sends}
use Rattle.ace_runs.specs.Retiring.{tells_completion}
use Rattle.ace_runs.specs.SameEvents.{same_burst}
use Rattle.ace_runs.proofs.Accepting.{kept-breaks-none}
use Rattle.ace_runs.proofs.NeverStuck.Phases.Finished.{asks_sync}
use Rattle.ace_runs.proofs.NeverStuck.Steps.Lists.{all-if}
use Rattle.ace_runs.proofs.NeverStuck.Steps.SameBursts.{all-as}
use Rattle.ace_runs.proofs.NeverStuck.Steps.SameEvents.{TellsSame, tells-same}
use Rattle.ace_master_laws.specs.Chosen.{AreChosen}
use Rattle.ace_master_laws.specs.Orderly.{read_wanted}
use Rattle.ace_master_laws.proofs.Progress.Come.{HasCome, calm-come, leaves-come, none-wanted, out-stays, retired-come}
use Rattle.ace_master_laws.proofs.Progress.Endings.{others-raise-none, retirement-same}
use Rattle.ace_master_laws.proofs.Lines.Gentle.{gentle}
use Rattle.ace_master_laws.proofs.Answers.Syncs.{answer-ends-sync}
use Rattle.ace_master_laws.proofs.Progress.Wells.{AllWell, IsWell, cd-well, cr-well, gentle-room, op-well, w-well}
use Rattle.ace_runs.specs.Closing.{retirement}
use Rattle.ace_model.specs.OrderRules.{retired}

-- The burst obeys the plan, stays lean, and leaves how far the port has come.
pub record KeepsOn (plan : Plan) (past : Trace) (p : ℕ) (burst : List Event) : Type 0 where
  pub well : AllWell plan past burst
  pub come : HasCome plan (onto burst past) p

pub accepted-one : (plan : Plan) (past : Trace) (e : Event) (burst : List Event) → IsAccepted plan.header past → are_kept plan.header past (e ∷ burst) ≡ true → IsAccepted plan.header (e ∷ past)
accepted-one plan past e burst a kept = (a, kept-breaks-none plan.header past e (and_parts (is_kept plan.header past e) (are_kept plan.header (e ∷ past) burst) kept).0)

pub kept-rest : (h : Header) (past : Trace) (e : Event) (burst : List Event) → are_kept h past (e ∷ burst) ≡ true → are_kept h (e ∷ past) burst ≡ true
kept-rest h past e burst kept = (and_parts (is_kept h past e) (are_kept h (e ∷ past) burst) kept).1

-- ---- beats -------------------------------------------------------------------------------------------

-- the data of an answer
abbrev is_sent : Event → Bool
is_sent (Cd p last word) = true
is_sent _ = false

same-sent : TellsSame is_sent
same-sent = tells-same is_sent (λ p c i line. refl) (λ p a s x line. refl) (λ a line. refl)

module _ (plan : Plan) (p : ℕ) (ace : is_ace plan.header p ≡ true) where
  sent-keeps : (burst : List Event) (past : Trace) → IsAccepted plan.header past → FollowsSoFar plan past → are_kept plan.header past burst ≡ true → list_all is_sent burst ≡ true
      → HasCome plan past p → KeepsOn plan past p burst
  sent-keeps [] past a f kept all c = record { well = tt; come = c }
  sent-keeps (Cd q last word ∷ burst) past a f kept all c =
      let e = Cd q last word in
      let w = cd-well plan past q last word f in
      let now = accepted-one plan past e burst a kept in
      let later = sent-keeps burst (e ∷ past) now (f, w.obeying) (kept-rest plan.header past e burst kept) (and_parts true (list_all is_sent burst) all).1
      (calm-come plan past p e ace now (or_right (not (q == p)) true refl) refl c) in
      record { well = (w, later.well); come = later.come }
  sent-keeps (e ∷ burst) past a f kept all c = cc

  beats-keep : (burst : List Event) (past : Trace) → IsAccepted plan.header past → FollowsSoFar plan past → are_kept plan.header past burst ≡ true → list_all (is_beat p) burst ≡ true
      → AreChosen plan past burst → HasCome plan past p → KeepsOn plan past p burst
  beats-keep [] past a f kept all chosen c = record { well = tt; come = c }
  beats-keep (W q strb last word ∷ burst) past a f kept all chosen c =
      let e = W q strb last word in
      let w = w-well plan past q strb last word f (and_parts true (carries_data plan past e) chosen.0).1 in
      let now = accepted-one plan past e burst a kept in
      let later = beats-keep burst (e ∷ past) now (f, w.obeying) (kept-rest plan.header past e burst kept) (and_parts (p == q) (list_all (is_beat p) burst) all).1 chosen.1
      (calm-come plan past p e ace now (or_right (not (q == p)) true refl) refl c) in
      record { well = (w, later.well); come = later.come }
  beats-keep (e ∷ burst) past a f kept all chosen c = cc

-- ---- step 2 ------------------------------------------------------------------------------------------

pub sends-keeps : (plan : Plan) (past : Trace) (p : ℕ) (burst : List Event) → is_ace plan.header p ≡ true → IsAccepted plan.header past → FollowsSoFar plan past
    → are_kept plan.header past burst ≡ true → sends plan.header past p burst ≡ true → AreChosen plan past burst → HasCome plan past p → KeepsOn plan past p burst
sends-keeps plan past p burst ace a f kept s chosen c = beats-keep plan p ace burst past a f kept (and_parts (list_all (is_beat p) burst) _ s).0 chosen c

-- ---- step 1 ------------------------------------------------------------------------------------------

sync-wants : (o : Op) → asks_sync o ≡ true → read_wanted o ≡ None
sync-wants (op.Sync word) s = refl
sync-wants o s = cc

module _ (plan : Plan) (past : Trace) (p : ℕ) (ace : is_ace plan.header p ≡ true) (right : IsRight plan) (a : IsAccepted plan.header past) (f : FollowsSoFar plan past) (c : HasCome plan past p) where
  answer-come : (resp : ℕ) (st : LineState) → IsAccepted plan.header (Cr p resp st ∷ past) → HasCome plan (Cr p resp st ∷ past) p
  answer-come resp st now =
      let e = Cr p resp st in
      leaves-come plan past p e
      (record {
        still = record { accepted = now; same = refl; silent = refl; gentle = gentle plan.header past p e now refl tt };
        next = refl;
        new = λ x new port. cc;
      })
      (λ op next k x there was out. let same = out-stays plan.header past p e now k x there refl in let bad : true ≡ false = sym was ∙ sym same ∙ out in cc) c

  answer-keeps : (resp : ℕ) (st : LineState) (rest : List Event) (s : Snoop) → answered past p ≡ Some s → are_kept plan.header past (Cr p resp st ∷ rest) ≡ true
      → same_burst (after_answer past p s resp) rest ≡ true → answers_well plan past (Cr p resp st) ≡ true → KeepsOn plan past p (Cr p resp st ∷ rest)
  answer-keeps resp st rest s is kept same picked =
      let e = Cr p resp st in
      let now = accepted-one plan past e rest a kept in
      let w = cr-well plan past p resp st picked (gentle-room plan past p e f refl (others-raise-none plan.header past p e now refl)) in
      let later = by (tells_completion s) refl now w same in
      record { well = (w, later.well); come = later.come }
    where
      sent : (b : Bool) → list_all is_sent (if b then data_burst p (copy_of past p s.addr) else []) ≡ true
      sent b = all-if is_sent b (data_burst p (copy_of past p s.addr)) [] refl refl

      by : (b : Bool) → tells_completion s ≡ b → IsAccepted plan.header (Cr p resp st ∷ past) → IsWell plan past (Cr p resp st)
          → same_burst (if b then retirement past p Ok else if snoops_a_line s.snoop && transfers_data resp then data_burst p (copy_of past p s.addr) else []) rest ≡ true
          → KeepsOn plan (Cr p resp st ∷ past) p rest
      by true tells now w same =
          let t = answer-ends-sync plan past p resp st s right a f is tells in
          let c2 = answer-come resp st now in
          let one = retirement-same past p Ok rest same in
          let none = none-wanted plan (Cr p resp st ∷ past) p c2 (λ o next. sync-wants o (subst (λ v. asks_sync v ≡ true) (Some-injective t.of o (sym t.next ∙ next)) t.sync)) in
          subst (KeepsOn plan (Cr p resp st ∷ past) p) (sym one)
          (record {
            well = (op-well plan (Cr p resp st ∷ past) p (retired past p) Ok t.of (f, w.obeying) t.next t.may, tt);
            come = retired-come plan (Cr p resp st ∷ past) p (retired past p) Ok none;
          })
      by false none now w same =
          sent-keeps plan p ace rest (Cr p resp st ∷ past) now (f, w.obeying) (kept-rest plan.header past (Cr p resp st) rest kept)
          (all-as is_sent same-sent (if snoops_a_line s.snoop && transfers_data resp then data_burst p (copy_of past p s.addr) else []) rest same (sent (snoops_a_line s.snoop && transfers_data resp)))
          (answer-come resp st now)

  -- Answering a snoop.
  pub answers-keeps : (burst : List Event) → are_kept plan.header past burst ≡ true → answers_snoop plan.header past p burst ≡ true → AreChosen plan past burst → KeepsOn plan past p burst
  answers-keeps (Cr q resp st ∷ rest) kept g chosen =
      let parts = and_parts (p == q) (is_some_and (answered past p) (λ s. same_burst (after_answer past p s resp) rest)) g in
      let port = eqb-true p q parts.0 in
      let s = is_some_and-is (answered past p) (λ s. same_burst (after_answer past p s resp) rest) parts.1 in
      let picked = (and_parts (answers_well plan past (Cr q resp st)) true chosen.0).0 in
      subst (λ r. KeepsOn plan past p (Cr r resp st ∷ rest)) port
      (answer-keeps resp st rest s.0 s.1 (subst (λ r. are_kept plan.header past (Cr r resp st ∷ rest) ≡ true) (sym port) kept) s.2
      (subst (λ r. answers_well plan past (Cr r resp st) ≡ true) (sym port) picked))
  answers-keeps _ kept g chosen = cc
