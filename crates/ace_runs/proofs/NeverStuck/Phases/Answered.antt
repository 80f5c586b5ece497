-- After step 1 the next operation of its port, an ACE port, can't retire with `ok` where it couldn't before: the answer to an AC DVM Complete comes with
-- the OP of the Sync, and another answer leaves what the operation needs.
use Rattle.std.proofs.Common.{◌≡◌, ℕ, zero, suc, ◌+◌, Bool, true, false, not, ◌&&◌, ◌||◌, ◌==◌, if◌then◌else◌, List, [], ◌∷◌, drop, Some, slice_get, refl, sym, ap, subst, ◌∙◌}
use Rattle.std.proofs.Math.Bool.{and-false}
use Rattle.std.specs.List.{list_all, list_any}
use Rattle.std.proofs.lemmas.Bool.{and_parts, eq-eqb, eqb-true, or_right}
use Rattle.std.proofs.lemmas.List.{drop-drop}
use Rattle.ace_codes.specs.Responses.{transfers_data}
use Rattle.ace_codes.specs.declared.state.LineState.{LineState}
use Rattle.ace_event.specs.declared.event.Event.{Event}
use Rattle.ace_event.specs.declared.event.Event.TheVariants.{Cr, Cd}
use Rattle.ace_event.specs.declared.event.Outcome.TheVariants.{Ok}
use Rattle.ace_model.specs.declared.snoops.Snoop.{Snoop}
use Rattle.ace_model.specs.Accepted.{IsAccepted}
use Rattle.ace_model.specs.Copies.{copy_of}
use Rattle.ace_model.specs.Messages.{is_sync_completed}
use Rattle.ace_model.specs.Plans.{Plan}
use Rattle.ace_model.specs.Snoops.{answered, answers, snoops_a_line, snoops_of}
use Rattle.ace_model.specs.Trace.{Trace, is_some_and}
use Rattle.ace_model.specs.Transactions.{is_ace}
use Rattle.ace_model.proofs.General.Options.{Some-injective, is_some_and-is}
use Rattle.ace_runs.specs.Bursts.{are_kept, is_kept, onto}
use Rattle.ace_runs.specs.Closing.{retirement}
use Rattle.ace_runs.specs.MasterSteps.{after_answer, answers_snoop, data_burst}
use Rattle.ace_runs.specs.Retiring.{has_answered_completion, tells_completion, unanswered}
use Rattle.ace_runs.specs.SameEvents.{same_burst}
use Rattle.ace_runs.specs.Segments.{acts_made}
use Rattle.ace_runs.proofs.Accepting.{kept-breaks-none}
use Rattle.ace_runs.proofs.NeverStuck.Steps.SameBursts.{all-as}
use Rattle.ace_runs.proofs.NeverStuck.Steps.SameEvents.{TellsSame, tells-same}
use Rattle.ace_runs.proofs.NeverStuck.Steps.Lists.{all-if, all-implied}
use Rattle.ace_runs.proofs.NeverStuck.Phases.Calm.{IsCalm, calm-keeps, may_end}
use Rattle.ace_runs.proofs.NeverStuck.Phases.CalmEvents.{calm-burst, is_calm, outs-stay}
use Rattle.ace_runs.proofs.NeverStuck.Phases.Endings.{ends_retired, retired-burst, retirement-ends, same-ends}

-- ---- an answer that isn't to an AC DVM Complete ------------------------------------------------------

at-drop : (xs : List Snoop) (n : ℕ) (s : Snoop) → slice_get xs n ≡ Some s → drop n xs ≡ s ∷ drop 1 (drop n xs)
at-drop [] n s there = cc
at-drop (x ∷ xs) zero s there = ap (λ v. v ∷ xs) (Some-injective x s there)
at-drop (x ∷ xs) (suc n) s there = at-drop xs n s there

answered-tail : (past : Trace) (p : ℕ) (s : Snoop) → answered past p ≡ Some s → tells_completion s ≡ false
    → list_any tells_completion (drop (answers past p + 1) (snoops_of past p)) ≡ list_any tells_completion (unanswered past p)
answered-tail past p s is none =
    let n = answers past p in
    let xs = snoops_of past p in
    sym (ap (list_any tells_completion) (at-drop xs n s is) ∙ ap (λ b. b || list_any tells_completion (drop 1 (drop n xs))) none ∙ ap (list_any tells_completion) (drop-drop 1 n xs))

answer-told : (past : Trace) (p resp : ℕ) (st : LineState) (s : Snoop) → answered past p ≡ Some s → tells_completion s ≡ false
    → has_answered_completion (Cr p resp st ∷ past) p ≡ true → has_answered_completion past p ≡ true
answer-told past p resp st s is none m =
    let here : (is_sync_completed past p && not (list_any tells_completion (drop (answers past p + 1) (snoops_of past p)))) ≡ true =
    sym (ap (λ b. is_sync_completed past p && not (list_any tells_completion (drop (if b then answers past p + 1 else answers past p) (snoops_of past p)))) (eq-eqb p p refl)) ∙ m in
    sym (ap (λ b. is_sync_completed past p && not b) (answered-tail past p s is none)) ∙ here

answer-calm : (plan : Plan) (past : Trace) (p resp : ℕ) (st : LineState) (s : Snoop) → IsAccepted plan.header (Cr p resp st ∷ past) → answered past p ≡ Some s → tells_completion s ≡ false
    → IsCalm plan past p (Cr p resp st)
answer-calm plan past p resp st s a is none =
    record {
      next = refl;
      made = ap (λ b. if b then acts_made past p + 1 else acts_made past p) (and-false (p == p));
      same = refl;
      outs = outs-stay plan.header past p (Cr p resp st) a (λ k y there. refl);
      told = answer-told past p resp st s is none;
    }

-- the data of the answer
abbrev is_sent : Event → Bool
is_sent (Cd p last word) = true
is_sent _ = false

same-sent : TellsSame is_sent
same-sent = tells-same is_sent (λ p c i line. refl) (λ p a s x line. refl) (λ a line. refl)

sent-calm : (p : ℕ) (e : Event) → is_sent e ≡ true → is_calm p e ≡ true
sent-calm p (Cd q last word) m = or_right (not (q == p)) true refl
sent-calm p e m = cc

-- ---- step 1 ------------------------------------------------------------------------------------------

more-ends : (e : Event) (burst : List Event) (p : ℕ) → ends_retired p burst ≡ true → ends_retired p (e ∷ burst) ≡ true
more-ends e [] p ends = cc
more-ends e (f ∷ burst) p ends = ends

module _ (plan : Plan) (past : Trace) (p : ℕ) (ace : is_ace plan.header p ≡ true) (a : IsAccepted plan.header past) (before : may_end plan past p ≡ false) where
  answer-stays : (resp : ℕ) (st : LineState) (rest : List Event) (s : Snoop) → are_kept plan.header past (Cr p resp st ∷ rest) ≡ true → answered past p ≡ Some s
      → same_burst (after_answer past p s resp) rest ≡ true → may_end plan (onto rest (Cr p resp st ∷ past)) p ≡ false
  answer-stays resp st rest s kept is same = by (tells_completion s) refl same
    where
      others : (b : Bool) → list_all is_sent (if b then data_burst p (copy_of past p s.addr) else []) ≡ true
      others b = all-if is_sent b (data_burst p (copy_of past p s.addr)) [] refl refl

      by : (b : Bool) → tells_completion s ≡ b
          → same_burst (if b then retirement past p Ok else if snoops_a_line s.snoop && transfers_data resp then data_burst p (copy_of past p s.addr) else []) rest ≡ true
          → may_end plan (onto rest (Cr p resp st ∷ past)) p ≡ false
      by true tells same =
          retired-burst plan (Cr p resp st ∷ rest) past p (more-ends (Cr p resp st) rest p (same-ends (retirement past p Ok) rest p same (retirement-ends past p Ok)))
      by false none same =
          let of = and_parts (is_kept plan.header past (Cr p resp st)) (are_kept plan.header (Cr p resp st ∷ past) rest) kept in
          let now : IsAccepted plan.header (Cr p resp st ∷ past) = (a, kept-breaks-none plan.header past (Cr p resp st) of.0) in
          let sent = all-as is_sent same-sent (if snoops_a_line s.snoop && transfers_data resp then data_burst p (copy_of past p s.addr) else []) rest same (others (snoops_a_line s.snoop && transfers_data resp)) in
          calm-burst plan rest (Cr p resp st ∷ past) p ace now of.1 (all-implied is_sent (is_calm p) (sent-calm p) rest sent)
          (calm-keeps plan past p (Cr p resp st) (answer-calm plan past p resp st s now is none) before)

  -- After step 1 the next operation can't retire with `ok` where it couldn't before.
  pub answers-stay : (burst : List Event) → are_kept plan.header past burst ≡ true → answers_snoop plan.header past p burst ≡ true → may_end plan (onto burst past) p ≡ false
  answers-stay (Cr q resp st ∷ rest) kept g =
      let parts = and_parts (p == q) (is_some_and (answered past p) (λ s. same_burst (after_answer past p s resp) rest)) g in
      let port = eqb-true p q parts.0 in
      let s = is_some_and-is (answered past p) (λ s. same_burst (after_answer past p s resp) rest) parts.1 in
      subst (λ r. may_end plan (onto rest (Cr r resp st ∷ past)) p ≡ false) port
      (answer-stays resp st rest s.0 (subst (λ r. are_kept plan.header past (Cr r resp st ∷ rest) ≡ true) (sym port) kept) s.1 s.2)
  answers-stay _ kept g = cc
