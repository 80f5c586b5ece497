-- By which steps an ACE-Lite port goes on.
use Rattle.std.proofs.Common.{◌≡◌, ℕ, Bool, true, false, not, ◌&&◌, ◌||◌, ◌==◌, nat_lt, if◌then◌else◌, List, [], ◌∷◌, ◌++◌, length, map, Option, Some, None, is_some, unwrap_or, refl, sym, ap, ◌∙◌, inl, inr, append-nil}
use Rattle.std.proofs.Math.Bool.{and-false}
use Rattle.std.specs.List.{flat_map, list_any}
use Rattle.std.specs.Option.{option_map}
use Rattle.std.proofs.lemmas.Bool.{and_from, eq-eqb, or_left, or_right}
use Rattle.std.proofs.lemmas.Option.{slice_get_cases}
use Rattle.ace_codes.specs.declared.state.LineState.TheVariants.{I}
use Rattle.ace_codes.specs.declared.kind.ArKind.TheVariants as read
use Rattle.ace_codes.specs.Reads.{ar_code}
use Rattle.ace_event.specs.declared.event.Channel.{Channel}
use Rattle.ace_event.specs.declared.event.Channel.TheVariants.{Read, Write}
use Rattle.ace_event.specs.declared.event.Event.{Event}
use Rattle.ace_event.specs.declared.event.Event.TheVariants as event
use Rattle.ace_event.specs.declared.event.Outcome.TheVariants.{Ok, Skip, Fail}
use Rattle.ace_event.specs.declared.header.Header.{Header}
use Rattle.ace_model.specs.declared.plans.Op.{Op}
use Rattle.ace_model.specs.Plans.{Plan, line_named}
use Rattle.ace_model.specs.Progress.{updates_memory}
use Rattle.ace_model.specs.Snoops.{answered, answers, snoops_of}
use Rattle.ace_model.specs.States.{state_of}
use Rattle.ace_model.specs.Trace.{Trace, is_some_and}
use Rattle.ace_model.specs.Transactions.{acknowledged, has_outstanding_on, is_ace, is_outstanding}
use Rattle.ace_model.specs.Writes.{next_write, next_write_beat}
use Rattle.ace_model.proofs.Holders.Law.{accepted_holds}
use Rattle.ace_runs.specs.Acts.{acts_of}
use Rattle.ace_runs.specs.Closing.{access_and_retirement, access_of, and_closing, closing_of, gives_access, retirement, state_named}
use Rattle.ace_runs.specs.Follows.{owes_completion}
use Rattle.ace_runs.specs.MasterSteps.{acknowledges, acknowledges_on, answers_snoop, completion_bursts, due, goes_on, has_due, has_row, is_finished, may_acknowledge, may_answer_snoop, may_go_on, may_send, moves, sends}
use Rattle.ace_runs.specs.Operations.{next_operation}
use Rattle.ace_runs.specs.Requests.{Request, awaits_update, bursts_of, ends_or_asks, free_on, is_waiting, moves_of, request_of, with_identifier}
use Rattle.ace_runs.specs.Retiring.{is_met, may_retire}
use Rattle.ace_runs.specs.SameEvents.{same_burst}
use Rattle.ace_runs.specs.Segments.{acts_made, segment}
use Rattle.ace_runs.specs.Steps.{is_enabled_by, is_sound, is_step_by}
use Rattle.ace_runs.proofs.NeverStuck.Operations.Kept.ClosingKept.{retirement-kept}
use Rattle.ace_runs.proofs.NeverStuck.Rows.{snooped-ace}
use Rattle.ace_runs.proofs.NeverStuck.Steps.SameBursts.{burst-self}
use Rattle.ace_engine.specs.Engines.{IsLegal}
use Rattle.ace_master.specs.Lite.{own_steps}
use Rattle.ace_master.proofs.LiteOperations.{IsPlain}

-- ---- how an operation ends ---------------------------------------------------------------------------

either : {A : Type 0} → (b : Bool) (x : A) → (if b then x else x) ≡ x
either true x = refl
either false x = refl

pub closing-none : (h : Header) (past : Trace) (p : ℕ) (op : Op) → IsPlain op → may_retire h past p op Ok ≡ false → closing_of h past p op ≡ []
unfolding closing_of
closing-none h past p op plain ok =
    let skip : may_retire h past p op Skip ≡ false = ap (λ b. (acts_made past p == 0) && b) (plain.skip h past p) ∙ and-false (acts_made past p == 0) in
    let fail : may_retire h past p op Fail ≡ false = ap (λ b. (acts_made past p == 0) && b) (plain.fail h past p) ∙ and-false (acts_made past p == 0) in
    let access = plain.access past p in
    let last : List Event = if gives_access op (state_named h past p op) then access_and_retirement past p (access_of past p op) else [] in
    ap (λ b. if b then retirement past p Ok else if may_retire h past p op Skip then retirement past p Skip else if may_retire h past p op Fail then retirement past p Fail else last) ok
    ∙ ap (λ b. if b then retirement past p Skip else if may_retire h past p op Fail then retirement past p Fail else last) skip
    ∙ ap (λ b. if b then retirement past p Fail else last) fail
    ∙ ap (λ o. if gives_access op (state_named h past p op) then access_and_retirement past p o else []) access
    ∙ either (gives_access op (state_named h past p op)) []

pub closing-ok : (h : Header) (past : Trace) (p : ℕ) (op : Op) → may_retire h past p op Ok ≡ true → closing_of h past p op ≡ retirement past p Ok
unfolding closing_of
closing-ok h past p op ok =
    ap (λ b. if b then retirement past p Ok else if may_retire h past p op Skip then retirement past p Skip else if may_retire h past p op Fail then retirement past p Fail
    else if gives_access op (state_named h past p op) then access_and_retirement past p (access_of past p op) else []) ok

-- ---- what an ACE-Lite port has none of ---------------------------------------------------------------

or-none : (a b c d : Bool) → a ≡ false → b ≡ false → c ≡ false → d ≡ false → (a || (b || (c || (d || false)))) ≡ false
or-none a b c d w x y z = rw (w, x, y, z) refl

module _ (plan : Plan) (past : Trace) (p : ℕ) (legal : IsLegal plan past) (lite : is_ace plan.header p ≡ false) where
  abbrev h : Header
  h = plan.header

  pub lite-state : (a : ℕ) → state_of h past p a ≡ I
  lite-state a = (accepted_holds h past legal.accepted).outside p a lite

  pub named-state : (op : Op) → state_named h past p op ≡ I
  named-state op = by (line_named op)
    where
      by : (o : Option ℕ) → unwrap_or (option_map (state_of h past p) o) I ≡ I
      by None = refl
      by (Some a) = lite-state a

  pub lite-unsnooped : answered past p ≡ None
  lite-unsnooped = elim (slice_get_cases (snoops_of past p) (answers past p)).1 [
    | inl there ↦ let ace = snooped-ace h past p (answers past p) there.0 legal.accepted there.2 in let bad : false ≡ true = sym lite ∙ ace in cc
    | inr out ↦ out.1
  ]

  no-due : (c : Channel) → is_some (due h past p c) ≡ false
  no-due c = ap (λ b. is_some (if b then acknowledged past p c else None)) lite

  none-due : has_due h past p ≡ false
  none-due = ap (λ b. b || is_some (due h past p Write)) (no-due Read) ∙ no-due Write

  -- ---- step 4 ----

  pub finished-only : (next : Option Op) → may_acknowledge next h past p ≡ is_some_and next (λ op. may_retire h past p op Ok)
  finished-only next = ap (λ b. b || (not b && is_some_and next (λ op. may_retire h past p op Ok))) none-due

  -- ---- step 14 ----

  none-owed : completion_bursts h past p ≡ []
  none-owed = ap (λ b. if b && owes_completion past p then with_identifier (free_on h past p Read) (λ i. event.Ar p i 0 (ar_code read.DvmComplete) 1 0 false ∷ []) else []) lite

  pub no-moves : (ways : ℕ) → moves ways None h past p ≡ []
  no-moves ways = ap (λ (ms : List (List Event)). ms ++ []) none-owed

  pub lite-moves : (ways : ℕ) (op : Op) → moves ways (Some op) h past p ≡ moves_of ways h past p op
  lite-moves ways op = ap (λ (ms : List (List Event)). ms ++ flat_map (moves_of ways h past p) (op ∷ [])) none-owed ∙ append-nil (moves_of ways h past p op)

  -- no step of a master is enabled
  pub none-enabled : next_write past p ≡ None → is_some_and (next_operation plan past p) (λ op. may_retire h past p op Ok) ≡ false
      → moves plan.ways (next_operation plan past p) h past p ≡ [] → is_enabled_by own_steps plan past p ≡ false
  none-enabled unsent unfinished still =
      or-none (may_answer_snoop h past p) (may_send h past p) (may_acknowledge (next_operation plan past p) h past p) (may_go_on plan.ways (next_operation plan past p) h past p)
      (ap (λ o. is_some_and o (has_row h past p)) lite-unsnooped) (ap (λ o. is_some o && (next_write_beat past p == 0)) unsent)
      (finished-only (next_operation plan past p) ∙ unfinished) (ap (λ (ms : List (List Event)). not (length ms == 0)) still)

  -- an operation of which an act is made, or whose line is busy, waits
  pub moves-waiting : (ways : ℕ) (op : Op) → is_waiting h past p op ≡ true → moves ways (Some op) h past p ≡ []
  moves-waiting ways op waits = lite-moves ways op ∙ ap (λ b. if b then [] else ends_or_asks ways h past p op (closing_of h past p op)) waits

  pub waits-for-line : (op : Op) → is_some_and (line_named op) (has_outstanding_on h past p) ≡ true → is_waiting h past p op ≡ true
  waits-for-line op busy =
      or_left (is_some_and (line_named op) (has_outstanding_on h past p) || awaits_update h past p) (not (acts_made past p == 0)) (or_left _ (awaits_update h past p) busy)

  pub waits-for-acts : (op : Op) → (acts_made past p == 0) ≡ false → is_waiting h past p op ≡ true
  waits-for-acts op some = or_right (is_some_and (line_named op) (has_outstanding_on h past p) || awaits_update h past p) (not (acts_made past p == 0)) (ap not some)

  -- Nothing is issued for the operation, and no transaction is outstanding on its line.
  module _ (op : Op) (plain : IsPlain op) (some : (0 == length (acts_of op)) ≡ false) (none : segment past p ≡ []) (made : acts_made past p ≡ 0)
      (quiet : is_some_and (line_named op) (has_outstanding_on h past p) ≡ false) where
    waits-not : is_waiting h past p op ≡ false
    waits-not =
        ap (λ b. b || awaits_update h past p || not (acts_made past p == 0)) quiet
        ∙ ap (λ xs. list_any (λ x. updates_memory x && is_outstanding h past x) xs || not (acts_made past p == 0)) none
        ∙ ap not (eq-eqb (acts_made past p) 0 made)

    ends-not : closing_of h past p op ≡ []
    ends-not = closing-none h past p op plain (ap (λ n. (n == length (acts_of op)) && is_met h past p op) made ∙ ap (λ b. b && is_met h past p op) some)

    -- so it asks
    pub moves-asking : (ways : ℕ) (asked : Request) → request_of op I ≡ asked → moves_of ways h past p op ≡ map (and_closing h past p op) (bursts_of ways h past p asked)
    moves-asking ways asked is =
        ap (λ b. if b then [] else ends_or_asks ways h past p op (closing_of h past p op)) waits-not
        ∙ ap (ends_or_asks ways h past p op) ends-not
        ∙ ap (λ st. map (and_closing h past p op) (bursts_of ways h past p (request_of op st))) (named-state op)
        ∙ ap (λ r. map (and_closing h past p op) (bursts_of ways h past p r)) is

  -- a burst by which it goes on is a step
  pub goes-step : (op : Op) (burst : List Event) → next_operation plan past p ≡ Some op → is_sound h past burst ≡ true → moves_of plan.ways h past p op ≡ burst ∷ []
      → is_step_by own_steps plan past p burst ≡ true
  goes-step op burst next sound is =
      let nx = next_operation plan past p in
      let ms : moves plan.ways nx h past p ≡ burst ∷ [] = ap (λ o. moves plan.ways o h past p) next ∙ lite-moves plan.ways op ∙ is in
      let may : may_go_on plan.ways nx h past p ≡ true = ap (λ (bs : List (List Event)). not (length bs == 0)) ms in
      let gives : goes_on plan.ways nx h past p burst ≡ true = ap (list_any (λ move. same_burst move burst)) ms ∙ or_left (same_burst burst burst) false (burst-self burst) in
      and_from _ _ sound
      (or_right (may_answer_snoop h past p && answers_snoop h past p burst) _
      (or_right (may_send h past p && sends h past p burst) _
      (or_right (may_acknowledge nx h past p && acknowledges nx h past p burst) _
      (or_left (may_go_on plan.ways nx h past p && goes_on plan.ways nx h past p burst) false (and_from _ _ may gives)))))

  -- the OP of an operation that may retire is a step
  pub retires-step : (op : Op) → nat_lt p h.ports ≡ true → next_operation plan past p ≡ Some op → may_retire h past p op Ok ≡ true
      → is_step_by own_steps plan past p (retirement past p Ok) ≡ true
  retires-step op low next may =
      let nx = next_operation plan past p in
      let burst = retirement past p Ok in
      let ends : is_some_and nx (λ op. may_retire h past p op Ok) ≡ true = ap (λ o. is_some_and o (λ op. may_retire h past p op Ok)) next ∙ may in
      let on = finished-only nx ∙ ends in
      let gives : acknowledges nx h past p burst ≡ true =
      or_right (acknowledges_on nx h past p burst Read || acknowledges_on nx h past p burst Write) _ (and_from (is_finished nx h past p) _ (and_from _ _ (ap not none-due) ends) (burst-self burst)) in
      and_from _ _ (and_from _ _ (and_from _ _ refl refl) (retirement-kept h past p Ok low))
      (or_right (may_answer_snoop h past p && answers_snoop h past p burst) _
      (or_right (may_send h past p && sends h past p burst) _
      (or_left (may_acknowledge nx h past p && acknowledges nx h past p burst) _ (and_from _ _ on gives))))

  -- four W are a step where a burst isn't sent
  pub sends-step : (burst : List Event) → is_sound h past burst ≡ true → may_send h past p ≡ true → sends h past p burst ≡ true → is_step_by own_steps plan past p burst ≡ true
  sends-step burst sound may gives =
      and_from _ _ sound
      (or_right (may_answer_snoop h past p && answers_snoop h past p burst) _ (or_left (may_send h past p && sends h past p burst) _ (and_from _ _ may gives)))
