-- From one settled point to the next: what a call makes of a run.
use Rattle.std.proofs.Common.{◌≡◌, ℕ, ◌+◌, ◌≤◌, Bool, true, false, ◌&&◌, not, ◌==◌, nat_le, if◌then◌else◌, List, [], ◌∷◌, ◌++◌, map, length, is_none, refl, sym, ap, subst, ◌∙◌, inl, inr, arith, length-append}
use Rattle.std.specs.List.{AllByRecursion, list_all}
use Rattle.std.proofs.lemmas.Bool.{and_from, and_parts, cases_Bool, cases_eq, leb-true, ltb-true, eq-eqb, eqb-true}
use Rattle.std.proofs.lemmas.List.{map-append}
use Rattle.ace_event.specs.Range.{FitsFields}
use Rattle.ace_event.specs.declared.event.Event.{Event}
use Rattle.ace_event.specs.declared.event.Event.TheVariants as event
use Rattle.ace_model.specs.declared.plans.Op.{Op}
use Rattle.ace_model.specs.declared.plans.Op.TheVariants.{Ld, Ldx}
use Rattle.ace_model.specs.declared.plans.PlanOp.{PlanOp}
use Rattle.ace_model.specs.Accepted.{IsAccepted, rules}
use Rattle.ace_model.specs.Copies.{word_of, zero_line}
use Rattle.ace_model.specs.Grants.{ports_below}
use Rattle.ace_model.specs.OrderRules.{retired}
use Rattle.ace_model.specs.Plans.{Plan, longer}
use Rattle.ace_model.specs.Snoops.{answered}
use Rattle.ace_model.specs.Trace.{Trace}
use Rattle.ace_model.specs.Transactions.{is_outstanding, some_issued}
use Rattle.ace_model.specs.Values.{value_of}
use Rattle.ace_model.specs.Plans.{IsRightAfter}
use Rattle.ace_model.proofs.General.Ports.{each_at}
use Rattle.ace_runs.specs.Acts.{is_act}
use Rattle.ace_runs.specs.Steps.{AreSteps}
use Rattle.ace_runs.specs.Bursts.{onto}
use Rattle.ace_runs.specs.Follows.{Done, FollowsSoFar, is_port_at_end, obeys, owes_completion}
use Rattle.ace_runs.specs.Operations.{operations_of}
use Rattle.ace_runs.specs.Segments.{acts_made, is_at_port}
use Rattle.ace_runs.proofs.Accepting.{accepted-before}
use Rattle.ace_runs.proofs.SoFar.{before-burst}
use Rattle.ace_runs.proofs.Few.Acts.{acts-each, retired-each}
use Rattle.ace_history.specs.declared.entry.Entry.{Entry}
use Rattle.ace_history.specs.Reserved.{AreExclusive, is_reserved, reserved_after, reserved_by}
use Rattle.ace_history.specs.Watched.{is_watched}
use Rattle.ace_history.proofs.Exclusive.{exclusive-snoc, may-of, reserved_after-snoc}
use Rattle.ace_history.specs.Histories.{IsLegalHistory, call_of, history_of, plan_with, word_loaded}
use Rattle.ace_history.specs.Newest.{last_entry, last_outcome}
use Rattle.ace_history.specs.Stored.{AreRightWords, line_after, line_by, word_left}
use Rattle.ace_history.specs.Settled.{CallMade, IsSettled, are_calls, is_call}
use Rattle.ace_history.proofs.ByEvent.{Before, each-goes, others-rest}
use Rattle.ace_history.proofs.Longer.{history-longer, line_after-snoc, words-snoc}
use Rattle.ace_history.proofs.OneMore.{other-operations, own-operations}
use Rattle.ace_history.proofs.Stages.{IsClosed, IsOpen, OthersRest, Stage, word_now}

-- ---- before the first event of the call --------------------------------------------------------------

zero-before : (b : Bool) (n : ℕ) → (if b then n + 1 else n) ≡ 0 → n ≡ 0
zero-before true n e = absurd (omega (arith, e))
zero-before false n e = e

-- a port that has made no act since its last OP has loaded nothing since
unloaded : (past : Trace) (p : ℕ) → acts_made past p ≡ 0 → word_loaded past p ≡ 0
unloaded [] p none = refl
unloaded (event.Op q k res ∷ past) p none =
    elim (cases_Bool (p == q)) [
      | inl t ↦ rw t refl
      | inr f ↦ let old : acts_made past p ≡ 0 = rw f at none in rw f (unloaded past p old)
    ]
unloaded (event.L q addr w x word ∷ past) p none =
    elim (cases_Bool (p == q)) [
      | inl t ↦
          let same : (q == p) ≡ true = eq-eqb q p (sym (eqb-true p q t)) in
          let one : acts_made past p + 1 ≡ 0 = rw same at none in absurd (omega (arith, one))
      | inr f ↦ rw f (unloaded past p (zero-before (is_at_port p (event.L q addr w x word) && is_act (event.L q addr w x word)) (acts_made past p) none))
    ]
unloaded (e ∷ past) p none = unloaded past p (zero-before (is_at_port p e && is_act e) (acts_made past p) none)

start-begun : (plan : Plan) (o : PlanOp) (start : Trace) → IsSettled plan start → FollowsSoFar plan start → IsOpen plan o start start
start-begun plan o start s f =
    let few = (retired-each plan start o.port f).1 in
    let all = s.retired_all o.port in
    let behind : retired start o.port ≡ length (operations_of plan o.port) = omega (arith, few, all) in
    let paced = acts-each plan start o.port f in
    let none : acts_made start o.port ≡ 0 = elim paced.within [ inl none ↦ none | inr more ↦ absurd (omega (arith, more, behind)) ] in
    record {
      behind = behind;
      history = history-longer plan o start f;
      acts = inl (record { none = none; silent = unloaded start o.port none; values = λ a. refl; watched = λ q a. refl });
    }

-- ---- the events of the call --------------------------------------------------------------------------

fits-before : (events : List Event) (past : Trace) → AllByRecursion FitsFields (onto events past) → AllByRecursion FitsFields past
fits-before [] past fits = fits
fits-before (e ∷ events) past fits = (fits-before events (e ∷ past) fits).1

-- what is known of the trace at the end of the call
pub record Made (plan : Plan) (o : PlanOp) (past : Trace) : Type 0 where
  pub version : plan.header.version ≡ 1
  pub calls : are_calls (longer plan o).operations ≡ true
  pub call : is_call o.op ≡ true
  pub accepted : IsAccepted plan.header past
  pub follows : FollowsSoFar (longer plan o) past
  pub fits : AllByRecursion FitsFields past

made-before : (plan : Plan) (o : PlanOp) (events : List Event) (past : Trace) → Made plan o (onto events past) → Made plan o past
made-before plan o events past m = record {
  version = m.version;
  calls = m.calls;
  call = m.call;
  accepted = accepted-before rules plan.header events past m.accepted;
  follows = before-burst (obeys (longer plan o)) events past m.follows;
  fits = fits-before events past m.fits;
}

all-go : (plan : Plan) (o : PlanOp) (start : Trace) (events : List Event) (past : Trace) → Made plan o (onto events past) → OthersRest plan o past
    → Stage plan o start past
    → OthersRest plan o (onto events past) × Stage plan o start (onto events past)
all-go plan o start [] past m others stage = (others, stage)
all-go plan o start (e ∷ events) past m others stage =
    let now = made-before plan o events (e ∷ past) m in
    let before : Before plan o start past e = record {
      version = now.version;
      calls = now.calls;
      call = now.call;
      accepted = now.accepted;
      follows = now.follows;
      fits = now.fits;
      others = others;
    } in
    all-go plan o start events (e ∷ past) m (others-rest plan o past e others) (each-goes plan o start past e before stage)

-- ---- at its end --------------------------------------------------------------------------------------

-- where all operations of the port have retired, the call is over
over-at-end : (plan : Plan) (o : PlanOp) (start past : Trace) → is_port_at_end (longer plan o) past o.port ≡ true → Stage plan o start past
    → IsClosed plan o start past
over-at-end plan o start past end stage =
    let retires = nat_le (length (operations_of (longer plan o) o.port)) (retired past o.port) in
    let a = and_parts (retires && is_none (answered past o.port)) (not (owes_completion past o.port)) end in
    let b = and_parts retires (is_none (answered past o.port)) a.0 in
    let whole = leb-true (length (operations_of (longer plan o) o.port)) (retired past o.port) b.0 in
    let more : length (operations_of plan o.port ++ o.op ∷ []) ≤ retired past o.port = rw (own-operations plan o) at whole in
    let len = length-append (operations_of plan o.port) (o.op ∷ []) in
    elim stage [
      | inr closed ↦ closed
      | inl begun ↦ let behind = begun.behind in absurd (omega (arith, more, len, behind))
    ]

word-is-left : (start : Trace) (h : List Entry) (op : Op) → ((a : ℕ) → value_of start a ≡ line_after a zero_line h) → word_now start op ≡ word_left h op
word-is-left start h (Ld a w) values = ap (λ v. word_of v w) (values a)
word-is-left start h (Ldx a w) values = ap (λ v. word_of v w) (values a)
word-is-left start h op values = refl

settles : (plan : Plan) (o : PlanOp) (start past : Trace) → IsSettled plan start → Made plan o past → OthersRest plan o past → IsClosed plan o start past
    → CallMade plan o start past
settles plan o start past s m others closed =
    let h = history_of plan start in
    let e = last_entry o past in
    let right = closed.word ∙ word-is-left start h o.op s.values in
    record {
      history = closed.history;
      word = right;
      settled = record {
        calls = m.calls;
        in_order = ap (λ os. os ++ o ∷ []) s.in_order ∙ sym (map-append call_of h (e ∷ [])) ∙ ap (map call_of) (sym closed.history);
        retired_all = λ p. elim (cases_eq p o.port) [
          | inl same ↦ subst (λ q. length (operations_of (longer plan o) q) ≤ retired past q) (sym same)
              (let over = closed.over in rw (own-operations plan o, length-append (operations_of plan o.port) (o.op ∷ [])) over)
          | inr other ↦ rw (other-operations plan o p other) (others p other)
        ];
        fits = m.fits;
        values = λ a. closed.values a ∙ ap (line_by a e.op e.res) (s.values a) ∙ sym (line_after-snoc a zero_line h e)
            ∙ ap (line_after a zero_line) (sym closed.history);
        watched = λ p a. closed.watched p a ∙ ap (reserved_by p a e.port e.op e.res) (s.watched p a)
            ∙ sym (reserved_after-snoc p a false h e) ∙ ap (reserved_after p a false) (sym closed.history);
        words = subst (AreRightWords []) (sym closed.history) (words-snoc [] h e s.words right);
        exclusive = subst (AreExclusive []) (sym closed.history) (exclusive-snoc [] h e s.exclusive
            (may-of (is_watched start) (is_reserved h) o.port o.op (last_outcome past o.port) s.watched closed.may));
      };
    }

pub one-call : (plan : Plan) (o : PlanOp) (start : Trace) (events : List Event) → IsSettled plan start → FollowsSoFar plan start
    → Made plan o (onto events start)
    → is_port_at_end (longer plan o) (onto events start) o.port ≡ true → CallMade plan o start (onto events start)
one-call plan o start events s f m end =
    let all = all-go plan o start events start m (λ q other. s.retired_all q) (inl (start-begun plan o start s f)) in
    settles plan o start (onto events start) s m all.0 (over-at-end plan o start (onto events start) end all.1)

-- ---- the laws ----------------------------------------------------------------------------------------

calls-more : (os : List PlanOp) (o : PlanOp) → are_calls os ≡ true → is_call o.op ≡ true → are_calls (os ++ o ∷ []) ≡ true
calls-more [] o c call = rw call refl
calls-more (x ∷ os) o c call =
    let parts = and_parts (is_call x.op) (are_calls os) c in and_from (is_call x.op) (are_calls (os ++ o ∷ [])) parts.0 (calls-more os o parts.1 call)

pub call-makes : (plan : Plan) (o : PlanOp) (past : Trace) (events : List Event) → IsSettled plan past → FollowsSoFar plan past
    → is_call o.op ≡ true → IsRightAfter plan.header plan.operations o → plan.header.version ≡ 1
    → IsAccepted plan.header (onto events past) → FollowsSoFar (longer plan o) (onto events past) → Done (longer plan o) (onto events past)
    → AllByRecursion FitsFields (onto events past) → CallMade plan o past (onto events past)
call-makes plan o past events s f call right version accepted follows done fits =
    let m : Made plan o (onto events past) = record {
      version = version;
      calls = calls-more plan.operations o s.calls call;
      call = call;
      accepted = accepted;
      follows = follows;
      fits = fits;
    } in
    let end = onto events past in
    let ports = list_all (is_port_at_end (longer plan o) end) (ports_below plan.header.ports) in
    let ends = (and_parts ports (not (some_issued end (is_outstanding plan.header end))) done).0 in
    one-call plan o past events s f m
    (each_at plan.header.ports (is_port_at_end (longer plan o) end) o.port ends (ltb-true o.port plan.header.ports right.port))

pub settled-legal : (plan : Plan) (past : Trace) → IsSettled plan past → IsAccepted plan.header past → FollowsSoFar plan past → Done plan past
    → AreSteps plan past → IsLegalHistory plan (history_of plan past)
settled-legal plan past s accepted follows done steps =
    let same : plan ≡ plan_with plan (history_of plan past) = ap (λ os. record plan { operations = os }) s.in_order in
    record {
      past = past;
      accepted = accepted;
      follows = subst (λ q. FollowsSoFar q past × Done q past) same (follows, done);
      steps = subst (λ q. AreSteps q past) same steps;
      of_trace = ap (λ q. history_of q past) (sym same);
      words = s.words;
      exclusive = s.exclusive;
    }
