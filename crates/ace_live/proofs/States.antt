-- The calls of a live system: that an operation can stand behind them, and that they are those of a legal history.
use Rattle.std.proofs.Common.{◌≡◌, ◌≢◌, ℕ, zero, suc, ◌+◌, ◌-◌, ◌≤◌, ◌<◌, ◌^◌, Bool, true, false, not, ◌&&◌, ◌==◌, nat_lt, nat_le, inl, List, [], ◌∷◌, ◌++◌, length, map, Option, Some, None, refl, sym, ap, subst, ◌∙◌, arith, length-append, append_assoc, reverse, take}
use Rattle.std.specs.Int.{bit_at}
use Rattle.std.specs.List.{AllByRecursion, count_by, list_all}
use Rattle.std.proofs.lemmas.Bool.{and_from, and_parts, leb-true, ltb-true, lt-ltb}
use Rattle.std.proofs.lemmas.List.{length-map, reverse-append, reverse-reverse}
use Rattle.ace_event.specs.Ports.{IsHeader, port_letters}
use Rattle.ace_event.specs.Range.{FitsFields}
use Rattle.ace_event.specs.declared.event.Event.{Event}
use Rattle.ace_event.specs.declared.header.Header.{Header}
use Rattle.ace_tables.specs.Answers.{same_test}
use Rattle.ace_model.specs.Grants.{ports_below}
use Rattle.ace_model.specs.Plans.{IsRightAfter, Plan, is_in_range, is_lite_operation, is_of_one_class, line_named, longer, wants_no_snoop}
use Rattle.ace_model.specs.Trace.{Trace, implies, is_none_or, is_some_and}
use Rattle.ace_model.specs.Transactions.{is_ace}
use Rattle.ace_model.specs.declared.plans.Op.{Op}
use Rattle.ace_model.specs.declared.plans.Op.TheVariants.{Ld, Ldx, St, Stx, Wb}
use Rattle.ace_model.specs.declared.plans.PlanOp.{PlanOp}
use Rattle.ace_model.proofs.General.Lists.{start-is}
use Rattle.ace_model.proofs.General.Ports.{each_at}
use Rattle.ace_runs.specs.Bursts.{onto}
use Rattle.ace_runs.specs.Follows.{Done, is_port_at_end}
use Rattle.ace_runs.specs.Steps.{AreSteps}
use Rattle.ace_engine.specs.Engines.{IsLegal}
use Rattle.ace_history.specs.Histories.{IsLegalHistory, call_of, history_of, plan_with}
use Rattle.ace_history.specs.Newest.{last_entry}
use Rattle.ace_history.specs.Settled.{CallMade, IsSettled, are_calls, is_call}
use Rattle.ace_history.proofs.OneCall.{call-makes, settled-legal}
use Rattle.ace_fabric.specs.System.{starting}
use Rattle.ace_fabric.specs.Runs.{Run, continued, grown}
use Rattle.ace_live.specs.declared.setting.Setting.{Setting}
use Rattle.ace_live.specs.Running.{IsLive, Running, blank, header_of, running, setting_of}

-- ---- an operation can stand behind the others --------------------------------------------------------

-- each port is an ACE port
bits : list_all (λ n. list_all (λ p. bit_at (2 ^ n - 1) p == 1) (ports_below n)) (ports_below 9) ≡ true
bits = refl

all-ace : (h : Header) (p : ℕ) → h ≡ header_of h.ports → h.ports ≤ 8 → p < h.ports → is_ace h p ≡ true
all-ace h p is few low =
    let row = each_at 9 (λ n. list_all (λ p. bit_at (2 ^ n - 1) p == 1) (ports_below n)) h.ports bits (omega (arith, few)) in
    let bit = each_at h.ports (λ p. bit_at (2 ^ h.ports - 1) p == 1) p row low in
    let ace : h.ace ≡ 2 ^ h.ports - 1 = ap (λ (v : Header). v.ace) is in
    rw ace (and_from (nat_lt p h.ports) (bit_at (2 ^ h.ports - 1) p == 1) (lt-ltb p h.ports low) bit)

snoops : (op : Op) → is_call op ≡ true → wants_no_snoop op ≡ false
snoops (Ld a w) c = refl
snoops (Ldx a w) c = refl
snoops (St a w word) c = refl
snoops (Stx a w word) c = refl
snoops (Wb a) c = refl
snoops op c = cc

implied : (a b : Bool) → b ≡ true → implies a b ≡ true
implied true b t = t
implied false b t = refl

none-or : {A : Type 0} → (o : Option A) (test : A → Bool) → ((x : A) → test x ≡ true) → is_none_or o test ≡ true
none-or None test all = refl
none-or (Some x) test all = all x

one-class : (op other : Op) → is_call op ≡ true → is_call other ≡ true → is_of_one_class op other ≡ true
one-class op other c d =
    let same : same_test (wants_no_snoop op) (wants_no_snoop other) ≡ true = rw (snoops op c, snoops other d) refl in
    none-or (line_named op) (λ a. implies (is_some_and (line_named other) (λ b. b == a)) (same_test (wants_no_snoop op) (wants_no_snoop other)))
    (λ a. implied (is_some_and (line_named other) (λ b. b == a)) (same_test (wants_no_snoop op) (wants_no_snoop other)) same)

all-one-class : (op : Op) (os : List PlanOp) → is_call op ≡ true → are_calls os ≡ true → list_all (λ o. is_of_one_class op o.op) os ≡ true
all-one-class op [] c d = refl
all-one-class op (o ∷ os) c d =
    let parts = and_parts (is_call o.op) (are_calls os) d in
    and_from (is_of_one_class op o.op) (list_all (λ o. is_of_one_class op o.op) os) (one-class op o.op c parts.0) (all-one-class op os c parts.1)

pub can-stand : (run : Run) (o : PlanOp) → IsLive run → o.port < run.plan.header.ports → is_in_range o.op ≡ true → is_call o.op ≡ true
    → IsRightAfter run.plan.header run.plan.operations o
can-stand run o live low range call =
    let ace = all-ace run.plan.header o.port live.header live.few low in
    let lite : implies (not (is_ace run.plan.header o.port)) (is_lite_operation o.op) ≡ true = rw ace refl in
    record {
      port = lt-ltb o.port run.plan.header.ports low;
      range = range;
      allowed = and_from (implies (not (is_ace run.plan.header o.port)) (is_lite_operation o.op)) (list_all
          (λ other. is_of_one_class o.op other.op) run.plan.operations)
          lite (all-one-class o.op run.plan.operations call live.settled.calls);
    }

-- ---- the history is legal ----------------------------------------------------------------------------

pub live-legal : (run : Run) → IsLive run → IsLegal run.plan run.past → AreSteps run.plan run.past
    → IsLegalHistory (blank (setting_of run)) (history_of run.plan run.past)
live-legal run live legal steps =
    let l = settled-legal run.plan run.past live.settled legal.accepted legal.follows live.done steps in
    subst (λ h. IsLegalHistory (record {
      header = h;
      ways = run.plan.ways;
      policy = run.plan.policy;
      operations = [];
    }) (history_of run.plan run.past)) live.header
    (record { past = l.past; accepted = l.accepted; follows = l.follows; steps = l.steps; of_trace = l.of_trace; words = l.words; exclusive = l.exclusive })

-- so many operations as entries
pub history-length : (run : Run) → IsLive run → length run.plan.operations ≡ length (history_of run.plan run.past)
history-length run live = ap length live.settled.in_order ∙ length-map (history_of run.plan run.past) call_of

-- ---- before the first call ---------------------------------------------------------------------------

at-ends : (plan : Plan) (n : ℕ) → plan.operations ≡ [] → list_all (is_port_at_end plan []) (ports_below n) ≡ true
at-ends plan zero none = refl
at-ends plan (suc n) none = let rest = at-ends plan n none in rw (none, rest) refl

settled-start : (plan : Plan) → plan.operations ≡ [] → IsSettled plan []
settled-start plan none = record {
  calls = rw none refl;
  in_order = none;
  retired_all = λ p. rw none (omega arith);
  fits = tt;
  values = λ a. refl;
  watched = λ p a. refl;
  words = tt;
  exclusive = tt;
}

-- the run has made no step: its plan is that of the setting, with room for calls
pub record IsOpened (run : Run) : Type 0 where
  pub plan : run.plan ≡ blank (setting_of run)
  pub ports : run.plan.header.ports ≤ 8
  pub past : run.past ≡ []

pub opened-live : (run : Run) → IsOpened run → IsLive run
opened-live run o =
    let none : run.plan.operations ≡ [] = ap (λ (p : Plan). p.operations) o.plan in
    record {
      header = ap (λ (p : Plan). p.header) o.plan;
      few = o.ports;
      settled = subst (IsSettled run.plan) (sym o.past) (settled-start run.plan none);
      done = subst (Done run.plan) (sym o.past) (rw (at-ends run.plan run.plan.header.ports none) refl);
    }

-- ---- a call ------------------------------------------------------------------------------------------

-- what the calls of the system promise, one after the other
pub record IsCalled (before after : Run) (o : PlanOp) : Type 0 where
  pub live : IsLive before
  pub legal : IsLegal before.plan before.past
  pub low : o.port < before.plan.header.ports
  pub call : is_call o.op ≡ true
  pub range : is_in_range o.op ≡ true
  pub events : List Event
  pub is : after ≡ continued events (grown o before)
  pub done : Done after.plan after.past
  pub legal_after : IsLegal after.plan after.past
  pub fits : AllByRecursion FitsFields after.past

made : (before : Run) (o : PlanOp) (events : List Event) → IsCalled before (continued events (grown o before)) o
    → CallMade before.plan o before.past (onto events before.past)
made before o events c =
    call-makes before.plan o before.past events c.live.settled c.legal.follows c.call (can-stand before o c.live c.low c.range c.call) c.legal.right.version
    c.legal_after.accepted c.legal_after.follows c.done c.fits

pub called : (before after : Run) (o : PlanOp) → IsCalled before after o
    → CallMade before.plan o before.past after.past × (after ≡ record { plan = longer before.plan o; room = before.room - 1; past = after.past })
called before after o c =
    let m = made before o c.events (subst (λ r. IsCalled before r o) c.is c) in (
      subst (λ (r : Run). CallMade before.plan o before.past r.past) (sym c.is) m,
      c.is ∙ ap
          (λ p. record { plan = longer before.plan o; room = before.room - 1; past = p }) (ap (λ (r : Run). r.past) (sym c.is)),
    )

pub called-live : (before after : Run) (o : PlanOp) → IsCalled before after o → IsLive after
called-live before after o c =
    let m = called before after o c in
    let header : after.plan.header ≡ before.plan.header = ap (λ (r : Run). r.plan.header) m.1 in
    record {
      header = header ∙ c.live.header ∙ ap header_of (ap (λ (h : Header). h.ports) (sym header));
      few = rw header c.live.few;
      settled = subst (λ p. IsSettled p after.past) (sym (ap (λ (r : Run). r.plan) m.1)) m.0.settled;
      done = c.done;
    }

-- the room that was there in all stays
same-room : (n room : ℕ) → room ≢ 0 → n + 1 + (room - 1) ≡ n + room
same-room n room some = omega (arith, some)

pub called-value : (before after : Run) (o : PlanOp) → IsCalled before after o → before.room ≢ 0
    → running after ≡ record { setting = setting_of before; history = history_of before.plan before.past ++ last_entry o after.past ∷ [] }
called-value before after o c some =
    let m = called before after o c in
    let room = ap (λ n. n + (before.room - 1)) (length-append before.plan.operations (o ∷ [])) ∙ same-room (length before.plan.operations) before.room some in
    ap running m.1
    ∙ ap (λ n. record {
      setting = record { ports = before.plan.header.ports; ways = before.plan.ways; policy = before.plan.policy; room = n };
      history = history_of (longer before.plan o) after.past;
    }) room
    ∙ ap (λ h. record { setting = setting_of before; history = h }) m.0.history

-- ---- the events before a call ------------------------------------------------------------------------

onto-is : (events : List Event) (past : Trace) → onto events past ≡ reverse events ++ past
onto-is [] past = refl
onto-is (e ∷ events) past = onto-is events (e ∷ past) ∙ sym (ap (λ l. l ++ past) (reverse-cons e events) ∙ append_assoc (reverse events) (e ∷ []) past)
  where
    reverse-cons : (e : Event) (events : List Event) → reverse (e ∷ events) ≡ reverse events ++ e ∷ []
    reverse-cons e events = reverse-append (e ∷ []) events

longer-trace : (xs ys events : List Event) → reverse ys ≡ onto events (reverse xs) → ys ≡ xs ++ events
longer-trace xs ys events is =
    sym (reverse-reverse ys) ∙ ap reverse (is ∙ onto-is events (reverse xs)) ∙ reverse-append (reverse events) (reverse xs)
    ∙ ap (λ l. l ++ reverse (reverse events)) (reverse-reverse xs) ∙ ap (λ l. xs ++ l) (reverse-reverse events)

pub first-fit : (xs ys : List Event) (before : Trace) (events : List Event) → reverse xs ≡ before → reverse ys ≡ onto events before
    → AllByRecursion FitsFields before → (length xs ≤ length ys) × AllByRecursion FitsFields (reverse (take (length xs) ys))
first-fit xs ys before events old new fits =
    let whole = longer-trace xs ys events (new ∙ ap (onto events) (sym old)) in
    let start = start-is xs ys (record { rest = events; joined = sym whole }) in
    let len : length ys ≡ length xs + length events = ap length whole ∙ length-append xs events in
    (omega (arith, len), subst (λ l. AllByRecursion FitsFields (reverse l)) (sym start) (subst (AllByRecursion FitsFields) (sym old) fits))

-- ---- what contracts see ------------------------------------------------------------------------------

pub seen-low : (run : Run) (seen : Running) (n : ℕ) → running run ≡ seen → n < seen.setting.ports → n < run.plan.header.ports
seen-low run seen n is low = subst (λ (r : Running). n < r.setting.ports) (sym is) low

pub seen-room : (run : Run) (seen : Running) → running run ≡ seen → IsLive run → length seen.history < seen.setting.room → run.room ≢ 0
seen-room run seen is live low =
    let here : length (history_of run.plan run.past) < length run.plan.operations + run.room = subst (λ (r : Running). length r.history < r.setting.room)
    (sym is) low in
    let len = history-length run live in
    λ none. absurd (omega (arith, here, len, none))

-- ---- the header --------------------------------------------------------------------------------------

few-letters : list_all
    (λ n. nat_le (count_by (λ letter. letter == 65) (port_letters (header_of n))) 8 && nat_le (count_by
    (λ letter. letter == 76) (port_letters (header_of n))) 8 && nat_lt (2 ^ n - 1) (2 ^ n)) (ports_below 9) ≡ true
few-letters = refl

-- so many ACE ports are a header
pub header_right : (n : ℕ) → 1 ≤ n → n ≤ 8 → IsHeader (header_of n)
header_right n some most =
    let aces = nat_le (count_by (λ letter. letter == 65) (port_letters (header_of n))) 8 in
    let lites = nat_le (count_by (λ letter. letter == 76) (port_letters (header_of n))) 8 in
    let row = each_at 9 (λ n. nat_le (count_by (λ letter. letter == 65) (port_letters (header_of n))) 8 && nat_le (count_by
    (λ letter. letter == 76) (port_letters (header_of n))) 8 && nat_lt (2 ^ n - 1) (2 ^ n)) n few-letters (omega (arith, most)) in
    let one = and_parts (aces && lites) (nat_lt (2 ^ n - 1) (2 ^ n)) row in
    let two = and_parts aces lites one.0 in
    record {
      version = inl refl;
      some_port = some;
      most_ports = omega (arith, most);
      most_ace = leb-true (count_by (λ letter. letter == 65) (port_letters (header_of n))) 8 two.0;
      most_lite = leb-true (count_by (λ letter. letter == 76) (port_letters (header_of n))) 8 two.1;
      no_other = ltb-true (2 ^ n - 1) (2 ^ n) one.1;
    }

-- the run of the blank plan is that of the setting
pub started-opened : (s : Setting) → s.ports ≤ 8 → IsOpened (starting (record { plan = blank s; room = s.room }))
started-opened s few = record { plan = refl; ports = few; past = refl }

pub started-running : (s : Setting) → running (starting (record { plan = blank s; room = s.room })) ≡ record { setting = s; history = [] }
started-running s =
    let all : 0 + s.room ≡ s.room = omega arith in
    ap (λ n. record { setting = record { ports = s.ports; ways = s.ways; policy = s.policy; room = n }; history = [] }) all

-- a run that was started with a header of ACE ports
pub started-live : (run : Run) (s : Setting) (h : Header) → h ≡ header_of s.ports → s.ports ≤ 8
    → run ≡ starting (record { plan = record { header = h; ways = s.ways; policy = s.policy; operations = [] }; room = s.room }) → IsLive run
started-live run s h header few is =
    opened-live run (subst IsOpened
    (sym (is ∙ ap (λ k. starting (record {
      plan = record { header = k; ways = s.ways; policy = s.policy; operations = [] };
      room = s.room;
    })) header)) (started-opened s few))

-- the plan of the run is that of the setting with the calls of the history
pub plan-of-calls : (run : Run) → IsLive run → run.plan ≡ plan_with (blank (setting_of run)) (history_of run.plan run.past)
plan-of-calls run live =
    ap (λ os. record run.plan { operations = os }) live.settled.in_order
    ∙ ap (λ h. record { header = h; ways = run.plan.ways; policy = run.plan.policy; operations = map call_of (history_of run.plan run.past) }) live.header

pub seen-plan : (run : Run) (seen : Running) → running run ≡ seen → IsLive run → run.plan ≡ plan_with (blank seen.setting) seen.history
seen-plan run seen is live = subst (λ (r : Running). run.plan ≡ plan_with (blank r.setting) r.history) is (plan-of-calls run live)
