-- A filtered run: the events of a turn, which the filter hears, and the events of one turn after those of another.
use Rattle.std.proofs.Common.{◌≡◌, ◌<◌, ◌≤◌, ◌+◌, ℕ, true, false, List, [], ◌∷◌, ◌++◌, Option, None, inl, inr, length, length-append, append_assoc, reverse, take, Some, refl, sym, ap, subst, ◌∙◌, arith}
use Rattle.std.proofs.Math.ListN.{get_or}
use Rattle.std.proofs.Math.Seq.{take-append_seam}
use Rattle.std.proofs.lemmas.Bool.{and_from, and_parts, cases_Bool}
use Rattle.std.proofs.lemmas.List.{append-nil, reverse-append, reverse-reverse}
use Rattle.ace_event.specs.declared.event.Event.{Event}
use Rattle.ace_event.specs.declared.header.Header.{Header}
use Rattle.ace_model.specs.declared.transactions.Transaction.{Transaction}
use Rattle.ace_model.specs.Accepted.{IsAccepted}
use Rattle.ace_model.specs.Kept.{HoldersAreKept}
use Rattle.ace_model.specs.Lines.{add_line, known_lines, names_new_line}
use Rattle.ace_model.specs.Plans.{Plan}
use Rattle.ace_model.specs.Trace.{Trace, is_some_and}
use Rattle.ace_model.specs.Transactions.{issued}
use Rattle.ace_model.proofs.KeptPorts.{accepted_keeps_holders}
use Rattle.ace_runs.specs.Bursts.{onto}
use Rattle.ace_runs.specs.Follows.{Done, is_done}
use Rattle.ace_runs.specs.Steps.{AreSteps}
use Rattle.ace_runs.proofs.Few.Bound.{few-events}
use Rattle.ace_runs.proofs.Few.KnownLines.{one-line-for-each}
use Rattle.ace_engine.specs.Engines.{IsLegal}
use Rattle.ace_engine.proofs.Heard.{legal-next, onto-next}
use Rattle.ace_home.specs.Among.{HasHolders, IsStepAmong, PortSets, is_enabled_among}
use Rattle.ace_home.proofs.GoesOnAmong.{goes-on-among}
use Rattle.ace_fabric.specs.Runs.{Run, continued}
use Rattle.ace_fabric.proofs.Continued.{continued-twice}
use Rattle.ace_filter.specs.declared.filter.Filter.{Filter}
use Rattle.ace_filter.specs.Drain.{are_kept_snoops, is_kept_snoop}
use Rattle.ace_filter.specs.Filter.{FilterStands, MayHear, is_set, room_of}
use Rattle.ace_filter.proofs.KeptSnoops.{step-kept-snoops}

-- ---- events that come after others -------------------------------------------------------------------

onto-is : (events : List Event) (past : Trace) → onto events past ≡ reverse events ++ past
onto-is [] past = refl
onto-is (e ∷ events) past = onto-is events (e ∷ past) ∙ sym (ap (λ l. l ++ past) (reverse-cons e events) ∙ append_assoc (reverse events) (e ∷ []) past)
  where
    reverse-cons : (e : Event) (events : List Event) → reverse (e ∷ events) ≡ reverse events ++ e ∷ []
    reverse-cons e events = reverse-append (e ∷ []) events

-- in the order of the events
pub reversed : (events : List Event) → onto events [] ≡ reverse events
reversed events = onto-is events [] ∙ append-nil (reverse events)

-- the events before a burst are the first of those after it
pub first-events : (before after burst : List Event) (past : Trace) → reverse before ≡ past → reverse after ≡ onto burst past
    → (reverse (take (length before) after) ≡ past) × (length before ≤ length after)
first-events before after burst past old new =
    let whole : after ≡ before ++ burst =
    sym (reverse-reverse after) ∙ ap reverse (new ∙ ap (onto burst) (sym old) ∙ onto-is burst (reverse before)) ∙ reverse-append (reverse burst) (reverse before)
    ∙ ap (λ l. l ++ reverse (reverse burst)) (reverse-reverse before) ∙ ap (λ l. before ++ l) (reverse-reverse burst) in
    let len = ap length whole in
    let parts = length-append before burst in
    (ap reverse (ap (take (length before)) whole ∙ take-append_seam before burst) ∙ old, omega (arith, len, parts))

-- events after others, each of which is such at its point
pub kept-both : (h : Header) (past : Trace) (first next : List Event) → are_kept_snoops h past first ≡ true → are_kept_snoops h (onto first past) next ≡ true
    → are_kept_snoops h past (first ++ next) ≡ true
kept-both h past [] next f n = n
kept-both h past (e ∷ first) next f n =
    let parts = and_parts (is_kept_snoop h past e) (are_kept_snoops h (e ∷ past) first) f in
    and_from _ _ parts.0 (kept-both h (e ∷ past) first next parts.1 n)

-- ---- what a filter hears -----------------------------------------------------------------------------

one-more : (past : Trace) (o : Option Transaction) (lines : List ℕ) → is_some_and o (names_new_line past) ≡ true → length (add_line past o lines) ≡ length lines + 1
one-more past None lines new = cc
one-more past (Some x) lines new = rw new (omega arith)

-- the next event of a run whose operations are no more than there is room for
may-hear : (s : Filter) (plan : Plan) (past : Trace) (e : Event) → FilterStands s plan.header past → IsLegal plan (e ∷ past) → length plan.operations ≤ room_of s → MayHear s plan.header past e
may-hear s plan past e stands legal room = record {
  stands = stands;
  keeps = legal.accepted.1;
  few = (let few = few-events plan (e ∷ past) legal.right legal.accepted legal.follows legal.lean in let most = legal.right.few in omega (arith, few, most));
  room = λ new.
      let known = one-line-for-each plan (e ∷ past) legal.lean in
      let more = one-more past (issued (length past) e) (known_lines past) new in
      omega (arith, known, more, room);
}

pub heard-next : (old new : Filter) (plan : Plan) (events : List Event) (i : ℕ) (d : Event) → i < length events → IsLegal plan (reverse events) → length plan.operations ≤ room_of old
    → FilterStands old plan.header (reverse (take i events))
    → ((past : Trace) → MayHear old plan.header past (get_or events i d) → FilterStands new plan.header (get_or events i d ∷ past)) → FilterStands new plan.header (reverse (take (i + 1) events))
heard-next old new plan events i d low legal room stands hears =
    let next = legal-next plan events i d [] low (subst (IsLegal plan) (sym (reversed events)) legal) in
    let now = subst (FilterStands old plan.header) (sym (reversed (take i events))) stands in
    subst (FilterStands new plan.header) (sym (onto-next events i d [] low) ∙ reversed (take (i + 1) events)) (hears (onto (take i events) []) (may-hear old plan (onto (take i events) []) (get_or events i d) now next room))

-- ---- holders -----------------------------------------------------------------------------------------

pub kept-now : (h : Header) (past : Trace) → IsAccepted h past → HoldersAreKept h past
kept-now h [] a = accepted_keeps_holders h [] a
kept-now h (e ∷ past) a = (accepted_keeps_holders h (e ∷ past) a).1

-- the filter has each port that holds a line
pub has-holders : (s : Filter) (h : Header) (past : Trace) → FilterStands s h past → HasHolders (is_set s) h past
has-holders s h past stands l p ace held = stands.sets.sets l p ∙ kept-now h past stands.accepted l p held

-- where no port is enabled, the run is done
pub idle-done : (among : PortSets) (plan : Plan) (past : Trace) → IsLegal plan past → AreSteps plan past → HasHolders among plan.header past
    → ((p : ℕ) → p < plan.header.ports → is_enabled_among among plan past p ≡ false) → Done plan past
idle-done among plan past legal steps holders idle =
    elim (cases_Bool (is_done plan past)) [
      | inl t ↦ t
      | inr f ↦
          let some = goes-on-among among plan past steps holders legal.right legal.follows (λ d. let bad : true ≡ false = sym d ∙ f in cc) in
          let bad : true ≡ false = sym some.2 ∙ idle some.0 some.1 in cc
    ]

-- ---- turns -------------------------------------------------------------------------------------------

-- events after those of a run, each of which is such at its point
pub kept-rounds : (a b d : Run) (first next : List Event) → b ≡ continued first a → are_kept_snoops a.plan.header a.past first ≡ true → d ≡ continued next b
    → are_kept_snoops b.plan.header b.past next ≡ true → (d ≡ continued (first ++ next) a) × (are_kept_snoops a.plan.header a.past (first ++ next) ≡ true)
kept-rounds a b d first next one kept two now =
    let later : are_kept_snoops a.plan.header (onto first a.past) next ≡ true = subst (λ (r : Run). are_kept_snoops r.plan.header r.past next ≡ true) one now in
    (continued-twice first next a b d one two, kept-both a.plan.header a.past first next kept later)

-- a turn that snoops only kept ports goes on with a run that did
pub kept-turn : (s : Filter) (a b d : Run) (first next : List Event) (p : ℕ) → FilterStands s b.plan.header b.past → IsLegal b.plan b.past → b ≡ continued first a
    → are_kept_snoops a.plan.header a.past first ≡ true → IsStepAmong (is_set s) b.plan b.past p next → d ≡ continued next b
    → (d ≡ continued (first ++ next) a) × (are_kept_snoops a.plan.header a.past (first ++ next) ≡ true)
kept-turn s a b d first next p stands legal one kept step two =
    kept-rounds a b d first next one kept two (step-kept-snoops (is_set s) b.plan b.past p next legal (λ l q. sym (stands.sets.sets l q)) step)

-- a run that was drained from its start
pub kept-from-start : (a b : Run) (events : List Event) → a.past ≡ [] → b ≡ continued events a → are_kept_snoops a.plan.header a.past events ≡ true
    → are_kept_snoops b.plan.header [] (reverse b.past) ≡ true
kept-from-start a b events start is kept =
    let past : b.past ≡ onto events [] = ap (λ (r : Run). r.past) is ∙ ap (onto events) start in
    let in_order : reverse b.past ≡ events = ap reverse (past ∙ reversed events) ∙ reverse-reverse events in
    let header : b.plan.header ≡ a.plan.header = ap (λ (r : Run). r.plan.header) is in
    rw header (rw in_order (subst (λ (t : Trace). are_kept_snoops a.plan.header t events ≡ true) start kept))
