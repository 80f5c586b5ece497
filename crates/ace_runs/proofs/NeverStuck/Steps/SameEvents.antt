-- Events that are the same are equal but for their lines. So a test that reads no line tells the same of them.
use Rattle.std.proofs.Common.{◌≡◌, ℕ, Bool, true, false, ◌&&◌, ◌==◌, [], refl, sym, ap, ◌∙◌}
use Rattle.std.proofs.lemmas.Bool.{and_parts, and_from, eq-eqb, eqb-true}
use Rattle.ace_codes.specs.declared.state.LineState.{LineState}
use Rattle.ace_codes.specs.declared.state.LineState.TheVariants.{I, UC, UD, SC, SD}
use Rattle.ace_event.specs.declared.event.Channel.{Channel}
use Rattle.ace_event.specs.declared.event.Channel.TheVariants.{Read, Write}
use Rattle.ace_event.specs.declared.event.Event.{Event}
use Rattle.ace_event.specs.declared.event.Event.TheVariants.{Ar, R, Rk, Aw, W, B, Wk, Ac, Cr, Cd, G, M, S, L, D, Op, Mem}
use Rattle.ace_event.specs.declared.event.Outcome.{Outcome}
use Rattle.ace_event.specs.declared.event.Outcome.TheVariants.{Ok, Skip, Fail}
use Rattle.ace_event.specs.declared.line.Line.{Line}
use Rattle.ace_tables.specs.Answers.{same_test}
use Rattle.ace_tables.specs.States.{same_state}
use Rattle.ace_model.specs.Copies.{same_line, word_of}
use Rattle.ace_model.specs.Transactions.{same_channel}
use Rattle.ace_model.proofs.General.Booleans.{same_test-at}
use Rattle.ace_model.proofs.Tables.States.{same_state-is}
use Rattle.ace_model.proofs.Trace.Looks.{same_channel-is}
use Rattle.ace_runs.specs.SameEvents.{same_event, same_outcome}

-- ---- an event is the same as itself ------------------------------------------------------------------

own : (n : ℕ) → (n == n) ≡ true
own n = eq-eqb n n refl

pub same_test-self : (a : Bool) → same_test a a ≡ true
same_test-self true = refl
same_test-self false = refl

state-self : (st : LineState) → same_state st st ≡ true
state-self I = refl
state-self UC = refl
state-self UD = refl
state-self SC = refl
state-self SD = refl

channel-self : (c : Channel) → same_channel c c ≡ true
channel-self Read = refl
channel-self Write = refl

outcome-self : (res : Outcome) → same_outcome res res ≡ true
outcome-self Ok = refl
outcome-self Skip = refl
outcome-self Fail = refl

pub same-line-self : (line : Line) → same_line line line ≡ true
same-line-self line =
    and_from _ _ (and_from _ _ (and_from _ _ (eq-eqb (word_of line 0) (word_of line 0) refl) (eq-eqb (word_of line 1) (word_of line 1) refl)) (eq-eqb (word_of line 2) (word_of line 2) refl)) (eq-eqb (word_of line 3) (word_of line 3) refl)

pub event-self : (e : Event) → same_event e e ≡ true
event-self (Ar p i a s d b l) = rw (own p, own i, own a, own s, own d, own b, same_test-self l) refl
event-self (R p i resp last word) = rw (own p, own i, own resp, same_test-self last, own word) refl
event-self (Rk p st) = rw (own p, state-self st) refl
event-self (Aw p i a s d b) = rw (own p, own i, own a, own s, own d, own b) refl
event-self (W p strb last word) = rw (own p, own strb, same_test-self last, own word) refl
event-self (B p i resp) = rw (own p, own i, own resp) refl
event-self (Wk p st) = rw (own p, state-self st) refl
event-self (Ac p a s) = rw (own p, own a, own s) refl
event-self (Cr p resp st) = rw (own p, own resp, state-self st) refl
event-self (Cd p last word) = rw (own p, same_test-self last, own word) refl
event-self (G p c i) = rw (own p, channel-self c, own i) refl
event-self (M p c i line) = rw (own p, channel-self c, own i, same-line-self line) refl
event-self (S p a st) = rw (own p, own a, state-self st) refl
event-self (L p a w x word) = rw (own p, own a, own w, same_test-self x, own word) refl
event-self (D p a s x line) = rw (own p, own a, own s, same_test-self x, same-line-self line) refl
event-self (Op p k res) = rw (own p, own k, outcome-self res) refl
event-self (Mem a line) = rw (own a, same-line-self line) refl

-- ---- the same events are equal but for their lines ---------------------------------------------------

abbrev blank : Line
blank = record { words = [] }

-- the event with a blank line in place of its own
abbrev pub without_line : Event → Event
without_line (M p c i line) = M p c i blank
without_line (D p a s x line) = D p a s x blank
without_line (Mem a line) = Mem a blank
without_line e = e

same_outcome-is : (a b : Outcome) → same_outcome a b ≡ true → a ≡ b
same_outcome-is Ok Ok same = refl
same_outcome-is Skip Skip same = refl
same_outcome-is Fail Fail same = refl
same_outcome-is a b same = cc

pub same-without : (d e : Event) → same_event d e ≡ true → without_line d ≡ without_line e
same-without (Ar p i a s d b l) (Ar q j c t e f m) same =
    let p6 = and_parts ((p == q) && (i == j) && (a == c) && (s == t) && (d == e) && (b == f)) (same_test l m) same in
    let p5 = and_parts ((p == q) && (i == j) && (a == c) && (s == t) && (d == e)) (b == f) p6.0 in
    let p4 = and_parts ((p == q) && (i == j) && (a == c) && (s == t)) (d == e) p5.0 in
    let p3 = and_parts ((p == q) && (i == j) && (a == c)) (s == t) p4.0 in
    let p2 = and_parts ((p == q) && (i == j)) (a == c) p3.0 in
    let p1 = and_parts (p == q) (i == j) p2.0 in
    rw (eqb-true p q p1.0, eqb-true i j p1.1, eqb-true a c p2.1, eqb-true s t p3.1, eqb-true d e p4.1, eqb-true b f p5.1, same_test-at l m p6.1) refl
same-without (R p i resp last word) (R q j r l w) same =
    let p4 = and_parts ((p == q) && (i == j) && (resp == r) && same_test last l) (word == w) same in
    let p3 = and_parts ((p == q) && (i == j) && (resp == r)) (same_test last l) p4.0 in
    let p2 = and_parts ((p == q) && (i == j)) (resp == r) p3.0 in
    let p1 = and_parts (p == q) (i == j) p2.0 in
    rw (eqb-true p q p1.0, eqb-true i j p1.1, eqb-true resp r p2.1, same_test-at last l p3.1, eqb-true word w p4.1) refl
same-without (Rk p st) (Rk q t) same = let parts = and_parts (p == q) (same_state st t) same in rw (eqb-true p q parts.0, same_state-is st t parts.1) refl
same-without (Aw p i a s d b) (Aw q j c t e f) same =
    let p5 = and_parts ((p == q) && (i == j) && (a == c) && (s == t) && (d == e)) (b == f) same in
    let p4 = and_parts ((p == q) && (i == j) && (a == c) && (s == t)) (d == e) p5.0 in
    let p3 = and_parts ((p == q) && (i == j) && (a == c)) (s == t) p4.0 in
    let p2 = and_parts ((p == q) && (i == j)) (a == c) p3.0 in
    let p1 = and_parts (p == q) (i == j) p2.0 in
    rw (eqb-true p q p1.0, eqb-true i j p1.1, eqb-true a c p2.1, eqb-true s t p3.1, eqb-true d e p4.1, eqb-true b f p5.1) refl
same-without (W p strb last word) (W q s l w) same =
    let p3 = and_parts ((p == q) && (strb == s) && same_test last l) (word == w) same in
    let p2 = and_parts ((p == q) && (strb == s)) (same_test last l) p3.0 in
    let p1 = and_parts (p == q) (strb == s) p2.0 in
    rw (eqb-true p q p1.0, eqb-true strb s p1.1, same_test-at last l p2.1, eqb-true word w p3.1) refl
same-without (B p i resp) (B q j r) same =
    let p2 = and_parts ((p == q) && (i == j)) (resp == r) same in
    let p1 = and_parts (p == q) (i == j) p2.0 in
    rw (eqb-true p q p1.0, eqb-true i j p1.1, eqb-true resp r p2.1) refl
same-without (Wk p st) (Wk q t) same = let parts = and_parts (p == q) (same_state st t) same in rw (eqb-true p q parts.0, same_state-is st t parts.1) refl
same-without (Ac p a s) (Ac q c t) same =
    let p2 = and_parts ((p == q) && (a == c)) (s == t) same in
    let p1 = and_parts (p == q) (a == c) p2.0 in
    rw (eqb-true p q p1.0, eqb-true a c p1.1, eqb-true s t p2.1) refl
same-without (Cr p resp st) (Cr q r t) same =
    let p2 = and_parts ((p == q) && (resp == r)) (same_state st t) same in
    let p1 = and_parts (p == q) (resp == r) p2.0 in
    rw (eqb-true p q p1.0, eqb-true resp r p1.1, same_state-is st t p2.1) refl
same-without (Cd p last word) (Cd q l w) same =
    let p2 = and_parts ((p == q) && same_test last l) (word == w) same in
    let p1 = and_parts (p == q) (same_test last l) p2.0 in
    rw (eqb-true p q p1.0, same_test-at last l p1.1, eqb-true word w p2.1) refl
same-without (G p c i) (G q d j) same =
    let p2 = and_parts ((p == q) && same_channel c d) (i == j) same in
    let p1 = and_parts (p == q) (same_channel c d) p2.0 in
    rw (eqb-true p q p1.0, same_channel-is c d p1.1, eqb-true i j p2.1) refl
same-without (M p c i line) (M q d j l) same =
    let p3 = and_parts ((p == q) && same_channel c d && (i == j)) (same_line line l) same in
    let p2 = and_parts ((p == q) && same_channel c d) (i == j) p3.0 in
    let p1 = and_parts (p == q) (same_channel c d) p2.0 in
    rw (eqb-true p q p1.0, same_channel-is c d p1.1, eqb-true i j p2.1) refl
same-without (S p a st) (S q c t) same =
    let p2 = and_parts ((p == q) && (a == c)) (same_state st t) same in
    let p1 = and_parts (p == q) (a == c) p2.0 in
    rw (eqb-true p q p1.0, eqb-true a c p1.1, same_state-is st t p2.1) refl
same-without (L p a w x word) (L q c v y o) same =
    let p4 = and_parts ((p == q) && (a == c) && (w == v) && same_test x y) (word == o) same in
    let p3 = and_parts ((p == q) && (a == c) && (w == v)) (same_test x y) p4.0 in
    let p2 = and_parts ((p == q) && (a == c)) (w == v) p3.0 in
    let p1 = and_parts (p == q) (a == c) p2.0 in
    rw (eqb-true p q p1.0, eqb-true a c p1.1, eqb-true w v p2.1, same_test-at x y p3.1, eqb-true word o p4.1) refl
same-without (D p a s x line) (D q c t y l) same =
    let p4 = and_parts ((p == q) && (a == c) && (s == t) && same_test x y) (same_line line l) same in
    let p3 = and_parts ((p == q) && (a == c) && (s == t)) (same_test x y) p4.0 in
    let p2 = and_parts ((p == q) && (a == c)) (s == t) p3.0 in
    let p1 = and_parts (p == q) (a == c) p2.0 in
    rw (eqb-true p q p1.0, eqb-true a c p1.1, eqb-true s t p2.1, same_test-at x y p3.1) refl
same-without (Op p k res) (Op q n r) same =
    let p2 = and_parts ((p == q) && (k == n)) (same_outcome res r) same in
    let p1 = and_parts (p == q) (k == n) p2.0 in
    rw (eqb-true p q p1.0, eqb-true k n p1.1, same_outcome-is res r p2.1) refl
same-without (Mem a line) (Mem c l) same = rw (eqb-true a c (and_parts (a == c) (same_line line l) same).0) refl
same-without d e same = cc

-- ---- tests -------------------------------------------------------------------------------------------

-- the test tells the same of the same events
abbrev pub TellsSame : (Event → Bool) → Type 0
TellsSame test = (d e : Event) → same_event d e ≡ true → test d ≡ test e

-- one that reads no line does
pub tells-same : (test : Event → Bool) → ((p : ℕ) (c : Channel) (i : ℕ) (line : Line) → test (M p c i line) ≡ test (M p c i blank))
    → ((p a s : ℕ) (x : Bool) (line : Line) → test (D p a s x line) ≡ test (D p a s x blank)) → ((a : ℕ) (line : Line) → test (Mem a line) ≡ test (Mem a blank)) → TellsSame test
tells-same test writes stores begins d e same = without d ∙ ap test (same-without d e same) ∙ sym (without e)
  where
    without : (e : Event) → test e ≡ test (without_line e)
    without (M p c i line) = writes p c i line
    without (D p a s x line) = stores p a s x line
    without (Mem a line) = begins a line
    without e = refl

-- ---- events without lines ----------------------------------------------------------------------------

-- an AR or AW, an acknowledge, a silent transition or a load
abbrev pub is_lineless : Event → Bool
is_lineless (Ar p i addr snoop dom bar lock) = true
is_lineless (Aw p i addr snoop dom bar) = true
is_lineless (Rk p st) = true
is_lineless (Wk p st) = true
is_lineless (S p addr st) = true
is_lineless (L p addr w x word) = true
is_lineless _ = false

lineless-whole : (e : Event) → is_lineless e ≡ true → e ≡ without_line e
lineless-whole (M p c i line) none = cc
lineless-whole (D p a s x line) none = cc
lineless-whole (Mem a line) none = cc
lineless-whole e none = refl

pub equal-event : (d e : Event) → same_event d e ≡ true → is_lineless d ≡ true → d ≡ e
equal-event d e same none =
    lineless-whole d none ∙ same-without d e same
    ∙ sym (lineless-whole e (sym (tells-same is_lineless (λ p c i line. refl) (λ p a s x line. refl) (λ a line. refl) d e same) ∙ none))
