-- The monitors, event by event.
use Rattle.std.proofs.Common.{◌≡◌, ℕ, ◌<◌, Bool, true, false, not, ◌&&◌, nat_eq, if◌then◌else◌, [], ◌∷◌, length, Option, Some, None, unwrap_or, get_or, replicate, slice_set, refl, sym, ap, subst, ◌∙◌, arith, inl, inr, length-set}
use Rattle.ace_sysck.proofs.Terms.{option_map, Snoop, Transaction, Event, Rk, Wk, Cr, S, L, D, Read, Write, Header, Trace, LineState, is_invalid, is_ace, is_some_and, is_some_on, state_of, is_monitored, is_set_by, Line, acknowledged, answered, answers_line, is_snoop_on, snoops_a_line, is_line, is_in_make_unique, IsAccepted, left_by, port_of, Recording, line_in, line_of, line_of_snoop, progress_of, Monitors, MonitorsStand, is_line_of, kept_after, left_state, after}
use Rattle.std.proofs.lemmas.List.{length-replicate}
use Rattle.std.proofs.lemmas.Bool.{cases_Bool, cases_eq, and_parts, eq-eqb, ne_eqb, not-true}
use Rattle.std.proofs.Math.Bool.{and-true}
use Rattle.ace_model.proofs.General.Options.{Some-injective}
use Rattle.ace_model.proofs.Rules.Keeps.{accepted_keeps}
use Rattle.ace_sysck.proofs.Tables.{repeated, set_at}

-- a port that is monitored for a line holds it
monitored-held : (h : Header) (past : Trace) (p l : ℕ) → is_monitored h past p l ≡ true → is_invalid (state_of h past p l) ≡ false
monitored-held h [] p l m = cc
monitored-held h (e ∷ past) p l m =
    not-true (is_invalid (state_of h (e ∷ past) p l)) (and_parts (is_set_by e p l (is_monitored h past p l)) (not (is_invalid (state_of h (e ∷ past) p l))) m).1

-- an event that names no state of a held line, or another than I, leaves it held
still_held : (left : Option LineState) (st : LineState) → is_invalid st ≡ false
    → not (is_invalid (unwrap_or left st)) ≡ not (is_some_and left is_invalid)
still_held None st held = rw held refl
still_held (Some other) st held = refl

-- a monitor that an event doesn't set ends where it ends it, or leaves the line in I
monitored-after : (h : Header) (past : Trace) (e : Event) (p l : ℕ)
    → (is_set_by e p l (is_monitored h past p l) ≡ true → is_monitored h past p l ≡ true)
    → is_monitored h (e ∷ past) p l ≡ (is_set_by e p l (is_monitored h past p l) && not (is_some_and (left_by h past e p l) is_invalid))
monitored-after h past e p l before =
    elim (cases_Bool (is_set_by e p l (is_monitored h past p l))) [
      | inl t ↦ rw t (still_held (left_by h past e p l) (state_of h past p l) (monitored-held h past p l (before t)))
      | inr f ↦ rw f refl
    ]

-- the line that is kept, once its port is left in a state of a line
kept-says : (kept line : Option ℕ) (st : LineState) (l : ℕ)
    → is_line_of (kept_after kept line st) l ≡ (is_line_of kept l && not (is_some_and (if is_line_of line l then Some st else None) is_invalid))
kept-says None line st l = refl
kept-says (Some m) line st l =
    elim (cases_eq m l) [
      | inl same ↦ at_line (is_line_of line m) (is_invalid st) refl refl same
      | inr off ↦ elim (cases_Bool (is_invalid st && is_line_of line m)) [
        | inl t ↦ rw (t, ne_eqb m l off) refl
        | inr f ↦ rw (f, ne_eqb m l off) refl
      ]
    ]
  where
    at_line : (on left : Bool) → is_line_of line m ≡ on → is_invalid st ≡ left → m ≡ l
        → is_line_of (kept_after (Some m) line st) l ≡ (nat_eq m l && not (is_some_and (if is_line_of line l then Some st else None) is_invalid))
    at_line true true t i same = rw (← same, t, i, eq-eqb m m refl) refl
    at_line true false t v same = rw (← same, t, v, eq-eqb m m refl) refl
    at_line false true f i same = rw (← same, f, i, eq-eqb m m refl) refl
    at_line false false f v same = rw (← same, f, v, eq-eqb m m refl) refl

-- the line of an acknowledge is that of the transaction that it acknowledges, and that of an answer is that of its snoop
line-of_transaction : (h : Header) (past : Trace) (o : Option Transaction) (l : ℕ) → is_line_of (line_of (option_map (progress_of h past) o)) l ≡ is_some_on o l
line-of_transaction h past None l = refl
line-of_transaction h past (Some x) l =
    elim (cases_Bool (is_line x)) [
      | inl t ↦ rw t refl
      | inr f ↦ rw f refl
    ]

line-of_snoop : (o : Option Snoop) (l : ℕ) → is_line_of (line_of_snoop o) l ≡ is_some_and o (λ s. is_snoop_on s l)
line-of_snoop None l = refl
line-of_snoop (Some s) l =
    elim (cases_Bool (snoops_a_line s.snoop)) [
      | inl t ↦ rw t refl
      | inr f ↦ rw f refl
    ]

-- the two sides of a test of numbers change places
flip : (a b : ℕ) → nat_eq a b ≡ nat_eq b a
flip a b =
    elim (cases_eq a b) [
      | inl same ↦ rw (eq-eqb a b same, eq-eqb b a (sym same)) refl
      | inr off ↦ rw (ne_eqb a b off, ne_eqb b a (λ s. off (sym s))) refl
    ]

-- an event that leaves the line of its target in a state, and sets no monitor
pub record Leaves (h : Header) (past : Trace) (e : Event) (q : ℕ) (line : Option ℕ) (st : LineState) : Type 0 where
  pub sets_none : (p l : ℕ) (was : Bool) → is_set_by e p l was ≡ was
  pub leaves : (p l : ℕ) → left_by h past e p l ≡ (if nat_eq p q && is_line_of line l then Some st else None)

-- a list in which the line of one port is set stands after an event that says so of that port, and leaves the others
monitors_set : (r : Recording) (s t : Monitors) (e : Event) (q : ℕ) (v : Option ℕ) → MonitorsStand r s → q < r.header.ports
    → t.lines.items ≡ slice_set s.lines.items q v
    → ((p l : ℕ) → is_monitored r.header (e ∷ r.past) p l ≡ (if nat_eq q p then is_line_of v l else is_monitored r.header r.past p l))
    → MonitorsStand (after r e) t
monitors_set r s t e q v stands within items says = record {
  size = ap length items ∙ length-set s.lines.items q v ∙ stands.size;
  lines = λ p l.
      let low : q < length s.lines.items = let n = stands.size in omega arith in
      says p l ∙ by p l ∙ sym (ap (λ o. is_line_of o l) (ap (λ xs. get_or xs p None) items ∙ set_at s.lines.items q p v None low));
}
  where
    by : (p l : ℕ) → (if nat_eq q p then is_line_of v l else is_monitored r.header r.past p l) ≡ is_line_of (if nat_eq q p then v else get_or s.lines.items p None) l
    by p l =
        elim (cases_Bool (nat_eq q p)) [
          | inl t ↦ rw t refl
          | inr f ↦ rw f (stands.lines p l)
        ]

pub monitors_leave : (r : Recording) (s t : Monitors) (e : Event) (q : ℕ) (line : Option ℕ) (st : LineState) → MonitorsStand r s → q < r.header.ports
    → Leaves r.header r.past e q line st
    → t.lines.items ≡ slice_set s.lines.items q (kept_after (get_or s.lines.items q None) line st) → MonitorsStand (after r e) t
monitors_leave r s t e q line st stands within leaves items =
    monitors_set r s t e q (kept_after (get_or s.lines.items q None) line st) stands within items says
  where
    h : Header
    h = r.header

    after-is : (p l : ℕ) → is_monitored h (e ∷ r.past) p l ≡ (is_monitored h r.past p l && not (is_some_and (left_by h r.past e p l) is_invalid))
    after-is p l =
        monitored-after h r.past e p l (λ t. sym (leaves.sets_none p l (is_monitored h r.past p l)) ∙ t)
        ∙ ap (λ b. b && not (is_some_and (left_by h r.past e p l) is_invalid)) (leaves.sets_none p l (is_monitored h r.past p l))

    says : (p l : ℕ) → is_monitored h (e ∷ r.past) p l
        ≡ (if nat_eq q p then is_line_of (kept_after (get_or s.lines.items q None) line st) l else is_monitored h r.past p l)
    says p l =
        elim (cases_eq q p) [
          | inl same ↦
              rw (eq-eqb q p same)
              (after-is p l
              ∙ ap (λ o. is_monitored h r.past p l && not (is_some_and o is_invalid)) (leaves.leaves p l)
              ∙ rw (eq-eqb p q (sym same)) (ap (λ b. b && not (is_some_and (if is_line_of line l then Some st else None) is_invalid)) (stands.lines p l ∙ ap (λ m. is_line_of (get_or s.lines.items m None) l) (sym same))
              ∙ sym (kept-says (get_or s.lines.items q None) line st l)))
          | inr off ↦
              rw (ne_eqb q p off)
              (after-is p l
              ∙ ap (λ o. is_monitored h r.past p l && not (is_some_and o is_invalid)) (leaves.leaves p l)
              ∙ rw (ne_eqb p q (λ s. off (sym s))) (and-true (is_monitored h r.past p l)))
        ]

-- an event that sets no monitor and leaves no line in I leaves the monitors as they are
pub monitors_stay : (r : Recording) (s : Monitors) (e : Event) → ((p l : ℕ) (was : Bool) → is_set_by e p l was ≡ was)
    → ((p l : ℕ) → is_some_and (left_by r.header r.past e p l) is_invalid ≡ false) → MonitorsStand r s → MonitorsStand (after r e) s
monitors_stay r s e sets_none leaves_none stands = record {
  size = stands.size;
  lines = λ p l.
      let was = is_monitored r.header r.past p l in
      monitored-after r.header r.past e p l (λ t. sym (sets_none p l was) ∙ t)
      ∙ rw (sets_none p l was, leaves_none p l) (and-true was) ∙ stands.lines p l;
}

-- a load that isn't exclusive, and a store that isn't
pub monitors_load : (r : Recording) (s : Monitors) (q addr w word : ℕ) → MonitorsStand r s → MonitorsStand (after r (L q addr w false word)) s
monitors_load r s q addr w word stands = monitors_stay r s (L q addr w false word) (λ p l was. by p was (nat_eq l addr)) (λ p l. refl) stands
  where
    by : (p : ℕ) (was other : Bool) → (if nat_eq p q && false then other else was) ≡ was
    by p was other =
        elim (cases_Bool (nat_eq p q)) [
          | inl t ↦ rw t refl
          | inr f ↦ rw f refl
        ]

-- a store leaves no line in I
store_leaves_none : (h : Header) (past : Trace) (q addr strobe : ℕ) (x : Bool) (line : Line) (p l : ℕ) → is_some_and (left_by h past (D q addr strobe x line) p l) is_invalid ≡ false
store_leaves_none h past q addr strobe x line p l =
    elim (cases_Bool (nat_eq p q && nat_eq l addr && not (is_in_make_unique h past p l))) [
      | inl t ↦ rw t refl
      | inr f ↦ rw f refl
    ]

pub monitors_store : (r : Recording) (s : Monitors) (q addr strobe : ℕ) (line : Line) → MonitorsStand r s → MonitorsStand (after r (D q addr strobe false line)) s
monitors_store r s q addr strobe line stands =
    monitors_stay r s (D q addr strobe false line) (λ p l was. by p was) (store_leaves_none r.header r.past q addr strobe false line) stands
  where
    by : (p : ℕ) (was : Bool) → (was && not (nat_eq p q && false)) ≡ was
    by p true =
        elim (cases_Bool (nat_eq p q)) [
          | inl t ↦ rw t refl
          | inr f ↦ rw f refl
        ]
    by p false = refl

-- an exclusive load sets the monitor of its port for its line, which the port holds
pub monitors_exclusive_load : (r : Recording) (s t : Monitors) (q addr w word : ℕ) → IsAccepted r.header (L q addr w true word ∷ r.past) → MonitorsStand r s
    → q < r.header.ports → t.lines.items ≡ slice_set s.lines.items q (Some addr) → MonitorsStand (after r (L q addr w true word)) t
monitors_exclusive_load r s t q addr w word accepted stands within items = monitors_set r s t (L q addr w true word) q (Some addr) stands within items says
  where
    h : Header
    h = r.header

    held : is_invalid (state_of h r.past q addr) ≡ false
    held = not-true (is_invalid (state_of h r.past q addr)) (accepted_keeps h r.past (L q addr w true word) accepted).rule_30

    at : (p l : ℕ) → q ≡ p → (nat_eq l addr && not (is_invalid (state_of h r.past p l))) ≡ nat_eq addr l
    at p l same =
        elim (cases_eq addr l) [
          | inl here ↦ rw (← same, ← here, eq-eqb addr addr refl, held) refl
          | inr off ↦ rw (ne_eqb addr l off, ne_eqb l addr (λ e. off (sym e))) refl
        ]

    says : (p l : ℕ) → is_monitored h (L q addr w true word ∷ r.past) p l ≡ (if nat_eq q p then is_line_of (Some addr) l else is_monitored h r.past p l)
    says p l =
        elim (cases_eq q p) [
          | inl same ↦ rw (eq-eqb q p same, eq-eqb p q (sym same)) (at p l same)
          | inr off ↦
              let other : nat_eq p q ≡ false = ne_eqb p q (λ e. off (sym e)) in
              monitored-after h r.past (L q addr w true word) p l (λ t. rw other at t) ∙ rw (ne_eqb q p off, other) (and-true (is_monitored h r.past p l))
        ]

-- an exclusive store ends the monitor of its port
pub monitors_exclusive_store : (r : Recording) (s t : Monitors) (q addr strobe : ℕ) (line : Line) → MonitorsStand r s
    → q < r.header.ports → t.lines.items ≡ slice_set s.lines.items q None → MonitorsStand (after r (D q addr strobe true line)) t
monitors_exclusive_store r s t q addr strobe line stands within items = monitors_set r s t e q None stands within items says
  where
    e : Event
    e = D q addr strobe true line

    h : Header
    h = r.header

    was-of : (p : ℕ) (was : Bool) → (was && not (nat_eq p q && true)) ≡ true → was ≡ true
    was-of p was t = (and_parts was _ t).0

    says : (p l : ℕ) → is_monitored h (e ∷ r.past) p l ≡ (if nat_eq q p then is_line_of None l else is_monitored h r.past p l)
    says p l =
        monitored-after h r.past e p l (was-of p (is_monitored h r.past p l))
        ∙ rw (store_leaves_none h r.past q addr strobe true line p l) (by (is_monitored h r.past p l))
      where
        by : (was : Bool) → (was && not (nat_eq p q && true) && true) ≡ (if nat_eq q p then false else was)
        by was =
            elim (cases_eq q p) [
              | inl same ↦ rw (eq-eqb q p same, eq-eqb p q (sym same)) (off was)
              | inr apart ↦ rw (ne_eqb q p apart, ne_eqb p q (λ e. apart (sym e))) (on was)
            ]
          where
            off : (b : Bool) → (b && false && true) ≡ false
            off true = refl
            off false = refl

            on : (b : Bool) → (b && true && true) ≡ b
            on true = refl
            on false = refl

-- where the line of an event and the state of another port are looked at, the state is left as it is
leaves_one : {h : Header} {past : Trace} (e : Event) (q : ℕ) (line : Option ℕ) (st : LineState) (test : ℕ → ℕ → Bool) → ((p l : ℕ) (was : Bool) → is_set_by e p l was ≡ was)
    → ((p l : ℕ) → left_by h past e p l ≡ (if nat_eq p q && test p l then Some st else None)) → ((l : ℕ) → test q l ≡ is_line_of line l)
    → Leaves h past e q line st
leaves_one e q line st test sets_none left one = record {
  sets_none = sets_none;
  leaves = λ p l. left p l ∙ (elim (cases_eq p q) [
    | inl same ↦ rw (eq-eqb p q same) (ap (λ b. if b then Some st else None) (ap (λ m. test m l) same ∙ one l))
    | inr off ↦ rw (ne_eqb p q off) refl
  ]);
}

-- an accepted event that leaves its port in a state of a line leaves it so of the line of its target
pub left_at : (h : Header) (past : Trace) (e : Event) (q : ℕ) (st : LineState) → IsAccepted h (e ∷ past) → left_state e ≡ Some (q, st)
    → Leaves h past e q (line_in h past e) st × (port_of e ≡ Some q)
left_at h past (Rk p s) q st accepted is =
    let e : Event = Rk p s in
    let ace : is_ace h p ≡ true = (and_parts _ (is_ace h p) (accepted_keeps h past e accepted).rule_1).1 in
    let line : (l : ℕ) → is_some_on (acknowledged past p Read) l ≡ is_line_of (line_in h past e) l = λ l. rw ace (sym (line-of_transaction h past (acknowledged past p Read) l)) in
    subst (λ (v : ℕ × LineState). Leaves h past e v.0 (line_in h past e) v.1 × (Some p ≡ Some v.0)) (Some-injective (p, s) (q, st) is)
    (leaves_one e p (line_in h past e) s (λ m. is_some_on (acknowledged past m Read)) (λ m l was. refl) (λ m l. refl) line, refl)
left_at h past (Wk p s) q st accepted is =
    let e : Event = Wk p s in
    let ace : is_ace h p ≡ true = (and_parts _ (is_ace h p) (accepted_keeps h past e accepted).rule_1).1 in
    let line : (l : ℕ) → is_some_on (acknowledged past p Write) l ≡ is_line_of (line_in h past e) l = λ l. rw ace (sym (line-of_transaction h past (acknowledged past p Write) l)) in
    subst (λ (v : ℕ × LineState). Leaves h past e v.0 (line_in h past e) v.1 × (Some p ≡ Some v.0)) (Some-injective (p, s) (q, st) is)
    (leaves_one e p (line_in h past e) s (λ m. is_some_on (acknowledged past m Write)) (λ m l was. refl) (λ m l. refl) line, refl)
left_at h past (Cr p resp s) q st accepted is =
    let e : Event = Cr p resp s in
    subst (λ (v : ℕ × LineState). Leaves h past e v.0 (line_in h past e) v.1 × (Some p ≡ Some v.0)) (Some-injective (p, s) (q, st) is)
    (leaves_one e p (line_in h past e) s (λ m. answers_line past m) (λ m l was. refl) (λ m l. refl) (λ l. sym (line-of_snoop (answered past p) l)), refl)
left_at h past (S p addr s) q st accepted is =
    let e : Event = S p addr s in
    subst (λ (v : ℕ × LineState). Leaves h past e v.0 (line_in h past e) v.1 × (Some p ≡ Some v.0)) (Some-injective (p, s) (q, st) is)
    (leaves_one e p (line_in h past e) s (λ m l. nat_eq l addr) (λ m l was. refl) (λ m l. refl) (λ l. flip l addr), refl)
left_at h past e q st accepted is = cc

-- the monitors of the empty trace
pub monitors_fresh : (h : Header) (s : Monitors) → s.lines.items ≡ replicate h.ports None → MonitorsStand (record { header = h; past = [] }) s
monitors_fresh h s is = record { size = ap length is ∙ length-replicate h.ports None; lines = λ p l. rw (is, repeated {A = Option ℕ} h.ports p None) refl }
