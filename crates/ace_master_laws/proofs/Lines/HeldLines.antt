-- How many lines a port holds: no more than there are ways, where the trace follows the plan so far.
use Rattle.std.proofs.Common.{◌≡◌, ◌≤◌, ◌<◌, ◌+◌, ℕ, Bool, true, false, ◌&&◌, ◌==◌, nat_le, if◌then◌else◌, List, [], ◌∷◌, length, Option, Some, None, inl, inr, refl, sym, ap, subst, ◌∙◌, arith, leb-true}
use Rattle.std.specs.List.{list_any}
use Rattle.std.proofs.lemmas.Bool.{and_parts, cases_Bool, eq-eqb, eqb-true, ne_eqb, or_cases, or_left, or_right}
use Rattle.ace_codes.specs.declared.state.LineState.{LineState}
use Rattle.ace_event.specs.declared.event.Event.{Event}
use Rattle.ace_event.specs.declared.header.Header.{Header}
use Rattle.ace_tables.specs.States.{is_invalid}
use Rattle.ace_model.specs.Plans.{Plan}
use Rattle.ace_model.specs.States.{state_of}
use Rattle.ace_model.specs.Trace.{Trace, port_of, is_some_and}
use Rattle.ace_model.proofs.General.Options.{is_none_or-at, is_some_and-is}
use Rattle.ace_runs.specs.Follows.{FollowsSoFar, obeys, retires_well, acts_well, carries_data, answers_well, has_room_after}
use Rattle.ace_runs.specs.HeldLines.{held_lines, line_told, others, with_line}
use Rattle.ace_runs.specs.Segments.{is_at_port}
use Rattle.ace_runs.proofs.NeverStuck.Operations.Lines.HeldLines.{may_tell, state-untold}

pub obeys-room : (plan : Plan) (past : Trace) (e : Event) → obeys plan past e ≡ true → has_room_after plan past e ≡ true
obeys-room plan past e o =
    (and_parts (retires_well plan past e && acts_well plan past e && carries_data plan past e && answers_well plan past e) (has_room_after plan past e) o).1

-- A port holds no more lines than there are ways.
pub held-within : (plan : Plan) (past : Trace) (p : ℕ) → FollowsSoFar plan past → length (held_lines plan.header past p) ≤ plan.ways
held-within plan [] p f = omega arith
held-within plan (e ∷ past) p f =
    elim (cases_Bool (is_at_port p e)) [
      | inr other ↦ subst (λ b. length (if b then with_line (line_told past e) (state_of plan.header (e ∷ past) p) (held_lines plan.header past p) else held_lines plan.header past p) ≤ plan.ways) (sym other) (held-within plan past p f.0)
      | inl here ↦
          let q = is_some_and-is (port_of e) (λ q. q == p) here in
          let room = is_none_or-at (port_of e) (λ q. nat_le (length (held_lines plan.header (e ∷ past) q)) plan.ways) q.0 (obeys-room plan past e f.1) q.1 in
          leb-true (length (held_lines plan.header (e ∷ past) p)) plan.ways (subst (λ r. nat_le (length (held_lines plan.header (e ∷ past) r)) plan.ways ≡ true) (eqb-true q.0 p q.2) room)
    ]

-- ---- lists of lines ----------------------------------------------------------------------------------

-- a list without one line is no longer
pub others-few : (l : ℕ) (lines : List ℕ) → length (others l lines) ≤ length lines
others-few l [] = omega arith
others-few l (k ∷ lines) =
    let rest = others-few l lines in
    elim (cases_Bool (k == l)) [
      | inl t ↦ rw t (omega (arith, rest))
      | inr f ↦ rw f (omega (arith, rest))
    ]

-- and shorter, where the line was there
pub others-fewer : (l : ℕ) (lines : List ℕ) → list_any (λ k. k == l) lines ≡ true → length (others l lines) < length lines
others-fewer l [] there = cc
others-fewer l (k ∷ lines) there =
    let rest = others-few l lines in
    elim (cases_Bool (k == l)) [
      | inl t ↦ rw t (omega (arith, rest))
      | inr f ↦ let later = others-fewer l lines (rw f at there) in rw f (omega (arith, later))
    ]

-- without two lines it is no longer than without one of them
pub others-both : (a l : ℕ) (lines : List ℕ) → length (others a (others l lines)) ≤ length (others a lines)
others-both a l [] = omega arith
others-both a l (k ∷ lines) =
    let rest = others-both a l lines in
    elim (cases_Bool (k == l)) [
      | inl t ↦ elim (cases_Bool (k == a)) [
        | inl u ↦ rw (t, u) (omega (arith, rest))
        | inr u ↦ rw (t, u) (omega (arith, rest))
      ]
      | inr f ↦ elim (cases_Bool (k == a)) [
        | inl u ↦ rw (f, u) (omega (arith, rest))
        | inr u ↦ rw (f, u) (omega (arith, rest))
      ]
    ]

-- and shorter, where the other is another and was there
pub others-apart : (a l : ℕ) (lines : List ℕ) → (l == a) ≡ false → list_any (λ k. k == l) lines ≡ true → length (others a (others l lines)) < length (others a lines)
others-apart a l [] apart there = cc
others-apart a l (k ∷ lines) apart there =
    elim (cases_Bool (k == l)) [
      | inl t ↦
          let rest = others-both a l lines in
          let other : (k == a) ≡ false = ap (λ n. n == a) (eqb-true k l t) ∙ apart in
          rw (t, other) (omega (arith, rest))
      | inr f ↦
          let rest = others-apart a l lines apart (rw f at there) in
          elim (cases_Bool (k == a)) [
            | inl u ↦ rw (f, u) (omega (arith, rest))
            | inr u ↦ rw (f, u) (omega (arith, rest))
          ]
    ]

-- with the line of which an event tells, if it was there
with-few : (l : ℕ) (state : ℕ → LineState) (lines : List ℕ) → (is_invalid (state l) ≡ false → list_any (λ k. k == l) lines ≡ true) → length (with_line (Some l) state lines) ≤ length lines
with-few l state lines there =
    elim (cases_Bool (is_invalid (state l))) [
      | inl t ↦ let few = others-few l lines in rw t (omega (arith, few))
      | inr f ↦ let few = others-fewer l lines (there f) in rw f (omega (arith, few))
    ]

-- at most one more than without it
with-one : (l : ℕ) (state : ℕ → LineState) (lines : List ℕ) → length (with_line (Some l) state lines) ≤ length (others l lines) + 1
with-one l state lines =
    elim (cases_Bool (is_invalid (state l))) [
      | inl t ↦ rw t (omega arith)
      | inr f ↦ rw f (omega arith)
    ]

others-with : (a l : ℕ) (state : ℕ → LineState) (lines : List ℕ) → ((l == a) ≡ false → is_invalid (state l) ≡ false → list_any (λ k. k == l) lines ≡ true)
    → length (others a (with_line (Some l) state lines)) ≤ length (others a lines)
others-with a l state lines there =
    elim (cases_Bool (is_invalid (state l))) [
      | inl t ↦ let few = others-both a l lines in rw t (omega (arith, few))
      | inr f ↦ elim (cases_Bool (l == a)) [
        | inl same ↦ let few = others-both a l lines in rw (f, same) (omega (arith, few))
        | inr apart ↦ let few = others-apart a l lines apart (there apart f) in rw (f, apart) (omega (arith, few))
      ]
    ]

-- ---- the lines that a port holds ---------------------------------------------------------------------

any-others : (l a : ℕ) (lines : List ℕ) → (a == l) ≡ false → list_any (λ k. k == a) lines ≡ true → list_any (λ k. k == a) (others l lines) ≡ true
any-others l a [] apart there = cc
any-others l a (k ∷ lines) apart there =
    elim (cases_Bool (k == l)) [
      | inl t ↦
          let other : (k == a) ≡ false = ne_eqb k a (λ same. let bad : false ≡ true = sym apart ∙ ap (λ n. n == l) (sym same) ∙ t in cc) in
          rw t (any-others l a lines apart (rw other at there))
      | inr f ↦ rw f (elim (or_cases (k == a) (list_any (λ k. k == a) lines) there) [
        | inl here ↦ or_left (k == a) _ here
        | inr later ↦ or_right (k == a) _ (any-others l a lines apart later)
      ])
    ]

-- with one more event
module _ (h : Header) (past : Trace) (e : Event) (p a : ℕ) (before : is_invalid (state_of h past p a) ≡ false → list_any (λ k. k == a) (held_lines h past p) ≡ true)
    (held : is_invalid (state_of h (e ∷ past) p a) ≡ false) where
  there-untold : may_tell past e p a ≡ false → list_any (λ k. k == a) (held_lines h past p) ≡ true
  there-untold f = before (ap is_invalid (sym (state-untold h past e p a f)) ∙ held)

  no-part : (b c : Bool) → c ≡ false → (b && c) ≡ false
  no-part true c f = f
  no-part false c f = refl

  there-told : (o : Option ℕ) → line_told past e ≡ o → list_any (λ k. k == a) (with_line o (state_of h (e ∷ past) p) (held_lines h past p)) ≡ true
  there-told None is = there-untold (no-part (is_at_port p e) _ (ap (λ o. is_some_and o (λ l. l == a)) is))
  there-told (Some l) is =
      elim (cases_Bool (l == a)) [
        | inl here ↦
            let some : is_invalid (state_of h (e ∷ past) p l) ≡ false = ap (λ n. is_invalid (state_of h (e ∷ past) p n)) (eqb-true l a here) ∙ held in
            rw some (or_left (l == a) _ here)
        | inr apart ↦
            let old = there-untold (no-part (is_at_port p e) _ (ap (λ o. is_some_and o (λ l. l == a)) is ∙ apart)) in
            let kept = any-others l a (held_lines h past p) (ne_eqb a l (λ same. let bad : false ≡ true = sym apart ∙ eq-eqb l a (sym same) in cc)) old in
            elim (cases_Bool (is_invalid (state_of h (e ∷ past) p l))) [
              | inl t ↦ rw t kept
              | inr f ↦ rw f (or_right (l == a) _ kept)
            ]
      ]

  there-after : (at : Bool) → is_at_port p e ≡ at
      → list_any (λ k. k == a) (if at then with_line (line_told past e) (state_of h (e ∷ past) p) (held_lines h past p) else held_lines h past p) ≡ true
  there-after true is = there-told (line_told past e) refl
  there-after false is = there-untold (ap (λ b. b && is_some_and (line_told past e) (λ l. l == a)) is)

-- each line in a state other than I is among them
pub held-there : (h : Header) (past : Trace) (p a : ℕ) → is_invalid (state_of h past p a) ≡ false → list_any (λ k. k == a) (held_lines h past p) ≡ true
held-there h [] p a held = cc
held-there h (e ∷ past) p a held = there-after h past e p a (held-there h past p a) held (is_at_port p e) refl

-- ---- events ------------------------------------------------------------------------------------------

-- The event brings no line in that the port didn't hold.
abbrev pub RaisesNone : Header → Trace → Event → ℕ → Type 0
RaisesNone h past e p = (l : ℕ) → is_invalid (state_of h past p l) ≡ true → is_invalid (state_of h (e ∷ past) p l) ≡ true

was-held : (a b : Bool) → (a ≡ true → b ≡ true) → b ≡ false → a ≡ false
was-held true b up f = let bad : false ≡ true = sym f ∙ up refl in cc
was-held false b up f = refl

-- such an event leaves no more lines
pub held-not-more : (h : Header) (past : Trace) (e : Event) (p : ℕ) → RaisesNone h past e p → length (held_lines h (e ∷ past) p) ≤ length (held_lines h past p)
held-not-more h past e p none = by (is_at_port p e)
  where
    lines : List ℕ
    lines = held_lines h past p

    told : (o : Option ℕ) → length (with_line o (state_of h (e ∷ past) p) lines) ≤ length lines
    told None = omega arith
    told (Some l) =
        with-few l (state_of h (e ∷ past) p) lines
        (λ f. held-there h past p l (was-held (is_invalid (state_of h past p l)) (is_invalid (state_of h (e ∷ past) p l)) (none l) f))

    by : (at : Bool) → length (if at then with_line (line_told past e) (state_of h (e ∷ past) p) lines else lines) ≤ length lines
    by true = told (line_told past e)
    by false = omega arith

-- and no more others than one, where it brings in none but that one
pub others-not-more : (h : Header) (past : Trace) (e : Event) (p a : ℕ)
    → ((l : ℕ) → (l == a) ≡ false → is_invalid (state_of h past p l) ≡ true → is_invalid (state_of h (e ∷ past) p l) ≡ true)
    → length (others a (held_lines h (e ∷ past) p)) ≤ length (others a (held_lines h past p))
others-not-more h past e p a none = by (is_at_port p e)
  where
    lines : List ℕ
    lines = held_lines h past p

    told : (o : Option ℕ) → length (others a (with_line o (state_of h (e ∷ past) p) lines)) ≤ length (others a lines)
    told None = omega arith
    told (Some l) =
        others-with a l (state_of h (e ∷ past) p) lines
        (λ apart f. held-there h past p l (was-held (is_invalid (state_of h past p l)) (is_invalid (state_of h (e ∷ past) p l)) (none l apart) f))

    by : (at : Bool) → length (others a (if at then with_line (line_told past e) (state_of h (e ∷ past) p) lines else lines)) ≤ length (others a lines)
    by true = told (line_told past e)
    by false = omega arith

-- an event that tells of one line leaves at most that and the others
pub held-one : (h : Header) (past : Trace) (e : Event) (p l : ℕ) → line_told past e ≡ Some l → is_at_port p e ≡ true
    → length (held_lines h (e ∷ past) p) ≤ length (others l (held_lines h past p)) + 1
held-one h past e p l told at =
    subst (λ b. length (if b then with_line (line_told past e) (state_of h (e ∷ past) p) (held_lines h past p) else held_lines h past p) ≤ length (others l (held_lines h past p)) + 1) (sym at)
    (subst (λ o. length (with_line o (state_of h (e ∷ past) p) (held_lines h past p)) ≤ length (others l (held_lines h past p)) + 1) (sym told)
    (with-one l (state_of h (e ∷ past) p) (held_lines h past p)))

-- and without that, where it is given up
pub held-gone : (h : Header) (past : Trace) (e : Event) (p l : ℕ) → line_told past e ≡ Some l → is_at_port p e ≡ true → is_invalid (state_of h (e ∷ past) p l) ≡ true
    → length (held_lines h (e ∷ past) p) ≤ length (others l (held_lines h past p))
held-gone h past e p l told at gone =
    let lines = held_lines h past p in
    let first : held_lines h (e ∷ past) p ≡ with_line (line_told past e) (state_of h (e ∷ past) p) lines = ap (λ b. if b then with_line (line_told past e) (state_of h (e ∷ past) p) lines else lines) at in
    let second : with_line (line_told past e) (state_of h (e ∷ past) p) lines ≡ with_line (Some l) (state_of h (e ∷ past) p) lines = ap (λ o. with_line o (state_of h (e ∷ past) p) lines) told in
    let third : with_line (Some l) (state_of h (e ∷ past) p) lines ≡ others l lines = ap (λ b. if b then others l lines else l ∷ others l lines) gone in
    let same = ap length (first ∙ second ∙ third) in
    omega (arith, same)
