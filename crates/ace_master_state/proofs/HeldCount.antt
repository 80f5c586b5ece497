-- The lines that a port holds are those whose state isn't I, each once; so a cache that holds these holds as many.
use Rattle.std.proofs.Common.{◌≡◌, ℕ, ◌<◌, ◌≤◌, Bool, true, false, not, ◌&&◌, ◌||◌, ◌==◌, nat_le, if◌then◌else◌, List, [], ◌∷◌, length, Option, Some, None, IsSome, inl, inr, refl, sym, ap, subst, ◌∙◌, arith}
use Rattle.std.specs.List.{list_all, list_any}
use Rattle.std.proofs.lemmas.Bool.{and_parts, cases_Bool, cases_eq, eq-eqb, eqb-true, false_from_ne_true, leb-true, ne_eqb, or_cases, or_left, or_right}
use Rattle.ace_event.specs.declared.event.Event.{Event}
use Rattle.ace_event.specs.declared.header.Header.{Header}
use Rattle.ace_tables.specs.States.{is_invalid}
use Rattle.ace_model.specs.Plans.{Plan}
use Rattle.ace_model.specs.States.{state_of}
use Rattle.ace_model.specs.Trace.{Trace, is_some_and, port_of}
use Rattle.ace_model.proofs.General.Options.{is_none_or-at}
use Rattle.ace_runs.specs.Follows.{answers_well, acts_well, carries_data, has_room_after, retires_well}
use Rattle.ace_runs.specs.HeldLines.{held_lines, line_told, others, with_line}
use Rattle.ace_runs.specs.Segments.{is_at_port}
use Rattle.ace_runs.proofs.NeverStuck.Operations.Lines.HeldLines.{each-held, holds, state-untold}
use Rattle.ace_engine.specs.Engines.{IsLegal}
use Rattle.ace_cache.specs.declared.way.Way.{Way}
use Rattle.ace_cache.specs.Ways.{AreDistinct, way_of, without}
use Rattle.ace_cache.proofs.Distinct.{length-without_found, way_of-without}

abbrev pub is_in : ℕ → List ℕ → Bool
is_in l lines = list_any (λ k. k == l) lines

abbrev pub AreOnce : List ℕ → Type 0
AreOnce [] = Unit {0}
AreOnce (l ∷ lines) = (is_in l lines ≡ false) × AreOnce lines

-- ---- lists without a line ----------------------------------------------------------------------------

in-others : (l k : ℕ) (lines : List ℕ) → is_in k (others l lines) ≡ (is_in k lines && not (k == l))
in-others l k [] = refl
in-others l k (x ∷ lines) =
    let rest = in-others l k lines in
    elim (cases_eq x l) [
      | inl same ↦ rw (eq-eqb x l same) (rest ∙ gone (x == k) (is_in k lines) (k == l) (λ t. eq-eqb k l (sym (eqb-true x k t) ∙ same)))
      | inr apart ↦ rw (ne_eqb x l apart) (ap (λ b. (x == k) || b) rest ∙ stays (x == k) (is_in k lines) (k == l) (λ t. ne_eqb k l (λ e. apart (eqb-true x k t ∙ e))))
    ]
  where
    gone : (a b c : Bool) → (a ≡ true → c ≡ true) → (b && not c) ≡ ((a || b) && not c)
    gone true b c f = (let t = f refl in rw t (off b))
      where
        off : (b : Bool) → (b && false) ≡ false
        off true = refl
        off false = refl
    gone false b c f = refl

    stays : (a b c : Bool) → (a ≡ true → c ≡ false) → (a || (b && not c)) ≡ ((a || b) && not c)
    stays true b c f = (let t = f refl in rw t refl)
    stays false b c f = refl

others-fewer : (l : ℕ) (lines : List ℕ) → length (others l lines) ≤ length lines
others-fewer l [] = omega arith
others-fewer l (x ∷ lines) =
    let rest = others-fewer l lines in
    elim (cases_Bool (x == l)) [ inl t ↦ rw t (omega (arith, rest)) | inr f ↦ rw f (omega (arith, rest)) ]

others-shorter : (l : ℕ) (lines : List ℕ) → is_in l lines ≡ true → length (others l lines) < length lines
others-shorter l [] t = cc
others-shorter l (x ∷ lines) t =
    elim (cases_Bool (x == l)) [
      | inl here ↦ let rest = others-fewer l lines in rw here (omega (arith, rest))
      | inr f ↦ let there : is_in l lines ≡ true = rw f at t in let rest = others-shorter l lines there in rw f (omega (arith, rest))
    ]

once-others : (l : ℕ) (lines : List ℕ) → AreOnce lines → AreOnce (others l lines)
once-others l [] once = tt
once-others l (x ∷ lines) once =
    let rest = once-others l lines once.1 in
    elim (cases_Bool (x == l)) [
      | inl t ↦ rw t rest
      | inr f ↦ rw f (in-others l x lines ∙ ap (λ b. b && not (x == l)) once.0, rest)
    ]

-- ---- the lines that a port holds ---------------------------------------------------------------------

module _ (h : Header) (past : Trace) (e : Event) (p : ℕ) where
  once-step : AreOnce (held_lines h past p) → AreOnce (held_lines h (e ∷ past) p)
  once-step was = by (is_at_port p e) (line_told past e)
    where
      self : (l : ℕ) (b : Bool) → (b && not (l == l)) ≡ false
      self l b = (let same : (l == l) ≡ true = eq-eqb l l refl in rw same (off b))
        where
          off : (b : Bool) → (b && false) ≡ false
          off true = refl
          off false = refl

      told : (o : Option ℕ) → AreOnce (with_line o (state_of h (e ∷ past) p) (held_lines h past p))
      told None = was
      told (Some l) =
          let rest = once-others l (held_lines h past p) was in
          elim (cases_Bool (is_invalid (state_of h (e ∷ past) p l))) [
            | inl t ↦ rw t rest
            | inr f ↦ rw f (in-others l l (held_lines h past p) ∙ self l (is_in l (held_lines h past p)), rest)
          ]

      by : (at : Bool) (o : Option ℕ) → AreOnce (if at then with_line o (state_of h (e ∷ past) p) (held_lines h past p) else held_lines h past p)
      by true o = told o
      by false o = was

  there-step : (l : ℕ) → (is_invalid (state_of h past p l) ≡ false → is_in l (held_lines h past p) ≡ true) → is_invalid (state_of h (e ∷ past) p l) ≡ false
      → is_in l (held_lines h (e ∷ past) p) ≡ true
  there-step l was some = by (is_at_port p e) refl (line_told past e) refl
    where
      before : (is_at_port p e && is_some_and (line_told past e) (λ k. k == l)) ≡ false → is_in l (held_lines h past p) ≡ true
      before untold = was (ap is_invalid (sym (state-untold h past e p l untold)) ∙ some)

      by : (at : Bool) → is_at_port p e ≡ at → (o : Option ℕ) → line_told past e ≡ o
          → is_in l (if at then with_line o (state_of h (e ∷ past) p) (held_lines h past p) else held_lines h past p) ≡ true
      by false at o is = before (ap (λ b. b && is_some_and (line_told past e) (λ k. k == l)) at)
      by true at None is = before (ap (λ b. b && is_some_and (line_told past e) (λ k. k == l)) at ∙ ap (λ o. is_some_and o (λ k. k == l)) is)
      by true at (Some k) is =
          elim (cases_eq k l) [
            | inl same ↦
                let now : is_invalid (state_of h (e ∷ past) p k) ≡ false = ap (λ v. is_invalid (state_of h (e ∷ past) p v)) same ∙ some in
                rw now (or_left (k == l) _ (eq-eqb k l same))
            | inr apart ↦
                let off : (k == l) ≡ false = ne_eqb k l apart in
                let old = before (ap (λ b. b && is_some_and (line_told past e) (λ v. v == l)) at ∙ ap (λ o. is_some_and o (λ v. v == l)) is ∙ off) in
                let swapped : (l == k) ≡ false = ne_eqb l k (λ e. apart (sym e)) in
                let rest : is_in l (others k (held_lines h past p)) ≡ true = in-others k l (held_lines h past p) ∙ ap (λ b. b && not (l == k)) old ∙ ap not swapped in
                elim (cases_Bool (is_invalid (state_of h (e ∷ past) p k))) [
                  | inl t ↦ rw t rest
                  | inr f ↦ rw f (or_right (k == l) _ rest)
                ]
          ]

pub held-once : (h : Header) (past : Trace) (p : ℕ) → AreOnce (held_lines h past p)
held-once h [] p = tt
held-once h (e ∷ past) p = once-step h past e p (held-once h past p)

-- a line whose state isn't I is there
pub held-there : (h : Header) (past : Trace) (p l : ℕ) → is_invalid (state_of h past p l) ≡ false → is_in l (held_lines h past p) ≡ true
held-there h [] p l some = cc
held-there h (e ∷ past) p l some = there-step h past e p l (held-there h past p l) some

-- and each that is there has another state
pub there-held : (h : Header) (past : Trace) (p l : ℕ) → is_in l (held_lines h past p) ≡ true → is_invalid (state_of h past p l) ≡ false
there-held h past p l t = by (held_lines h past p) (each-held h past p) t
  where
    by : (lines : List ℕ) → list_all (holds h past p) lines ≡ true → is_in l lines ≡ true → is_invalid (state_of h past p l) ≡ false
    by [] all t = cc
    by (k ∷ lines) all t =
        let parts = and_parts (holds h past p k) (list_all (holds h past p) lines) all in
        elim (or_cases (k == l) (is_in l lines) t) [
          | inr rest ↦ by lines parts.1 rest
          | inl here ↦ turned (is_invalid (state_of h past p l)) (ap (λ v. not (is_invalid (state_of h past p v))) (sym (eqb-true k l here)) ∙ parts.0)
        ]
      where
        turned : (b : Bool) → not b ≡ true → b ≡ false
        turned true t = cc
        turned false t = refl

-- ---- as many -----------------------------------------------------------------------------------------

pub no-more-held : (held : List Way) (lines : List ℕ) → AreDistinct held → ((l : ℕ) → IsSome (way_of held l) → is_in l lines ≡ true) → length held ≤ length lines
no-more-held [] lines distinct each = omega arith
no-more-held (w ∷ held) lines distinct each =
    let here = each w.addr (found w held) in
    let fewer = others-shorter w.addr lines here in
    let rest = no-more-held held (others w.addr lines) distinct.1 (λ l some.
    elim (cases_eq l w.addr) [
      | inl same ↦ let none : way_of held l ≡ None = ap (way_of held) same ∙ distinct.0 in absurd (gone (way_of held l) none some)
      | inr apart ↦
          let off : (w.addr == l) ≡ false = ne_eqb w.addr l (λ e. apart (sym e)) in
          let there = each l (rw off some) in
          let other : (l == w.addr) ≡ false = ne_eqb l w.addr apart in
          in-others w.addr l lines ∙ ap (λ b. b && not (l == w.addr)) there ∙ ap not other
    ]) in
    omega (arith, fewer, rest)
  where
    found : (w : Way) (held : List Way) → IsSome (way_of (w ∷ held) w.addr)
    found w held = let t : (w.addr == w.addr) ≡ true = eq-eqb w.addr w.addr refl in rw t refl

    gone : (o : Option Way) → o ≡ None → IsSome o → ⊥
    gone None is some = cc
    gone (Some v) is some = cc

pub no-more-lines : (lines : List ℕ) (held : List Way) → AreOnce lines → ((l : ℕ) → is_in l lines ≡ true → IsSome (way_of held l)) → length lines ≤ length held
no-more-lines [] held once each = omega arith
no-more-lines (l ∷ lines) held once each =
    let here = each l (or_left (l == l) _ (eq-eqb l l refl)) in
    let fewer = length-without_found held l here in
    let rest = no-more-lines lines (without held l) once.1 (λ k there.
    let apart : (k == l) ≡ false = false_from_ne_true (k == l) (λ t. let bad : is_in l lines ≡ true = ap (λ v. is_in v lines) (sym (eqb-true k l t)) ∙ there in let no = once.0 in cc) in
    subst IsSome (sym (way_of-without held l k ∙ ap (λ b. if b then None else way_of held k) apart)) (each k (or_right (l == k) _ there))) in
    omega (arith, fewer, rest)

-- ---- room --------------------------------------------------------------------------------------------

pub room-after : (plan : Plan) (past : Trace) (e : Event) (p : ℕ) → IsLegal plan (e ∷ past) → port_of e ≡ Some p → length (held_lines plan.header (e ∷ past) p) ≤ plan.ways
room-after plan past e p legal own =
    let room = (and_parts (retires_well plan past e && acts_well plan past e && carries_data plan past e && answers_well plan past e) (has_room_after plan past e) legal.follows.1).1 in
    leb-true (length (held_lines plan.header (e ∷ past) p)) plan.ways (is_none_or-at (port_of e) (λ q. nat_le (length (held_lines plan.header (e ∷ past) q)) plan.ways) p room own)
