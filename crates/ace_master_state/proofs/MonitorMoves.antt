-- What an event leaves of the monitor of a port.
use Rattle.std.proofs.Common.{◌≡◌, ℕ, Bool, true, false, not, ◌&&◌, ◌==◌, if◌then◌else◌, ◌∷◌, Option, Some, None, inl, inr, refl, sym, ap, ◌∙◌}
use Rattle.std.proofs.lemmas.Bool.{cases_Bool, cases_eq, eq-eqb, eqb-true, false_from_ne_true, ne_eqb}
use Rattle.ace_event.specs.declared.event.Event.{Event}
use Rattle.ace_event.specs.declared.event.Event.TheVariants.{L, D}
use Rattle.ace_event.specs.declared.header.Header.{Header}
use Rattle.ace_tables.specs.States.{is_invalid}
use Rattle.ace_model.specs.Monitors.{is_monitored, is_set_by}
use Rattle.ace_model.specs.States.{state_of}
use Rattle.ace_model.specs.Trace.{Trace, is_some_and}
use Rattle.ace_model.proofs.General.Options.{Some-injective}
use Rattle.ace_master_state.specs.Monitor.{kept_line, line_after}

abbrev pub names : Option ℕ → ℕ → Bool
names o l = is_some_and o (λ k. k == l)

swap : (a b : ℕ) → (a == b) ≡ (b == a)
swap a b = elim (cases_Bool (a == b)) [
  | inl t ↦ t ∙ sym (eq-eqb b a (sym (eqb-true a b t)))
  | inr f ↦ f ∙ sym (false_from_ne_true (b == a) (λ t. let back = eq-eqb a b (sym (eqb-true b a t)) in cc))
]

-- whether it is set for a line, whatever the states of the lines are
set-after : (line : Option ℕ) (p l : ℕ) (e : Event) → is_set_by e p l (names line l) ≡ names (line_after line p e) l
set-after line p l (L q addr w x word) = ap (λ b. if b && x then l == addr else names line l) (swap p q) ∙ by ((q == p) && x)
  where
    by : (b : Bool) → (if b then l == addr else names line l) ≡ names (if b then Some addr else line) l
    by true = swap l addr
    by false = refl
set-after line p l (D q addr strobe x bytes) = ap (λ b. names line l && not (b && x)) (swap p q) ∙ by ((q == p) && x) line
  where
    by : (b : Bool) (o : Option ℕ) → (names o l && not b) ≡ names (if b then None else o) l
    by true o = off (names o l)
      where
        off : (a : Bool) → (a && false) ≡ false
        off true = refl
        off false = refl
    by false o = on (names o l)
      where
        on : (a : Bool) → (a && true) ≡ a
        on true = refl
        on false = refl
set-after line p l e = refl

-- the line stays where the port holds it
kept-names : (o : Option ℕ) (invalid : ℕ → Bool) (l : ℕ) → (names o l && not (invalid l)) ≡ names (kept_line o invalid) l
kept-names None invalid l = refl
kept-names (Some k) invalid l =
    elim (cases_eq k l) [
      | inl same ↦
          let here : (k == l) ≡ true = eq-eqb k l same in
          rw here (ap (λ v. not (invalid v)) (sym same) ∙ by (invalid k) here)
      | inr apart ↦
          let off : (k == l) ≡ false = ne_eqb k l apart in
          rw off (none (invalid k) off)
    ]
  where
    by : (b : Bool) → (k == l) ≡ true → not b ≡ names (if b then None else Some k) l
    by true here = refl
    by false here = sym here

    none : (b : Bool) → (k == l) ≡ false → false ≡ names (if b then None else Some k) l
    none true off = refl
    none false off = sym off

pub monitored-after : (h : Header) (past : Trace) (p : ℕ) (e : Event) (line : Option ℕ) → ((l : ℕ) → is_monitored h past p l ≡ names line l) → (l : ℕ)
    → is_monitored h (e ∷ past) p l ≡ names (kept_line (line_after line p e) (λ k. is_invalid (state_of h (e ∷ past) p k))) l
monitored-after h past p e line was l =
    ap (λ b. is_set_by e p l b && not (is_invalid (state_of h (e ∷ past) p l))) (was l)
    ∙ ap (λ b. b && not (is_invalid (state_of h (e ∷ past) p l))) (set-after line p l e)
    ∙ kept-names (line_after line p e) (λ k. is_invalid (state_of h (e ∷ past) p k)) l

pub keeps-line : (o : Option ℕ) (k : ℕ) (is_lost : ℕ → Bool) → o ≡ Some k → is_lost k ≡ false → Some k ≡ kept_line o is_lost
keeps-line None k is_lost is f = cc
keeps-line (Some v) k is_lost is f = (let same : v ≡ k = Some-injective v k is in let off : is_lost v ≡ false = ap is_lost same ∙ f in rw off (ap Some (sym same)))

pub loses-line : (o : Option ℕ) (k : ℕ) (is_lost : ℕ → Bool) → o ≡ Some k → is_lost k ≡ true → None ≡ kept_line o is_lost
loses-line None k is_lost is t = cc
loses-line (Some v) k is_lost is t = (let same : v ≡ k = Some-injective v k is in let lost : is_lost v ≡ true = ap is_lost same ∙ t in rw lost refl)
