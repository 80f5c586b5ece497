-- Each of the lines that a port holds is one whose state isn't I.
use Rattle.std.proofs.Common.{◌≡◌, ℕ, Bool, true, false, not, ◌&&◌, ◌==◌, if◌then◌else◌, List, [], ◌∷◌, filter, Option, Some, None, option_and_then, unwrap_or, inl, inr, refl, sym, ap, subst, ◌∙◌}
use Rattle.std.specs.List.{list_all}
use Rattle.std.proofs.lemmas.Bool.{and_parts, and_from, cases_Bool, eq-eqb, eqb-true}
use Rattle.ace_codes.specs.declared.state.LineState.TheVariants.{UD}
use Rattle.ace_event.specs.declared.event.Channel.TheVariants.{Read, Write}
use Rattle.ace_event.specs.declared.event.Event.{Event}
use Rattle.ace_event.specs.declared.event.Event.TheVariants.{Rk, Wk, Cr, S, D}
use Rattle.ace_event.specs.declared.header.Header.{Header}
use Rattle.ace_tables.specs.States.{is_invalid}
use Rattle.ace_model.specs.declared.snoops.Snoop.{Snoop}
use Rattle.ace_model.specs.declared.transactions.Transaction.{Transaction}
use Rattle.ace_model.specs.Snoops.{answered, answers_line, is_snoop_on, snoops_a_line}
use Rattle.ace_model.specs.States.{is_in_make_unique, left_by, state_of}
use Rattle.ace_model.specs.Trace.{Trace, is_some_and}
use Rattle.ace_model.specs.Transactions.{acknowledged, is_line, is_some_on}
use Rattle.ace_runs.specs.HeldLines.{held_lines, line_of_snoop, line_of_transaction, line_told, others, with_line}
use Rattle.ace_runs.specs.Segments.{is_at_port}
use Rattle.ace_runs.proofs.Few.Queues.{eqb-swap}
use Rattle.ace_runs.proofs.NeverStuck.Steps.Lists.{all-implied}

-- ---- the line whose state an event may change --------------------------------------------------------

on-told : (o : Option Transaction) (a : ℕ) → is_some_and (option_and_then line_of_transaction o) (λ l. l == a) ≡ false → is_some_on o a ≡ false
on-told None a f = refl
on-told (Some x) a f = by (is_line x) f
  where
    by : (line : Bool) → is_some_and (if line then Some x.addr else None) (λ l. l == a) ≡ false → (line && (x.addr == a)) ≡ false
    by true f = f
    by false f = refl

answers-told : (o : Option Snoop) (a : ℕ) → is_some_and (option_and_then line_of_snoop o) (λ l. l == a) ≡ false → is_some_and o (λ s. is_snoop_on s a) ≡ false
answers-told None a f = refl
answers-told (Some s) a f = by (snoops_a_line s.snoop) f
  where
    by : (line : Bool) → is_some_and (if line then Some s.addr else None) (λ l. l == a) ≡ false → (line && (s.addr == a)) ≡ false
    by true f = f
    by false f = refl

none-if : {A : Type 0} → (b : Bool) (x : A) → b ≡ false → (if b then Some x else None) ≡ None
none-if true x f = cc
none-if false x f = refl

of-port : (p q : ℕ) (b : Bool) → (q ≡ p → b ≡ false) → ((p == q) && b) ≡ false
of-port p q b other =
    elim (cases_Bool (p == q)) [
      | inl t ↦ ap (λ c. c && b) t ∙ other (sym (eqb-true p q t))
      | inr f ↦ ap (λ c. c && b) f
    ]

-- the event may change the state of the line at the port
abbrev pub may_tell : Trace → Event → ℕ → ℕ → Bool
may_tell past e p a = is_at_port p e && is_some_and (line_told past e) (λ l. l == a)

same-port : (p q : ℕ) (told : Bool) → ((q == p) && told) ≡ false → q ≡ p → told ≡ false
same-port p q told f port = ap (λ b. b && told) (sym (eq-eqb q p port)) ∙ f

left-untold : (h : Header) (past : Trace) (e : Event) (p a : ℕ) → may_tell past e p a ≡ false → left_by h past e p a ≡ None
left-untold h past (Rk q st) p a f =
    none-if ((p == q) && is_some_on (acknowledged past p Read) a) st
    (of-port p q (is_some_on (acknowledged past p Read) a) (λ port. on-told (acknowledged past p Read) a
    (subst (λ r. is_some_and (option_and_then line_of_transaction (acknowledged past r Read)) (λ l. l == a) ≡ false) port (same-port p q _ f port))))
left-untold h past (Wk q st) p a f =
    none-if ((p == q) && is_some_on (acknowledged past p Write) a) st
    (of-port p q (is_some_on (acknowledged past p Write) a) (λ port. on-told (acknowledged past p Write) a
    (subst (λ r. is_some_and (option_and_then line_of_transaction (acknowledged past r Write)) (λ l. l == a) ≡ false) port (same-port p q _ f port))))
left-untold h past (Cr q resp st) p a f =
    none-if ((p == q) && answers_line past p a) st
    (of-port p q (answers_line past p a) (λ port. answers-told (answered past p) a
    (subst (λ r. is_some_and (option_and_then line_of_snoop (answered past r)) (λ l. l == a) ≡ false) port (same-port p q _ f port))))
left-untold h past (S q addr st) p a f =
    none-if ((p == q) && (a == addr)) st (of-port p q (a == addr) (λ port. eqb-swap a addr ∙ same-port p q (addr == a) f port))
left-untold h past (D q addr strobe x line) p a f =
    let here : ((p == q) && (a == addr)) ≡ false = of-port p q (a == addr) (λ port. eqb-swap a addr ∙ same-port p q (addr == a) f port) in
    none-if ((p == q) && (a == addr) && not (is_in_make_unique h past p a)) UD (ap (λ b. b && not (is_in_make_unique h past p a)) here)
left-untold h past e p a f = refl

-- what an event doesn't tell of stays
pub state-untold : (h : Header) (past : Trace) (e : Event) (p a : ℕ) → may_tell past e p a ≡ false → state_of h (e ∷ past) p a ≡ state_of h past p a
state-untold h past e p a f = ap (λ o. unwrap_or o (state_of h past p a)) (left-untold h past e p a f)

-- ---- lists -------------------------------------------------------------------------------------------

pub all-filtered : {A : Type 0} → (test keep later : A → Bool) → ((x : A) → keep x ≡ true → test x ≡ true → later x ≡ true) → (xs : List A) → list_all test xs ≡ true
    → list_all later (filter keep xs) ≡ true
all-filtered test keep later each [] all = refl
all-filtered test keep later each (x ∷ xs) all =
    let parts = and_parts (test x) (list_all test xs) all in
    let rest = all-filtered test keep later each xs parts.1 in
    elim (cases_Bool (keep x)) [
      | inl t ↦ rw t (and_from _ _ (each x t parts.0) rest)
      | inr f ↦ rw f rest
    ]

-- ---- the lines that a port holds ---------------------------------------------------------------------

abbrev pub holds : Header → Trace → ℕ → ℕ → Bool
holds h past p a = not (is_invalid (state_of h past p a))

holds-untold : (h : Header) (past : Trace) (e : Event) (p a : ℕ) → may_tell past e p a ≡ false → holds h past p a ≡ true → holds h (e ∷ past) p a ≡ true
holds-untold h past e p a f t = ap (λ st. not (is_invalid st)) (state-untold h past e p a f) ∙ t

and-none : (a b : Bool) → b ≡ false → (a && b) ≡ false
and-none true b f = f
and-none false b f = refl

-- with the line of which the event tells
with-held : (h : Header) (past : Trace) (e : Event) (p l : ℕ) (lines : List ℕ) → line_told past e ≡ Some l → list_all (holds h past p) lines ≡ true
    → list_all (holds h (e ∷ past) p) (with_line (Some l) (state_of h (e ∷ past) p) lines) ≡ true
with-held h past e p l lines told all =
    let rest : list_all (holds h (e ∷ past) p) (others l lines) ≡ true =
    all-filtered (holds h past p) (λ k. not (k == l)) (holds h (e ∷ past) p) (λ k keep t. holds-untold h past e p k (other k keep) t) lines all in
    by (is_invalid (state_of h (e ∷ past) p l)) refl rest
  where
    other : (k : ℕ) → not (k == l) ≡ true → may_tell past e p k ≡ false
    other k keep =
        let none : is_some_and (line_told past e) (λ m. m == k) ≡ false = ap (λ o. is_some_and o (λ m. m == k)) told ∙ eqb-swap l k ∙ ne (k == l) keep in
        and-none (is_at_port p e) (is_some_and (line_told past e) (λ m. m == k)) none
      where
        ne : (b : Bool) → not b ≡ true → b ≡ false
        ne true t = cc
        ne false t = refl

    by : (none : Bool) → is_invalid (state_of h (e ∷ past) p l) ≡ none → list_all (holds h (e ∷ past) p) (others l lines) ≡ true
        → list_all (holds h (e ∷ past) p) (if none then others l lines else l ∷ others l lines) ≡ true
    by true is rest = rest
    by false is rest = and_from _ _ (ap not is) rest

-- what an event leaves of the lines that the port held
held-after : (h : Header) (past : Trace) (e : Event) (p : ℕ) (lines : List ℕ) → list_all (holds h past p) lines ≡ true
    → list_all (holds h (e ∷ past) p) (if is_at_port p e then with_line (line_told past e) (state_of h (e ∷ past) p) lines else lines) ≡ true
held-after h past e p lines all = by (is_at_port p e) refl
  where
    stays : ((a : ℕ) → may_tell past e p a ≡ false) → list_all (holds h (e ∷ past) p) lines ≡ true
    stays none = all-implied (holds h past p) (holds h (e ∷ past) p) (λ a t. holds-untold h past e p a (none a) t) lines all

    told : (o : Option ℕ) → line_told past e ≡ o → list_all (holds h (e ∷ past) p) (with_line o (state_of h (e ∷ past) p) lines) ≡ true
    told None is = stays (λ a. and-none (is_at_port p e) _ (ap (λ o. is_some_and o (λ l. l == a)) is))
    told (Some l) is = with-held h past e p l lines is all

    by : (at : Bool) → is_at_port p e ≡ at
        → list_all (holds h (e ∷ past) p) (if at then with_line (line_told past e) (state_of h (e ∷ past) p) lines else lines) ≡ true
    by true is = told (line_told past e) refl
    by false is = stays (λ a. ap (λ b. b && is_some_and (line_told past e) (λ l. l == a)) is)

-- Each line of those that the port holds is in a state other than I.
pub each-held : (h : Header) (past : Trace) (p : ℕ) → list_all (holds h past p) (held_lines h past p) ≡ true
each-held h [] p = refl
each-held h (e ∷ past) p = held-after h past e p (held_lines h past p) (each-held h past p)
