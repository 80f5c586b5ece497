-- The states in which the ports have a line, after an event of the line.
use Rattle.std.proofs.Common.{◌≡◌, ◌⊎◌, ◌<◌, ◌≤◌, ℕ, zero, suc, true, false, Bool, ◌&&◌, ◌==◌, nat_eq, nat_lt, if◌then◌else◌, List, [], ◌∷◌, length, replicate, slice_get, slice_set, Option, Some, None, option_map, unwrap_or, arith, refl, sym, ap, subst, ◌∙◌, inl, inr}
use Rattle.std.proofs.lemmas.Bool.{and_parts, cases_eq, eq-eqb, lt-ltb, ltb-true, ne_eqb}
use Rattle.ace_lineck.proofs.Terms.{may_have, is_none_or, port_of, Transaction, Channel, Cr, D, Event, Header, I, IsAccepted, Line, LineState, Read, Rk, S, Trace, UD, Wk, Write, acknowledged, answered, answers_line, is_in_make_unique, is_some_and, is_some_on, state_of, acknowledge, line_in, own_of, progress_of, Target, IsLineStep, IsInState, IsStatesStep, StatesStand, state_at}
use Rattle.ace_model.proofs.General.Options.{Some-injective}
use Rattle.ace_model.proofs.Rules.Keeps.{accepted_keeps}
use Rattle.ace_lineck.specs.Holders.{awaits_store}
use Rattle.ace_lineck.proofs.OffLine.{ace-of_rk, ace-of_wk, off-state}
use Rattle.ace_lineck.proofs.OnLine.{on-snoop, on-transaction}
use Rattle.ace_portck.proofs.Own.{awaits_own_store, in_make_unique-own}

-- in a list of one thing alone that thing stands at each place, and beyond its end
pub all-same : {A : Type 0} (x : A) (n p : ℕ) → unwrap_or (slice_get (replicate n x) p) x ≡ x
all-same x zero p = refl
all-same x (suc n) zero = refl
all-same x (suc n) (suc p) = all-same x n p

-- of a list in which one element was set, that one is new and each other as it was
pub slice_get-set_same : {A : Type 0} → (xs : List A) (i : ℕ) (v : A) → i < length xs → slice_get (slice_set xs i v) i ≡ Some v
slice_get-set_same [] i v low = absurd (omega arith)
slice_get-set_same (x ∷ xs) zero v low = refl
slice_get-set_same (x ∷ xs) (suc i) v low = slice_get-set_same xs i v (omega arith)

pub slice_get-set_other : {A : Type 0} → (xs : List A) (i j : ℕ) (v : A) → (j ≡ i → ⊥) → slice_get (slice_set xs i v) j ≡ slice_get xs j
slice_get-set_other [] i j v apart = refl
slice_get-set_other (x ∷ xs) zero zero v apart = absurd (apart refl)
slice_get-set_other (x ∷ xs) zero (suc j) v apart = refl
slice_get-set_other (x ∷ xs) (suc i) zero v apart = refl
slice_get-set_other (x ∷ xs) (suc i) (suc j) v apart = slice_get-set_other xs i j v (λ e. apart (omega arith))

-- the state of a port that has a place
pub state-set : (xs : List LineState) (q : ℕ) (st : LineState) → q < length xs → q < 32 → IsInState xs (slice_set xs q st) q st
state-set xs q st low few p =
    elim (cases_eq p q) [
      | inl same ↦
          let one : state_at (slice_set xs q st) p ≡ st = ap (state_at (slice_set xs q st)) same ∙ ap (λ o. unwrap_or o I) (slice_get-set_same xs q st low) in
          let here : nat_eq p q ≡ true = eq-eqb p q same in
          let below : nat_lt p 32 ≡ true = lt-ltb p 32 (omega arith) in
          rw (here, below) one
      | inr other ↦
          let one : state_at (slice_set xs q st) p ≡ state_at xs p = ap (λ o. unwrap_or o I) (slice_get-set_other xs q p st other) in
          let there : nat_eq p q ≡ false = ne_eqb p q other in
          rw there one
    ]

-- the port of an event is one of the header
pub port-below : (h : Header) (past : Trace) (e : Event) → IsAccepted h (e ∷ past) → (p : ℕ) → port_of e ≡ Some p → p < h.ports
port-below h past e a p port =
    let may : may_have h e p ≡ true = ap (λ o. is_none_or o (may_have h e)) (sym port) ∙ (accepted_keeps h past e a).rule_1 in
    ltb-true p h.ports (and_parts (nat_lt p h.ports) _ may).0

-- with the new state of the event's port in its place they stand
pub states-hear : (h : Header) (past : Trace) (l : ℕ) (e : Event) (t : Target) (xs ys : List LineState) (p : ℕ) (st : LineState) → IsStatesStep h past l e t xs
    → port_of e ≡ Some p → IsInState xs ys p st → st ≡ state_of h (e ∷ past) p l → StatesStand h (e ∷ past) l ys
states-hear h past l e t xs ys p st s port new is = record { state = λ q. new q ∙ at q (cases_eq q p) }
  where
    at : (q : ℕ) → (q ≡ p) ⊎ (q ≡ p → ⊥) → (if (q == p) && nat_lt q 32 then st else state_at xs q) ≡ state_of h (e ∷ past) q l
    at q (inl same) =
        let here : nat_eq q p ≡ true = eq-eqb q p same in
        let below : p < h.ports = port-below h past e s.step.accepted p port in
        let few : h.ports ≤ 32 = s.step.header.most_ports in
        let low : nat_lt q 32 ≡ true = lt-ltb q 32 (omega arith) in
        rw (here, low) (is ∙ ap (λ v. state_of h (e ∷ past) v l) (sym same))
    at q (inr other) =
        let there : nat_eq q p ≡ false = ne_eqb q p other in
        rw there (s.stand.state q ∙ sym (off-state h past e s.step.accepted q l (λ own. absurd (other (Some-injective q p (sym own ∙ port))))))

module _ (h : Header) (past : Trace) (l : ℕ) (t : Target) where
  -- the line of the event
  line-of : (e : Event) → IsLineStep h past l e t → line_in h past e ≡ Some l
  line-of e s = ap (λ (v : Target). v.line) (sym s.target) ∙ s.line

  own-port : (p : ℕ) (st : LineState) (c : Channel) → port_of (acknowledge c p st) ≡ Some p
  own-port p st Read = refl
  own-port p st Write = refl

  -- after an RK or WK
  acknowledged-state : (p : ℕ) (st : LineState) (c : Channel) → IsLineStep h past l (acknowledge c p st) t → st ≡ state_of h (acknowledge c p st ∷ past) p l
  acknowledged-state p st Read s =
      let ace = ace-of_rk h past p st s.accepted in
      let on : is_some_on (acknowledged past p Read) l ≡ true = on-transaction h past (acknowledged past p Read) l (rw ace at (line-of (Rk p st) s)) in
      rw (eq-eqb p p refl, on) refl
  acknowledged-state p st Write s =
      let ace = ace-of_wk h past p st s.accepted in
      let on : is_some_on (acknowledged past p Write) l ≡ true = on-transaction h past (acknowledged past p Write) l (rw ace at (line-of (Wk p st) s)) in
      rw (eq-eqb p p refl, on) refl

  module _ (xs ys : List LineState) where
    pub acknowledged-states : (p : ℕ) (st : LineState) (c : Channel) → IsInState xs ys p st → IsStatesStep h past l (acknowledge c p st) t xs
        → StatesStand h (acknowledge c p st ∷ past) l ys
    acknowledged-states p st c new s = states-hear h past l (acknowledge c p st) t xs ys p st s (own-port p st c) new (acknowledged-state p st c s.step)

    -- after a CR
    pub answered-states : (p resp : ℕ) (st : LineState) → IsInState xs ys p st → IsStatesStep h past l (Cr p resp st) t xs → StatesStand h (Cr p resp st ∷ past) l ys
    answered-states p resp st new s =
        let on : answers_line past p l ≡ true = on-snoop (answered past p) l (line-of (Cr p resp st) s.step) in
        states-hear h past l (Cr p resp st) t xs ys p st s refl new (rw (eq-eqb p p refl, on) refl)

    -- after an S
    pub changed-states : (p addr : ℕ) (st : LineState) → IsInState xs ys p st → IsStatesStep h past l (S p addr st) t xs → StatesStand h (S p addr st ∷ past) l ys
    changed-states p addr st new s =
        let here : nat_eq l addr ≡ true = eq-eqb l addr (sym (Some-injective addr l (line-of (S p addr st) s.step))) in
        states-hear h past l (S p addr st) t xs ys p st s refl new (rw (eq-eqb p p refl, here) refl)

  -- whether a D is the store of a MakeUnique
  store-is : (p addr strobe : ℕ) (b : Bool) (line : Line) → IsLineStep h past l (D p addr strobe b line) t → is_in_make_unique h past p l ≡ is_some_and t.own awaits_store
  store-is p addr strobe b line s =
      let at : addr ≡ l = Some-injective addr l (line-of (D p addr strobe b line) s) in
      let own : t.own ≡ option_map (progress_of h past) (own_of h past p l) =
      ap (λ (v : Target). v.own) s.target ∙ ap (λ v. option_map (progress_of h past) (own_of h past p v)) at in
      in_make_unique-own h past s.accepted.0 p l ∙ by (own_of h past p l) ∙ ap (λ o. is_some_and o awaits_store) (sym own)
    where
      by : (o : Option Transaction) → is_some_and o (awaits_own_store past) ≡ is_some_and (option_map (progress_of h past) o) awaits_store
      by None = refl
      by (Some y) = refl

  -- after a D
  pub dirtied-states : (xs ys : List LineState) (p addr strobe : ℕ) (b : Bool) (line : Line) → IsInState xs ys p UD → is_some_and t.own awaits_store ≡ false
      → IsStatesStep h past l (D p addr strobe b line) t xs → StatesStand h (D p addr strobe b line ∷ past) l ys
  dirtied-states xs ys p addr strobe b line new apart s =
      let here : nat_eq l addr ≡ true = eq-eqb l addr (sym (Some-injective addr l (line-of (D p addr strobe b line) s.step))) in
      let is : is_in_make_unique h past p l ≡ false = store-is p addr strobe b line s.step ∙ apart in
      states-hear h past l (D p addr strobe b line) t xs ys p UD s refl new (rw (eq-eqb p p refl, here, is) refl)

  pub stored-states : (xs : List LineState) (p addr strobe : ℕ) (b : Bool) (line : Line) → is_some_and t.own awaits_store ≡ true
      → IsStatesStep h past l (D p addr strobe b line) t xs → StatesStand h (D p addr strobe b line ∷ past) l xs
  stored-states xs p addr strobe b line own s = record { state = λ q. s.stand.state q ∙ at q (cases_eq q p) }
    where
      here : nat_eq l addr ≡ true
      here = eq-eqb l addr (sym (Some-injective addr l (line-of (D p addr strobe b line) s.step)))

      is : is_in_make_unique h past p l ≡ true
      is = store-is p addr strobe b line s.step ∙ own

      at : (q : ℕ) → (q ≡ p) ⊎ (q ≡ p → ⊥) → state_of h past q l ≡ state_of h (D p addr strobe b line ∷ past) q l
      at q (inl same) =
          let one : state_of h past p l ≡ state_of h (D p addr strobe b line ∷ past) p l = rw (eq-eqb p p refl, here, is) refl in
          subst (λ v. state_of h past v l ≡ state_of h (D p addr strobe b line ∷ past) v l) (sym same) one
      at q (inr other) = sym (off-state h past (D p addr strobe b line) s.step.accepted q l (λ own. absurd (other (Some-injective q p (sym own)))))
