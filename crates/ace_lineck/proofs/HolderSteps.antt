-- What is kept of the port of an event, after the event.
use Rattle.std.proofs.Common.{◌≡◌, ℕ, true, Bool, nat_eq, ◌<◌, length, List, ◌∷◌, Option, Some, unwrap_or, slice_get, slice_set, refl, sym, ap, subst, ◌∙◌, inl, inr}
use Rattle.std.proofs.lemmas.Bool.{cases_eq, eq-eqb}
use Rattle.ace_lineck.proofs.Terms.{port_of, Header, Trace, Channel, Event, D, M, Line, outstanding, transaction_of, IsAccepted, merged, is_some_on, copy_of, line_in, Target, Holder, HolderStands, HoldersStand, MemoryStands, IsHolderStep, IsHoldersStep, holder_at, empty_holder}
use Rattle.ace_model.proofs.General.Options.{Some-injective}
use Rattle.ace_lineck.proofs.OnLine.{on-transaction}
use Rattle.ace_lineck.proofs.StateSteps.{port-below, slice_get-set_other, slice_get-set_same}
use Rattle.ace_lineck.proofs.OffLine.{holder-stays, written-of}

module _ (h : Header) (past : Trace) (p l : ℕ) (t : Target) (w : Option Line) (x : Holder) where
  abbrev Step : Event → Type 0
  Step e = IsHolderStep h past p l e t w x

  -- the line of the event
  line-of : (e : Event) → Step e → line_in h past e ≡ Some l
  line-of e s = ap (λ (v : Target). v.line) (sym s.step.target) ∙ s.step.line

  port-is : (q : ℕ) → Some q ≡ Some p → nat_eq p q ≡ true
  port-is q e = eq-eqb p q (sym (Some-injective q p e))

  stored : (q addr strobe : ℕ) (b : Bool) (line : Line) → Step (D q addr strobe b line) → merged x.copy strobe line ≡ copy_of (D q addr strobe b line ∷ past) p l
  stored q addr strobe b line s =
      let at = eq-eqb l addr (sym (Some-injective addr l (line-of (D q addr strobe b line) s))) in
      rw (port-is q s.port, at) (ap (λ v. merged v strobe line) s.stands.copy)

  -- after a D
  pub d-stores : (q addr strobe : ℕ) (b : Bool) (line : Line) → Step (D q addr strobe b line)
      → HolderStands (D q addr strobe b line ∷ past) p l (record x { copy = merged x.copy strobe line })
  d-stores q addr strobe b line s = record { copy = stored q addr strobe b line s; sent = s.stands.sent }

-- of the holders, the port's own changes with its event
pub holders-hear : (h : Header) (past : Trace) (l : ℕ) (e : Event) (t : Target) (w : Option Line) (xs : List Holder) (p : ℕ) (y : Holder) → IsHoldersStep h past l e t w xs
    → port_of e ≡ Some p → p < length xs → HolderStands (e ∷ past) p l y → HoldersStand (e ∷ past) l (slice_set xs p y)
holders-hear h past l e t w xs p y s port low new = record { copy = λ q. (at q).copy; sent = λ q. (at q).sent }
  where
    at : (q : ℕ) → HolderStands (e ∷ past) q l (holder_at (slice_set xs p y) q)
    at q =
        elim (cases_eq q p) [
          | inl same ↦
              let one : holder_at (slice_set xs p y) q ≡ y = ap (holder_at (slice_set xs p y)) same ∙ ap (λ o. unwrap_or o empty_holder) (slice_get-set_same xs p y low) in
              subst (HolderStands (e ∷ past) q l) (sym one) (subst (λ v. HolderStands (e ∷ past) v l y) (sym same) new)
          | inr other ↦
              let one : holder_at (slice_set xs p y) q ≡ holder_at xs q = ap (λ o. unwrap_or o empty_holder) (slice_get-set_other xs p q y other) in
              subst (HolderStands (e ∷ past) q l) (sym one)
              (holder-stays h past e s.step.accepted q l (holder_at xs q) (λ is. absurd (other (Some-injective q p (sym is ∙ port))))
              (record { copy = s.stand.copy q; sent = s.stand.sent q }))
        ]

-- and what is kept of the port before it
pub holder-step : (h : Header) (past : Trace) (l : ℕ) (e : Event) (t : Target) (w : Option Line) (xs : List Holder) (p : ℕ) (x : Holder) → IsHoldersStep h past l e t w xs
    → port_of e ≡ Some p → slice_get xs p ≡ Some x → IsHolderStep h past p l e t w x
holder-step h past l e t w xs p x s port is =
    let one : holder_at xs p ≡ x = ap (λ o. unwrap_or o empty_holder) is in
    record {
      step = s.step;
      port = port;
      whole = s.whole p port;
      stands = subst (HolderStands past p l) one (record { copy = s.stand.copy p; sent = s.stand.sent p });
    }

-- each port of the header has a holder
pub has-holder : (h : Header) (past : Trace) (l : ℕ) (e : Event) (t : Target) (w : Option Line) (xs : List Holder) (p : ℕ) → IsHoldersStep h past l e t w xs
    → port_of e ≡ Some p → p < length xs
has-holder h past l e t w xs p s port = subst (λ n. p < n) (sym s.room) (port-below h past e s.step.accepted p port)

-- memory after an M of the line
pub m-hears : (h : Header) (past : Trace) (q : ℕ) (c : Channel) (i : ℕ) (line : Line) (l : ℕ) → IsAccepted h (M q c i line ∷ past) → line_in h past (M q c i line) ≡ Some l
    → MemoryStands (M q c i line ∷ past) l line
m-hears h past q c i line l a on =
    let is = written-of h past q c i line a in
    let here : is_some_on (transaction_of past q c i) l ≡ true = subst (λ o. is_some_on o l ≡ true) (sym is) (on-transaction h past (outstanding h past q c i) l on) in
    record { memory = rw here refl }
