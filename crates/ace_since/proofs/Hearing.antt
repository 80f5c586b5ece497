-- What is kept of lines after an event more.
use Rattle.std.proofs.Common.{◌≡◌, ◌⊎◌, ◌<◌, ◌≤◌, ℕ, true, false, ◌+◌, ◌==◌, ◌&&◌, if◌then◌else◌, nat_eq, nat_lt, ◌∷◌, length, Some, None, Result, Ok, Err, OnOk, is_some, arith, refl, sym, ap, subst, ◌∙◌, inl, inr}
use Rattle.std.proofs.lemmas.Bool.{cases_eq, eq-eqb, lt-ltb, ne_eqb}
use Rattle.ace_belongs.specs.Belongs.{event_line}
use Rattle.ace_event.specs.Ports.{IsHeader}
use Rattle.ace_event.specs.declared.event.Event.{Event}
use Rattle.ace_event.specs.declared.event.Event.TheVariants.{Rk, Wk, Cr, G, M, S, D, Mem}
use Rattle.ace_event.specs.declared.header.Header.{Header}
use Rattle.ace_lineck.proofs.GrantFrame.{gives-off}
use Rattle.ace_lineck.proofs.OffLine.{off-state}
use Rattle.ace_lineck.proofs.OnLine.{IsOff}
use Rattle.ace_lineck.proofs.StateSteps.{port-below}
use Rattle.ace_model.proofs.General.Options.{Some-injective}
use Rattle.ace_model.specs.Accepted.{IsAccepted}
use Rattle.ace_model.specs.Copies.{written}
use Rattle.ace_model.specs.Grants.{gives_line, grant_place}
use Rattle.ace_model.specs.States.{state_of}
use Rattle.ace_model.specs.Trace.{Trace, port_of}
use Rattle.ace_portck.specs.Targets.{line_in}
use Rattle.ace_since.proofs.Stays.{moves, stays}
use Rattle.ace_since.proofs.Writes.{grants-on, opens-on, same-line, writes-off, writes-on}
use Rattle.ace_since.specs.Changes.{change_by}
use Rattle.ace_since.specs.Kept.{HasChanged, LineStands, SinceStands, kept_of, stay_after, stay_at, stay_of}
use Rattle.ace_since.specs.Places.{memory_since, state_since}
use Rattle.ace_since.specs.declared.change.Change.{Change}
use Rattle.ace_since.specs.declared.change.Change.TheVariants.{State, Memory, Grant}
use Rattle.ace_since.specs.declared.line_since.LineSince.{LineSince}
use Rattle.ace_since.specs.declared.since.Since.{Since}

module _ (h : Header) (past : Trace) (e : Event) where
  -- a state that the event leaves, and memory and a grant that it leaves or gives
  port-stays : (p l : ℕ) → state_of h (e ∷ past) p l ≡ state_of h past p l → stay_of h (e ∷ past) l p ≡ stay_of h past l p
  port-stays p l same = stays (state_of h (e ∷ past) p l) (state_of h past p l) (state_since h past p l) (length past + 1) same

  memory-stays : (l : ℕ) → written past e l ≡ None → memory_since (e ∷ past) l ≡ memory_since past l
  memory-stays l none = rw none refl

  grant-stays : (l : ℕ) → gives_line past e l ≡ false → grant_place (e ∷ past) l ≡ grant_place past l
  grant-stays l none = rw none refl

  module _ (l : ℕ) (x : LineSince) where
    -- of a line that the event leaves as it is
    stands-still : ((p : ℕ) → state_of h (e ∷ past) p l ≡ state_of h past p l) → written past e l ≡ None → gives_line past e l ≡ false
        → LineStands h past l x → LineStands h (e ∷ past) l x
    stands-still state memory grant s = record {
      ports = λ p. s.ports p ∙ sym (port-stays p l (state p));
      memory = s.memory ∙ sym (memory-stays l memory);
      grant = s.grant ∙ sym (grant-stays l grant);
    }

    stands-off : IsAccepted h (e ∷ past) → IsOff h past e l → LineStands h past l x → LineStands h (e ∷ past) l x
    stands-off a off s =
        stands-still (λ p. off-state h past e a p l (λ port. off)) (writes-off h past e a l off) (gives-off h past l e a off) s

    module _ (y : LineSince) (s : LineStands h past l x) where
      -- of a port, by its new state
      port-moves : (q : ℕ) → IsHeader h → IsAccepted h (e ∷ past) → port_of e ≡ Some q
          → HasChanged (length past + 1) (State q (state_of h (e ∷ past) q l)) x y → (p : ℕ) → stay_at y.ports p ≡ stay_of h (e ∷ past) l p
      port-moves q header a port changed p = changed.0 p ∙ at (cases_eq p q)
        where
          at : (p ≡ q) ⊎ (p ≡ q → ⊥)
              → (if (p == q) && nat_lt p 32 then stay_after (length past + 1) (state_of h (e ∷ past) q l) (stay_at x.ports p) else stay_at x.ports p)
              ≡ stay_of h (e ∷ past) l p
          at (inl same) =
              let here : nat_eq p q ≡ true = eq-eqb p q same in
              let below : q < h.ports = port-below h past e a q port in
              let few : h.ports ≤ 32 = header.most_ports in
              let low : nat_lt p 32 ≡ true = lt-ltb p 32 (omega arith) in
              rw (here, low) (ap (stay_after (length past + 1) (state_of h (e ∷ past) q l)) (s.ports p)
              ∙ ap (λ v. stay_after (length past + 1) (state_of h (e ∷ past) v l) (stay_of h past l p)) (sym same)
              ∙ moves (state_of h (e ∷ past) p l) (state_of h past p l) (state_since h past p l) (length past + 1))
          at (inr other) =
              let there : nat_eq p q ≡ false = ne_eqb p q other in
              rw there (s.ports p ∙ sym (port-stays p l (off-state h past e a p l (λ own. absurd (other (Some-injective p q (sym own ∙ port)))))))

      state-changes : (q : ℕ) → IsHeader h → IsAccepted h (e ∷ past) → port_of e ≡ Some q → written past e l ≡ None → gives_line past e l ≡ false
          → HasChanged (length past + 1) (State q (state_of h (e ∷ past) q l)) x y → LineStands h (e ∷ past) l y
      state-changes q header a port memory grant changed = record {
        ports = port-moves q header a port changed;
        memory = changed.1 ∙ s.memory ∙ sym (memory-stays l memory);
        grant = changed.2 ∙ s.grant ∙ sym (grant-stays l grant);
      }

      memory-changes : ((p : ℕ) → state_of h (e ∷ past) p l ≡ state_of h past p l) → is_some (written past e l) ≡ true → gives_line past e l ≡ false
          → HasChanged (length past + 1) Memory x y → LineStands h (e ∷ past) l y
      memory-changes state memory grant changed = record {
        ports = λ p. ap (λ ports. stay_at ports p) changed.0 ∙ s.ports p ∙ sym (port-stays p l (state p));
        memory = changed.1 ∙ rw memory refl;
        grant = changed.2 ∙ s.grant ∙ sym (grant-stays l grant);
      }

      grant-changes : ((p : ℕ) → state_of h (e ∷ past) p l ≡ state_of h past p l) → written past e l ≡ None → gives_line past e l ≡ true
          → HasChanged (length past + 1) Grant x y → LineStands h (e ∷ past) l y
      grant-changes state memory grant changed = record {
        ports = λ p. ap (λ ports. stay_at ports p) changed.0 ∙ s.ports p ∙ sym (port-stays p l (state p));
        memory = changed.1 ∙ s.memory ∙ sym (memory-stays l memory);
        grant = changed.2 ∙ rw grant refl;
      }

-- of the line of the event
changed-as : (n : ℕ) (c d : Change) (x y : LineSince) → Some d ≡ Some c → HasChanged n c x y → HasChanged n d x y
changed-as n c d x y same changed = subst (λ v. HasChanged n v x y) (sym (Some-injective d c same)) changed

stands-on : (h : Header) (past : Trace) (e : Event) (l : ℕ) (c : Change) (x y : LineSince) → IsHeader h → IsAccepted h (e ∷ past)
    → line_in h past e ≡ Some l → change_by h (e ∷ past) l e ≡ Some c → HasChanged (length past + 1) c x y
    → LineStands h past l x → LineStands h (e ∷ past) l y
stands-on h past (Rk p st) l c x y header a on is changed s =
    state-changes h past (Rk p st) l x y s p header a refl refl refl (changed-as _ c _ x y is changed)
stands-on h past (Wk p st) l c x y header a on is changed s =
    state-changes h past (Wk p st) l x y s p header a refl refl refl (changed-as _ c _ x y is changed)
stands-on h past (Cr p resp st) l c x y header a on is changed s =
    state-changes h past (Cr p resp st) l x y s p header a refl refl refl (changed-as _ c _ x y is changed)
stands-on h past (S p addr st) l c x y header a on is changed s =
    state-changes h past (S p addr st) l x y s p header a refl refl refl (changed-as _ c _ x y is changed)
stands-on h past (D p addr strobe b line) l c x y header a on is changed s =
    state-changes h past (D p addr strobe b line) l x y s p header a refl refl refl (changed-as _ c _ x y is changed)
stands-on h past (M p d i line) l c x y header a on is changed s =
    memory-changes h past (M p d i line) l x y s (λ q. refl) (rw (writes-on h past p d i line a l on) refl) refl (changed-as _ c Memory x y is changed)
stands-on h past (Mem addr line) l c x y header a on is changed s =
    memory-changes h past (Mem addr line) l x y s (λ q. refl) (rw (opens-on h past addr line l on) refl) refl (changed-as _ c Memory x y is changed)
stands-on h past (G p d i) l c x y header a on is changed s =
    grant-changes h past (G p d i) l x y s (λ q. refl) refl (grants-on h past p d i a l on) (changed-as _ c Grant x y is changed)
stands-on h past e l c x y header a on is changed s = cc

-- where nothing of a line changes
stands-unchanged : (h : Header) (past : Trace) (e : Event) (l k : ℕ) (x : LineSince) → change_by h (e ∷ past) k e ≡ None
    → LineStands h past l x → LineStands h (e ∷ past) l x
stands-unchanged h past (Rk p st) l k x none s = cc
stands-unchanged h past (Wk p st) l k x none s = cc
stands-unchanged h past (Cr p resp st) l k x none s = cc
stands-unchanged h past (S p addr st) l k x none s = cc
stands-unchanged h past (D p addr strobe b line) l k x none s = cc
stands-unchanged h past (M p d i line) l k x none s = cc
stands-unchanged h past (Mem addr line) l k x none s = cc
stands-unchanged h past (G p d i) l k x none s = cc
stands-unchanged h past e l k x none s = stands-still h past e l x (λ p. refl) refl refl s

-- an event that belongs to no line
pub lineless_heard : (h : Header) (past : Trace) (e : Event) (s : Since) → IsAccepted h (e ∷ past) → None ≡ event_line h past e
    → SinceStands h past s → SinceStands h (e ∷ past) s
lineless_heard h past e s a none stands =
    let off = none ∙ same-line h past e in
    record { lines = λ l. stands-off h past e l (kept_of s l) a (λ on. let no = off ∙ on in cc) (stands.lines l) }

-- one that changes nothing of its line
pub unchanged_heard : (h : Header) (past : Trace) (e : Event) (l : ℕ) (s : Since) → None ≡ change_by h (e ∷ past) l e
    → SinceStands h past s → SinceStands h (e ∷ past) s
unchanged_heard h past e l s none stands =
    record { lines = λ k. stands-unchanged h past e k l (kept_of s k) (sym none) (stands.lines k) }

-- one that changes something of its line
pub change_heard : (h : Header) (past : Trace) (e : Event) (l number : ℕ) (c : Change) (s t : Since) → IsHeader h → IsAccepted h (e ∷ past)
    → Some l ≡ event_line h past e → Some c ≡ change_by h (e ∷ past) l e → number ≡ length (e ∷ past)
    → HasChanged number c (kept_of s l) (kept_of t l) → ((q : ℕ) → (q ≡ l → ⊥) → kept_of t q ≡ kept_of s q)
    → SinceStands h past s → SinceStands h (e ∷ past) t
change_heard h past e l number c s t header a line change count changed others stands = record { lines = λ k. at k (cases_eq k l) }
  where
    on : line_in h past e ≡ Some l
    on = sym (same-line h past e) ∙ sym line

    next : number ≡ length past + 1
    next = omega (arith, count)

    at : (k : ℕ) → (k ≡ l) ⊎ (k ≡ l → ⊥) → LineStands h (e ∷ past) k (kept_of t k)
    at k (inl same) =
        subst (λ v. LineStands h (e ∷ past) v (kept_of t v)) (sym same)
        (stands-on h past e l c (kept_of s l) (kept_of t l) header a on (sym change) (subst (λ n. HasChanged n c (kept_of s l) (kept_of t l)) next changed)
        (stands.lines l))
    at k (inr other) =
        subst (LineStands h (e ∷ past) k) (sym (others k other))
        (stands-off h past e k (kept_of s k) a (λ is. other (Some-injective k l (sym is ∙ on))) (stands.lines k))

-- what is so where the change was kept, by what is kept of its line and of the others
pub if_kept : {A B C : Type 0} {T E : Type 0} (result : Result T E) → OnOk result A → OnOk result B → (A → B → C) → OnOk result C
if_kept (Ok value) here others stands = stands here others
if_kept (Err error) here others stands = tt
