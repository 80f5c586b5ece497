-- What is kept of all ports, after an event.
use Rattle.std.proofs.Common.{◌≡◌, ◌≢◌, ◌⊎◌, ℕ, zero, suc, ◌<◌, List, [], ◌∷◌, set, Some, slice_get, refl, sym, ap, subst, ◌∙◌, inl, inr, arith}
use Rattle.std.proofs.lemmas.List.{length-set}
use Rattle.std.proofs.lemmas.Option.{slice_get_within}
use Rattle.ace_filter.proofs.Terms.{AreWatched, Event, IsWatched, PortWatch, Trace, port_of}
use Rattle.ace_filter.proofs.Ports.{stands-elsewhere}
use Rattle.ace_model.proofs.General.Options.{Some-injective}

-- an element of a list in which one was set is that one, or was there
set-cases : {A : Type 0} → (xs : List A) (i p : ℕ) (v s : A) → slice_get (set xs i v) p ≡ Some s → ((p ≡ i) × (v ≡ s)) ⊎ ((p ≢ i) × (slice_get xs p ≡ Some s))
set-cases [] i p v s is = cc
set-cases (x ∷ xs) zero zero v s is = inl (refl, Some-injective v s is)
set-cases (x ∷ xs) zero (suc p) v s is = inr (λ e. omega (arith, e), is)
set-cases (x ∷ xs) (suc i) zero v s is = inr (λ e. omega (arith, e), is)
set-cases (x ∷ xs) (suc i) (suc p) v s is =
    elim (set-cases xs i p v s is) [
      | inl same ↦ inl (ap suc same.0, same.1)
      | inr other ↦ inr (λ e. other.0 (omega (arith, e)), other.1)
    ]

module _ (lines : ℕ) (past : Trace) (e : Event) (items : List PortWatch) (a : AreWatched lines past items) where
  -- an event of another port
  other-port : (p : ℕ) (s : PortWatch) → slice_get items p ≡ Some s → port_of e ≢ Some p → IsWatched lines (e ∷ past) p s
  other-port p s at n = let was = a.each p s at in record { stands = stands-elsewhere past p s was.stands e n; room = was.room }

  -- the port of the event has heard it
  pub watched-hear : (i : ℕ) (w : PortWatch) → port_of e ≡ Some i → IsWatched lines (e ∷ past) i w → AreWatched lines (e ∷ past) (set items i w)
  watched-hear i w own new = record {
    len = length-set items i w ∙ a.len;
    each = λ p s at. elim (set-cases items i p w s at) [
      | inl same ↦ subst (λ v. IsWatched lines (e ∷ past) p v) same.1 (subst (λ q. IsWatched lines (e ∷ past) q w) (sym same.0) new)
      | inr other ↦ other-port p s other.1 (λ is. other.0 (Some-injective p i (sym is ∙ own)))
    ];
  }

  -- the event is that of no port of which something is kept
  pub watched-still : ((p : ℕ) → p < 32 → port_of e ≢ Some p) → AreWatched lines (e ∷ past) items
  watched-still n = record {
    len = a.len;
    each = λ p s at. let low = slice_get_within items p s at in let len = a.len in other-port p s at (n p (omega (arith, low, len)));
  }
