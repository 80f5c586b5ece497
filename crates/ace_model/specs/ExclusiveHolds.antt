-- An exclusive store is exclusive.
use Rattle.std.specs.Prelude.{ℕ, ◌≡◌, Bool, true, false, not, ◌&&◌, ◌||◌, ◌==◌, [], ◌∷◌, ⊤}
use Rattle.std.specs.List.{list_any}
use Rattle.ace_event.specs.declared.event.Event.{Event}
use Rattle.ace_event.specs.declared.event.Event.TheVariants.{L, D}
use Rattle.ace_model.specs.Trace.{Trace, is_some_and}
use Rattle.ace_model.specs.Values.{store_at}

-- the event is an exclusive load of the port
abbrev pub is_exclusive_load : Event → ℕ → Bool
is_exclusive_load (L q addr w x word) p = (p == q) && x
is_exclusive_load _ p = false

-- another port stores to the line with the event
abbrev pub disturbs : Trace → Event → ℕ → ℕ → Bool
disturbs past e p l = is_some_and (store_at past e l) (λ s. not (s.port == p))

-- the port has made an exclusive load
abbrev pub has_exclusive_load : Trace → ℕ → Bool
has_exclusive_load past p = list_any (λ e. is_exclusive_load e p) past

-- since the port's last exclusive load no other port stored to the line
abbrev pub is_undisturbed : Trace → ℕ → ℕ → Bool
is_undisturbed [] p l = true
is_undisturbed (e ∷ past) p l =
    is_exclusive_load e p || (not (disturbs past e p l) && is_undisturbed past p l)

-- Between a D with x 1 and its port's last L with x 1 before it no other port stored to the line.
abbrev pub ExclusiveHolds : Trace → Type 0
ExclusiveHolds [] = ⊤
ExclusiveHolds (D p addr strobe true line ∷ past) =
    ExclusiveHolds past × (has_exclusive_load past p ≡ true → is_undisturbed past p addr ≡ true)
ExclusiveHolds (_ ∷ past) = ExclusiveHolds past
