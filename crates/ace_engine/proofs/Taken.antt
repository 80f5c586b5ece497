-- An element of the first ones of a list.
use Rattle.std.proofs.Common.{◌≡◌, ◌<◌, ℕ, List, length, take, length-take, arith, Some, slice_get, ap, ◌∙◌}
use Rattle.std.proofs.Math.ListN.{get_or}
use Rattle.std.proofs.lemmas.Option.{slice_get-get_or}
use Rattle.std.proofs.lemmas.List.{get_or-take}
use Rattle.ace_event.specs.declared.event.Event.{Event}

pub within-count : (n : ℕ) (events : List Event) (i : ℕ) → length events ≡ 16 → i < length (take n events) → i < 16
within-count n events i all low = omega (arith, all, low, length-take n events)

pub taken-at : (n : ℕ) (events : List Event) (i : ℕ) (d : Event) → i < length (take n events) → slice_get (take n events) i ≡ Some (get_or events i d)
taken-at n events i d low =
    let within : i < n = omega (arith, low, length-take n events) in
    slice_get-get_or (take n events) i d low ∙ ap (λ e. Some e) (get_or-take n events i d within)
