use Rattle.std.proofs.Common.{◌≡◌, ℕ, false, take, option_map}
use Rattle.std.specs.Ordering.{nat_cmp}
use Rattle.std.specs.BTreeMap.{get}
use Rattle.ace_cert.specs.Walk.{place_under}
use Rattle.ace_cert.proofs.verification.places.places_of.Given as goal

abbrev pub invariant-loop-i : goal.invariant-loop-i
invariant-loop-i l =
    (number : ℕ) → get nat_cmp l.places number ≡ option_map (λ q. record { place = q; seen = false }) (place_under (take l.i l.reads) number)
