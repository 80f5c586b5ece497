use Rattle.std.proofs.Common.{◌≡◌, ◌<◌, List, length, slice_index_or, subst, sym}
use Rattle.ace_live.specs.Seats.{Token}
use Rattle.ace_live_demo.proofs.Seats.{fresh-at}
use Rattle.ace_live_demo.proofs.rounds_of_callers.Goals as goal

pub all_rounds-requires-after_bounds : goal.all_rounds-requires-after_bounds
all_rounds-requires-after_bounds g c = λ lives outlives k d low.
    subst (λ (xs : List Token). k < length xs → (slice_index_or xs k d).live ≡ c.in-Ok.live) (sym c.in-Ok.ensures.seats)
    (fresh-at c.in-Ok.live _ k d) low
