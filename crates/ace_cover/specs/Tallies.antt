-- What is counted of traces.
use Rattle.std.specs.Prelude.{ℕ, Bool, ◌*◌, List, count_by, length, map, nat_lt}
use Rattle.ace_cover.specs.Counts.{sum_of, sums}
use Rattle.ace_points.specs.declared.point.Point.{Point}

-- how many traces were accepted, how many events they have, and how many of these show each point
pub record Tally : Type 0 where
  pub traces : ℕ
  pub events : ℕ
  pub hits : List ℕ

-- of no trace
abbrev pub no_tally : List Point → Tally
no_tally points = record { traces = 0; events = 0; hits = map (λ _. 0) points }

-- the sums
abbrev pub both : Tally → Tally → Tally
both a b = record {
  traces = sum_of a.traces b.traces;
  events = sum_of a.events b.events;
  hits = sums a.hits b.hits;
}

-- with one more trace, which has so many events
abbrev pub with_trace : Tally → ℕ → List ℕ → Tally
with_trace a events hits = both a (record { traces = 1; events = events; hits = hits })

-- fewer than so many of a hundred points were hit
abbrev pub is_below : ℕ → Tally → Bool
is_below percent a = nat_lt (count_by (nat_lt 0) a.hits * 100) (percent * length a.hits)
