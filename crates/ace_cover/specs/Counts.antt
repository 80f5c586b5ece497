-- How many events of a trace show a point.
use Rattle.std.specs.Prelude.{ℕ, ◌+◌, ◌≡◌, ◌-◌, ◌^◌, Bool, ⊤, if◌then◌else◌, List, [], ◌∷◌, map, min, Option, length, reverse}
use Rattle.std.specs.List.{list_any}
use Rattle.ace_event.specs.declared.event.Event.{Event}
use Rattle.ace_event.specs.declared.header.Header.{Header}
use Rattle.ace_grammar.specs.Reading.{ReadsWithin, Whole}
use Rattle.ace_model.specs.Trace.{Trace, is_some_and}
use Rattle.ace_points.specs.Same.{same_point}
use Rattle.ace_points.specs.Shown.{shown}
use Rattle.ace_points.specs.declared.point.Point.{Point}
use Rattle.ace_verdict.specs.declared.limits.Limits.{Limits}
use Rattle.ace_verdict.specs.declared.verdict.Verdict.{Verdict}
use Rattle.ace_verdict.specs.declared.verdict.Verdict.TheVariants.{Accepted}

-- the point is among those that are shown
abbrev pub has_point : List (Option Point) → Point → Bool
has_point points p = list_any (λ o. is_some_and o (λ q. same_point q p)) points

-- the event shows the point
abbrev pub shows : Header → Trace → Event → Point → Bool
shows h past e p = has_point (shown h past e) p

-- how many events of the trace show the point
abbrev pub count : Header → Trace → Point → ℕ
count h [] p = 0
count h (e ∷ past) p = if shows h past e p then count h past p + 1 else count h past p

-- the counts of these points, in their order
abbrev pub counts : Header → Trace → List Point → List ℕ
counts h past points = map (count h past) points

-- Where the verdict on the bytes is that they are an accepted trace, the hits are the counts of its
-- events.
abbrev pub AreCounts : Limits → List Point → List ℕ → List ℕ → Verdict → Type 0
AreCounts limits points bytes hits (Accepted n) =
    (h : Header) × (events : List Event) × ReadsWithin limits.events bytes h events Whole
    × (n ≡ length events) × (hits ≡ counts h (reverse events) points)
AreCounts limits points bytes hits verdict = ⊤

-- the sum, or the most that is kept
abbrev pub sum_of : ℕ → ℕ → ℕ
sum_of a b = min (a + b) (2 ^ 64 - 1)

-- place by place, as far as there are places
abbrev pub sums : List ℕ → List ℕ → List ℕ
sums totals [] = totals
sums [] (b ∷ hits) = []
sums (a ∷ totals) (b ∷ hits) = sum_of a b ∷ sums totals hits
