-- Rows as a trace is followed.
use Rattle.std.proofs.Common.{◌≡◌, ◌<◌, ◌≤◌, ℕ, suc, ◌+◌, ◌-◌, ◌^◌, ◌++◌, List, [], ◌∷◌, Option, Some, None, length, reverse, take, drop, get_or, refl, ap, sym, subst, ◌∙◌, arith}
use Rattle.std.proofs.lemmas.List.{drop_more, length-reverse, length-take-le, reverse-append, reverse-reverse, take-append-drop, take_more}
use Rattle.ace_chart.specs.declared.rows.Row.{Row}
use Rattle.ace_chart.specs.declared.rows.Chart.{Chart}
use Rattle.ace_chart_rows.specs.Charts.{AreDrawn, HasFollowed, HasHeard, IsChartOf, row_at_end, rule_at_end}
use Rattle.ace_chart_rows.specs.Looks.{look_on}
use Rattle.ace_chart_rows.specs.Fed.{HasFed, rule_of}
use Rattle.ace_chart_rows.specs.Rows.{done_with, left_out, left_with, newest_with, part_at, row_of}
use Rattle.ace_chart_rows.specs.Values.{told_on, values_of, values_with}
use Rattle.ace_chart_rows.specs.declared.values.Told.{Told}
use Rattle.ace_chart_rows.specs.declared.collect.Collected.{Collected}
use Rattle.ace_chart_rows.specs.declared.collect.Stop.{Stop}
use Rattle.ace_chart_rows.specs.declared.selection.Part.{Part}
use Rattle.ace_chart_rows.specs.declared.selection.Part.TheVariants.{Drawn, LeftOut, Elsewhere}
use Rattle.ace_chart_rows.specs.declared.selection.Selection.{Selection}
use Rattle.ace_check.specs.Run.{IsAnswerWithin, StandsWithin, break_after, past_after}
use Rattle.ace_check.specs.declared.checker.Step.{Step}
use Rattle.ace_check.specs.declared.checker.Step.TheVariants.{Fine, Broken}
use Rattle.ace_check.specs.declared.checker.Checker.{Checker}
use Rattle.ace_event.specs.declared.event.Event.{Event}
use Rattle.ace_event.specs.declared.header.Header.{Header}
use Rattle.ace_model.specs.Trace.{Trace, more}
use Rattle.ace_model.specs.declared.breaks.Break.{Break}

-- of the first n + 1 events the newest, and then those before it
pub newest : (events : List Event) (n : ℕ) (d : Event) → n < length events
    → reverse (take (n + 1) events) ≡ get_or events n d ∷ reverse (take n events)
newest events n d low =
    ap reverse (take_more events n d low) ∙ reverse-append (take n events) (get_or events n d ∷ [])

-- what was heard and what comes are all events
pub front_of : (events : List Event) (n : ℕ) → events ≡ reverse (reverse (take n events)) ++ drop n events
front_of events n = rw (reverse-reverse (take n events)) (sym (take-append-drop n events))

-- so many events are fewer than can be counted
pub few_taken : (events : List Event) (i : ℕ) → i < length events → length events < 9223372036854775808 → length (reverse (take i events)) < 2 ^ 64 - 2
few_taken events i within few = rw (length-reverse (take i events), length-take-le i events (omega (arith, within))) (omega (arith, within, few))

-- what the checker answers
pub fed_as : (h : Header) (past : Trace) (e : Event) (c : Checker) (s : Step) → IsAnswerWithin (2 ^ 64 - 1) h past e s
    → StandsWithin (2 ^ 64 - 1) c h (past_after past e s) (break_after s) → HasFed h past e c (rule_of s)
fed_as h past e c Fine answer stands = stands
fed_as h past e c (Broken index rule) answer stands =
    let b : Break = record { index = index; rule = rule } in (b, stands, answer.1)

-- no more are left out than there are
left_with_few : (count n : ℕ) (part : Part) → count ≤ n → left_with count part ≤ suc n
left_with_few count n Drawn few = omega (arith, few)
left_with_few count n LeftOut few = omega (arith, few)
left_with_few count n Elsewhere few = omega (arith, few)

left_few : (h : Header) (past : Trace) (line : Option ℕ) (s : Selection) → left_out h past line s ≤ length past
left_few h [] line s = omega arith
left_few h (e ∷ past) line s = left_with_few (left_out h past line s) (length past) (part_at h past line s e) (left_few h past line s)

-- the event was added
pub heard_fine : (h : Header) (past : Trace) (line : Option ℕ) (s : Selection) (e : Event) (c : Checker) (part : Part) (row : Row) (told : Told) (old new : Collected)
    → part ≡ part_at h past line s e → row ≡ row_of h past line s e → told ≡ told_on h past line old.values.kept.items e → length past < 2 ^ 64 - 2
    → new.done.items ≡ done_with old.done.items old.newest row part
    → new.newest ≡ newest_with old.newest row part
    → (old.left_out < 2 ^ 64 - 1 → new.left_out ≡ left_with old.left_out part)
    → new.values.kept.items ≡ values_with old.values.kept.items told
    → AreDrawn h past line s old → StandsWithin (2 ^ 64 - 1) c h (e ∷ past) None → HasHeard h past e line s c new None
heard_fine h past line s e c part row told old new is same tells few done newest counted kept before stands =
    let low : old.left_out < 2 ^ 64 - 1 = omega (arith, few, before.left_out, left_few h past line s) in (
      stands,
      record {
        done = done ∙ rw (before.done, before.newest, same, is) refl;
        newest = newest ∙ rw (before.newest, same, is) refl;
        left_out = counted low ∙ rw (before.left_out, is) refl;
        values = kept ∙ rw (tells, before.values) refl;
      },
    )

pub heard_break : (h : Header) (past : Trace) (line : Option ℕ) (s : Selection) (e : Event) (c : Checker) (stop : Stop) (d : Collected)
    → HasFed h past e c (Some stop.rule) → stop.row ≡ row_of h past line s e
    → AreDrawn h past line s d → HasHeard h past e line s c d (Some stop)
heard_break h past line s e c stop d (b, stands, broken) row same = (b, stands, broken, row, same)

-- the next event was heard, and breaks no rule
pub follows_next : (h : Header) (events : List Event) (i : ℕ) (d : Event) (line : Option ℕ) (s : Selection) (c : Checker) (r : Collected)
    → i < length events → HasHeard h (reverse (take i events)) (get_or events i d) line s c r None
    → StandsWithin (2 ^ 64 - 1) c h (reverse (take (i + 1) events)) None × AreDrawn h (reverse (take (i + 1) events)) line s r
follows_next h events i d line s c r within heard =
    subst (λ t. StandsWithin (2 ^ 64 - 1) c h t None × AreDrawn h t line s r) (sym (newest events i d within)) heard

-- it breaks a rule
pub followed_to_break : (h : Header) (events : List Event) (i : ℕ) (d : Event) (line : Option ℕ) (s : Selection) (c : Checker) (r : Collected) (stop : Stop)
    → i < length events → HasHeard h (reverse (take i events)) (get_or events i d) line s c r (Some stop)
    → HasFollowed h events line s c r (Some stop)
followed_to_break h events i d line s c r stop within (b, stands, broken, row, same) = record {
  past = reverse (take i events);
  rest = get_or events i d ∷ drop (i + 1) events;
  broken = Some b;
  front = front_of events i ∙ ap (λ t. reverse (reverse (take i events)) ++ t) (drop_more events i d within);
  stands = stands;
  drawn = same;
  ending = (get_or events i d, drop (i + 1) events, refl, row, sym broken, refl);
}

-- the chart of what was followed
pub chart_right : (h : Header) (events : List Event) (line : Option ℕ) (s : Selection) (c : Checker) (r : Collected) (chart : Chart) (stop : Option Stop)
    → HasFollowed h events line s c r stop → chart.header ≡ h → chart.line ≡ line → chart.rows.items ≡ more r.done.items r.newest → chart.left_out ≡ r.left_out
    → chart.stop ≡ row_at_end stop → chart.rule ≡ rule_at_end stop
    → ((most : ℕ) (past : Trace) (b : Option Break) → StandsWithin most c h past b → r.values.kept.items ≡ values_of h past line
    → chart.last ≡ look_on h past line)
    → IsChartOf h events line s chart
chart_right h events line s c r chart stop f header of_line rows left row rule last = record {
  past = f.past;
  rest = f.rest;
  front = f.front;
  accepted = f.stands.tell.lines.accepted;
  header = header;
  of_line = of_line;
  rows = rows ∙ rw (f.drawn.done, f.drawn.newest) refl;
  left_out = left ∙ f.drawn.left_out;
  last = last (2 ^ 64 - 1) f.past f.broken f.stands f.drawn.values;
  ending = rw (row, rule) f.ending;
}
