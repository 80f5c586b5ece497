-- The rows of a trace have the numbers of its events.
use Rattle.std.proofs.Common.{◌≡◌, ◌<◌, ◌≤◌, ℕ, ◌+◌, ◌++◌, ◌∙◌, ap, reverse, Bool, true, false, if◌then◌else◌, List, [], ◌∷◌, Option, Some, None, length, arith}
use Rattle.std.specs.List.{AllByRecursion}
use Rattle.std.proofs.lemmas.List.{length-append, length-reverse}
use Rattle.ace_chart.specs.Marks.{IsNumber, IsNumbered, IsStopNumbered}
use Rattle.ace_chart.specs.declared.rows.Row.{Row}
use Rattle.ace_chart_rows.specs.Charts.{EndsSo, HasFollowed, row_at_end}
use Rattle.ace_chart_rows.specs.declared.collect.Collected.{Collected}
use Rattle.ace_chart_rows.specs.declared.collect.Stop.{Stop}
use Rattle.ace_chart_rows.specs.declared.selection.Part.{Part}
use Rattle.ace_chart_rows.specs.declared.selection.Part.TheVariants.{Drawn, LeftOut, Elsewhere}
use Rattle.ace_chart_rows.specs.declared.selection.Selection.{Selection}
use Rattle.ace_check.specs.declared.checker.Checker.{Checker}
use Rattle.ace_chart_rows.specs.Bursts.{goes_on, joined}
use Rattle.ace_chart_rows.specs.Rows.{done_of, done_with, newest_of, newest_with, part_at, put, row_of, rows_of, takes_in}
use Rattle.ace_event.specs.declared.event.Event.{Event}
use Rattle.ace_event.specs.declared.header.Header.{Header}
use Rattle.ace_model.specs.Trace.{Trace, more}

one_more : (rows : List Row) (row : Row) → AllByRecursion IsNumbered rows → IsNumbered row → AllByRecursion IsNumbered (rows ++ row ∷ [])
one_more [] row all is = (is, tt)
one_more (r ∷ rows) row (first, all) is = (first, one_more rows row all is)

more_numbered : (done : List Row) (newest : Option Row) → AllByRecursion IsNumbered done → IsStopNumbered newest → AllByRecursion IsNumbered (more done newest)
more_numbered done None all is = all
more_numbered done (Some row) all is = one_more done row all is

-- one of two rows, or of two lists of rows
one_of : (b : Bool) (row other : Row) → IsNumbered row → IsNumbered other → IsNumbered (if b then row else other)
one_of true row other is of_other = is
one_of false row other is of_other = of_other

list_of : (b : Bool) (rows others : List Row) → AllByRecursion IsNumbered rows → AllByRecursion IsNumbered others
    → AllByRecursion IsNumbered (if b then rows else others)
list_of true rows others all of_others = all
list_of false rows others all of_others = of_others

-- the newest row with the next one
put_numbered : (newest : Option Row) (next : Row) → IsStopNumbered newest → IsNumbered next → IsNumbered (put newest next)
put_numbered None next was is = is
put_numbered (Some r) next was is = one_of (goes_on r next) (joined r next) next (was.0, is.1) is

-- where a row may be added
newest_numbered : (newest : Option Row) (next : Row) (part : Part) → IsStopNumbered newest → IsNumbered next → IsStopNumbered (newest_with newest next part)
newest_numbered newest next Drawn was is = put_numbered newest next was is
newest_numbered newest next LeftOut was is = was
newest_numbered newest next Elsewhere was is = was

done_numbered : (done : List Row) (newest : Option Row) (next : Row) (part : Part) → AllByRecursion IsNumbered done → IsStopNumbered newest
    → AllByRecursion IsNumbered (done_with done newest next part)
done_numbered done newest next Drawn all was =
    list_of (takes_in newest next) done (more done newest) all (more_numbered done newest all was)
done_numbered done newest next LeftOut all was = all
done_numbered done newest next Elsewhere all was = all

both_numbered : (h : Header) (past : Trace) (line : Option ℕ) (s : Selection) → length past ≤ 18446744073709551613
    → AllByRecursion IsNumbered (done_of h past line s) × IsStopNumbered (newest_of h past line s)
both_numbered h [] line s few = (tt, tt)
both_numbered h (e ∷ past) line s few =
    let before = both_numbered h past line s (omega (arith, few)) in
    let number : IsNumber (length past + 1) = omega (arith, few) in (
      done_numbered (done_of h past line s) (newest_of h past line s) (row_of h past line s e) (part_at h past line s e) before.0 before.1,
      newest_numbered (newest_of h past line s) (row_of h past line s e) (part_at h past line s e) before.1 (number, number),
    )

pub rows_numbered : (h : Header) (past : Trace) (line : Option ℕ) (s : Selection) → length past ≤ 18446744073709551613
    → AllByRecursion IsNumbered (rows_of h past line s)
rows_numbered h past line s few =
    let both = both_numbered h past line s few in more_numbered (done_of h past line s) (newest_of h past line s) both.0 both.1

-- of the events that were followed, those before the end are fewer than a program can hold
few_followed : (h : Header) (events : List Event) (line : Option ℕ) (s : Selection) (c : Checker) (r : Collected) (stop : Option Stop)
    → (f : HasFollowed h events line s c r stop) → length f.past ≤ length events
few_followed h events line s c r stop f =
    let parts : length events ≡ length f.past + length f.rest =
    ap length f.front ∙ length-append (reverse f.past) f.rest ∙ ap (λ n. n + length f.rest) (length-reverse f.past) in
    omega (arith, parts)

pub followed_numbered : (h : Header) (events : List Event) (line : Option ℕ) (s : Selection) (c : Checker) (r : Collected) (stop : Option Stop)
    → HasFollowed h events line s c r stop → length events < 9223372036854775808 → AllByRecursion IsNumbered (more r.done.items r.newest)
followed_numbered h events line s c r stop f few =
    rw (f.drawn.done, f.drawn.newest) (rows_numbered h f.past line s (omega (arith, few, few_followed h events line s c r stop f)))

stop_row : (h : Header) (past : Trace) (line : Option ℕ) (s : Selection) (rest : List Event) (row : Row) (rule : Option ℕ)
    → EndsSo h past line s rest (Some row) rule → length past < 9223372036854775808 → IsNumbered row
stop_row h past line s rest row rule (e, later, comes, is, broken, some) few = rw is (omega (arith, few), omega (arith, few))

pub stop_numbered : (h : Header) (events : List Event) (line : Option ℕ) (s : Selection) (c : Checker) (r : Collected) (stop : Option Stop)
    → HasFollowed h events line s c r stop → length events < 9223372036854775808 → IsStopNumbered (row_at_end stop)
stop_numbered h events line s c r None f few = tt
stop_numbered h events line s c r (Some stop) f few =
    stop_row h f.past line s f.rest stop.row (Some stop.rule) f.ending (omega (arith, few, few_followed h events line s c r (Some stop) f))
