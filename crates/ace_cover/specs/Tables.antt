-- The table of what was hit.
use Rattle.std.specs.Prelude.{ℕ, Bool, ◌==◌, ◌-◌, ◌*◌, ◌/◌, ◌++◌, ◌||◌, true, false, if◌then◌else◌, nat_lt, List, [], ◌∷◌, codes, decimal, flat_map, length, replicate, take}
use Rattle.ace_cover.specs.Groups.{Group, all_hits, groups_of, hit_count, never_hit}
use Rattle.ace_cover.specs.Names.{name_of}
use Rattle.ace_cover.specs.declared.hit.Hit.{Hit}
use Rattle.ace_cover.specs.declared.listing.Listing.{Listing}
use Rattle.ace_cover.specs.declared.listing.Listing.TheVariants.{Few, All, Counts}
use Rattle.ace_cover.specs.Tallies.{Tally}

-- the text at the left, and at the right, of so many columns
unfoldable pub left_of : ℕ → List ℕ → List ℕ
left_of width text = text ++ replicate (width - length text) 32

unfoldable pub right_of : ℕ → List ℕ → List ℕ
right_of width text = replicate (width - length text) 32 ++ text

-- how many of a hundred these are of so many; of none they are all
abbrev pub percent_of : ℕ → ℕ → ℕ
percent_of hit all = if all == 0 then 100 else hit * 100 / all

-- a mark for each five of a hundred
unfoldable pub bar_text : ℕ → List ℕ
bar_text percent =
    if nat_lt percent 5 then [] else codes "  " ++ replicate (percent / 5) 35

-- a title, and how many points of how many were hit
unfoldable pub count_text : List ℕ → ℕ → ℕ → List ℕ
count_text title hit all =
    left_of 44 title ++ (right_of 6 (decimal hit) ++ (right_of 6 (decimal all)
    ++ (right_of 7 (decimal (percent_of hit all)) ++ codes "%")))

-- the row of a group
unfoldable pub row_text : Group → List ℕ
row_text g =
    count_text g.title (hit_count g.hits) (length g.hits)
    ++ (bar_text (percent_of (hit_count g.hits) (length g.hits)) ++ codes "\n")

-- the row of all
unfoldable pub sum_text : List Hit → List ℕ
sum_text hits = count_text (codes "all") (hit_count hits) (length hits) ++ codes "\n"

-- how many traces and events there are
unfoldable pub traces_text : ℕ → List ℕ
traces_text traces =
    decimal traces
    ++ (if traces == 1 then codes " accepted trace, " else codes " accepted traces, ")

unfoldable pub events_text : ℕ → List ℕ
events_text events =
    decimal events ++ (if events == 1 then codes " event\n" else codes " events\n")

unfoldable pub heading : List ℕ
heading = codes "\n                                               hit    of\n"

unfoldable pub head_text : ℕ → ℕ → List ℕ
head_text traces events = traces_text traces ++ (events_text events ++ heading)

unfoldable pub rows_text : List Hit → List ℕ
rows_text hits = flat_map row_text (groups_of hits) ++ sum_text hits

-- a point that was never hit
unfoldable pub missing_line : Hit → List ℕ
missing_line h = codes "    " ++ (name_of h.point ++ codes "\n")

-- how many more there are
unfoldable pub more_words : List ℕ
more_words = codes " more: acetool cover --all\n"

unfoldable pub more_text : ℕ → List ℕ
more_text more = codes "    .. and " ++ (decimal more ++ more_words)

-- such points of a group: all of them, or the first twelve
unfoldable pub missing_lines : Bool → List Hit → List ℕ
missing_lines every missing =
    if every || nat_lt (length missing) 13 then flat_map missing_line missing
    else flat_map missing_line (take 12 missing) ++ more_text (length missing - 12)

unfoldable pub missing_head : List ℕ → ℕ → List ℕ
missing_head title count =
    codes "  " ++ (title ++ (codes " (" ++ (decimal count ++ codes ")\n")))

-- such points of a group, under its title, if there are any
abbrev pub missing_by : Bool → List ℕ → List Hit → List ℕ
missing_by every title [] = []
missing_by every title (h ∷ missing) =
    missing_head title (length (h ∷ missing)) ++ missing_lines every (h ∷ missing)

unfoldable pub missing_of : Bool → Group → List ℕ
missing_of every g = missing_by every g.title (never_hit g.hits)

-- such points of each group, if there are any
unfoldable pub missing_text : Bool → List Hit → List ℕ
missing_text every hits =
    if hit_count hits == length hits then []
    else codes "\nNever hit\n" ++ flat_map (missing_of every) (groups_of hits)

-- a point with its count
unfoldable pub hit_line : Hit → List ℕ
hit_line h =
    right_of 12 (decimal h.count) ++ (codes "  " ++ (name_of h.point ++ codes "\n"))

-- the points of a group with their counts, under its title
unfoldable pub counts_of : Group → List ℕ
counts_of g = codes "  " ++ (g.title ++ (codes "\n" ++ flat_map hit_line g.hits))

unfoldable pub counts_text : List Hit → List ℕ
counts_text hits = codes "\nHits\n" ++ flat_map counts_of (groups_of hits)

-- what is told of the points
abbrev pub listing_text : Listing → List Hit → List ℕ
listing_text Few hits = missing_text false hits
listing_text All hits = missing_text true hits
listing_text Counts hits = counts_text hits

-- the table
unfoldable pub table_text : Listing → Tally → List ℕ
table_text listing tally =
    head_text tally.traces tally.events
    ++ (rows_text (all_hits tally) ++ listing_text listing (all_hits tally))
