-- What is told of many traces.
use Rattle.std.specs.Prelude.{ℕ, Bool, ◌==◌, ◌%◌, ◌-◌, ◌&&◌, ◌++◌, if◌then◌else◌, nat_lt, List, [], ◌∷◌, codes, decimal, flat_map, length, replicate}
use Rattle.ace_batch.specs.Counts.{count_of, events_of, open_count}
use Rattle.ace_batch.specs.Groups.{Group, groups_of}
use Rattle.ace_batch.specs.Rows.{padded, place_text, rows_text}
use Rattle.ace_batch.specs.declared.entry.Entry.{Entry}

-- digits with a comma before each three that are left
abbrev pub with_commas : List ℕ → List ℕ
with_commas [] = []
with_commas (digit ∷ rest) =
    digit ∷ (if nat_lt 0 (length rest) && (length rest % 3 == 0) then codes "," else [])
    ++ with_commas rest

-- an s, where there isn't just one
abbrev pub plural : ℕ → List ℕ
plural count = if count == 1 then [] else codes "s"

-- so many of some kind, if there are any
unfoldable pub count_part : ℕ → List ℕ → List ℕ
count_part count kind =
    if count == 0 then [] else codes ", " ++ (decimal count ++ kind)

-- how many came out how
unfoldable pub wrong_text : List Entry → List ℕ
wrong_text entries =
    count_part (count_of 1 entries) (codes " refused")
    ++ (count_part (count_of 3 entries) (codes " malformed")
    ++ count_part (count_of 8 entries) (codes " unfinished"))

unfoldable pub unread_text : List Entry → List ℕ
unread_text entries =
    count_part (count_of 4 entries) (codes " unreadable")
    ++ count_part (count_of 7 entries) (codes " out of memory")

unfoldable pub beyond_words : List ℕ
beyond_words = codes " beyond a limit"

unfoldable pub hindered_text : List Entry → List ℕ
hindered_text entries = count_part (count_of 6 entries) beyond_words ++ unread_text entries

unfoldable pub outcomes_text : List Entry → List ℕ
outcomes_text entries =
    decimal (count_of 0 entries)
    ++ (codes " accepted" ++ (wrong_text entries ++ hindered_text entries))

-- how many traces there are
unfoldable pub traces_text : ℕ → List ℕ
traces_text count = decimal count ++ (codes " trace" ++ (plural count ++ codes ": "))

-- how many events were judged
unfoldable pub events_text : ℕ → List ℕ
events_text events = codes "; " ++ (with_commas (decimal events) ++ codes " events\n")

-- the line that counts traces and events
unfoldable pub counts_line : List Entry → List ℕ
counts_line entries =
    traces_text (length entries) ++ (outcomes_text entries ++ events_text (events_of entries))

-- the text at the right of so many columns
unfoldable pub right_of : ℕ → List ℕ → List ℕ
right_of width text = replicate (width - length text) 32 ++ text

-- what is told of a group: how many and the signature, the one to look at, and what is wrong there
unfoldable pub signature_text : Group → List ℕ
signature_text g =
    right_of 5 (decimal g.count)
    ++ (codes "  " ++ (padded 28 g.first.signature.items ++ codes " "))

unfoldable pub first_text : Entry → List ℕ
first_text e = place_text e ++ (codes "\n       " ++ (e.message.items ++ codes "\n"))

unfoldable pub group_text : Group → List ℕ
group_text g = signature_text g ++ first_text g.first

-- how many groups there are
unfoldable pub heading_end : ℕ → List ℕ
heading_end count =
    if count == 1 then codes " distinct failure, most frequent first\n"
    else codes " distinct failures, most frequent first\n"

unfoldable pub heading_text : ℕ → List ℕ
heading_text count = codes "\n" ++ (decimal count ++ heading_end count)

-- the groups, the most frequent first, where there are any
abbrev pub groups_text : List Group → List ℕ
groups_text [] = []
groups_text (g ∷ groups) =
    heading_text (length (g ∷ groups)) ++ flat_map group_text (g ∷ groups)

-- how many accepted traces end with transactions outstanding, where some do
unfoldable pub open_end : ℕ → List ℕ
open_end count =
    if count == 1 then codes " accepted trace ends with transactions outstanding\n"
    else codes " accepted traces end with transactions outstanding\n"

unfoldable pub open_text : ℕ → List ℕ
open_text count = if count == 0 then [] else codes "\n" ++ (decimal count ++ open_end count)

-- how many traces were not looked at, where some were not
unfoldable pub left_end : ℕ → List ℕ
left_end left =
    if left == 1 then codes " trace was not looked at\n" else codes " traces were not looked at\n"

unfoldable pub left_text : ℕ → List ℕ
left_text left = if left == 0 then [] else decimal left ++ left_end left

-- the groups, and how many are so
unfoldable pub findings_text : List Entry → List ℕ
findings_text entries = groups_text (groups_of entries) ++ open_text (open_count entries)

-- the summary of the traces that were looked at, with an empty line before it, where so many were
-- not
unfoldable pub summary_text : ℕ → List Entry → List ℕ
summary_text left entries =
    codes "\n" ++ (counts_line entries ++ (left_text left ++ findings_text entries))

-- what is told of the traces: their lines, and the summary
unfoldable pub told_text : Bool → ℕ → List Entry → List ℕ
told_text failed left entries = rows_text failed entries ++ summary_text left entries
