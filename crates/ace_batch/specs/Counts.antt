-- How many traces came out how, and the status of all of them.
use Rattle.std.specs.Prelude.{ℕ, ◌==◌, ◌&&◌, Bool, false, if◌then◌else◌, nat_lt, List, [], ◌∷◌, Option, None, Some, count_by, sum_by}
use Rattle.std.specs.List.{list_any}
use Rattle.ace_batch.specs.Outcomes.{is_accepted, status_of}
use Rattle.ace_batch.specs.declared.entry.Entry.{Entry}

-- the trace has this status
abbrev pub has_status : ℕ → Entry → Bool
has_status status e = status_of e.outcome == status

-- so many have it
abbrev pub count_of : ℕ → List Entry → ℕ
count_of status entries = count_by (has_status status) entries

-- how many events were judged
abbrev pub events_of : List Entry → ℕ
events_of entries = sum_by (λ e. e.events) entries

-- some are outstanding
abbrev pub has_some : Option ℕ → Bool
has_some None = false
has_some (Some count) = nat_lt 0 count

-- the trace is accepted, and transactions are outstanding at its end
abbrev pub is_open : Entry → Bool
is_open e = is_accepted e.outcome && has_some e.outstanding

-- so many are
abbrev pub open_count : List Entry → ℕ
open_count entries = count_by is_open entries

-- the first of these statuses that one of the traces has, or else 0
abbrev pub first_of : List ℕ → List Entry → ℕ
first_of [] entries = 0
first_of (status ∷ order) entries =
    if list_any (has_status status) entries then status else first_of order entries

-- the order in which statuses count
abbrev pub order : List ℕ
order = 1 ∷ 3 ∷ 8 ∷ 6 ∷ 4 ∷ 7 ∷ []

-- the status of many traces: the first that occurs, and of none that of wrong words
abbrev pub status_of_all : List Entry → ℕ
status_of_all [] = 2
status_of_all (e ∷ entries) = first_of order (e ∷ entries)
