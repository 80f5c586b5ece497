-- One trace, or one status, and the others.
use Rattle.std.proofs.Common.{◌≡◌, ◌+◌, ◌<◌, ℕ, true, false, List, drop, take, get_or, length, refl, if◌then◌else◌}
use Rattle.std.specs.List.{list_any}
use Rattle.std.proofs.lemmas.List.{at_drop_more}
use Rattle.std.proofs.lemmas.List.Sums.{count_by_more_yes, count_by_more_no, sum_by_more}
use Rattle.ace_batch.specs.Counts.{count_of, events_of, first_of, has_status, is_open, open_count}
use Rattle.ace_batch.specs.declared.entry.Entry.{Entry}

pub count_yes : (status : ℕ) (entries : List Entry) (i : ℕ) (d : Entry) → i < length entries
    → has_status status (get_or entries i d) ≡ true
    → count_of status (take (i + 1) entries) ≡ count_of status (take i entries) + 1
count_yes status entries i d within hit = count_by_more_yes (has_status status) entries i d within hit

pub count_no : (status : ℕ) (entries : List Entry) (i : ℕ) (d : Entry) → i < length entries
    → has_status status (get_or entries i d) ≡ false
    → count_of status (take (i + 1) entries) ≡ count_of status (take i entries)
count_no status entries i d within miss = count_by_more_no (has_status status) entries i d within miss

pub ruleset counting = (count_yes, count_no)

pub open_yes : (entries : List Entry) (i : ℕ) (d : Entry) → i < length entries → is_open (get_or entries i d) ≡ true
    → open_count (take (i + 1) entries) ≡ open_count (take i entries) + 1
open_yes entries i d within hit = count_by_more_yes is_open entries i d within hit

pub open_no : (entries : List Entry) (i : ℕ) (d : Entry) → i < length entries → is_open (get_or entries i d) ≡ false
    → open_count (take (i + 1) entries) ≡ open_count (take i entries)
open_no entries i d within miss = count_by_more_no is_open entries i d within miss

pub ruleset opens = (open_yes, open_no)

pub event_step : (entries : List Entry) (i : ℕ) (d : Entry) → i < length entries
    → events_of (take (i + 1) entries) ≡ events_of (take i entries) + (get_or entries i d).events
event_step entries i d within = sum_by_more (λ e. e.events) entries i d within

pub ruleset events = (event_step)

pub order_step : (statuses : List ℕ) (entries : List Entry) (i : ℕ) (d : ℕ) → i < length statuses
    → first_of (drop i statuses) entries
    ≡ (if list_any (has_status (get_or statuses i d)) entries then get_or statuses i d
    else first_of (drop (i + 1) statuses) entries)
order_step statuses entries i d within = rw (at_drop_more (λ it. first_of it entries) statuses i d within) refl
