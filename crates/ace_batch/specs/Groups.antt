-- Traces that failed alike.
use Rattle.std.specs.Prelude.{ℕ, ◌&&◌, Bool, if◌then◌else◌, not, nat_lt, List, [], ◌∷◌, ◌++◌, Option, Some, None, bytes_eq, count_by, fold, map}
use Rattle.std.specs.List.{list_any}
use Rattle.ace_batch.specs.Outcomes.{is_accepted}
use Rattle.ace_batch.specs.declared.entry.Entry.{Entry}

-- the other trace isn't accepted, and has the same signature
abbrev pub is_like : Entry → Entry → Bool
is_like e other =
    not (is_accepted other.outcome) && bytes_eq e.signature.items other.signature.items

-- the line that is refused or malformed, or else 0
abbrev pub number_or_zero : Option ℕ → ℕ
number_or_zero None = 0
number_or_zero (Some line) = line

-- of the one and another, if that is like the first, the one that fails at an earlier line
abbrev pub earlier_like : Entry → Entry → Entry → Entry
earlier_like e best other =
    if is_like e other && nat_lt (number_or_zero other.line) (number_or_zero best.line)
    then other else best

-- Traces that failed alike: how many, and the one to look at, which fails at the earliest line.
pub record Group : Type 0 where
  pub first : Entry
  pub count : ℕ

-- the group of this trace
abbrev pub group_of : List Entry → Entry → Group
group_of entries e = record {
  first = fold (earlier_like e) e entries;
  count = count_by (is_like e) entries;
}

-- the first trace of each group, with one more trace
abbrev pub with_kind : List Entry → Entry → List Entry
with_kind kinds e =
    if not (is_accepted e.outcome) && not (list_any (λ kind. is_like kind e) kinds)
    then kinds ++ e ∷ []
    else kinds

abbrev pub kinds_of : List Entry → List Entry
kinds_of entries = fold with_kind [] entries

-- one more group, before those that have fewer
abbrev pub with_group : List Group → Group → List Group
with_group [] g = g ∷ []
with_group (other ∷ groups) g =
    if nat_lt other.count g.count then g ∷ other ∷ groups else other ∷ with_group groups g

-- The groups of the traces that aren't accepted, the most frequent first.
abbrev pub groups_of : List Entry → List Group
groups_of entries = fold with_group [] (map (group_of entries) (kinds_of entries))
