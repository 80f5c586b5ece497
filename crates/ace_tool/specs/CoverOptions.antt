-- The options of `cover`, by their words.
use Rattle.std.specs.Prelude.{◌≡◌, ◌≤◌, ℕ, Bool, true, false, if◌then◌else◌, List, [], ◌∷◌, Option, None, Some, is_some, codes}
use Rattle.ace_call.specs.Number.{IsNumber}
use Rattle.ace_cover.specs.declared.listing.Listing.{Listing}
use Rattle.ace_cover.specs.declared.listing.Listing.TheVariants as listing
use Rattle.ace_tool.specs.declared.cover_options.CoverFlag.{CoverFlag}
use Rattle.ace_tool.specs.declared.cover_options.CoverFlag.TheVariants as flag
use Rattle.ace_tool.specs.declared.cover_options.CoverValued.{CoverValued}
use Rattle.ace_tool.specs.declared.cover_options.CoverValued.TheVariants as option

-- those that stand alone
abbrev pub cover_flags : List (List ℕ × CoverFlag)
cover_flags =
    (codes "--all", flag.All) ∷ (codes "--hits", flag.Hits) ∷ (codes "--json", flag.Json)
    ∷ (codes "--merge", flag.Merge) ∷ []

-- those that have a value, which is the next word or stands behind `=`
abbrev pub cover_valued : List (List ℕ × CoverValued)
cover_valued = (codes "--list", option.List) ∷ (codes "--min", option.Least) ∷ []

-- the options that were given, with their values as they stand
pub record CoverGiven : Type 0 where
  pub list : Option (List ℕ)
  pub least : Option (List ℕ)
  pub merge : Bool
  pub listing : Listing
  pub json : Bool

abbrev pub none_of_cover : CoverGiven
none_of_cover = record {
  list = None;
  least = None;
  merge = false;
  listing = listing.Few;
  json = false;
}

-- One more that stands alone, which may be given again; of `--all` and `--hits` the last one
-- counts.
abbrev pub with_cover_flag : CoverFlag → CoverGiven → CoverGiven
with_cover_flag flag.All given = record given { listing = listing.All }
with_cover_flag flag.Hits given = record given { listing = listing.Counts }
with_cover_flag flag.Json given = record given { json = true }
with_cover_flag flag.Merge given = record given { merge = true }

-- one more with a value, which can be given once
abbrev pub with_cover_value : CoverValued → List ℕ → CoverGiven → Option CoverGiven
with_cover_value option.List value given =
    if is_some given.list then None else Some (record given { list = Some value })
with_cover_value option.Least value given =
    if is_some given.least then None else Some (record given { least = Some value })

-- The word of `--min` says so many of a hundred; without one none has to be hit.
abbrev pub IsLeast : Option (List ℕ) → ℕ → Type 0
IsLeast None least = least ≡ 0
IsLeast (Some word) least = IsNumber word least × (least ≤ 100)
