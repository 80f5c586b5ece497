-- The traces that a batch is asked for.
use Rattle.std.specs.Prelude.{◌≡◌, ◌++◌, ℕ, Bool, true, false, List, [], Option, None, Some, IfSome}
use Rattle.ace_batch.specs.Shards.{part_of}
use Rattle.ace_paths.specs.Lists.{paths_of}
use Rattle.ace_tool.specs.Asked.{is_input}
use Rattle.ace_tool.specs.BatchAsked.{BatchAsked}
use Rattle.ace_tool.specs.Held.{Held, told_of}

-- These bytes list these traces.
abbrev pub Lists : Option (List ℕ) → List (List ℕ) → Type 0
Lists told listed = IfSome told (λ bytes. listed ≡ paths_of bytes)

-- The list of this name, which may be that of standard input, lists these traces; without one there
-- are none.
abbrev pub IsListedBy : Bool → Option (List ℕ) → Option (List ℕ) → List (List ℕ) → Type 0
IsListedBy true told input listed = Lists input listed
IsListedBy false told input listed = Lists told listed

abbrev pub IsListed : (List ℕ → Held) → Option (List ℕ) → Option (List ℕ) → List (List ℕ) → Type 0
IsListed holds None input listed = listed ≡ []
IsListed holds (Some name) input listed =
    IsListedBy (is_input name) (told_of (holds name)) input listed

-- These are the traces that are to be checked: of those that are named, and then of those that are
-- listed, the part that is asked for.
pub record AreAsked (asked : BatchAsked) (holds : List ℕ → Held) (input : Option (List ℕ))
    (paths : List (List ℕ)) : Type 0 where
  pub listed : List (List ℕ)
  pub list : IsListed holds asked.extras.list input listed
  pub part : paths ≡ part_of asked.extras.part asked.extras.parts (asked.traces ++ listed)
