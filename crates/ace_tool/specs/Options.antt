-- The options of `check`, by their words.
use Rattle.std.specs.Prelude.{◌==◌, ℕ, Bool, true, false, if◌then◌else◌, List, [], ◌∷◌, length, nat_lt, Option, None, Some, is_some, codes}
use Rattle.std.specs.List.{position_or_len}
use Rattle.ace_tool.specs.declared.check_options.EndRules.{EndRules}
use Rattle.ace_tool.specs.declared.options.Flag.{Flag}
use Rattle.ace_tool.specs.declared.options.Flag.TheVariants.{NoSide, RequireEnd, AllowCut, Drained}
use Rattle.ace_tool.specs.declared.options.Valued.{Valued}
use Rattle.ace_tool.specs.declared.options.Valued.TheVariants.{MostEvents, MostLines, Side}

-- those that stand alone
abbrev pub flags : List (List ℕ × Flag)
flags =
    (codes "--no-side", NoSide) ∷ (codes "--require-end", RequireEnd)
    ∷ (codes "--allow-cut", AllowCut) ∷ (codes "--drained", Drained) ∷ []

-- those that have a value, which is the next word or stands behind `=`
abbrev pub valued : List (List ℕ × Valued)
valued =
    (codes "--most-events", MostEvents) ∷ (codes "--most-lines", MostLines) ∷ (codes "--side", Side)
    ∷ []

-- `=` stands in the word
abbrev pub has_equals : List ℕ → Bool
has_equals word = nat_lt (position_or_len (λ b. b == 61) word) (length word)

-- the options that were given, with their values as they stand
pub record Given : Type 0 where
  pub most_events : Option (List ℕ)
  pub most_lines : Option (List ℕ)
  pub side : Option (List ℕ)
  pub no_side : Bool
  pub ends : EndRules

abbrev pub none_given : Given
none_given = record {
  most_events = None;
  most_lines = None;
  side = None;
  no_side = false;
  ends = record { require_end = false; allow_cut = false; drained = false };
}

-- one more that stands alone, which may be given again
abbrev pub with_flag : Flag → Given → Given
with_flag NoSide given = record given { no_side = true }
with_flag RequireEnd given = record given { ends = record given.ends { require_end = true } }
with_flag AllowCut given = record given { ends = record given.ends { allow_cut = true } }
with_flag Drained given = record given { ends = record given.ends { drained = true } }

-- one more with a value, which can be given once
abbrev pub with_value : Valued → List ℕ → Given → Option Given
with_value MostEvents value given =
    if is_some given.most_events then None else Some (record given { most_events = Some value })
with_value MostLines value given =
    if is_some given.most_lines then None else Some (record given { most_lines = Some value })
with_value Side value given =
    if is_some given.side then None else Some (record given { side = Some value })
