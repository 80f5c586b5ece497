-- Which rows the policy of a script, or of a caller, may pick.
use Rattle.std.specs.Prelude.{Bool, List, Contains}
use Rattle.ace_codes.specs.declared.state.LineState.{LineState}
use Rattle.ace_codes.specs.declared.kind.SnoopKind.{SnoopKind}
use Rattle.ace_tables.specs.declared.rows.Row.{Row}
use Rattle.ace_tables.specs.Answers.{snoop_rows}
use Rattle.ace_policy.specs.declared.chosen.Chosen.{Chosen}
use Rattle.ace_policy.specs.declared.chosen.Chosen.TheVariants.{Keep, Eager, Mixed, Listed}
use Rattle.ace_policy.specs.Policies.{keep_rows, eager_rows}
use Rattle.ace_policy.specs.Permitted.{keep_permitted, eager_permitted}

abbrev pub chosen_rows : Chosen → SnoopKind → LineState → Bool → List Row
chosen_rows Keep = keep_rows
chosen_rows Eager = eager_rows
chosen_rows (Mixed mixed) = snoop_rows
chosen_rows (Listed listed) = snoop_rows

-- all of them are permitted
pub chosen_permitted : (policy : Chosen) (snoop : SnoopKind) (held : LineState) (update : Bool)
    (row : Row) → Contains (chosen_rows policy snoop held update) row
    → Contains (snoop_rows snoop held update) row
chosen_permitted Keep = keep_permitted
chosen_permitted Eager = eager_permitted
chosen_permitted (Mixed mixed) = λ _ _ _ _ h. h
chosen_permitted (Listed listed) = λ _ _ _ _ h. h
