-- How the transactions of a line use it: they are all NoSnoop, or none is.
use Rattle.std.specs.Prelude.{ℕ, Bool, true, false, not, if◌then◌else◌, [], ◌∷◌, length, Option, Some, None}
use Rattle.ace_model.specs.declared.transactions.Transaction.{Transaction}
use Rattle.ace_model.specs.Trace.{Trace}
use Rattle.ace_model.specs.Transactions.{is_on, issued}
use Rattle.ace_model.specs.AddressRules.{is_no_snoop}
use Rattle.ace_lineck.specs.declared.record.Use.{Use}
use Rattle.ace_lineck.specs.declared.record.Use.TheVariants.{Unknown, Shareable, NoSnoop}

-- the use of a line by a NoSnoop transaction, or another
abbrev pub use_for : Bool → Use
use_for unshared = if unshared then NoSnoop else Shareable

-- how the transaction uses its line
abbrev pub use_by : Transaction → Use
use_by x = use_for (is_no_snoop x)

-- that of the first one, where it is on the line, else the older use
abbrev pub newest_use : Option Transaction → ℕ → Use → Use
newest_use None l older = older
newest_use (Some x) l older = if is_on x l then use_by x else older

-- how the last transaction of the line uses it; Unknown where there is none
abbrev pub use_of : Trace → ℕ → Use
use_of [] l = Unknown
use_of (e ∷ past) l = newest_use (issued (length past) e) l (use_of past l)

-- a transaction goes with the use of its line: a NoSnoop one, or another
abbrev pub goes_with : Use → Bool → Bool
goes_with Unknown unshared = true
goes_with Shareable unshared = not unshared
goes_with NoSnoop unshared = unshared

abbrev pub is_unknown : Use → Bool
is_unknown Unknown = true
is_unknown _ = false
