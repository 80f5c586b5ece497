-- What is told of the file of a name.
use Rattle.std.specs.Prelude.{ℕ, Bool, true, false, List, Option, None, Some}
use Rattle.ace_tool.specs.declared.folder.OpenErr.{OpenErr}
use Rattle.ace_tool.specs.declared.folder.OpenErr.TheVariants.{NotThere, NoName, NotAllowed, Failed}

-- nothing; or that there is no such file; or what it holds
pub data Held : Type 0 where
  Untold : Held
  Missing : Held
  Bytes : List ℕ → Held

-- its bytes, where they are told
abbrev pub told_of : Held → Option (List ℕ)
told_of (Bytes bytes) = Some bytes
told_of held = None

-- it isn't told that there is such a file
abbrev pub may_be_missing : Held → Bool
may_be_missing (Bytes bytes) = false
may_be_missing held = true

-- a file that could not be opened for this is missing
abbrev pub is_absence : OpenErr → Bool
is_absence NotThere = true
is_absence NoName = true
is_absence NotAllowed = false
is_absence Failed = false
