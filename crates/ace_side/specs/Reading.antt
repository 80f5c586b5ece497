-- How bytes read as a side file. Its text is written and compared here, and never cut.
use Rattle.std.specs.Prelude.{◌≡◌, ◌≢◌, ◌<◌, ◌+◌, ⊤, ℕ, ◌⊎◌, List, [], ◌∷◌, ◌++◌, length, Some, None}
use Rattle.ace_event.specs.Text.{line_text}
use Rattle.ace_grammar.specs.Lines.{BeginsWith, IsFirstLine, HasNoLine}
use Rattle.ace_side.specs.declared.line.SideLine.{SideLine}
use Rattle.ace_side.specs.declared.reason.Reason.{Reason}
use Rattle.ace_side.specs.declared.reason.Reason.TheVariants.{S1}
use Rattle.ace_side.specs.Text.{first_text, side_text, side_file}
use Rattle.ace_side.specs.Grammar.{Fits}
use Rattle.ace_side.specs.Reasons.{IsTextOf, IsNoLine}
use Rattle.ace_side.specs.Order.{order_reason}

-- the first line is missing, or it is another one
abbrev pub HasBadStart : List ℕ → Type 0
HasBadStart bytes = ¬ BeginsWith bytes (line_text first_text)

-- A line, without its line feed, has this reason behind these lines, the least that applies: by
-- itself, or by those.
abbrev pub HasReason : List SideLine → List ℕ → Reason → Type 0
HasReason past bytes reason =
    IsNoLine bytes reason ⊎ ((line : SideLine) × IsTextOf line bytes
    × (order_reason past line ≡ Some reason))

-- A line stands at the front, behind these, and it is malformed for this reason.
abbrev pub HasBadLine : List SideLine → List ℕ → Reason → Type 0
HasBadLine past bytes reason =
    ((reason ≡ S1) × (bytes ≢ []) × HasNoLine bytes)
    ⊎ ((line : List ℕ) × IsFirstLine line bytes × HasReason past line reason)

-- The line can stand behind these: its fields have their forms, and with its line feed it has at
-- most 256 bytes.
abbrev pub CanStand : List SideLine → SideLine → Type 0
CanStand past line = Fits line × (length (side_text line) < 256) × (order_reason past line ≡ None)

-- These are lines of a side file, the newest first.
abbrev pub AreLines : List SideLine → Type 0
AreLines [] = ⊤
AreLines (line ∷ past) = AreLines past × CanStand past line

-- How bytes end: behind a whole line, or before a malformed line with its number and reason.
pub data Ending : Type 0 where
  Whole : Ending
  Bad : ℕ → Reason → Ending

abbrev pub Ends : List SideLine → Ending → List ℕ → Type 0
Ends past Whole rest = rest ≡ []
Ends past (Bad number reason) rest = (number ≡ length past + 2) × HasBadLine past rest reason

-- The bytes are the text of these lines of a side file, the newest first, and then end so. Bytes
-- with a bad first line have no such reading.
pub record Reads (bytes : List ℕ) (past : List SideLine) (end : Ending) : Type 0 where
  pub lines : AreLines past
  pub text : (rest : List ℕ) × (bytes ≡ side_file past ++ rest) × Ends past end rest
