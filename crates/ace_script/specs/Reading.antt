-- How bytes read as a script. The text of a plan is written and compared here, and never cut.
use Rattle.std.specs.Prelude.{◌≡◌, ◌≢◌, ℕ, ◌+◌, ◌<◌, ◌≤◌, ◌⊎◌, List, [], ◌∷◌, ◌++◌, length, Err}
use Rattle.ace_event.specs.Text.{line_text}
use Rattle.ace_event.specs.declared.header.Header.{Header}
use Rattle.ace_grammar.specs.Reading.{IsPortsLine}
use Rattle.ace_grammar.specs.Lines.{IsFirstLine, HasNoLine}
use Rattle.ace_grammar.specs.Reasons.{AreFields}
use Rattle.ace_model.specs.declared.plans.PlanOp.{PlanOp}
use Rattle.ace_model.specs.declared.plans.PolicyWord.{PolicyWord}
use Rattle.ace_model.specs.Plans.{Plan, most_operations}
use Rattle.ace_script.specs.declared.reason.Reason.{Reason}
use Rattle.ace_script.specs.declared.reason.Reason.TheVariants.{P1, P7}
use Rattle.ace_script.specs.Text.{first_text, cache_text, policy_text, plan_text}
use Rattle.ace_script.specs.Grammar.{PolicyFits, IsScript}
use Rattle.ace_script.specs.Operations.{operation_of}

-- ---- header lines

-- the lines of a header, in order: the version, the ports, the lines of a cache, and how snoops are
-- answered
pub data HeaderLine : Type 0 where
  VersionLine : HeaderLine
  PortsLine : HeaderLine
  CacheLine : HeaderLine
  PolicyLine : HeaderLine

abbrev pub header_lines : List HeaderLine
header_lines = VersionLine ∷ PortsLine ∷ CacheLine ∷ PolicyLine ∷ []

abbrev pub IsCacheLine : List ℕ → Type 0
IsCacheLine line = (ways : ℕ) × (1 ≤ ways) × (ways ≤ 32) × (cache_text ways ≡ line)

abbrev pub IsPolicyLine : List ℕ → Type 0
IsPolicyLine line = (policy : PolicyWord) × PolicyFits policy × (policy_text policy ≡ line)

-- such a header line, without its line feed; the second one is that of a trace of version 1
abbrev pub IsHeaderLine : HeaderLine → List ℕ → Type 0
IsHeaderLine VersionLine line = line ≡ first_text
IsHeaderLine PortsLine line = IsPortsLine 1 line
IsHeaderLine CacheLine line = IsCacheLine line
IsHeaderLine PolicyLine line = IsPolicyLine line

-- A header line stands at the front, and it is malformed for this reason: it is missing or has no
-- end, or it isn't as it has to be.
abbrev pub IsBadHere : HeaderLine → List ℕ → Reason → Type 0
IsBadHere kind bytes reason =
    ((reason ≡ P1) × HasNoLine bytes)
    ⊎ ((reason ≡ P7) × ((line : List ℕ) × IsFirstLine line bytes × ¬ IsHeaderLine kind line))

-- Of these header lines, the first of which has the number `first`, that of this number is the
-- first that is malformed, for this reason.
abbrev pub IsBadAmong : List HeaderLine → ℕ → List ℕ → ℕ → Reason → Type 0
IsBadAmong [] first bytes number reason = ⊥
IsBadAmong (kind ∷ kinds) first bytes number reason =
    ((number ≡ first) × IsBadHere kind bytes reason)
    ⊎ ((line : List ℕ) × (rest : List ℕ) × IsHeaderLine kind line × (bytes ≡ line_text line ++ rest)
    × IsBadAmong kinds (first + 1) rest number reason)

-- The header line of this number, 1 to 4, is the first that is malformed, for this reason.
abbrev pub HasBadHeader : List ℕ → ℕ → Reason → Type 0
HasBadHeader bytes number reason = IsBadAmong header_lines 1 bytes number reason

-- ---- operations

-- A line, without its line feed, has this reason behind these operations, the least that applies.
abbrev pub HasReason : Header → List PlanOp → List ℕ → Reason → Type 0
HasReason h before line reason =
    (fields : List (List ℕ)) × AreFields line fields × (operation_of h before fields ≡ Err reason)

-- A line stands at the front, and it is malformed for this reason.
abbrev pub HasBadLine : Header → List PlanOp → List ℕ → Reason → Type 0
HasBadLine h before bytes reason =
    ((reason ≡ P1) × (bytes ≢ []) × HasNoLine bytes)
    ⊎ ((line : List ℕ) × IsFirstLine line bytes × HasReason h before line reason)

-- How bytes end: after a whole script, after the most operations of a script with bytes left, or
-- before a malformed line with its number and reason. The header has the lines 1 to 4.
pub data Ending : Type 0 where
  Whole : Ending
  Full : Ending
  Bad : ℕ → Reason → Ending

-- what stands behind the operations of a script, by the ending
abbrev pub Ends : Plan → Ending → List ℕ → Type 0
Ends plan Whole rest = rest ≡ []
Ends plan Full rest = (length plan.operations ≡ most_operations) × (rest ≢ [])
Ends plan (Bad line reason) rest =
    (length plan.operations < most_operations) × (line ≡ length plan.operations + 5)
    × HasBadLine plan.header plan.operations rest reason

-- The bytes are the text of this plan, which a script can have, and then end so. Bytes with a bad
-- header have no such reading.
pub record Reads (bytes : List ℕ) (plan : Plan) (ending : Ending) : Type 0 where
  pub script : IsScript plan
  pub text : (rest : List ℕ) × (bytes ≡ plan_text plan ++ rest) × Ends plan ending rest

-- The bytes are malformed: in a header line, or in the line of an operation.
abbrev pub IsMalformed : List ℕ → ℕ → Reason → Type 0
IsMalformed bytes line reason =
    HasBadHeader bytes line reason ⊎ ((plan : Plan) × Reads bytes plan (Bad line reason))
