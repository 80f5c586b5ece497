-- What an error of reading a script says of the bytes and of their source.
use Rattle.std.specs.Prelude.{◌≡◌, ◌≢◌, ◌<◌, ◌+◌, ⊤, ℕ, List, [], length, Option}
use Rattle.std.specs.Io.KnownBytes.{Consumes}
use Rattle.ace_io.specs.Faults.{Rose}
use Rattle.ace_event.specs.Text.{line_text}
use Rattle.ace_grammar.specs.Reading.{IfTold}
use Rattle.ace_model.specs.declared.plans.PlanOp.{PlanOp}
use Rattle.ace_model.specs.Plans.{Plan, IsRightAfter, longer, most_operations}
use Rattle.ace_script.specs.declared.error.PlanErr.{PlanErr}
use Rattle.ace_script.specs.declared.error.PlanErr.TheVariants.{Malformed, TooManyOps, ReadFault, NoMemory}
use Rattle.ace_script.specs.Text.{operation_text}
use Rattle.ace_script.specs.Grammar.{OperationFits}
use Rattle.ace_script.specs.Reading.{HeaderLine, Reads, Full, IsBadAmong, HasReason, HasBadLine, IsMalformed}

-- Why there is no plan, by the bytes that the source had left, and its count of faults before and
-- now.
abbrev pub HasNoPlan : PlanErr → Option (List ℕ) → ℕ → ℕ → Type 0
HasNoPlan (Malformed line reason) old before now =
    IfTold old (λ bytes. IsMalformed bytes line reason) × (now ≡ before)
HasNoPlan TooManyOps old before now =
    IfTold old (λ bytes. (plan : Plan) × Reads bytes plan Full) × (now ≡ before)
HasNoPlan ReadFault old before now = Rose before now
HasNoPlan NoMemory old before now = now ≡ before

-- Why these header lines, the first of which has this number, weren't read.
abbrev pub HasNoHeader : List HeaderLine → ℕ → PlanErr → Option (List ℕ) → ℕ → ℕ → Type 0
HasNoHeader kinds first (Malformed line reason) old before now =
    IfTold old (λ bytes. IsBadAmong kinds first bytes line reason) × (now ≡ before)
HasNoHeader kinds first TooManyOps old before now = ⊥
HasNoHeader kinds first ReadFault old before now = Rose before now
HasNoHeader kinds first NoMemory old before now = ⊥

-- Why no operation was read behind those of the plan.
abbrev pub HasNoNext : Plan → PlanErr → Option (List ℕ) → ℕ → ℕ → Type 0
HasNoNext plan (Malformed line reason) old before now =
    (length plan.operations < most_operations) × (line ≡ length plan.operations + 5)
    × IfTold old (λ bytes. HasBadLine plan.header plan.operations bytes reason) × (now ≡ before)
HasNoNext plan TooManyOps old before now =
    (length plan.operations ≡ most_operations) × IfTold old (λ bytes. bytes ≢ []) × (now ≡ before)
HasNoNext plan ReadFault old before now = Rose before now
HasNoNext plan NoMemory old before now = now ≡ before

-- Why the line isn't that of one more operation, or there was no memory for it.
abbrev pub HasNoOperation : Plan → PlanErr → List ℕ → Type 0
HasNoOperation plan (Malformed number reason) line =
    (number ≡ length plan.operations + 5) × HasReason plan.header plan.operations line reason
HasNoOperation plan TooManyOps line = ⊥
HasNoOperation plan ReadFault line = ⊥
HasNoOperation plan NoMemory line = ⊤

-- The line is that of one more operation of the plan.
abbrev pub IsOneMore : Plan → Plan → List ℕ → Type 0
IsOneMore old new line =
    (o : PlanOp) × IsRightAfter old.header old.operations o × OperationFits o
    × (operation_text o ≡ line) × (new ≡ longer old o)

-- The line of one more operation was taken, with its line feed.
abbrev pub TakesOne : Plan → Plan → Option (List ℕ) → Option (List ℕ) → Type 0
TakesOne old new left left' =
    (line : List ℕ) × IsOneMore old new line × (length old.operations < most_operations)
    × Consumes left left' (line_text line)
