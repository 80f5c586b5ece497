-- The transfers of reads, asked of what is kept of their line.
use Rattle.std.specs.Prelude.{ℕ, ◌≡◌, ◌==◌, Bool, true, not, ◌&&◌, Option, Some, None, if◌then◌else◌}
use Rattle.ace_codes.specs.Responses.{is_shared, passes_dirty}
use Rattle.ace_event.specs.declared.header.Header.{Header}
use Rattle.ace_model.specs.declared.transactions.Transaction.{Transaction}
use Rattle.ace_portck.specs.declared.target.Progress.{Progress}
use Rattle.ace_lineck.specs.declared.grant.Grant.{Grant}
use Rattle.ace_lineck.specs.declared.record.LineRecord.{LineRecord}
use Rattle.ace_lineck.specs.Kept.{may_have_beat, fits_bits, fits_reply, has_passed_for, is_shared_under, is_its}

-- the least of K18 to K20 that a transfer of a line read breaks; `failed` says whether it is an
-- exclusive store that failed
abbrev pub rule_of_beat : Header → Bool → LineRecord → Progress → ℕ → ℕ → Option ℕ
rule_of_beat h failed kept x resp word =
    if may_have_beat h failed kept.grant kept.states x resp
    then (if fits_bits h (has_passed_for kept.grant x.transaction) (is_shared_under kept.grant)
    resp x
    then (if fits_reply kept.grant kept.memory word x then None else Some 20)
    else Some 19)
    else Some 18

-- a granted transaction of the same place is this one
abbrev pub IsOfPlace : Option Grant → Transaction → Type 0
IsOfPlace grant x = (g : Grant) → grant ≡ Some g → is_its g x ≡ true → g.transaction ≡ x

-- the least of K19 and K20 that a transfer without data breaks: it has neither PassDirty nor
-- IsShared, and the word 0
abbrev pub rule_of_dataless : ℕ → ℕ → Option ℕ
rule_of_dataless resp word =
    if not (passes_dirty resp) && not (is_shared resp) then (if word == 0 then None else Some 20)
    else Some 19
