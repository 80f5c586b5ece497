-- In a trace for which an engine may stand, there is room for one more line with passed data.
use Rattle.std.proofs.Common.{◌≡◌, ℕ, ◌≤◌, ◌<◌, true, List, length, sym, ◌∙◌, inl, inr, arith}
use Rattle.std.proofs.lemmas.Bool.{cases_Bool}
use Rattle.ace_model.specs.Grants.{granted, has_passed_data}
use Rattle.ace_model.specs.Plans.{Plan}
use Rattle.ace_model.specs.Trace.{Trace}
use Rattle.ace_model.proofs.General.Options.{is_some_and-is}
use Rattle.ace_runs.proofs.Few.EachPort.{three-lines-for-each}
use Rattle.ace_engine.specs.Engines.{IsLegal}
use Rattle.ace_update.specs.declared.passed.PassedLines.{PassedLines}
use Rattle.ace_update.specs.Passed.{PassedStand, is_among, most_lines, times_among}
use Rattle.ace_update.proofs.LineLists.{none-among}

some-among : (l : ℕ) (xs : List ℕ) → 1 ≤ times_among l xs → is_among l xs ≡ true
some-among l xs some = elim (cases_Bool (is_among l xs)) [
  | inl t ↦ t
  | inr f ↦ let none = none-among l xs f in absurd (omega (arith, some, none))
]

-- there is room for one more
pub few-lines-there : (plan : Plan) (past : Trace) (s : PassedLines) → IsLegal plan past → PassedStand plan.header past s → length s.lines.items < most_lines
few-lines-there plan past s legal stands =
    let h = plan.header in
    let few = three-lines-for-each plan past s.lines.items legal.accepted legal.follows legal.lean stands.once (λ l some.
    let x = is_some_and-is (granted h past l) (has_passed_data h past) (sym (stands.are l) ∙ some-among l s.lines.items some) in (x.0, x.1)) in
    let most = legal.right.few in
    omega (arith, few, most)
