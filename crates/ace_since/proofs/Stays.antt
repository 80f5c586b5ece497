-- A port's state of a line, and since when: what is kept of it after an event.
use Rattle.std.proofs.Common.{◌≡◌, ℕ, true, if◌then◌else◌, refl, inl, inr}
use Rattle.std.proofs.lemmas.Bool.{cases_Bool}
use Rattle.ace_codes.specs.declared.state.LineState.{LineState}
use Rattle.ace_codes.specs.declared.state.LineState.TheVariants.{I, UC, UD, SC, SD}
use Rattle.ace_since.specs.Kept.{stay_after}
use Rattle.ace_since.specs.declared.line_since.Stay.{Stay}
use Rattle.ace_tables.specs.States.{same_state}

same_state-itself : (st : LineState) → same_state st st ≡ true
same_state-itself I = refl
same_state-itself UC = refl
same_state-itself UD = refl
same_state-itself SC = refl
same_state-itself SD = refl

same_state-is : (st other : LineState) → same_state st other ≡ true → st ≡ other
same_state-is I I same = refl
same_state-is UC UC same = refl
same_state-is UD UD same = refl
same_state-is SC SC same = refl
same_state-is SD SD same = refl
same_state-is _ _ same = cc

-- what there is to keep, by the state before and the state now
abbrev pub stay_by : LineState → LineState → ℕ → ℕ → Stay
stay_by now before since number =
    record { state = now; since = if same_state now before then since else number }

pub stays : (now before : LineState) (since number : ℕ) → now ≡ before
    → stay_by now before since number ≡ record { state = before; since = since }
stays now before since number same = rw (same, same_state-itself before) refl

pub moves : (now before : LineState) (since number : ℕ)
    → stay_after number now (record { state = before; since = since }) ≡ stay_by now before since number
moves now before since number =
    elim (cases_Bool (same_state now before)) [
      | inl same ↦ let is = same_state-is now before same in rw (is, same_state-itself before) refl
      | inr other ↦ rw other refl
    ]
