-- What a CR answers, and a response that may go with a state.
use Rattle.std.specs.Prelude.{ℕ, ◌+◌, Bool, true, false, if◌then◌else◌, Option, option_and_then}
use Rattle.ace_codes.specs.declared.kind.SnoopKind.{SnoopKind}
use Rattle.ace_codes.specs.declared.kind.SnoopKind.TheVariants.{MakeInvalid}
use Rattle.ace_codes.specs.declared.state.LineState.{LineState}
use Rattle.ace_codes.specs.Snoops.{ac_kind_of}
use Rattle.ace_tables.specs.States.{is_invalid}
use Rattle.ace_model.specs.declared.snoops.Snoop.{Snoop}
use Rattle.ace_model.specs.Snoops.{answered}
use Rattle.ace_model.specs.Trace.{Trace}

-- the kind of the snoop that the port's next CR answers
abbrev pub answered_kind : Trace → ℕ → Option SnoopKind
answered_kind past p = option_and_then (λ (s : Snoop). ac_kind_of s.snoop) (answered past p)

-- the snoop is one that data never answer
abbrev pub is_dataless : SnoopKind → Bool
is_dataless MakeInvalid = true
is_dataless _ = false

-- the response with DataTransfer where the snoop takes data, IsShared where the line is kept, and
-- PassDirty or not
abbrev pub response_to : SnoopKind → LineState → Bool → ℕ
response_to kind next passes =
    (if is_dataless kind then 0 else 1) + (if passes then 4 else 0)
    + (if is_invalid next then 0 else 8)
