-- What a CR answers.
use Rattle.std.specs.Prelude.{ℕ, ◌≡◌, Some}
use Rattle.ace_codes.specs.declared.kind.SnoopKind.{SnoopKind}
use Rattle.ace_codes.specs.Snoops.{ac_kind_of}
use Rattle.ace_model.specs.declared.snoops.Snoop.{Snoop}
use Rattle.ace_model.specs.Snoops.{answered}
use Rattle.ace_model.specs.Trace.{Trace}

-- the snoop that the port's next CR answers, and its kind
pub record IsAnswered (past : Trace) (p : ℕ) (x : Snoop) (k : SnoopKind) : Type 0 where
  pub next : answered past p ≡ Some x
  pub kind : ac_kind_of x.snoop ≡ Some k
