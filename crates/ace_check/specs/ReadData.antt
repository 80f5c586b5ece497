-- What an R is to the read that it belongs to.
use Rattle.std.specs.Prelude.{ℕ, ◌≡◌, Bool, Some, None, option_map}
use Rattle.ace_codes.specs.declared.kind.ArKind.{ArKind}
use Rattle.ace_event.specs.declared.event.Channel.TheVariants.{Read}
use Rattle.ace_event.specs.declared.event.Event.TheVariants.{R}
use Rattle.ace_event.specs.declared.header.Header.{Header}
use Rattle.ace_model.specs.Accepted.{least_of}
use Rattle.ace_model.specs.Shares.{port_rules}
use Rattle.ace_model.specs.Trace.{Trace}
use Rattle.ace_model.specs.Transactions.{outstanding, read_kind}
use Rattle.ace_portck.specs.Targets.{progress_of}
use Rattle.ace_portck.specs.declared.target.Progress.{Progress}

-- The R is the next transfer of this read, which is outstanding and of this kind: it breaks no rule
-- about its port.
pub record IsNextTransfer (h : Header) (past : Trace) (port id resp : ℕ) (last : Bool) (word : ℕ)
    (x : Progress) (k : ArKind) : Type 0 where
  pub served : option_map (progress_of h past) (outstanding h past port Read id) ≡ Some x
  pub kind : read_kind x.transaction ≡ Some k
  pub kept : least_of port_rules h past (R port id resp last word) ≡ None
