-- What the masters of all ports keep that go by steps.
use Rattle.std.specs.Prelude.{ℕ, ◌≡◌, ◌<◌, true, false, Option}
use Rattle.ace_model.specs.declared.transactions.Transaction.{Transaction}
use Rattle.ace_model.specs.Plans.{Plan}
use Rattle.ace_model.specs.Trace.{Trace}
use Rattle.ace_model.specs.Transactions.{is_ace}
use Rattle.ace_runs.specs.Operations.{operations_of}
use Rattle.ace_portck.specs.declared.target.WriteData.{WriteData}
use Rattle.ace_master.specs.AcePort.{AceTells}
use Rattle.ace_master.specs.Lite.{LiteTells}

-- What the master of an ACE port keeps, whichever data it hasn't sent.
pub record AceKeeps (plan : Plan) (past : Trace) (p : ℕ) : Type 0 where
  pub unsent : Option WriteData
  pub tells : AceTells plan past p (operations_of plan p) unsent

-- What the master of an ACE-Lite port keeps, whatever it has issued and hasn't sent.
pub record LiteKeeps (plan : Plan) (past : Trace) (p : ℕ) : Type 0 where
  pub reads : Option Transaction
  pub writes : Option Transaction
  pub unsent : Option WriteData
  pub tells : LiteTells plan past p (operations_of plan p) reads writes unsent

-- What the master of the port keeps.
pub record PortKeeps (plan : Plan) (past : Trace) (p : ℕ) : Type 0 where
  pub ace : is_ace plan.header p ≡ true → AceKeeps plan past p
  pub lite : p < plan.header.ports → is_ace plan.header p ≡ false → LiteKeeps plan past p

-- What the masters of all ports keep.
abbrev pub Keeps : Plan → Trace → Type 0
Keeps plan past = (p : ℕ) → PortKeeps plan past p
