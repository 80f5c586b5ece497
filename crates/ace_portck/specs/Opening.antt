-- What is kept of the opening memory says of a trace.
use Rattle.std.specs.Prelude.{ℕ, ◌≡◌, Bool, true, false, nat_lt}
use Rattle.ace_model.specs.AddressRules.{is_opened_below}
use Rattle.ace_model.specs.Trace.{Trace}
use Rattle.ace_portck.specs.declared.opening.OpeningMemory.{OpeningMemory}
use Rattle.ace_portck.specs.declared.opening.OpeningMemory.TheVariants.{Empty, Opened, Closed}

-- a MEM of this address may come next
abbrev pub opens_above : OpeningMemory → ℕ → Bool
opens_above Empty addr = true
opens_above (Opened last) addr = nat_lt last addr
opens_above Closed addr = false

-- it says whether every event is a MEM with a smaller address
pub record OpeningStands (past : Trace) (s : OpeningMemory) : Type 0 where
  pub below : (addr : ℕ) → is_opened_below past addr ≡ opens_above s addr
