-- The ports of which it is known that they aren't enabled.
use Rattle.std.specs.Prelude.{ℕ, ◌≡◌, Bool, true, false, slice_get, unwrap_or}
use Rattle.ace_model.specs.Plans.{Plan}
use Rattle.ace_model.specs.Trace.{Trace}
use Rattle.ace_runs.specs.Steps.{is_enabled}
use Rattle.ace_fabric.specs.declared.idle.IdlePorts.{IdlePorts}

-- the port is one of them
abbrev pub is_idle : IdlePorts → ℕ → Bool
is_idle s p = unwrap_or (slice_get s.ports p) false

-- None of them is enabled.
abbrev pub AreIdle : Plan → Trace → IdlePorts → Type 0
AreIdle plan past s = (p : ℕ) → is_idle s p ≡ true → is_enabled plan past p ≡ false
