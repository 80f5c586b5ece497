-- Where no port is kept as idle, what is kept of idle ports holds.
use Rattle.std.proofs.Common.{◌≡◌, ◌∙◌, ℕ, true, false, sym}
use Rattle.ace_model.specs.Plans.{Plan}
use Rattle.ace_model.specs.Trace.{Trace}
use Rattle.ace_fabric.specs.Idle.{AreIdle, is_idle}
use Rattle.ace_fabric.specs.declared.idle.IdlePorts.{IdlePorts}

pub none_idle : (plan : Plan) (past : Trace) (s : IdlePorts) → ((p : ℕ) → is_idle s p ≡ false) → AreIdle plan past s
none_idle plan past s none = λ p some. let bad : false ≡ true = sym (none p) ∙ some in cc
