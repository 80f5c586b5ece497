-- The operations of a port.
use Rattle.std.specs.Prelude.{List}
use Rattle.ace_model.specs.declared.plans.Op.{Op}

-- the operations of a port, in order
pub record Operations : Type 0 where
  pub items : List Op
