-- A worked plan of one ACE port.
use Rattle.std.specs.Prelude.{[], ◌∷◌}
use Rattle.ace_model.specs.declared.plans.Op.TheVariants.{Cs}
use Rattle.ace_model.specs.declared.plans.PolicyWord.TheVariants.{Keep}
use Rattle.ace_model.specs.Plans.{Plan}

-- the port cleans a line
abbrev pub cleaning_plan : Plan
cleaning_plan = record {
  header = record { version = 1; ports = 1; ace = 1 };
  ways = 1;
  policy = Keep;
  operations = record { port = 0; op = Cs 64 } ∷ [];
}
