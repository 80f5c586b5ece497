-- Where lifelines are.
use Rattle.std.proofs.Common.{◌≡◌, ℕ, ◌+◌, ◌*◌, ◌/◌, ◌<◌, ◌≤◌, ◌∙◌, Bool, true, false, nat_lt, if◌then◌else◌, refl, arith}
use Rattle.ace_chart.specs.Places.{column_of, left_ports, width, x_of}
use Rattle.ace_chart.specs.declared.places.Lifeline.{Lifeline}
use Rattle.ace_chart.specs.declared.places.Lifeline.TheVariants.{Port, Interconnect, Memory}

-- no column is right of that of memory
pub column_within : (ports : ℕ) (at : Lifeline) → 1 ≤ ports → column_of ports at ≤ ports + 1
column_within ports (Port p) some = grind (arith, some)
column_within ports Interconnect some = omega (arith, some)
column_within ports Memory some = omega arith

pub right_of : (ports : ℕ) (at : Lifeline) → 1 ≤ ports → x_of ports at + 120 ≤ width ports
right_of ports at some = omega (arith, column_within ports at some)

pub ruleset places = (right_of)
