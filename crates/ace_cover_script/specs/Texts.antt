-- The text that says how `gen` is used.
use Rattle.std.specs.Prelude.{ℕ, List, codes}

abbrev pub gen_help : List ℕ
gen_help =
    codes "usage: acetool gen --cover N\n\nWrites the script that is made from the number N, from 0 to 18446744073709551615, to reach points of\ncoverage: all operations, on few lines, at 1 to 8 ports of each kind, with any policy and caches of\n1 to 32 lines. `ace run` runs it.\n\nstatus: 0 it was written, 7 no memory; 5 an output failed; 2 these words are wrong\n"
