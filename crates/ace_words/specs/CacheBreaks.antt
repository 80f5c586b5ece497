-- What is wrong where a clause of rules 29 to 33 is broken, a sentence each.
use Rattle.std.specs.Prelude.{ℕ, List, [], codes}
use Rattle.ace_clauses.specs.declared.letters.Letter.{Letter}
use Rattle.ace_clauses.specs.declared.letters.Letter.TheVariants.{A, B, C, D, E}

abbrev pub k29_broken : Letter → List ℕ
k29_broken A = codes "this is no silent transition"
k29_broken B = codes "the port drops the line while its memory update of it is outstanding"
k29_broken _ = []

abbrev pub k30_broken : Letter → List ℕ
k30_broken A = codes "the port loads from a line that it doesn't hold"
k30_broken _ = []

abbrev pub k31_broken : Letter → List ℕ
k31_broken A = codes "the load gives another word than the port has in its cache"
k31_broken _ = []

abbrev pub k32_broken : Letter → List ℕ
k32_broken A = codes "the port stores to a line that it doesn't hold alone"
k32_broken B = codes "the port stores while a transaction of it on the line is outstanding"
k32_broken C = codes "a second store before the RK of the MakeUnique"
k32_broken D = codes "the store of a MakeUnique is exclusive"
k32_broken E = codes "the store of a MakeUnique writes a part of the line"
k32_broken _ = []

abbrev pub k33_broken : Letter → List ℕ
k33_broken A = codes "the port has made no exclusive load"
k33_broken B = codes "the last exclusive load of the port was of another line"
k33_broken C = codes "one exclusive load serves two exclusive stores"
k33_broken D = codes "the port lost the line between its exclusive load and this store"
k33_broken _ = []
