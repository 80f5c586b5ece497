-- Where the clauses of rules 29 to 33 are kept, a sentence each.
use Rattle.std.specs.Prelude.{ℕ, List, [], codes}
use Rattle.ace_clauses.specs.declared.letters.Letter.{Letter}
use Rattle.ace_clauses.specs.declared.letters.Letter.TheVariants.{A, B, C, D, E}

abbrev pub k29_kept : Letter → List ℕ
k29_kept A = codes "the move is UC -> SC, UC -> I, SC -> I or UD -> SD"
k29_kept B = codes "no move to I while a memory update of the line is outstanding"
k29_kept _ = []

abbrev pub k30_kept : Letter → List ℕ
k30_kept A = codes "the port holds the line"
k30_kept _ = []

abbrev pub k31_kept : Letter → List ℕ
k31_kept A = codes "the word is that of the port's copy"
k31_kept _ = []

abbrev pub k32_kept : Letter → List ℕ
k32_kept A = codes "the line is in UC or UD"
k32_kept B = codes "no transaction of the port on the line is outstanding"
k32_kept C = codes "a MakeUnique has one store"
k32_kept D = codes "the store of a MakeUnique is not exclusive"
k32_kept E = codes "the store of a MakeUnique writes the whole line"
k32_kept _ = []

abbrev pub k33_kept : Letter → List ℕ
k33_kept A = codes "the port has made an exclusive load"
k33_kept B = codes "its last exclusive load was of this line"
k33_kept C = codes "it has made no exclusive store since"
k33_kept D = codes "it has held the line ever since"
k33_kept _ = []
