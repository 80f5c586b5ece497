-- Where the clauses of rules 11 to 17 are kept, a sentence each.
use Rattle.std.specs.Prelude.{ℕ, List, [], codes}
use Rattle.ace_clauses.specs.declared.letters.Letter.{Letter}
use Rattle.ace_clauses.specs.declared.letters.Letter.TheVariants.{A, B, C, D, E, F, G}

abbrev pub k11_kept : Letter → List ℕ
k11_kept A = codes "the port has a write whose data are not whole"
k11_kept B = codes "WLAST is 1 exactly on the fourth word"
k11_kept C = codes "a WriteLineUnique or memory update has all strobes"
k11_kept D = codes "a memory update sends the port's copy"
k11_kept _ = []

abbrev pub k12_kept : Letter → List ℕ
k12_kept A = codes "the G names an outstanding transaction"
k12_kept B = codes "its kind is one that is granted"
k12_kept C = codes "it has had no G"
k12_kept D = codes "no transaction on its line is granted"
k12_kept _ = []

abbrev pub k13_kept : Letter → List ℕ
k13_kept A = codes "the line has a granted transaction"
k13_kept B = codes "it is of another port than the snooped"
k13_kept C = codes "the snoop is the one that its kind causes"
k13_kept D = codes "it is no exclusive store that failed"
k13_kept E = codes "it has had no R, a write no M"
k13_kept F = codes "the port was not snooped under this grant"
k13_kept G = codes "the port has no write of the line between B and WK"
k13_kept _ = []

abbrev pub k14_kept : Letter → List ℕ
k14_kept A = codes "the port has a snoop that is not answered"
k14_kept _ = []

abbrev pub k15_kept : Letter → List ℕ
k15_kept A = codes "the new state is one that this snoop may leave"
k15_kept B = codes "a port without the line answers 00 and stays I"
k15_kept C = codes "a DVM snoop is answered with 00 and I"
k15_kept D = codes "the bits of CRRESP fit the states before and after"
k15_kept _ = []

abbrev pub k16_kept : Letter → List ℕ
k16_kept A =
    codes "a ReadUnique, CleanShared, CleanInvalid or MakeInvalid snoop waits for the update"
k16_kept B = codes "PassDirty is 0 while the update is outstanding"
k16_kept C = codes "the port keeps the line while the update is outstanding"
k16_kept _ = []

abbrev pub k17_kept : Letter → List ℕ
k17_kept A = codes "the port has an answer with DataTransfer whose data are not whole"
k17_kept B = codes "CDLAST is 1 exactly on the fourth word"
k17_kept C = codes "the word is that of the port's copy at its answer"
k17_kept _ = []
