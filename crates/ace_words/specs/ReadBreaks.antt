-- What is wrong where a clause of rules 18 to 23 is broken, a sentence each.
use Rattle.std.specs.Prelude.{ℕ, List, [], codes}
use Rattle.ace_clauses.specs.declared.letters.Letter.{Letter}
use Rattle.ace_clauses.specs.declared.letters.Letter.TheVariants.{A, B, C, D, E, F, G, H, I}

abbrev pub k18_broken : Letter → List ℕ
k18_broken A = codes "the port has no read with this identifier outstanding"
k18_broken B = codes "the read has had all its transfers"
k18_broken C = codes "RLAST is wrong: it is 1 exactly on the last transfer"
k18_broken D = codes "the read has not been granted"
k18_broken E = codes "the first transfer comes too early: a snooped port has not answered"
k18_broken F = codes "the first transfer comes too early: announced snoop data are not whole"
k18_broken G = codes "the first transfer comes too early: a port holds the line and was not snooped"
k18_broken H = codes "the read takes no dirty line: memory has to be written first"
k18_broken I = codes "PassDirty is 0, and a dirty line was passed"

abbrev pub k19_broken : Letter → List ℕ
k19_broken A = codes "PassDirty is 1, and no dirty line was passed"
k19_broken B = codes "IsShared is 1, and the transaction keeps no shared line"
k19_broken C = codes "a ReadNotSharedDirty is given the line shared and dirty"
k19_broken D = codes "an ACE-Lite port is given PassDirty or IsShared"
k19_broken E = codes "IsShared is 0, and a snooped port keeps the line"
k19_broken F = codes "the transfer has other bits than the first"
k19_broken _ = []

abbrev pub k20_broken : Letter → List ℕ
k20_broken A = codes "the transaction brings no data, and this transfer has some"
k20_broken B = codes "the transfer has another word than the reply"
k20_broken _ = []

abbrev pub k21_broken : Letter → List ℕ
k21_broken A = codes "OKAY in the answer to an exclusive load, or to an exclusive store that passed"
k21_broken B = codes "EXOKAY, and the exclusive store failed"
k21_broken C = codes "EXOKAY in the answer to a transaction that isn't exclusive"
k21_broken _ = []

abbrev pub k22_broken : Letter → List ℕ
k22_broken A = codes "the port acknowledges, and no read of it is complete"
k22_broken _ = []

abbrev pub k23_broken : Letter → List ℕ
k23_broken A = codes "the read doesn't end in this state"
k23_broken B = codes "the MakeUnique ends without the store that it was made for"
k23_broken C = codes "a barrier or DVM transaction leaves a line behind"
k23_broken _ = []
