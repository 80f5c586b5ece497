-- Where the clauses of rules 18 to 23 are kept, a sentence each.
use Rattle.std.specs.Prelude.{ℕ, List, [], codes}
use Rattle.ace_clauses.specs.declared.letters.Letter.{Letter}
use Rattle.ace_clauses.specs.declared.letters.Letter.TheVariants.{A, B, C, D, E, F, G, H, I}

abbrev pub k18_kept : Letter → List ℕ
k18_kept A = codes "the R names an outstanding read"
k18_kept B = codes "the read has transfers left"
k18_kept C = codes "RLAST is 1 exactly on the last transfer"
k18_kept D = codes "a line read is granted"
k18_kept E = codes "at the first transfer each snoop is answered"
k18_kept F = codes "the announced snoop data are whole"
k18_kept G = codes "at the first transfer each other holder was snooped"
k18_kept H = codes "passed data are taken by a ReadShared, ReadNotSharedDirty or ReadUnique, or were written to memory"
k18_kept I = codes "PassDirty is 1 where data were passed"

abbrev pub k19_kept : Letter → List ℕ
k19_kept A = codes "PassDirty is 0 where no data were passed"
k19_kept B = codes "IsShared is 0 for kinds that keep no shared line"
k19_kept C = codes "a ReadNotSharedDirty has not both bits"
k19_kept D = codes "an ACE-Lite port has neither bit"
k19_kept E = codes "IsShared is 1 where an answer has it"
k19_kept F = codes "each transfer has the bits of the first"
k19_kept _ = []

abbrev pub k20_kept : Letter → List ℕ
k20_kept A = codes "a dataless transfer has the word 0"
k20_kept B = codes "a transfer has the word of the reply: the first snoop answer with data, else memory before the first transfer"
k20_kept _ = []

abbrev pub k21_kept : Letter → List ℕ
k21_kept A = codes "EXOKAY for an exclusive load and an exclusive store that passed"
k21_kept B = codes "OKAY for an exclusive store that failed"
k21_kept C = codes "OKAY where the transaction is not exclusive"
k21_kept _ = []

abbrev pub k22_kept : Letter → List ℕ
k22_kept A = codes "the port has a complete read without RK"
k22_kept _ = []

abbrev pub k23_kept : Letter → List ℕ
k23_kept A = codes "the state is an end state of the read"
k23_kept B = codes "a MakeUnique has had its store"
k23_kept C = codes "a barrier or DVM transaction ends in I"
k23_kept _ = []
