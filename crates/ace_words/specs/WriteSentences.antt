-- Where the clauses of rules 24 to 28 are kept, a sentence each.
use Rattle.std.specs.Prelude.{ℕ, List, [], codes}
use Rattle.ace_clauses.specs.declared.letters.Letter.{Letter}
use Rattle.ace_clauses.specs.declared.letters.Letter.TheVariants.{A, B, C, D, E, F, G, H, I}

abbrev pub k24_kept : Letter → List ℕ
k24_kept A = codes "the M names an outstanding transaction with data"
k24_kept B =
    codes "a read for which memory is written was passed a dirty line, which memory has not got yet"
k24_kept C = codes "the passed line is whole"
k24_kept D = codes "the read has had no transfer"
k24_kept E = codes "the data of the write are whole"
k24_kept F = codes "the write is granted"
k24_kept G = codes "the snoops of the write are done"
k24_kept H = codes "the write has had no M"
k24_kept I = codes "an update waits while the granted transaction of its line has passed data"

abbrev pub k25_kept : Letter → List ℕ
k25_kept A = codes "for a read memory gets the passed line"
k25_kept B = codes "for an update or WriteLineUnique memory gets its burst"
k25_kept C =
    codes "for a WriteUnique memory gets its burst in the passed line, or else in what memory has"
k25_kept D = codes "for a WriteNoSnoop memory gets its burst in what memory has"
k25_kept _ = []

abbrev pub k26_kept : Letter → List ℕ
k26_kept A = codes "the B names an outstanding write without B"
k26_kept B = codes "its response is OKAY"
k26_kept C = codes "memory was written for it"
k26_kept _ = []

abbrev pub k27_kept : Letter → List ℕ
k27_kept A = codes "the port has a complete write without WK"
k27_kept _ = []

abbrev pub k28_kept : Letter → List ℕ
k28_kept A = codes "the state is an end state of the write"
k28_kept B = codes "a barrier ends in I"
k28_kept _ = []
