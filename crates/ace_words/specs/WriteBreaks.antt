-- What is wrong where a clause of rules 24 to 28 is broken, a sentence each.
use Rattle.std.specs.Prelude.{ℕ, List, [], codes}
use Rattle.ace_clauses.specs.declared.letters.Letter.{Letter}
use Rattle.ace_clauses.specs.declared.letters.Letter.TheVariants.{A, B, C, D, E, F, G, H, I}

abbrev pub k24_broken : Letter → List ℕ
k24_broken A = codes "memory is written for no transaction that has data"
k24_broken B = codes "memory is written for a read that was passed no dirty line, or once more for one that was"
k24_broken C = codes "the dirty line that was passed is not whole"
k24_broken D = codes "memory is written after the first transfer of the read"
k24_broken E = codes "the data of the write are not whole"
k24_broken F = codes "memory is written for a write that is not granted"
k24_broken G = codes "memory is written too early: the snoops of the write are not done"
k24_broken H = codes "memory was written for this write before"
k24_broken I = codes "the update overtakes a dirty line that was passed to a transaction"

abbrev pub k25_broken : Letter → List ℕ
k25_broken A = codes "memory gets another line than the one that was passed"
k25_broken B = codes "memory gets another line than the burst of the write"
k25_broken C =
    codes "memory gets another line than the burst in the passed line, or else in what memory has"
k25_broken D = codes "memory gets another line than the burst in what memory has"
k25_broken _ = []

abbrev pub k26_broken : Letter → List ℕ
k26_broken A = codes "the port has no write with this identifier that waits for its response"
k26_broken B = codes "the response of a write is EXOKAY"
k26_broken C = codes "the write is answered before memory was written for it"
k26_broken _ = []

abbrev pub k27_broken : Letter → List ℕ
k27_broken A = codes "the port acknowledges, and no write of it is complete"
k27_broken _ = []

abbrev pub k28_broken : Letter → List ℕ
k28_broken A = codes "the write doesn't end in this state"
k28_broken B = codes "a barrier leaves a line behind"
k28_broken _ = []
