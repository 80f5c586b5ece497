-- What is wrong where a clause of rules 11 to 17 is broken, a sentence each.
use Rattle.std.specs.Prelude.{ℕ, List, [], codes}
use Rattle.ace_clauses.specs.declared.letters.Letter.{Letter}
use Rattle.ace_clauses.specs.declared.letters.Letter.TheVariants.{A, B, C, D, E, F, G}

abbrev pub k11_broken : Letter → List ℕ
k11_broken A = codes "the port has no write that lacks data"
k11_broken B = codes "WLAST is wrong: it is 1 exactly on the fourth word"
k11_broken C = codes "the write writes all bytes, and this word leaves some out"
k11_broken D = codes "the word isn't what the port has in its cache"
k11_broken _ = []

abbrev pub k12_broken : Letter → List ℕ
k12_broken A = codes "the identifier names no outstanding transaction of the port"
k12_broken B = codes "a transaction of this kind has no grant"
k12_broken C = codes "the transaction has had its grant before"
k12_broken D = codes "the line is still granted to another transaction"
k12_broken _ = []

abbrev pub k13_broken : Letter → List ℕ
k13_broken A = codes "a snoop for no transaction: nothing is granted on the line"
k13_broken B = codes "a port is snooped for its own transaction"
k13_broken C = codes "the granted transaction is not snooped so"
k13_broken D = codes "the exclusive store failed: it snoops nobody"
k13_broken E = codes "a snoop after the first transfer, or after memory was written"
k13_broken F = codes "the port was snooped for this transaction before"
k13_broken G =
    codes "the snoop overtakes the end of a write of the port: its B has come and its WK hasn't"
k13_broken _ = []

abbrev pub k14_broken : Letter → List ℕ
k14_broken A = codes "the port has no snoop that waits for an answer"
k14_broken _ = []

abbrev pub k15_broken : Letter → List ℕ
k15_broken A = codes "the snoop may not leave the line in this state"
k15_broken B = codes "the port doesn't hold the line, and answers as if it did"
k15_broken C = codes "a DVM snoop is answered with 00 and I"
k15_broken D = codes "the bits of CRRESP don't fit the states before and after"
k15_broken _ = []

abbrev pub k16_broken : Letter → List ℕ
k16_broken A = codes "the snoop has to wait for the memory update that the port has outstanding"
k16_broken B = codes "the port passes the dirty line on that its memory update is taking to memory"
k16_broken C = codes "the port gives the line up while its memory update is outstanding"
k16_broken _ = []

abbrev pub k17_broken : Letter → List ℕ
k17_broken A = codes "the port owes no snoop data"
k17_broken B = codes "CDLAST is wrong: it is 1 exactly on the fourth word"
k17_broken C = codes "the word isn't what the port had when it answered"
k17_broken _ = []
