-- What is wrong where a clause of rules 34 to 40 is broken, a sentence each.
use Rattle.std.specs.Prelude.{ℕ, List, [], codes}
use Rattle.ace_clauses.specs.declared.letters.Letter.{Letter}
use Rattle.ace_clauses.specs.declared.letters.Letter.TheVariants.{A, B, C, D, E}

abbrev pub k34_broken : Letter → List ℕ
k34_broken A = codes "the barrier is answered before both halves of it were issued"
k34_broken B = codes "the memory barrier is answered before an earlier transaction of the port has its order point"
k34_broken C = codes "the synchronisation barrier is answered before an earlier transaction of the port is complete"
k34_broken _ = []

abbrev pub k35_broken : Letter → List ℕ
k35_broken A = codes "the transaction passes an earlier barrier of the port that is not answered"
k35_broken _ = []

abbrev pub k36_broken : Letter → List ℕ
k36_broken A = codes "something comes between the two parts of a message"
k36_broken B = codes "the port is given a message that no other port has sent"
k36_broken C = codes "the message overtakes one that was issued before it"
k36_broken _ = []

abbrev pub k37_broken : Letter → List ℕ
k37_broken A = codes "the message is answered though a port was not given it"
k37_broken B = codes "the message is answered though a port has not answered it"
k37_broken _ = []

abbrev pub k38_broken : Letter → List ℕ
k38_broken A = codes "the port completes a Sync that it was not given"
k38_broken _ = []

abbrev pub k39_broken : Letter → List ℕ
k39_broken A = codes "an AC DVM Complete has an address"
k39_broken B = codes "the port has sent no Sync"
k39_broken C = codes "the Sync of the port has not been answered"
k39_broken D = codes "the Sync of the port was completed before"
k39_broken E = codes "another port has not said that it has done the Sync"
k39_broken _ = []

abbrev pub k40_broken : Letter → List ℕ
k40_broken A = codes "another operation of the port is due"
k40_broken _ = []
