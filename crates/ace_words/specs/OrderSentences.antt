-- Where the clauses of rules 34 to 40 are kept, a sentence each.
use Rattle.std.specs.Prelude.{ℕ, List, [], codes}
use Rattle.ace_clauses.specs.declared.letters.Letter.{Letter}
use Rattle.ace_clauses.specs.declared.letters.Letter.TheVariants.{A, B, C, D, E}

abbrev pub k34_kept : Letter → List ℕ
k34_kept A = codes "both halves of the barrier were issued"
k34_kept B = codes "a memory barrier: each earlier transaction of the port has its order point"
k34_kept C = codes "a synchronisation barrier: each earlier transaction of the port is complete"
k34_kept _ = []

abbrev pub k35_kept : Letter → List ℕ
k35_kept A = codes "each barrier of the port before the transaction is answered"
k35_kept _ = []

abbrev pub k36_kept : Letter → List ℕ
k36_kept A = codes "the second part of a message follows the first"
k36_kept B = codes "some message of another port waits for this port"
k36_kept C = codes "the message that was issued first comes first"
k36_kept _ = []

abbrev pub k37_kept : Letter → List ℕ
k37_kept A = codes "the message was forwarded to each other ACE port"
k37_kept B = codes "each of them has answered it"
k37_kept _ = []

abbrev pub k38_kept : Letter → List ℕ
k38_kept A = codes "the port has answered more Syncs than it has completed"
k38_kept _ = []

abbrev pub k39_kept : Letter → List ℕ
k39_kept A = codes "an AC DVM Complete has address 0"
k39_kept B = codes "the port has sent a Sync"
k39_kept C = codes "its Sync is answered"
k39_kept D = codes "its Sync is not completed yet"
k39_kept E = codes "each other ACE port has issued its DVM Complete for it"
k39_kept _ = []

abbrev pub k40_kept : Letter → List ℕ
k40_kept A = codes "the number is that of the earlier operations of the port"
k40_kept _ = []
