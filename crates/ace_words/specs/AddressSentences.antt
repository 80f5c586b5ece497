-- Where the clauses of rules 1 to 10 are kept, a sentence each.
use Rattle.std.specs.Prelude.{ℕ, List, [], codes}
use Rattle.ace_clauses.specs.declared.letters.Letter.{Letter}
use Rattle.ace_clauses.specs.declared.letters.Letter.TheVariants.{A, B, C, D, E, F, G, H}

abbrev pub k1_kept : Letter → List ℕ
k1_kept A = codes "the port is one of the header"
k1_kept B = codes "RK, WK, AC, CR, CD, S, L and D are of an ACE port"
k1_kept _ = []

abbrev pub k2_kept : Letter → List ℕ
k2_kept A = codes "snoop, domain and bar together have a kind"
k2_kept B = codes "the port may issue that kind"
k2_kept C = codes "the low two bits of a response are 0 or 1"
k2_kept D = codes "the Error bit of a CR is 0"
k2_kept _ = []

abbrev pub k3_kept : Letter → List ℕ
k3_kept A = codes "the address of a line is a multiple of 64"
k3_kept B = codes "MEM stands in a trace of version 2"
k3_kept C = codes "MEM stands after no other event"
k3_kept D = codes "MEM records have ascending addresses"
k3_kept E = codes "there are at most 4,096 MEM records"
k3_kept _ = []

abbrev pub k4_kept : Letter → List ℕ
k4_kept A = codes "no transaction of this port, channel and identifier is outstanding"
k4_kept _ = []

abbrev pub k5_kept : Letter → List ℕ
k5_kept A = codes "no transaction of this port on this line is outstanding"
k5_kept _ = []

abbrev pub k6_kept : Letter → List ℕ
k6_kept A = codes "the port's state of the line is a start state of the kind"
k6_kept _ = []

abbrev pub k7_kept : Letter → List ℕ
k7_kept A = codes "only ReadShared, ReadClean and CleanUnique are exclusive"
k7_kept B = codes "only an ACE port issues an exclusive transaction"
k7_kept _ = []

abbrev pub k8_kept : Letter → List ℕ
k8_kept A = codes "all transactions of a line are NoSnoop, or none is"
k8_kept _ = []

abbrev pub k9_kept : Letter → List ℕ
k9_kept A = codes "a barrier has address 0"
k9_kept B = codes "each earlier barrier pair was issued whole"
k9_kept C = codes "each earlier barrier pair is answered"
k9_kept D = codes "the halves of a pair have one bar and domain"
k9_kept E = codes "the word of a first part is an operation"
k9_kept F = codes "a Sync comes after the completion of the port's last Sync"
k9_kept G = codes "a second part has the domain and bar of its first"
k9_kept H = codes "a DVM Complete has address 0"
k9_kept _ = []

abbrev pub k10_kept : Letter → List ℕ
k10_kept A = codes "a memory update or Evict is issued with no WriteUnique or WriteLineUnique of the port outstanding"
k10_kept B = codes "a WriteUnique or WriteLineUnique is issued with no memory update or Evict of the port outstanding"
k10_kept _ = []
