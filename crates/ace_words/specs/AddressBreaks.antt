-- What is wrong where a clause of rules 1 to 10 is broken, a sentence each.
use Rattle.std.specs.Prelude.{ℕ, List, [], codes}
use Rattle.ace_clauses.specs.declared.letters.Letter.{Letter}
use Rattle.ace_clauses.specs.declared.letters.Letter.TheVariants.{A, B, C, D, E, F, G, H}

abbrev pub k1_broken : Letter → List ℕ
k1_broken A = codes "there is no such port"
k1_broken B = codes "an ACE-Lite port has no cache: it is never snooped, acknowledges nothing and holds no lines"
k1_broken _ = []

abbrev pub k2_broken : Letter → List ℕ
k2_broken A = codes "these codes are no transaction and no snoop"
k2_broken B = codes "an ACE-Lite port issues no such transaction"
k2_broken C = codes "the response is an error"
k2_broken D = codes "the Error bit of CRRESP is set"
k2_broken _ = []

abbrev pub k3_broken : Letter → List ℕ
k3_broken A = codes "the address is that of no line: it is no multiple of 64"
k3_broken B = codes "MEM is a record of version 2"
k3_broken C = codes "a MEM after another event: memory opens before anything happens"
k3_broken D = codes "the MEM records are not in order of address"
k3_broken E = codes "more than 4,096 MEM records"
k3_broken _ = []

abbrev pub k4_broken : Letter → List ℕ
k4_broken A = codes "the identifier is in use: a transaction with it is outstanding"
k4_broken _ = []

abbrev pub k5_broken : Letter → List ℕ
k5_broken A = codes "the port has a transaction of this line outstanding"
k5_broken _ = []

abbrev pub k6_broken : Letter → List ℕ
k6_broken A = codes "the transaction doesn't start from the state in which the port holds the line"
k6_broken _ = []

abbrev pub k7_broken : Letter → List ℕ
k7_broken A = codes "a transaction of this kind can't be exclusive"
k7_broken B = codes "an ACE-Lite port issues no exclusive transaction"
k7_broken _ = []

abbrev pub k8_broken : Letter → List ℕ
k8_broken A = codes "the line is used both past the caches and as a shareable one"
k8_broken _ = []

abbrev pub k9_broken : Letter → List ℕ
k9_broken A = codes "a barrier has an address"
k9_broken B = codes "an earlier barrier lacks its other half"
k9_broken C = codes "an earlier barrier is not answered"
k9_broken D = codes "the two halves of the barrier have another bar or domain"
k9_broken E = codes "the word of the message is no operation"
k9_broken F = codes "the last Sync of the port has not been completed"
k9_broken G = codes "the second part of the message has another domain or bar than the first"
k9_broken H = codes "a DVM Complete has an address"
k9_broken _ = []

abbrev pub k10_broken : Letter → List ℕ
k10_broken A = codes "the port has a WriteUnique or WriteLineUnique outstanding"
k10_broken B = codes "the port has a memory update or an Evict outstanding"
k10_broken _ = []
