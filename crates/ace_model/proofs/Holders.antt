-- A line has one holder: where a port holds a line in UC or UD, every other port's state of it is I, and at most one port
-- holds it in UD or SD (`Unique`, `OneDirty`; Arm IHI 0022E, C1 and C4).
--
-- The proof is by induction over the trace. The two laws do not carry themselves, so ten facts are kept together, at every
-- point of an accepted trace (`OneHolder` in Holders/Facts):
--
-- * A granted transaction is outstanding, and on its line (`GrantsStand`).
-- * A snoop of a line under its grant is the one that the kind of the granted transaction causes (`SnoopsFit`).
-- * A port that has answered under the grant has what this snoop leaves, or less: I after ReadUnique, CleanInvalid or
--   MakeInvalid, and wherever the answer lacked IsShared; neither UC nor UD after ReadShared, ReadClean or
--   ReadNotSharedDirty (`AnswersFit`).
-- * Where an answer under the grant of a ReadShared, ReadNotSharedDirty or ReadUnique had PassDirty, every port's state of
--   the line is I or SC (`PassedOn`).
-- * From its first transfer on, a line transaction on AR of an ACE port is granted (`TransfersArrive`, `Arrives`). If its
--   kind, the response and, for an exclusive store, its success let it end in UC or UD, the other ports' states are I. If it
--   is a ReadShared, ReadClean or ReadNotSharedDirty, no other port holds the line in UC or UD. If the response has
--   PassDirty, every port's state is I or SC.
-- * A complete read of an ACE port that waits for its RK is outstanding and has had all its transfers, and no identifier
--   waits twice at a port (`QueueStands`, `QueueDistinct`).
-- * A port that is no ACE port of the header has I for every line (`OutsideInvalid`).
-- * The two laws themselves, at this point (`UniqueNow`, `OneDirtyNow`).
--
-- Before the first event nothing is granted, nothing is outstanding and every state is I, so all ten hold. Each event keeps
-- them:
--
-- * AR, AW. The name of the new transaction is free (K4), so whatever was granted or waits stays outstanding. The new read
--   has had no transfer, and the counts of the others are under other names.
-- * G. It names an outstanding transaction, and its line is free (K12). Nothing was snooped or answered under the new grant.
--   A read that has had a transfer is granted already, so the grant is of another line.
-- * AC. The line of a line snoop is granted, and the snoop is the one that the granted transaction causes (K13).
-- * CR. The answer is a row of the snoop that it answers (K15). By each row the port has no more than before. Under the
--   grant the snoop is the one that the kind causes, so the row leaves what `AnswersFit` says. PassDirty comes only from a
--   dirty port, and leaves it clean; no other port was dirty or alone beside it, so all have I or SC then.
-- * R. It names an outstanding read with transfers left, and is the last exactly where it says so (K18): so it is no read
--   that waits in the queue, and the last one puts its read there with all its transfers. For a line transaction the line is
--   granted to it, and at the first transfer its snoops are done (K18): where its kind causes a snoop, each other port has I
--   or has answered, but for an exclusive store that failed, to which no more is owed. Then `AnswersFit` gives what
--   `Arrives` says, since the response has IsShared where an answer had it (K19); for PassDirty there are passed data, which
--   only a kind that takes them may have (K18, K19), and `PassedOn` gives the rest. The last R of an ACE-Lite port ends its
--   read, which is then no longer granted either.
-- * RK. The port is an ACE port (K1), and a read of it waits (K22): by the queue it is outstanding and has had its
--   transfers, so its line is granted to it and the other ports have what `Arrives` says. Its end state is one of its kind
--   (K23). Where that state is unique, is not I, or is dirty, the state before was so too, or the kind and the response made
--   room for it. The states of lines that stay granted are as they were. No identifier waits twice, so no other read in the
--   queue has ended.
-- * B. The write that it ends, if it is of an ACE-Lite port, is no read.
-- * WK. It ends a write, which is no read. An end state of a write is no more than the state before (K28).
-- * S. A silent transition leaves no more than there was (K29).
-- * D. It names a state only where its port may store: it holds the line in UC or UD (K32), so no other port holds anything
--   of it. UD is no more than that, but for the dirt.
-- * W, CD, M, L, OP, MEM. None of the facts speaks of them.
--
-- One state is no more than another (`Less` in Tables/Less) where it is I if the other is, not unique if the other is not, I
-- or SC if the other is, and clean if the other is. Where the state of each port becomes no more, a fact that limits what
-- ports hold stays.
--
-- The other folders also take from here that a port comes to hold more of a line by the RK of its own read alone (Rises),
-- and that a line that some port holds has no transaction that is NoSnoop (ShareableLines).

-- The ten facts.
pub mod Facts
-- The twelve rules that they rest on; what the rules of today accept keeps them too.
pub mod RestsOn
-- What an event keeps that ends one transaction at most, or lessens the states that the ports hold.
pub mod Kept
-- AR and AW keep the facts (K4).
pub mod Address
-- G (K12).
pub mod Grant
-- AC and CR (K13, K15).
pub mod Snoop
-- What the snoops and the response say of the other ports at the first transfer of a read (K18, K19).
pub mod FirstTransfer
-- R (K18, K19).
pub mod Transfer
-- RK (K1, K22, K23).
pub mod Acknowledge
-- B and WK (K28).
pub mod Write
-- S and D (K29, K32).
pub mod Stores
-- The laws, of every accepted trace.
pub mod Law
-- Every event but an RK lessens what the ports hold, and but an RK or a D makes no line dirty.
pub mod Lessened
-- So a port comes to hold more by the RK of its read alone, and while it fetches a line or has a granted write of it
-- outstanding, it holds nothing of it.
pub mod Rises
-- A line that a port holds has no NoSnoop transaction (K8).
pub mod ShareableLines
