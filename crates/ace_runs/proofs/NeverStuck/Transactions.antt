-- A transaction that is complete, a memory update, an Evict or granted: where no AC is unanswered, it moves on, or one that it waits for.
--
-- * One that is complete is acknowledged, an Evict is answered, and a write whose burst isn't whole sends it.
-- * A memory update with a whole burst writes memory, unless the granted transaction of its line has passed data: then that one moves on, which
--   is no memory update.
-- * A granted transaction whose snoops are done has its next transfer or writes memory; passed data that a read can't take are written first.
-- * One that hasn't begun and whose snoops aren't done lacks a snoop: all snoops are answered and no port owes data, so another ACE port holds the
--   line and wasn't snooped. It has a WK to give, or it may be snooped.

-- A write whose burst isn't whole has its port enabled.
pub mod UnsentBursts
-- A granted write moves on once its snoops are done.
pub mod GrantedWritesMove
-- Passed data that a read can't take move on.
pub mod PassedDataMove
-- A snoop without an answer is an unanswered AC.
pub mod Unanswered
-- A snoop of a port that holds the line of a granted transaction breaks no rule.
pub mod SnoopsKept
-- So a granted transaction whose snoops aren't done has a port to snoop.
pub mod SnoopsMove
-- All cases.
pub mod TransactionsMove
