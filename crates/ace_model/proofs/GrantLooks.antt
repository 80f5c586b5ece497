-- The looks at a grant and at what comes under it, event by event.
--
-- The laws on coherence say what is so under a grant (Grants, Values). This folder says which events change what is looked at
-- under it, so that a checker may keep each look as a field and change it at these events alone. Where x is granted on the
-- line l, and its grant stays at an event:
--
-- * An outstanding transaction that has had its G is granted [granted_had]: a grant lasts until its transaction is no longer
--   outstanding. So K12 need not look for a G of the transaction that a G names [grants_by_line]; a line that isn't granted is
--   enough.
-- * An event that is no snoop and no answer of the line leaves which ports were snooped, their answers, the sharers, the port
--   that passed on, the first port that sent data, and the copies at the answers [Quiet].
-- * An answer of the line is the port's first under the grant. It adds itself to the sharers; where it has PassDirty, its
--   port is the one that passed on: no other did, since two ports would have held the line dirty; and where it has
--   DataTransfer, its port is the first that sent, unless there was one [sharer-now, passer-now, sender-now].
-- * How many transfers the transaction has had changes at its own R alone, and whether it has had its M at its own M alone: an
--   AR or AW can't take its name. Memory at the first beat is settled with the first R. At its G it has had neither.

-- a G is enough
pub mod Had
-- an event that is no snoop and no answer of the line
pub mod Quiet
-- an answer of the line
pub mod Answered
-- how far the granted transaction has come
pub mod Progress
