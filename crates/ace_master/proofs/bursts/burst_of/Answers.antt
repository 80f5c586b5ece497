use Rattle.ace_master.proofs.AskedBursts.OneBurst.{only-one}
use Rattle.ace_master.proofs.bursts.burst_of.Goals as goal

pub returns-in-Reads : goal.returns-in-Reads
returns-in-Reads c = λ h ways past p s ids lines. rw c.in-Reads.is (only-one c.read_burst.result _ (c.read_burst.ensures h past p s ids))

pub returns-in-Writes : goal.returns-in-Writes
returns-in-Writes c = λ h ways past p s ids lines. rw c.in-Writes.is (only-one c.write_burst.result _ (c.write_burst.ensures h past p s ids))

pub returns-in-Barriers : goal.returns-in-Barriers
returns-in-Barriers c = λ h ways past p s ids lines. rw c.in-Barriers.is (only-one c.barrier_burst.result _ (c.barrier_burst.ensures h past p s ids))

pub returns-in-Messages : goal.returns-in-Messages
returns-in-Messages c = λ h ways past p s ids lines. rw c.in-Messages.is (only-one c.message_burst.result _ (c.message_burst.ensures h past p s ids))
