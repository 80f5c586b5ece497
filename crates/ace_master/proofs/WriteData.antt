-- The write data that a port sends.

-- What the write of a burst has to carry.
pub mod BurstData
-- The four W of a burst that isn't sent.
pub mod BeatsSent
-- What a master keeps of the burst that it hasn't sent.
pub mod UnsentData
