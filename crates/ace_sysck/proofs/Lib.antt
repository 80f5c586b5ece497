mod Terms
-- Lists by their places.
pub mod Tables
pub mod WordLaws
-- What an accepted event that names a transaction says of it.
pub mod Steps
pub mod ResultSteps
pub mod MonitorSteps
pub mod RegistrationSteps
pub mod EventLaws
pub mod FirstIssued
pub mod BarrierRules
pub mod BarrierAnswers
pub mod BarrierSteps
pub mod MessageSteps
pub mod Unanswered
pub mod PartLaws
pub mod Forwarding
pub mod SyncSteps
pub mod ExclusiveLaws
pub mod RuleLaws
-- What each kind of event leaves as it is.
pub mod Unmoved
pub mod MessageCodes
-- What an event of each kind asks and leaves.
pub mod ByKind
-- What the events leave where the ports are kept beside the system.
pub mod WhatIsHeard
