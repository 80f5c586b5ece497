pub mod Answers
pub mod EndStates
pub mod Picks
pub mod SilentTransitions
pub mod SnoopKinds
pub mod StartStates
pub mod States
