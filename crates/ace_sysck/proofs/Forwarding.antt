-- The inboxes of the ports, event by event: what each holds, what K36 and K37 ask of them, and what an event moves.
pub mod InboxSteps
pub mod InboxRules
pub mod Forwarded
pub mod InboxMoves
pub mod InboxHears
