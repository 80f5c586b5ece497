-- What it means that a trace is accepted, and that the first break is exact (law `first_break_is_exact`).
--
-- The forty rules are a list in the order of their numbers, and a trace is accepted (`IsAccepted`) where no event breaks
-- one of them after the events before it. Every other proof takes the rules from one record, `Keeps`: an event of an
-- accepted trace keeps rule 1, .., rule 40, so that a step cites its rule by number, as `(accepted_keeps h past e
-- accepted).rule_18`.
--
-- The first break is computed by a walk: from the oldest event on, and at each event through the list of rules, as far as
-- the first that is broken. What is promised of it (`FirstBreakBy`) names no walk: an event that breaks a rule after the
-- events before it, such that no earlier event breaks any rule, and this event breaks none with a smaller number. Both are
-- the same:
--
-- - Since the numbers of the list rise, the first rule of it that an event breaks is the least that it breaks.
-- - Where the walk stops at an event, it has found no rule broken at the ones before; where it doesn't stop, no event
--   breaks a rule. This goes by the events of the list, one by one.
-- - Two first breaks are one: neither stands before the other, as the earlier event would break a rule before the first
--   that is broken; and at the same event neither number is smaller. So a break that is as promised is the one that the
--   walk finds.
-- - An accepted trace has no break, and a trace with no break is accepted. After an accepted trace the walk goes on with
--   the events that follow: this lets a program check a trace event by event.

-- An event of an accepted trace keeps each rule, by its number.
pub mod Keeps
-- Acceptance as a test that computes, and as a fact.
pub mod Acceptance
-- The first rule in order that an event breaks is the least.
pub mod Least
-- The computed break is the first break, and the only one.
pub mod FirstBreak
-- The least rule of all is the least over the three shares that folds look at.
pub mod Shares
