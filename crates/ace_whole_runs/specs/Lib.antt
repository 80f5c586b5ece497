-- A port has a step with a whole burst.
pub mod HasStep
-- When a trace is that of a whole run of a plan.
pub mod Runs
