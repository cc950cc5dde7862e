-- The definitions that contracts cite: the text of an instruction, runs by the rules, and the steps
-- of a run.
pub mod RunByRules
pub mod Text
pub mod Trace
pub mod inside
