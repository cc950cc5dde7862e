-- The lemmas that several proofs share.
pub mod Common
pub mod Checks
pub mod Dates
pub mod Days
pub mod Fronts
pub mod Numbers
pub mod Numerals
pub mod Reading
pub mod Spans
pub mod Writing
