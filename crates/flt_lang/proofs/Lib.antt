-- The lemmas that several proofs share.
pub mod Common
pub mod Reducing
pub mod ValuesBack
pub mod Valued
pub mod Stepping
pub mod Complete
pub mod Stacked
pub mod Sound
pub mod Filling
pub mod Counting
