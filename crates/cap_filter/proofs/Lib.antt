-- The lemmas that several proofs share.
pub mod Expressions
pub mod Filters
