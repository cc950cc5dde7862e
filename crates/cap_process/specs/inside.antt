-- Helpers for functions and proofs of this crate and of other crates: no promise rests on them.
pub mod Output
pub mod Selector
pub mod Index
