-- Helpers for functions and proofs of this crate and of other crates: no promise rests on them.
pub mod Matching
pub mod Skipping
pub mod Units
pub mod Writer
