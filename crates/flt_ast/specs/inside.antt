-- Helpers for functions and proofs of this crate and of other crates: no promise rests on them.
pub mod Checks
pub mod Filled
pub mod Heights
pub mod Nodes
pub mod Resolved
