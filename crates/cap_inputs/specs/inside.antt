-- Helpers for functions and proofs of this crate and of other crates: no promise rests on them.
pub mod Cursor
pub mod Fresh
pub mod Inputs
pub mod Queue
