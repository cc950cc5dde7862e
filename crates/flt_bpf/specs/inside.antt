-- Helpers for functions and proofs of this crate and of other crates: no promise rests on them.
pub mod Flow
pub mod Position
pub mod Reach
pub mod Reading
