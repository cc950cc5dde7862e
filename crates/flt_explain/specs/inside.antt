-- Helpers for functions and proofs of this crate: no promise rests on them.
pub mod Backward
pub mod Writable
