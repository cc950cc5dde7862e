-- Helpers for functions and proofs of this crate and of other crates: no promise rests on them.
pub mod Effect
pub mod Headers
pub mod Interface
