-- Helpers for functions and proofs of this crate and of other crates: no promise rests on them.
pub mod Lending
pub mod Numbering
pub mod Reading
pub mod Sink
pub mod Source
