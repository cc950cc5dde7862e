-- Helpers for functions and proofs of this crate and of other crates: no promise rests on them.
pub mod Cases
pub mod Code
pub mod Emits
pub mod Counts
pub mod Emitted
pub mod Folding
pub mod Intervals
pub mod Search
pub mod Relations
pub mod Group
pub mod ProgramCode
pub mod Round
pub mod Walk
