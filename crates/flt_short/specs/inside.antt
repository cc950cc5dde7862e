-- What no promise rests on: it helps the crate's own functions and proofs, and those of crates
-- next to it.
pub mod Alike
pub mod Facts
pub mod Threads
pub mod Layout
