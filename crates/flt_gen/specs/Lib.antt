-- The definitions that contracts cite.
pub mod Elementary
pub mod Numbers
pub mod Formula
pub mod Primitives
pub mod Reading
pub mod Counts
pub mod Correct
pub mod Laws
pub mod inside
