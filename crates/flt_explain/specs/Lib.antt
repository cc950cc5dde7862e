-- The definitions that contracts cite.
pub mod Texts
pub mod Explained
pub mod Writable
pub mod inside
