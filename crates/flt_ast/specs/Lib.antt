-- The definitions that contracts cite.
pub mod Tree
pub mod Nodes
pub mod Nets
pub mod Fits
pub mod Filled
pub mod Resolved
pub mod Counts
pub mod Heights
pub mod Checks
pub mod inside
