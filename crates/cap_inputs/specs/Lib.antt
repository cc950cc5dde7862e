-- The definitions that contracts cite.
pub mod Cursor
pub mod Fresh
pub mod Inputs
pub mod Queue
pub mod inside
