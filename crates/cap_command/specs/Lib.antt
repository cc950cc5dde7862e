-- The definitions that contracts cite.
pub mod Call
pub mod Command
