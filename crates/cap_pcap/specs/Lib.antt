-- The definitions that contracts cite.
pub mod Header
pub mod Record
pub mod Encoding
