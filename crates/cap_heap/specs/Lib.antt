-- The definitions that contracts cite.
pub mod Lending
pub mod inside
