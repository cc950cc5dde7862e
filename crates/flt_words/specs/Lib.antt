-- The definitions that contracts cite.
pub mod Characters
pub mod Spellings
pub mod Numbers
pub mod Addresses
pub mod Words
pub mod Tokens
pub mod Messages
pub mod inside
