-- The definitions that contracts cite.
pub mod Addresses
pub mod Dump
pub mod Hexadecimal
pub mod Line
pub mod Network
pub mod Rendering
