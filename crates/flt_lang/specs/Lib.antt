-- The definitions that contracts cite.
pub mod Values
pub mod Grammar
pub mod Nesting
pub mod inside
