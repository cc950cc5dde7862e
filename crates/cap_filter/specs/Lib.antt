-- The definitions that contracts cite.
pub mod Programs
pub mod Expressions
pub mod FilterRules
pub mod Filters
pub mod inside
