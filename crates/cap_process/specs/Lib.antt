-- The definitions that contracts cite.
pub mod Outcome
pub mod Output
pub mod Selector
pub mod Lists
pub mod Marks
pub mod Window
pub mod Whole
pub mod Reports
pub mod Verdict
pub mod Messages
pub mod inside
