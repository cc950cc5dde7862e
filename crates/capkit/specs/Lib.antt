-- The definitions that contracts cite.
pub mod Arguments
pub mod Ending
pub mod Line
pub mod Names
pub mod Range
pub mod Status
pub mod Streams
pub mod Words
pub mod inside
