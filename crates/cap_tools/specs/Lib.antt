-- The definitions that contracts cite.
pub mod Bounds
pub mod Commands
pub mod Jobs
pub mod Run
pub mod Start
pub mod Packets
pub mod inside
