-- The definitions that contracts cite.
pub mod Answer
pub mod Check
pub mod Content
pub mod Instructions
pub mod Layout
pub mod Listing
pub mod Machine
pub mod Message
pub mod Refusal
pub mod Registers
pub mod Valid
pub mod inside
