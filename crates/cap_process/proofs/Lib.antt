-- The lemmas that several proofs share.
pub mod Outcomes
pub mod Outputs
pub mod Selectors
pub mod Lines
pub mod Lists
pub mod Wholes
pub mod Negations
pub mod Indexes
pub mod Marks
pub mod Trees
