-- The lemmas that several proofs share.
pub mod Common
pub mod ByRules
pub mod Hexadecimal
pub mod Tracing
