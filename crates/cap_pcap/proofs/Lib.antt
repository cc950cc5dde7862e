-- The lemmas that several proofs share.
pub mod Headers
pub mod Records
