-- The lemmas that several proofs share.
pub mod Blocks
pub mod Slots
