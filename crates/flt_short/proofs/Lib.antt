-- The lemmas that several proofs share.
pub mod Common
pub mod Knowing
pub mod Threading
pub mod Likeness
pub mod PlacedSizes
pub mod Placed
pub mod PlacedFaults
