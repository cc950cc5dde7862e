-- The lemmas that several proofs share.
pub mod Common
pub mod Cursors
pub mod Leasts
pub mod Nexts
pub mod Order
pub mod Placed
pub mod Queues
