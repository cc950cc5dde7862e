-- The lemmas that several proofs share.
pub mod Common
pub mod Writing
pub mod HexBytes
pub mod ReadBack
pub mod WordTokens
pub mod AddressTokens
pub mod TextTokens
pub mod WritableTokens
pub mod WritableTrees
