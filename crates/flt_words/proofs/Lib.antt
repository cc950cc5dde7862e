-- The lemmas that several proofs share.
pub mod Common
pub mod Answering
pub mod Numbers
pub mod AddressValues
pub mod DoubleColons
pub mod Tables
pub mod OneKind
pub mod Pieces
pub mod Lexing
pub mod OneAnswer
