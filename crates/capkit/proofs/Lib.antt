-- The lemmas that several proofs share.
mod Enters
mod Folds
pub mod Common
pub mod Getters
mod Listings
mod Numbers
mod OptionValues
mod Parses
mod PrintReady
mod RangeWords
mod Saying
mod WrittenRanges
