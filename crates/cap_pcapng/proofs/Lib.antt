-- The lemmas that several proofs share.
pub mod Common
pub mod Faults
pub mod Entered
pub mod InterfaceLists
mod Judged
pub mod Numerals
pub mod OptionLists
pub mod OptionsBack
pub mod Units
pub mod WholeBlocks
pub mod WrittenBack
pub mod WrittenBlocks
