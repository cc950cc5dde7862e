-- The definitions that contracts cite.
pub mod Block
pub mod Comment
pub mod Effect
pub mod Frame
pub mod Interface
pub mod InterfaceOptions
pub mod Answer
pub mod Laws
pub mod OptionList
pub mod Padding
pub mod Parts
pub mod Time
pub mod Unit
pub mod Encoding
pub mod inside
