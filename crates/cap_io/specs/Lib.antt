-- The definitions that contracts cite.
pub mod Capture
pub mod Sequence
pub mod Reading
pub mod FirstUnit
pub mod Source
pub mod Text
pub mod Numbering
pub mod Sink
pub mod RoundTrip
pub mod Position
pub mod Laws
pub mod Merging
pub mod inside
