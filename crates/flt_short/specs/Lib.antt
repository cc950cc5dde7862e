-- The definitions that contracts cite. A caller needs only `Threads` and `Shortens` (of `Alike`).
pub mod Alike
pub mod Threads
pub mod inside
