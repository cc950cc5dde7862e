-- The lemmas that several proofs share.
mod Printing
mod Digits
