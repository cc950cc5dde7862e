-- Re-exports the names that most proofs of this crate cite; declares nothing.
pub use Rattle.std.proofs.Common.{unsigned_abs, not, min, nat_le}
pub use Rattle.std.proofs.lemmas.{Bool.lt-ltb, Bool.le-ltb, Bool.cases_order, Bool.le-leb, Bool.leb-true, Int.to_z_pos, List.length-take}
