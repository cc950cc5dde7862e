-- A `&` to a slot borrows all of it, and the thread's token opens the borrow. Assumes `Logic`.
use Rattle.std.proofs.Common.{[], ◌∷◌}
use types.Kit.{‵, raw, later, ◌$◌, ◌∵◌, !, qed, use1, await, updating, now, done}
use Rattle.cap_heap.proofs.slot.Slot.TheLaw.Statement.{statement}
use base.{Fraction.full_share, Fml.fbor}
use types.{Logic.lfts, Na.na_bor, Na.bor_na}
use denote.{Memory.part_at, Memory.part_of, Hidden.guarded_shr_laws}
use Rattle.cap_heap.specs.contracts.slot.Slot as slot

pub shares : statement
unfolding part_of
shares = record {
  shr_laws = λ d b o. guarded_shr_laws (b, o) (part_at slot.the_written full_share d b o);
  shares = λ M 𝓤 𝓛 d κ ts b o inc sp. let P = part_at slot.the_written full_share d b o in
      qed 𝓛 (‵ (fbor κ P) ∷ raw (lfts 𝓛 ts) ∷ []) ∵ updating ! $ use1 𝓛 (later (‵ (na_bor κ (b, o) P))) (bor_na 𝓛 κ (b, o) P) $ await ! tt $ now ! $ done !;
}
