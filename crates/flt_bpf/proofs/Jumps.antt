-- The jumps of code stay needed if an instruction is put before it.
use Rattle.std.proofs.Common.{◌≡◌, ℕ, zero, suc, ◌+◌, List, ◌∷◌, Some, arith, ap, ◌∙◌, inl, inr, ◌≢◌, ◌⊎◌, slice_get}
use Rattle.flt_bpf.proofs.Common.{Insn}
use Rattle.flt_bpf.specs.Layout.{JUMP, IsNeeded, JumpsAreNeeded}

-- a jump that is needed stays so
pub jump_later : (c : List Insn) (i : Insn) (place : ℕ) (jump : Insn) → IsNeeded c place jump → IsNeeded (i ∷ c) (suc place) jump
jump_later c i place jump h =
    record { from = suc h.from; branch = h.branch; there = h.there; branches = h.branches; leads = later h.leads; far = omega (arith, h.far) }
  where
    later : (h.from + 1 + h.branch.jt ≡ place) ⊎ (h.from + 1 + h.branch.jf ≡ place) → (suc h.from + 1 + h.branch.jt ≡ suc place) ⊎
        (suc h.from + 1 + h.branch.jf ≡ suc place)
    later (inl e) = inl (omega arith)
    later (inr e) = inr (omega arith)

-- all jumps remain needed after another instruction
pub needed_put : (c : List Insn) (i : Insn) → i.code ≢ JUMP → JumpsAreNeeded c → JumpsAreNeeded (i ∷ c)
needed_put c i other h = record { each = at }
  where
    at : (place : ℕ) (jump : Insn) → slice_get (i ∷ c) place ≡ Some jump → jump.code ≡ JUMP → IsNeeded (i ∷ c) place jump
    at zero jump g e = let same : i ≡ jump = cc in absurd (other (ap (λ j. j.code) same ∙ e))
    at (suc place) jump g e = jump_later c i place jump (h.each place jump g e)
