-- A write of equal bytes that isn't refused has the same result.
use Rattle.capkit_c.proofs.Common.{◌≡◌, ℕ, List, Option, None, subst, sym, Fault, WriteLeaves}
use Rattle.capkit_c.specs.declared.memory.writing.Written.{Written}

pub unrefused : (refusal : Option Fault) (bytes exact old new : List ℕ) (written : Written) → refusal ≡ None → exact ≡ bytes
    → WriteLeaves None exact old new written → WriteLeaves refusal bytes old new written
unrefused refusal bytes exact old new written none same leaves =
    let P : Option Fault → Type 0 = λ r. WriteLeaves r bytes old new written in
    let Q : List ℕ → Type 0 = λ b. WriteLeaves None b old new written in
    subst P (sym none) (subst Q same leaves)
