-- The programs of a job remain those for its policy, whichever of them run.
use Rattle.cap_tools.proofs.Common.{◌≡◌, ℕ, zero, suc, List, [], ◌∷◌, map, true, false, if◌then◌else◌, Option, None, Some, refl, sym, ◌∙◌, ap, subst, Captured}
use Rattle.cap_tools.proofs.Common.{Insn, Content, empty, truth, all_links, AreMade, ran_at, ran_if, Rule, by_reading, by_answer, AreNew, place_by, spent_on}
use Rattle.cap_tools.proofs.Common.{Policy, Edit, Filter, KeepAll, Count, is_too_many, AreFor, HavePrograms, SelectorView, spent_by, spent_by_verdict, Spends}
use Rattle.cap_filter.proofs.Filters.{made-ran}

-- a run doesn't change a program's instructions
insns-ran : (programs : List Content) (i : ℕ) (p : Captured) → map (λ (x : Content). x.insns) (ran_at i p programs) ≡ map (λ (x : Content). x.insns) programs
insns-ran [] i p = refl
insns-ran (x ∷ xs) zero p = refl
insns-ran (x ∷ xs) (suc i) p = ap (λ (l : List (List Insn)). x.insns ∷ l) (insns-ran xs i p)

for-ran : (rule : Rule) (p : Captured) (programs : List Content) → AreFor rule programs → AreFor rule (spent_on rule p programs)
for-ran (by_reading empty) p programs are = are
for-ran (by_reading (truth a)) p programs are = by_place (place_by (by_reading (truth a)) p.link)
  where
    by_place : (o : Option ℕ) → AreMade (truth a) all_links (ran_if o p programs)
    by_place None = are
    by_place (Some i) = made-ran (truth a) all_links programs i p are
for-ran (by_answer prog) p programs are = insns-ran programs 0 p ∙ are

have-ran : (policy : Policy) (p : Captured) (programs : List Content) → HavePrograms policy programs → HavePrograms policy (spent_by policy p programs)
have-ran (Edit s) p programs have = have
have-ran (Filter rule count) p programs have = for-ran rule p programs have
have-ran KeepAll p programs have = have
have-ran Count p programs have = have

have-spent : (policy : Policy) (number : ℕ) (p : Captured) (programs : List Content) → HavePrograms policy programs
    → HavePrograms policy (spent_by_verdict policy number p programs)
have-spent policy number p programs have =
    elim (is_too_many policy number) as (λ b. HavePrograms policy (if b then programs else spent_by policy p programs))
    [ true ↦ have | false ↦ have-ran policy p programs have ]

-- a packet is decided
pub have-decided : (packet : Option Captured) (old : SelectorView) (number : ℕ) (new : SelectorView) → Spends packet old number new
    → new.policy ≡ old.policy → HavePrograms old.policy old.programs → HavePrograms new.policy new.programs
have-decided None old number new spends policy have = absurd spends
have-decided (Some p) old number new spends policy have =
    let A : Policy → Type 0 = λ a. HavePrograms a new.programs in
    let P : List Content → Type 0 = λ l. HavePrograms old.policy l in
    subst A (sym policy) (subst P (sym spends.0) (have-spent old.policy number p old.programs have))

-- an input is closed
pub have-kept : (old new : SelectorView) → new.programs ≡ old.programs → new.policy ≡ old.policy → HavePrograms old.policy old.programs
    → HavePrograms new.policy new.programs
have-kept old new programs policy have =
    let A : Policy → Type 0 = λ a. HavePrograms a new.programs in
    let P : List Content → Type 0 = λ l. HavePrograms old.policy l in
    subst A (sym policy) (subst P (sym programs) have)

-- a filter is just made
pub new-for : (rule : Rule) (programs : List Content) → AreNew rule programs → AreFor rule programs
new-for (by_reading empty) programs new = new
new-for (by_reading (truth a)) programs new = new.0
new-for (by_answer prog) programs new = ap (λ (l : List Content). map (λ (x : Content). x.insns) l) new
