-- `none` owns nothing. Assumes `Logic`.
use Rattle.std.proofs.Common.{◌≡◌, [], ◌∷◌, refl, lit<}
use types.Kit.{‵, raw, ◌⊛◌, ◌$◌, ◌∵◌, !, qed, by, move, drop, use0, use1, split}
use types.Part.{agg}
use types.Run.{lit, no_more, and_then, returns, enter}
use types.ByLocal.{alloc_all, pass_all, free_all, look_at, sets}
use Rattle.std.proofs.raw_atomic.Walks.{proved_at, leaves}
use Rattle.cap_heap.specs.contracts.memory.Memory.none.{ended, clauses, Key.name as #self}
use Rattle.cap_heap.proofs.{Blocks.memory_val, Blocks.memory_made, memory.Memory.none.Statement.statement}
use denote.Triple.{Entry.alive, Walked.Stays, Walked.walk_of}
use denote.{RattleType.owns, RawPtr.null_ptr, Signature.types_at, Steps.nothing}
use mir.{Syntax.Fn, Val.Val}
use contract.{Monad.fact, Monad.fact_i, Running.tables}
use base.{Logic.SProp, Logic.emp, Fml.ftrue}
use Rattle.cap_heap.specs.contracts.memory.Memory as memory
use Rattle.cap_heap.proofs.memory.Memory.none.Code as compiled

pub none_spec : {M : Type 1} → statement M
none_spec 𝓤 𝓛 𝓜 𝓡 wired =
    let H = 𝓛.H in let fn : Fn = compiled.function in let c = clauses 𝓛 𝓜.mem 𝓡.returns in
    let stays : Stays ended.signature.params ended.kept = tt in
    let C = (tables 𝓤 H 𝓜 𝓡 𝓡.env).C in let Λ = (tables 𝓤 H 𝓜 𝓡 𝓡.env).Λ in
    proved_at 𝓛 ended stays c 𝓜 𝓡 tt #self fn (compiled.unfolded 𝓤 H 𝓜 𝓡 wired) (λ z are.
    let Post : Val → SProp 𝓤 = (walk_of 𝓛 ended stays c).post z in
    qed 𝓛 ((raw (alive 𝓛 ended.signature z.0.0 z.0.1) ⊛ ‵ (owns (types_at ended.signature.params z.0.0) z.0.3 z.0.4)) ∷ ‵ ftrue ∷ []) ∵ move !
    (1 ∷ []) $ drop ! $ split ! $ move ! (1 ∷ []) $ drop ! $
    enter ! C Λ fn [] Post $ alloc_all ! (λ l. pass_all ! refl tt $
    sets ! (agg ! (and_then ! (lit ! tt) (and_then ! (lit ! tt) (no_more !)))) refl (tt, (record { fits = lit< tt }, (record { fits = lit< tt }, tt))) $
    returns ! (look_at ! 0 refl) $ free_all ! refl $
    nothing ! $ use1 𝓛 (‵ ((memory.the_row).own_val (null_ptr, 0) (memory_val null_ptr 0 ∷ []))) (memory_made 𝓛 null_ptr 0 (lit< tt)) $
    use0 𝓛 (raw (fact 𝓤 (0 ≡ 0))) (fact_i 𝓤 (0 ≡ 0) (emp 𝓤) refl) $ nothing ! $ move ! (3 ∷ 0 ∷ 2 ∷ 1 ∷ []) $
    by ! (leaves 𝓛 ended stays c z (memory_val null_ptr 0) (null_ptr, 0) tt tt)))
