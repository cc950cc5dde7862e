-- `new` wraps the memory. Assumes `Logic`.
use Rattle.std.proofs.Common.{◌≡◌, List, [], ◌∷◌, ◌++◌, refl}
use prog.Wp.{WpFn}
use types.Kit.{‵, raw, ◌⊛◌, prop, ◌$◌, ◌∵◌, !, qed, by, move, drop, use0, split, rewrite, regoal, fsplit, fjoin, fpack}
use types.Part.{agg}
use types.Run.{no_more, and_then, returns, enter}
use types.ByLocal.{alloc_all, pass_all, free_all, look_at, get, sets}
use denote.Triple.Walked.{Stays, stay_dropped, walk_of}
use Rattle.bumpalo.proofs.Walks.{slot_at}
use Rattle.cap_heap.specs.contracts.slot.Slot.new.{ended, clauses, Key.name as #self}
use Rattle.cap_heap.proofs.{Slots.Fields, Slots.contents_in, memory.Memory.TheLaws.the_row_laws, slot.Slot.new.Statement.statement}
use mir.{Syntax.Fn, Val.Val}
use contract.{Monad.fact, Monad.fact_i, Running.tables}
use denote.{Exit.rest, Exit.yes, Steps.nothing, Triple.Entry.alive, RattleType.owns, Laws.Typed, Param.layout, Signature.types_at}
use Rattle.std.proofs.{raw_atomic.Walks.proved_at, raw_atomic.Walks.leaves, cell.Inside.one, cell.Inside.round, ResultValues.and_tt, alloc.Calls.Goes-blank}
use base.{Logic.SProp, Logic.emp, Fml.ftrue}
use Rattle.cap_heap.specs.contracts.memory.Memory as memory
use Rattle.cap_heap.proofs.slot.Slot.new.Code as compiled

pub new_spec : {M : Type 1} → statement M
new_spec 𝓤 𝓛 𝓜 𝓡 wired =
    let H = 𝓛.H in let fn : Fn = compiled.function in let c = clauses 𝓛 𝓜.mem 𝓡.returns in
    let slots = ended.signature.params in let kept = ended.kept in
    let stays : Stays slots kept = (stay_dropped (slot_at 0 slots) kept.0, tt) in
    let C = (tables 𝓤 H 𝓜 𝓡 𝓡.env).C in let Λ = (tables 𝓤 H 𝓜 𝓡 𝓡.env).Λ in
    proved_at 𝓛 ended stays c 𝓜 𝓡 (Goes-blank 𝓛 0 (slot_at 0 slots) kept.0 (λ κs x f. tt), tt) #self fn (compiled.unfolded 𝓤 H 𝓜 𝓡 wired) (λ z are.
    let Post : Val → SProp 𝓤 = (walk_of 𝓛 ended stays c).post z in
    let a = z.0.3 in let vss = z.0.4 in let m = a.0 in
    let got = one (layout memory.the_row) vss.0 ((the_row_laws.lawful 𝓛).typed m vss.0 are.0) in
    let w : Val = got.0 in let good = got.2 in
    qed 𝓛 ((raw (alive 𝓛 ended.signature z.0.0 z.0.1) ⊛ ‵ (owns (types_at slots z.0.0) a vss)) ∷ ‵ ftrue ∷ []) ∵ move ! (1 ∷ []) $ drop ! $ split ! $
    move ! (1 ∷ []) $
    fsplit ! $ move ! (1 ∷ []) $ drop ! $ rewrite ! 0 (λ (us : List Val). ‵ ((memory.the_row).own_val m us)) got.1 refl $
    regoal ! (λ (us : List Val). prop (WpFn 𝓤 H C Λ fn us Post)) (λ i. got.1 i ++ []) refl $
    enter ! C Λ fn (w ∷ []) Post $ alloc_all ! (λ l. pass_all ! refl (good, tt) $
    sets ! (agg ! (and_then ! (get ! refl) (no_more !))) refl (and_tt _ good.0, (good.1, tt)) $
    returns ! (look_at ! 0 refl) $ free_all ! refl $
    contents_in m ! m w (λ _. refl) $ nothing ! $ fpack ! (Typed Fields.mir (round w ∷ [])) (λ _. ftrue) ((and_tt _ good.0, (good.1, tt)), tt) $ fjoin ! $
    use0 𝓛 (raw (fact 𝓤 (m ≡ m))) (fact_i 𝓤 (m ≡ m) (emp 𝓤) refl) $ nothing ! $ nothing ! $ fjoin ! $ move ! (3 ∷ 0 ∷ 2 ∷ 1 ∷ []) $
    by ! (leaves 𝓛 ended stays c z (round w) m (rest ((memory.the_row).exit yes) m, tt) (tt, tt))))
