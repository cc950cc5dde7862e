-- `into_inner` unwraps the memory. Assumes `Logic`.
use Rattle.std.proofs.Common.{List, [], ◌∷◌, ◌++◌, refl}
use prog.Wp.{WpFn}
use types.Kit.{‵, raw, ◌⊛◌, prop, ◌$◌, ◌∵◌, !, qed, by, move, drop, use0, split, regoal, fsplit, fjoin}
use types.Part.{whole, sub}
use types.Run.{stop, fld, of_opd, returns, enter}
use types.ByLocal.{alloc_all, pass_all, free_all, look_at, get, get_in, sets}
use denote.Triple.Walked.{Stays, stay_dropped, walk_of}
use Rattle.bumpalo.proofs.Walks.{slot_at}
use Rattle.cap_heap.specs.contracts.slot.Slot.into_inner.{ended, clauses, Key.name as #self}
use Rattle.cap_heap.{specs.Lending.IsGivenBack, proofs.Slots.contents_out, proofs.slot.Slot.into_inner.Statement.statement}
use denote.{RattleType.owns, Signature.types_at, Steps.nothing, Triple.Entry.alive}
use mir.{Syntax.Fn, Val.Val}
use contract.{Monad.fact, Monad.fact_i, Running.tables}
use Rattle.std.proofs.{raw_atomic.Walks.proved_at, raw_atomic.Walks.leaves, cell.Inside.round, ResultValues.and_tt, alloc.Calls.Goes-blank}
use base.{Logic.SProp, Logic.emp, Fml.ftrue}
use Rattle.cap_heap.proofs.slot.Slot.into_inner.Code as compiled

pub into_inner_spec : {M : Type 1} → statement M
into_inner_spec 𝓤 𝓛 𝓜 𝓡 wired =
    let H = 𝓛.H in let fn : Fn = compiled.function in let c = clauses 𝓛 𝓜.mem 𝓡.returns in
    let slots = ended.signature.params in let kept = ended.kept in
    let stays : Stays slots kept = (stay_dropped (slot_at 0 slots) kept.0, tt) in
    let C = (tables 𝓤 H 𝓜 𝓡 𝓡.env).C in let Λ = (tables 𝓤 H 𝓜 𝓡 𝓡.env).Λ in
    proved_at 𝓛 ended stays c 𝓜 𝓡 (Goes-blank 𝓛 0 (slot_at 0 slots) kept.0 (λ κs x f. tt), tt) #self fn (compiled.unfolded 𝓤 H 𝓜 𝓡 wired) (λ z are.
    let Post : Val → SProp 𝓤 = (walk_of 𝓛 ended stays c).post z in
    let a = z.0.3 in let vss = z.0.4 in
    qed 𝓛 ((raw (alive 𝓛 ended.signature z.0.0 z.0.1) ⊛ ‵ (owns (types_at slots z.0.0) a vss)) ∷ ‵ ftrue ∷ []) ∵ move ! (1 ∷ []) $ drop ! $ split ! $
    move ! (1 ∷ []) $
    fsplit ! $ move ! (1 ∷ []) $ drop ! $ fsplit ! $ drop ! $ contents_out a.0 ! vss.0 (λ x v is typed told.
    regoal ! (λ (us : List Val). prop (WpFn 𝓤 H C Λ fn us Post)) (λ i. told i ++ []) refl $
    enter ! C Λ fn (round v ∷ []) Post $
    alloc_all ! (λ l. pass_all ! refl ((and_tt _ typed.0, (typed.1, tt)), tt) $
    sets ! (of_opd ! (get_in ! (fld ! refl (stop !)) (sub ! 0 refl (whole !)))) refl typed $
    sets ! (of_opd ! (get ! refl)) refl typed $
    returns ! (look_at ! 0 refl) $ free_all ! refl $
    use0 𝓛 (raw (fact 𝓤 (IsGivenBack a.0 x))) (fact_i 𝓤 (IsGivenBack a.0 x) (emp 𝓤) is) $ nothing ! $ nothing ! $ fjoin ! $ move ! (3 ∷ 0 ∷ 2 ∷ 1 ∷ []) $
    by ! (leaves 𝓛 ended stays c z v x (tt, tt) (tt, tt)))))
