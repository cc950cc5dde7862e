-- `deallocate` makes memory of the room and the token again, and keeps it. Assumes `Logic`.
use Rattle.std.proofs.Common.{◌≡◌, ℕ, ◌<◌, ◌^◌, List, [], ◌∷◌, ◌++◌, refl, sym, ap, subst, ◌∙◌, w64}
use mir.Syntax.{Ty, Fn}
use mir.Val.{Val, vint, vptr, vunit}
use base.Logic.{SProp, emp, id⊢, apply∗}
use base.Fml.{Lft, ftrue, fwand}
use prog.Memory.{size, align, capped}
use prog.Wp.{Env, WpFn}
use types.Kit.{‵, raw, ◌⊛◌, some, later, prop, ◌$◌, ◌∵◌, !, qed, by, move, keep, drop, use0, use1, use2, split, split3, join, pick, rewrite, regoal, fsplit}
use types.Kit.{fjoin, fpick, feq_l, flt_l, feq_i, await}
use types.Run.{unit_lit, of_opd, no_more, and_then, returns, enter}
use types.ByLocal.{alloc_all, pass_all, free_all, look_at, get, sets, lands_as, env}
use denote.RawPtr.{Ptr, block_ptr, ptr_val, room_for, in_a_block}
use denote.Steps.{nothing, only, heard}
use denote.Triple.Walked.{Stays, stay_dropped, walk_of, Goes-dropped}
use Rattle.std.proofs.raw_atomic.Walks.{proved_at, leaves}
use Rattle.bumpalo.proofs.Walks.{slot_at}
use Rattle.cap_heap.specs.contracts.region.RegionAllocator.deallocate.{ended, clauses, Key.name as #self}
use Rattle.cap_heap.proofs.region.Region.{give.Met.met as gives, TheLaws.the_row_laws, size.Met.met as sizes}
use Rattle.cap_heap.proofs.{Blocks.memory_val, Blocks.memory_made, region.RegionAllocator.deallocate.Statement.statement}
use Rattle.cap_heap.specs.{Lending.bytes_at, Lending.block_token, contracts.region.Region.the_row as Region}
use types.{Logic.sem, Part.agg}
use denote.Triple.{Clauses.Lasts, Clauses.lasts, Call.calls_at, Entry.alive, Spec.triple_of, Table.framed}
use contract.{Monad.fact, Monad.fact_i, Running.tables}
use denote.{Builtin.usize, Builtin.unit, Signature.types_at, RattleType.owns, Opens.shr_dup}
use Rattle.cap_heap.specs.contracts.memory.Memory as memory
use Rattle.cap_heap.specs.contracts.region.Region.size as sizer
use Rattle.cap_heap.specs.contracts.region.Region.give as giver
use Rattle.cap_heap.proofs.region.RegionAllocator.deallocate.Code as compiled

pub deallocate_spec : {M : Type 1} → statement M
deallocate_spec 𝓤 𝓛 𝓜 𝓡 wired =
    let H = 𝓛.H in let fn : Fn = compiled.function in let c = clauses 𝓛 𝓜.mem 𝓡.returns in
    let slots = ended.signature.params in let kept = ended.kept in
    let stays : Stays slots kept = (
      stay_dropped (slot_at 0 slots) kept.0,
      (stay_dropped (slot_at 1 slots) kept.1.0, (stay_dropped (slot_at 2 slots) kept.1.1.0, (stay_dropped (slot_at 3 slots) kept.1.1.1.0, tt))),
    ) in
    let C = (tables 𝓤 H 𝓜 𝓡 𝓡.env).C in let Λ = (tables 𝓤 H 𝓜 𝓡 𝓡.env).Λ in
    proved_at 𝓛 ended stays c 𝓜 𝓡 (
      Goes-dropped 𝓛 1 (slot_at 0 slots) kept.0 (λ κs x f. refl),
      (
        Goes-dropped 𝓛 1 (slot_at 1 slots) kept.1.0 (λ κs x f. refl),
        (Goes-dropped 𝓛 1 (slot_at 2 slots) kept.1.1.0 (λ κs x f. refl), (Goes-dropped 𝓛 1 (slot_at 3 slots) kept.1.1.1.0 (λ κs x f. refl), tt)),
      ),
    )
    #self fn (compiled.unfolded 𝓤 H 𝓜 𝓡 wired) (λ z are.
    let Post : Val → SProp 𝓤 = (walk_of 𝓛 ended stays c).post z in
    let a = z.0.3 in let vss = z.0.4 in let τ : Ty = z.1 in
    let h = a.0.now in let r : Ptr × ℕ = h.slot in let s : ℕ = r.1 in let from = a.1.0 in let n = a.1.1.0 in let al = a.1.1.1.0 in
    let κ : Lft = z.0.0.0 in let mb = a.0.ref_ptr.0 in let mo = a.0.ref_ptr.1 in let me : Val = vptr mb mo in
    let k₀ = triple_of 𝓛 sizer.signature (sizer.spec 𝓛 𝓜.mem 𝓡.returns) in
    let y₀ : k₀.Ghost = ((z.0.0, z.0.1, z.0.2, (a.0, tt), (me ∷ [], tt)), tt) in
    let k = triple_of 𝓛 giver.signature (giver.spec 𝓛 𝓜.mem 𝓡.returns) in
    let Asked : Type 0 = (capped (size τ) ≡ n) × (capped (align τ) ≡ al) in
    let Tokens = raw (alive 𝓛 ended.signature z.0.0 z.0.1) in
    qed 𝓛 ((Tokens ⊛ ‵ (owns (types_at slots z.0.0) a vss)) ∷ (raw (fact 𝓤 Asked) ⊛ ‵ (room_for τ from) ⊛ ‵ (block_token r τ from)) ∷ []) ∵
    move ! (1 ∷ []) $ split3 ! $ drop ! $ in_a_block ! from (λ p. room_for τ p) (id⊢ 𝓤 _) (λ b o at.
    let p : Ptr = block_ptr b o in
    move ! (1 ∷ []) $ fpick ! (λ is. let is' : p ≡ r.0 = sym at ∙ is in rewrite ! 0 (λ (u : Ptr). ‵ (fwand (room_for τ u) (bytes_at u s))) at refl $
    move ! (1 ∷ 0 ∷ []) $
    use2 𝓛 (‵ (bytes_at p s)) (apply∗ 𝓤 (sem 𝓛 (room_for τ p)) (sem 𝓛 (bytes_at p s))) $
    move ! (1 ∷ []) $ split ! $ move ! (1 ∷ []) $ fsplit ! $ fsplit ! $ keep ! (1 ∷ 3 ∷ 4 ∷ []) $
    -- [`self`; the tokens; the bytes]
    shr_dup ! Region the_row_laws.shr_laws h mb mo κ $
    regoal ! (λ (us : List Val). prop (WpFn 𝓤 H C Λ fn us Post))
    (λ i. are.0.0 i ++ ((are.1.0 ∙ ap (λ (u : Ptr). ptr_val u ∷ []) at) i ++ (are.1.1.0.0 i ++ (are.1.1.1.0.0 i ++ [])))) refl $
    enter ! C Λ fn (me ∷ vptr b o ∷ vint w64 n ∷ vint w64 al ∷ []) Post $
    alloc_all ! (λ l. pass_all ! refl ((tt, tt), ((tt, tt), ((tt, record { fits = are.1.1.0.1 }), ((tt, record { fits = are.1.1.1.0.1 }), tt)))) $
    let En : Env 𝓤 H = env fn.locals l in
    feq_i ! (List Val) (me ∷ []) (me ∷ []) refl $ fjoin ! $ nothing ! $ move ! (1 ∷ 0 ∷ []) $ fjoin ! $ move ! (2 ∷ 0 ∷ []) $ join ! $ nothing ! $
    move ! (1 ∷ 0 ∷ []) $ join ! $ use1 𝓛 (raw (k₀.pre y₀)) (id⊢ 𝓤 _) $
    calls_at ! (framed 𝓤 H 𝓜 (tables 𝓤 H 𝓜 𝓡 𝓡.env)) k₀ (sizes 𝓤 𝓛 𝓜 𝓡 (compiled.calls-cap_heap::region::Region::size 𝓡.env wired)) y₀
    (and_then ! (get ! refl) (no_more !)) (λ v.
    use1 𝓛 (later (some (λ (j : ℕ). (Tokens ⊛ ‵ (usize.own_val j (v ∷ []))) ⊛ some
    (λ (ls : Lasts sizer.ended z.0.0 y₀.0.3). ‵ (lasts sizer.ended z.0.0 y₀.0.3 ls) ⊛ raw (fact 𝓤 (j ≡ s)))))) (id⊢ 𝓤 (k₀.post y₀ v)) $
    await ! tt $ pick ! (λ j. split ! $ move ! (1 ∷ []) $ pick !
    (λ _. split ! $ drop ! $ heard ! (j ≡ s) (λ said. split ! $ move ! (1 ∷ []) $ fsplit ! $ feq_l ! (λ e. flt_l ! (λ long'.
    let long : s < 2 ^ 64 = subst (λ (m : ℕ). m < 2 ^ 64) said long' in
    lands_as ! (ap only e ∙ ap (vint w64) said) refl (tt, record { fits = long }) $
    sets ! (agg ! (and_then ! (get ! refl) (and_then ! (get ! refl) (no_more !)))) refl (tt, (tt, (record { fits = long }, tt))) $
    -- [the tokens; `self`; the bytes]
    let y : k.Ghost = ((z.0.0, z.0.1, z.0.2, (a.0, ((p, s), tt)), (me ∷ [], (memory_val p s ∷ [], tt))), tt) in
    move ! (2 ∷ []) $ use1 𝓛 (‵ ((memory.the_row).own_val (p, s) (memory_val p s ∷ []))) (memory_made 𝓛 p s long) $ nothing ! $ move ! (1 ∷ 0 ∷ []) $ fjoin ! $
    move ! (2 ∷ []) $ feq_i ! (List Val) (me ∷ []) (me ∷ []) refl $ fjoin ! $ fjoin ! $ move ! (1 ∷ 0 ∷ []) $ join ! $ use0 𝓛
    (raw (fact 𝓤 ((p, s) ≡ r))) (fact_i 𝓤 ((p, s) ≡ r) (emp 𝓤) (λ i. (is' i, s))) $ move ! (1 ∷ 0 ∷ []) $ join ! $ use1 𝓛 (raw (k.pre y)) (id⊢ 𝓤 _) $
    calls_at ! (framed 𝓤 H 𝓜 (tables 𝓤 H 𝓜 𝓡 𝓡.env)) k (gives 𝓤 𝓛 𝓜 𝓡 (compiled.calls-cap_heap::region::Region::give 𝓡.env wired)) y
    (and_then ! (get ! refl) (and_then ! (get ! refl) (no_more !))) (λ u.
    use1 𝓛 (later (some (λ (t : Unit {0}). (Tokens ⊛ ‵ (unit.own_val t (u ∷ []))) ⊛ some
    (λ (ls : Lasts giver.ended z.0.0 y.0.3). ‵ (lasts giver.ended z.0.0 y.0.3 ls) ⊛ ‵ ftrue)))) (id⊢ 𝓤 (k.post y u)) $
    await ! tt $ pick ! (λ t. split ! $ move ! (1 ∷ []) $ drop ! $ split ! $ move ! (1 ∷ []) $ feq_l ! (λ e'. lands_as ! (ap only e') refl (tt, tt) $
    sets ! (of_opd ! (unit_lit !)) refl (tt, tt) $
    returns ! (look_at ! 0 refl) $ free_all ! refl $
    feq_i ! (List Val) (vunit ∷ []) (vunit ∷ []) refl $ nothing ! $ nothing ! $ nothing ! $ fjoin ! $ nothing ! $ fjoin ! $ nothing ! $ fjoin ! $
    nothing ! $ fjoin ! $ move ! (3 ∷ 0 ∷ 2 ∷ 1 ∷ []) $
    by ! (leaves 𝓛 ended stays c z vunit tt (tt, (tt, (tt, (tt, tt)))) (tt, (tt, (tt, (tt, tt))))))))))))))))))
