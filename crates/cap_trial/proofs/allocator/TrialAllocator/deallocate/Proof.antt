-- A block goes back to the inner allocator. Assumes `Logic`.
use Rattle.std.proofs.Common.{◌≡◌, ℕ, ◌+◌, ◌^◌, ◌<◌, List, [], ◌∷◌, refl, w64, Bor}
use Rattle.std.proofs.raw_atomic.Walks.{proved}
use Rattle.std.proofs.alloc.Calls.{Al, α, seen, token, gives_key, Gives, at_gives, Gives-goes, Gives-Gives}
use seplogic.Ra.Ura.{Ura}
use mir.Syntax.{Ty, Args, Fn, a_type, dnil, dcons}
use mir.Val.{Val, vint, vptr, vunit}
use mir.MapTy.{inst_fn}
use base.Logic.{SProp, ent, id⊢, never_e}
use base.Fml.{Lft, Share, ffalse, ftrue, fsep, froom, flft}
use prog.Memory.{Memory, size, align, capped, up}
use prog.Routine.{Routine}
use prog.Wp.{WpFn, Tables}
use types.Logic.{Logic}
use contract.BorrowLft.{◌⊑◌, ⊑_trans}
use contract.Monad.{Fun, fact}
use contract.Running.{tables, tables_of}
use sound.WpLaws.{fm_of}
use types.Kit.{Item, ‵, raw, ◌⊛◌, later, given, learn, ◌$◌, ◌∵◌, !, qed, by, move, keep, use1, split, split3, join, fsplit, fjoin, feq_i, suffices, await, done}
use types.Run.{stop, fld, addr, of_opd, unit_lit, no_more, and_then, returns, enter}
use types.ByLocal.{alloc_all, pass_all, free_all, look_at, get, through, sets, lands_as}
use denote.Builtin.{usize, RawPtr, RefOf}
use denote.Exit.{yes}
use denote.Opens.{unhide}
use denote.Param.{bounded, param}
use denote.Plain.{uint_vals, uint_Tells}
use denote.RattleType.{owns}
use denote.RawPtr.{Ptr, block_ptr, null_ptr, ptr_val, rawptr_vals, rawptr_Tells}
use denote.Ref.{shr_vals}
use denote.Signature.{Slot, plain, types_at}
use denote.Steps.{heard, nothing}
use denote.Triple.Walked.{Stays, stay_dropped, walk_of, ends_at, Goes-dropped}
use denote.Triple.{Call.calls_at, Clauses.Ended, Clauses.Clauses, Statement.Triple}
use Rattle.cap_trial.proofs.allocator.TrialAllocator.deallocate.Statement.{statement}
use Rattle.cap_trial.specs.contracts.allocator.Trial as T
use Rattle.cap_trial.specs.contracts.allocator.TrialAllocator.deallocate as F
use Rattle.cap_trial.proofs.allocator.TrialAllocator.deallocate.Code as code

module _ (Z : Al) where
  abbrev args : Args
  args = bounded (a_type ∷ []) (Z.row, tt) (dcons Z.d (dcons Z.drops dnil))

  abbrev body : Fn
  body = inst_fn args code.function

  abbrev ended : Ended
  ended = F.ended Z.row Z.g Z.d Z.drops

  abbrev self : Slot 2
  self = RefOf (0 ∷ []) tt (plain (λ _. T.the_row (param 0 Z.row))) (λ _. tt)

  abbrev stayed : Stays ended.signature.params ended.kept
  stayed =
      let number = stay_dropped (plain (λ _. usize)) yes in
      (stay_dropped self yes, (stay_dropped (plain (λ _. RawPtr)) yes, (number, (number, tt))))

module _ (Z : Al) {M : Type 1} {𝓤 : Ura M} (𝓛 : Logic 𝓤) (at_mem : Memory → SProp 𝓤) (run : Routine → Fun 𝓤) (𝓣 : Tables 𝓤 𝓛.H)
    (gives : Triple 𝓤 (𝓣.C (gives_key Z)) (Gives Z 𝓛 at_mem run)) where
  open 𝓛 use {H}

  abbrev clauses : Clauses 𝓤 (ended Z)
  clauses = F.clauses Z.row Z.g Z.d Z.drops 𝓛 at_mem run

  module _ (κ₁ κ₂ : Lft) (q₁ q₂ : Share) (inner : κ₁ ⊑ κ₂) (r : Bor (T.the_row Z.row).Denot) (n a : ℕ) (τ : Ty) where
    abbrev W-ghost : Ptr → (walk_of 𝓛 (ended Z) (stayed Z) clauses).Ghost
    W-ghost x = (
      (
        (κ₁, (κ₂, tt)),
        (q₁, (q₂, tt)),
        (inner, tt),
        (r, (x, (n, (a, tt)))),
        (shr_vals r, (rawptr_vals x, (vint w64 n ∷ [], (vint w64 a ∷ [], tt)))),
      ),
      τ,
    )

    abbrev values : Ptr → List Val
    values x = vptr r.ref_ptr.0 r.ref_ptr.1 ∷ ptr_val x ∷ vint w64 n ∷ vint w64 a ∷ []

    abbrev Post : Ptr → Val → SProp 𝓤
    Post x = (walk_of 𝓛 (ended Z) (stayed Z) clauses).post (W-ghost x)

    abbrev entry : Ptr → Item 𝓤
    entry x = (‵ (flft κ₁ q₁) ⊛ ‵ (flft κ₂ q₂) ⊛ ‵ ftrue) ⊛ ‵ (owns (types_at (ended Z).signature.params (W-ghost x).0.0) (W-ghost x).0.3 (W-ghost x).0.4)

    abbrev Sized : Type 0
    Sized = (capped (size τ) ≡ n) × (capped (align τ) ≡ a)

    walk : n < 2 ^ 64 → a < 2 ^ 64 → (x : Ptr) → ent 𝓤 ((walk_of 𝓛 (ended Z) (stayed Z) clauses).pre (W-ghost x))
        (WpFn 𝓤 H 𝓣.C 𝓣.Λ (body Z) (values x) (Post x))
    -- nothing lies at null
    walk n_fits a_fits null_ptr =
        qed 𝓛 (entry null_ptr ∷ (raw (fact 𝓤 (κ₂ ⊑ Z.row.lives)) ⊛ raw (fact 𝓤 Sized) ⊛ ‵ (fsep ffalse (token Z r.now.inner τ null_ptr))) ∷ []) ∵
        move ! (1 ∷ []) $ split3 ! $ move ! (2 ∷ []) $ fsplit ! $ keep ! (0 ∷ []) $ by ! (never_e 𝓤 _)
    walk n_fits a_fits (block_ptr b o) =
        let handle : Z.row.Denot = r.now.inner in
        let at : ℕ × ℕ = (r.ref_ptr.0, r.ref_ptr.1 + up (align (α Z)) 0) in
        let x : Ptr = block_ptr b o in
        let given_back : (Gives Z 𝓛 at_mem run).Ghost = at_gives Z 𝓛 at_mem run κ₁ q₁ at handle b o n a τ in
        qed 𝓛 (entry x ∷ (raw (fact 𝓤 (κ₂ ⊑ Z.row.lives)) ⊛ raw (fact 𝓤 Sized) ⊛ ‵ (fsep (froom τ b o) (token Z handle τ x))) ∷ []) ∵
        move ! (1 ∷ []) $ split3 ! $ heard ! (κ₂ ⊑ Z.row.lives) (λ lives. heard ! Sized (λ sized. fsplit ! $
        -- [the block; its token; what came in]
        move ! (2 ∷ []) $ split ! $ split ! $ move ! (2 ∷ []) $ fsplit ! $ fsplit ! $ move ! (1 ∷ []) $ unhide ! $ fsplit ! $ fsplit ! $ use1 𝓛
        (‵ (seen Z κ₁ at handle)) (id⊢ 𝓤 _) $
        keep ! (0 ∷ 5 ∷ 7 ∷ 8 ∷ 6 ∷ []) $ join ! $ move ! (2 ∷ 0 ∷ []) $ join ! $ move ! (1 ∷ 0 ∷ []) $ join ! $
        use1 𝓛 (raw ((Gives Z 𝓛 at_mem run).pre given_back)) (Gives-goes Z 𝓛 at_mem run κ₁ q₁ at handle (⊑_trans κ₁ κ₂ Z.row.lives inner lives) b o n
        a τ sized.0 sized.1 n_fits a_fits) $
        -- [what the inner allocator is handed; the other tokens]
        enter ! 𝓣.C 𝓣.Λ (body Z) (values x) _ $ alloc_all !
        (λ l. pass_all ! refl ((tt, tt), ((tt, tt), ((tt, record { fits = n_fits }), ((tt, record { fits = a_fits }), tt)))) $
        sets ! (addr ! (through ! refl (fld ! refl (stop !)))) refl (tt, tt) $
        calls_at ! (fm_of 𝓤 H 𝓛.laws 𝓣) (Gives Z 𝓛 at_mem run) gives given_back
        (and_then ! (get ! refl) (and_then ! (get ! refl) (and_then ! (get ! refl) (and_then ! (get ! refl) (no_more !))))) (λ v.
        use1 𝓛 (later (given (v ≡ vunit) (‵ (flft κ₁ q₁)))) (Gives-Gives Z 𝓛 at_mem run κ₁ q₁ at handle b o n a τ v) $ await ! tt $ learn !
        (λ is. lands_as ! is refl (tt, tt) $
        sets ! (of_opd ! (unit_lit !)) refl (tt, tt) $ returns ! (look_at ! 0 refl) $ free_all ! refl $
        suffices ! _ (ends_at 𝓛 (ended Z) (stayed Z) clauses (W-ghost x) vunit tt (tt, (tt, (tt, (tt, tt)))) (tt, (tt, (tt, (tt, tt))))) $
        -- nothing is ensured; the result; the four parameters
        nothing ! $ feq_i ! (List Val) (vunit ∷ []) (vunit ∷ []) refl $
        nothing ! $ nothing ! $ fjoin ! $ nothing ! $ fjoin ! $ nothing ! $ fjoin ! $ nothing ! $ fjoin ! $ join ! $
        move ! (2 ∷ 3 ∷ []) $ join ! $ join ! $ done !)))))

pub deallocate_spec : {M : Type 1} → statement M
unfolding tables_of
deallocate_spec 𝓤 𝓛 𝓜 𝓡 wired Y laws g d drops met _ =
    let Z : Al = record { row = Y; laws = laws; g = g; d = d; drops = drops } in
    let A = 𝓛.A in
    let 𝓣 : Tables 𝓤 𝓛.H = tables_of 𝓤 𝓛.H 𝓜 (tables 𝓤 𝓛.H 𝓜 𝓡 𝓡.env) in
    let number = Goes-dropped 𝓛 2 (plain (λ _. usize)) yes (λ κs x f. refl) in
    proved 𝓛 (ended Z) (stayed Z) (F.clauses Y g d drops 𝓛 𝓜.mem 𝓡.returns) 𝓜 𝓡
    (Goes-dropped 𝓛 2 (self Z) yes (λ κs x f. refl), (Goes-dropped 𝓛 2 (plain (λ _. RawPtr)) yes (λ κs x f. refl), (number, (number, tt))))
    (F.Key.name (args Z)) (body Z) (code.unfolded 𝓤 𝓛.H 𝓜 𝓡 wired (Y, tt) d drops)
    (λ κs. (shr_vals, (rawptr_vals, (uint_vals w64, (uint_vals w64, tt)))))
    (λ κs. ((λ r vs s. s.0), (rawptr_Tells, (uint_Tells w64, (uint_Tells w64, tt))))) (λ κs qs bounds a τ are.
    walk Z 𝓛 𝓜.mem 𝓡.returns 𝓣 (met.deallocate drops) κs.0 κs.1.0 qs.0 qs.1.0 bounds.0 a.0 a.1.1.0 a.1.1.1.0 τ are.1.1.0.1 are.1.1.1.0.1 a.1.0)
