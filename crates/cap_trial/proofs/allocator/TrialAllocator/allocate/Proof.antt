-- A growth that is admitted is the inner allocator's; the refused one has no memory. Assumes
-- `Logic`.
use Rattle.std.proofs.Common.{◌≡◌, ℕ, Bool, ◌+◌, ◌^◌, ◌<◌, true, false, List, [], ◌∷◌, Ok, Err, refl, w64, Bor}
use Rattle.std.proofs.alloc.Calls.{Al, α, seen, token, Answer, answer_val, Answer-typed, Answer-Ok, Answer-err, takes_key, Takes, at_takes, Answered}
use Rattle.std.proofs.alloc.Calls.{Takes-goes, Takes-gives, answers}
use Rattle.std.proofs.{raw_atomic.Walks.proved, VecSteps.Shapes.after}
use seplogic.Ra.Ura.{Ura}
use mir.Syntax.{Ty, Args, Fn, a_type, dnil, dcons}
use mir.Val.{Val, vbool, vint, vptr}
use mir.MapTy.{inst_fn}
use base.Logic.{SProp, ent, id⊢}
use base.Fml.{Lft, Share, ftrue, fsep, froom, flft}
use prog.Memory.{Memory, size, align, capped, up}
use prog.Routine.{Routine}
use prog.Wp.{WpFn, Tables}
use types.Logic.{Logic}
use contract.BorrowLft.{◌⊑◌, ⊑_trans}
use contract.Monad.{Fun, fact}
use contract.Running.{tables, tables_of}
use sound.WpLaws.{fm_of}
use types.Kit.{‵, raw, ◌⊛◌, some, later, given, learn, ◌$◌, ◌∵◌, !, Sq, qed, move, keep, use0, use1, use2, split, join, pick, fsplit, fjoin, suffices, await}
use types.Kit.{prop, at_ret, done}
use types.Run.{stop, fld, addr, lit, no_more, and_then, first, branches, skips, exec, returns, returns_within, enter}
use types.ByLocal.{alloc_all, pass_all, free_all, look_at, get, through, sets, lands_as, env}
use denote.Builtin.{usize, RefOf}
use denote.Exit.{yes}
use denote.Opens.{unhide}
use denote.Param.{bounded, param}
use denote.Memory.{hidden_shr}
use denote.Plain.{uint_vals, uint_Tells}
use denote.RattleType.{owns}
use denote.RawPtr.{block_ptr}
use denote.Ref.{shr_vals}
use denote.Signature.{Slot, plain, types_at}
use denote.Steps.{heard, nothing}
use denote.Triple.Walked.{Stays, stay_dropped, walk_of, ends_at, Goes-dropped}
use denote.Triple.{Call.calls_at, Clauses.Ended, Clauses.Clauses, Statement.Triple, Table.cited}
use types.Part.{agg}
use Rattle.cap_trial.proofs.allocator.TrialAllocator.allocate.Statement.{statement}
use Rattle.cap_trial.proofs.Counting.{Admits, at_plan, Admits-goes, Admits-gives}
use Rattle.cap_trial.specs.contracts.allocator.Plan as P
use Rattle.cap_trial.specs.contracts.allocator.Trial as T
use Rattle.cap_trial.specs.contracts.allocator.TrialAllocator.allocate as F
use Rattle.cap_trial.proofs.allocator.TrialAllocator.allocate.Code as code
use Rattle.cap_trial.proofs.allocator.admits.Symbol as symbol
use Rattle.cap_trial.proofs.allocator.admits.Met as admits

module _ (Z : Al) where
  abbrev args : Args
  args = bounded (a_type ∷ []) (Z.row, tt) (dcons Z.d (dcons Z.drops dnil))

  abbrev body : Fn
  body = inst_fn args code.function

  abbrev ended : Ended
  ended = F.ended Z.row Z.g Z.d Z.drops

  abbrev self : Slot 2
  self = RefOf (0 ∷ []) tt (plain (λ _. T.the_row (param 0 Z.row))) (λ _. tt)

  abbrev stayed : Stays ended.signature.params ended.kept
  stayed = (stay_dropped self yes, (stay_dropped (plain (λ _. usize)) yes, (stay_dropped (plain (λ _. usize)) yes, tt)))

module _ (Z : Al) {M : Type 1} {𝓤 : Ura M} (𝓛 : Logic 𝓤) (at_mem : Memory → SProp 𝓤) (run : Routine → Fun 𝓤) (𝓣 : Tables 𝓤 𝓛.H)
    (takes : Triple 𝓤 (𝓣.C (takes_key Z)) (Takes Z 𝓛 at_mem run)) (counts : Triple 𝓤 (𝓣.C symbol.name) (Admits 𝓛 at_mem run)) where
  open 𝓛 use {H}

  abbrev clauses : Clauses 𝓤 (ended Z)
  clauses = F.clauses Z.row Z.g Z.d Z.drops 𝓛 at_mem run

  module _ (κ₁ κ₂ : Lft) (q₁ q₂ : Share) (inner : κ₁ ⊑ κ₂) (r : Bor (T.the_row Z.row).Denot) (n a : ℕ) (τ : Ty) where
    abbrev W-ghost : (walk_of 𝓛 (ended Z) (stayed Z) clauses).Ghost
    W-ghost = (((κ₁, (κ₂, tt)), (q₁, (q₂, tt)), (inner, tt), (r, (n, (a, tt))), (shr_vals r, (vint w64 n ∷ [], (vint w64 a ∷ [], tt)))), τ)

    abbrev values : List Val
    values = vptr r.ref_ptr.0 r.ref_ptr.1 ∷ vint w64 n ∷ vint w64 a ∷ []

    abbrev Post : Val → SProp 𝓤
    Post = (walk_of 𝓛 (ended Z) (stayed Z) clauses).post W-ghost

    walk : n < 2 ^ 64 → a < 2 ^ 64 → ent 𝓤 ((walk_of 𝓛 (ended Z) (stayed Z) clauses).pre W-ghost) (WpFn 𝓤 H 𝓣.C 𝓣.Λ (body Z) values Post)
    walk n_fits a_fits =
        let handle : Z.row.Denot = r.now.inner in
        let at : ℕ × ℕ = (r.ref_ptr.0, r.ref_ptr.1 + up (align (α Z)) 0) in
        let plan_at : ℕ × ℕ = (r.ref_ptr.0, r.ref_ptr.1 + up 8 (up (align (α Z)) 0 + size (α Z))) in
        let asked : (Takes Z 𝓛 at_mem run).Ghost = at_takes Z 𝓛 at_mem run κ₁ q₁ at handle n a τ in
        let counted : (Admits 𝓛 at_mem run).Ghost = at_plan 𝓛 at_mem run κ₁ q₁ plan_at r.now.plan in
        let Sized : Type 0 = (capped (size τ) ≡ n) × (capped (align τ) ≡ a) in
        -- from the tokens and what is answered to the end
        let none : Sq 𝓛 (‵ (flft κ₁ q₁) ∷ (‵ (flft κ₂ q₂) ⊛ ‵ ftrue) ∷ []) (prop (Post (answer_val false 0 0))) =
        nothing ! $ suffices ! _ (ends_at 𝓛 (ended Z) (stayed Z) clauses W-ghost (answer_val false 0 0) (Err (record {})) (tt, (tt, (tt, tt)))
        (tt, (tt, (tt, tt)))) $
        use0 𝓛 (‵ (Answer.own_val (Err (record {})) (answer_val false 0 0 ∷ []))) (Answer-err 𝓛) $
        nothing ! $ nothing ! $ fjoin ! $ nothing ! $ fjoin ! $ nothing ! $ fjoin ! $ join ! $ move ! (2 ∷ 3 ∷ []) $ join ! $ join ! $ done ! in
        let block : (b o : ℕ) → Sq 𝓛 (‵ (fsep (froom τ b o) (token Z handle τ (block_ptr b o))) ∷ ‵ (flft κ₁ q₁) ∷ (‵ (flft κ₂ q₂) ⊛ ‵ ftrue) ∷ [])
        (prop (Post (answer_val true b o))) = λ b o.
        suffices ! _ (ends_at 𝓛 (ended Z) (stayed Z) clauses W-ghost (answer_val true b o) (Ok (block_ptr b o)) (tt, (tt, (tt, tt))) (tt, (tt, (tt, tt)))) $
        use0 𝓛 (‵ (Answer.own_val (Ok (block_ptr b o)) (answer_val true b o ∷ []))) (Answer-Ok 𝓛 b o) $
        nothing ! $ nothing ! $ fjoin ! $ nothing ! $ fjoin ! $ nothing ! $ fjoin ! $ join ! $ move ! (2 ∷ 3 ∷ []) $ join ! $ join ! $ done ! in
        qed 𝓛 (((‵ (flft κ₁ q₁) ⊛ ‵ (flft κ₂ q₂) ⊛ ‵ ftrue) ⊛ ‵ (owns (types_at (ended Z).signature.params W-ghost.0.0) W-ghost.0.3 W-ghost.0.4)) ∷
        (raw (fact 𝓤 (κ₂ ⊑ Z.row.lives)) ⊛ raw (fact 𝓤 Sized)) ∷ []) ∵
        move ! (1 ∷ []) $ split ! $ heard ! (κ₂ ⊑ Z.row.lives) (λ lives. heard ! Sized (λ sized.
        split ! $ split ! $ move ! (2 ∷ []) $ fsplit ! $ fsplit ! $ move ! (1 ∷ []) $ unhide ! $ fsplit ! $ fsplit ! $ use1 𝓛
        (‵ (seen Z κ₁ at handle)) (id⊢ 𝓤 _) $
        move ! (1 ∷ []) $ fsplit ! $ use1 𝓛 (‵ (hidden_shr P.the_row κ₁ r.now.plan plan_at.0 plan_at.1)) (id⊢ 𝓤 _) $ keep ! (0 ∷ 6 ∷ 2 ∷ 7 ∷ []) $
        -- [the plan; its token; the handle; the other tokens]
        enter ! 𝓣.C 𝓣.Λ (body Z) values _ $ alloc_all !
        (λ l. pass_all ! refl ((tt, tt), ((tt, record { fits = n_fits }), ((tt, record { fits = a_fits }), tt))) $
        sets ! (addr ! (through ! refl (fld ! refl (stop !)))) refl (tt, tt) $
        use2 𝓛 (raw ((Admits 𝓛 at_mem run).pre counted)) (Admits-goes 𝓛 at_mem run κ₁ q₁ plan_at r.now.plan) $
        calls_at ! (fm_of 𝓤 H 𝓛.laws 𝓣) (Admits 𝓛 at_mem run) counts counted (and_then ! (get ! refl) (no_more !)) (λ v.
        use1 𝓛 (later (some (λ (y : Bool). given (v ≡ vbool y) (‵ (flft κ₁ q₁))))) (Admits-gives 𝓛 at_mem run κ₁ q₁ plan_at r.now.plan v) $ await ! tt
        $ pick ! (λ y. learn ! (λ is.
        lands_as ! is refl (tt, tt) $
        first ! $ branches ! (get ! refl)
        (λ admitted. sets ! (addr ! (through ! refl (fld ! refl (stop !)))) refl (tt, tt) $ move ! (1 ∷ []) $
        use2 𝓛 (raw ((Takes Z 𝓛 at_mem run).pre asked)) (Takes-goes Z 𝓛 at_mem run κ₁ q₁ at handle (⊑_trans κ₁ κ₂ Z.row.lives inner lives) n a τ
        sized.0 sized.1 n_fits a_fits) $
        calls_at ! (fm_of 𝓤 H 𝓛.laws 𝓣) (Takes Z 𝓛 at_mem run) takes asked
        (and_then ! (get ! refl) (and_then ! (get ! refl) (and_then ! (get ! refl) (no_more !)))) (λ w.
        use1 𝓛 (later (raw (Answered Z 𝓛 at_mem run handle τ w) ⊛ ‵ (flft κ₁ q₁))) (Takes-gives Z 𝓛 at_mem run κ₁ q₁ at handle n a τ w) $ await ! tt $ split ! $
        answers Z ! at_mem run handle τ w
        (λ b o e. fjoin ! $ lands_as ! e refl (Answer-typed true b o) $ returns_within ! Post refl (look_at ! 0 refl) $ free_all ! refl $ block b o)
        (λ e. lands_as ! e refl (Answer-typed false 0 0) $ returns_within ! Post refl (look_at ! 0 refl) $ free_all ! refl $ none)))
        (λ refused. skips ! $ exec ! 𝓣.C 𝓣.Λ (env (body Z).locals l) (after 3 (body Z).body) (at_ret _ Post) $ move ! (0 ∷ 2 ∷ []) $
        sets ! (agg ! (no_more !)) refl (tt, tt) $
        sets ! (agg ! (and_then ! (lit ! tt) (and_then ! (get ! refl) (no_more !)))) refl (Answer-typed false 0 0) $
        returns ! (look_at ! 0 refl) $ free_all ! refl $ keep ! (0 ∷ 1 ∷ []) $ none)))))))

pub allocate_spec : {M : Type 1} → statement M
unfolding tables_of
allocate_spec 𝓤 𝓛 𝓜 𝓡 wired Y laws g d drops met _ =
    let Z : Al = record { row = Y; laws = laws; g = g; d = d; drops = drops } in
    let A = 𝓛.A in
    let 𝓣 : Tables 𝓤 𝓛.H = tables_of 𝓤 𝓛.H 𝓜 (tables 𝓤 𝓛.H 𝓜 𝓡 𝓡.env) in
    let number = Goes-dropped 𝓛 2 (plain (λ _. usize)) yes (λ κs x f. refl) in
    proved 𝓛 (ended Z) (stayed Z) (F.clauses Y g d drops 𝓛 𝓜.mem 𝓡.returns) 𝓜 𝓡 (Goes-dropped 𝓛 2 (self Z) yes (λ κs x f. refl), (number, (number, tt)))
    (F.Key.name (args Z)) (body Z) (code.unfolded 𝓤 𝓛.H 𝓜 𝓡 wired (Y, tt) d drops)
    (λ κs. (shr_vals, (uint_vals w64, (uint_vals w64, tt)))) (λ κs. ((λ r vs s. s.0), (uint_Tells w64, (uint_Tells w64, tt)))) (λ κs qs bounds a τ are.
    walk Z 𝓛 𝓜.mem 𝓡.returns 𝓣 (met.allocate drops)
    (cited 𝓤 𝓛.H _ 𝓜 𝓡 𝓡.env symbol.name (𝓡.env symbol.name) refl (admits.met 𝓤 𝓛 𝓜 𝓡 (code.calls-cap_trial::allocator::admits 𝓡.env wired)))
    κs.0 κs.1.0 qs.0 qs.1.0 bounds.0 a.0 a.1.0 a.1.1.0 τ are.1.0.1 are.1.1.0.1)
