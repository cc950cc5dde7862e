-- A `Memory` owns room for a type, and `take` gave it or nothing. Assumes `Logic`.
use Rattle.std.proofs.Common.{◌≡◌, ℕ, zero, suc, ◌*◌, ◌/◌, ◌^◌, ◌<◌, ◌≤◌, List, [], ◌∷◌, ◌++◌, IfSome, None, Some, refl, sym, ap, subst, ◌∙◌, arith, w64}
use seplogic.Ra.Ura.{Ura}
use mir.Syntax.{Ty, Width, w8, w16, w32, w128}
use mir.Val.{Val, vint, vstruct, vcons, vnil, of_list, bytes}
use base.Logic.{ent, sep, id⊢}
use base.Fml.{Fml, ftrue, fwand, froom}
use prog.Memory.{size, capped}
use prog.Align.{Dv, align_w, align-bytes}
use prog.Capped.{capped_is, capped_small}
use types.Kit.{Item, Goal, Seq, ‵, ◌⊛◌, ◌$◌, ◌∵◌, !, qed, move, drop, use0, use1, split, frame, rewrite, fsplit, fjoin, fpick, fpack, feq_l, done}
use denote.RawPtr.{Ptr, block_ptr, ptr_val, room_for, in_a_block}
use denote.Steps.{only, peeks, nothing}
use Rattle.cap_heap.specs.Lending.{Place, units, units_at, bytes_at, block_token}
use denote.Struct.{Struct.Struct, Owning.shape, Owning.to}
use denote.{Laws.Is, Laws.shows, RattleType.RattleType, Shadow.makes_shadow}
use types.{Logic.Logic, Logic.sem, Match.live}
use Rattle.{linked_list_allocator.proofs.Nodes.retypes, cap_heap.specs.inside.Blocks.HoldsBlock, cap_heap.proofs.memory.Memory.TheLaws.lowers}
use Rattle.std.specs.contracts.option.Option as option
use Rattle.cap_heap.specs.contracts.memory.Memory as memory
use Rattle.cap_heap.specs.contracts.memory.Memory.TheInside as inside

abbrev pub memory_val : Ptr → ℕ → Val
memory_val p s = vstruct (vcons (ptr_val p) (vcons (vint w64 s) vnil))

abbrev fields_own : Ptr → ℕ → List Val → Fml
fields_own p s = (Struct (shape inside.the_type)).own_val (to inside.the_type (record { start = p; size = s }))

pub memory_made : {M : Type 1} {𝓤 : Ura M} (𝓛 : Logic 𝓤) (p : Ptr) (s : ℕ) → s < 2 ^ 64 → ent 𝓤 (sem 𝓛 (bytes_at p s))
    (sem 𝓛 ((memory.the_row).own_val (p, s) (memory_val p s ∷ [])))
memory_made 𝓛 p s long =
    let own : Fml = fields_own p s (memory_val p s ∷ []) in
    qed 𝓛 (‵ (bytes_at p s) ∷ []) ∵ use0 𝓛 (‵ own)
    (makes_shadow 𝓛 own (λ _. (tt, (tt, ((tt, tt), tt)))) ((ptr_val p ∷ [], (vint w64 s ∷ [], tt)), (refl, (refl, ((refl, long), tt))))) $ fjoin ! $
    nothing ! $ fpack ! (((p, s) ≡ (p, s)) × Unit {0}) (λ _. ftrue) (refl, tt) $ move ! (1 ∷ 0 ∷ []) $ fjoin ! $ done !

abbrev pub Taken : RattleType
Taken = option.the_row memory.the_row

-- what `take` ensures
abbrev pub Told : Place → ℕ → ℕ → Taken.Denot → Type 0
Told r n a x = IfSome x (λ m. (m ≡ r) × HoldsBlock m n a)

pub at_units : (k : ℕ) (p : Ptr) → 0 < k → units_at k p ≡ room_for (units k) p
at_units zero p some = let no : ⊥ = omega arith in absurd no
at_units (suc k) p some = refl

divides_16 : (w : Width) → Dv (bytes w) 16
divides_16 w8 = tt
divides_16 w16 = tt
divides_16 w32 = tt
divides_16 w64 = tt
divides_16 w128 = tt

-- the start of the memory is room for the type that was asked, and the rest is the way back
pub hands_out : {M : Type 1} {𝓤 : Ura M} (𝓛 : Logic 𝓤) (τ : Ty) (b o : ℕ) (r : Place) (n a : ℕ) → block_ptr b o ≡ r.0 → capped (size τ) ≡ n → HoldsBlock r n a
    → ent 𝓤 (𝓛.H.room (units (r.1 / 16)) b o) (sep 𝓤 (𝓛.H.room τ b o) (sem 𝓛 (block_token r τ (block_ptr b o))))
hands_out {𝓤 = 𝓤} 𝓛 τ b o r n a at sized holds =
    let p : Ptr = block_ptr b o in let k = r.1 / 16 in let m = k * 16 in
    let fits : n ≤ m = holds.1 in let small : n < 2 ^ 63 = holds.2 in
    let short : size τ < 2 ^ 63 = capped_small (size τ) (omega arith) in
    let same : size τ ≡ n = sym (capped_is (size τ) (omega arith)) ∙ sized in
    let whole : k ≡ m / 16 = omega arith in
    qed 𝓛 (‵ (froom (units k) b o) ∷ []) ∵ rewrite ! 0 (λ (j : ℕ). ‵ (froom (units j) b o)) whole refl $
    use1 𝓛 (‵ (froom τ b o) ⊛ ‵ (fwand (froom τ b o) (froom (units (m / 16)) b o)))
    (retypes 𝓛 b τ o m (omega arith) (omega arith) (subst (λ (j : ℕ). Dv j 16) (sym (align-bytes τ)) (divides_16 (align_w τ)))) $ split ! $ frame ! $
    rewrite ! 0 (λ (j : ℕ). ‵ (fwand (froom τ b o) (froom (units j) b o))) (sym whole) refl $
    rewrite ! 0 (λ (F : Fml). ‵ (fwand (froom τ b o) F)) (sym (at_units k p holds.0)) refl $
    fpack ! (p ≡ r.0) (λ _. fwand (froom τ b o) (bytes_at p r.1)) at $ done !

module _ {M : Type 1} {𝓤 : Ura M} {𝓛 : Logic 𝓤} {K : Type 0} {Γ : List (Item 𝓤)} {G : Goal 𝓤 𝓛.H} where
  -- the two cases of what `take` gave
  pub taken : K → (r : Place) (n a : ℕ) (x : Taken.Denot) (v : Val) → Told r n a x
      → ((b o : ℕ) → block_ptr b o ≡ r.0 → HoldsBlock r n a → r.1 < 2 ^ 64 → v ≡ live 1 (vcons (memory_val (block_ptr b o) r.1) vnil)
      → Seq K 𝓛 (‵ (froom (units (r.1 / 16)) b o) ∷ Γ) G)
      → (v ≡ live 0 vnil → Seq K 𝓛 Γ G) → Seq K 𝓛 (‵ (Taken.own_val x (v ∷ [])) ∷ Γ) G
  taken t r n a None v told some none =
      fpick t (λ us. fsplit t $ feq_l t
      (λ is. fpick t (λ vss. fsplit t $ feq_l t (λ is'. drop t $ none (ap only is ∙ ap (λ (ws : List Val). live 0 (of_list ws)) is')))))
  taken t r n a (Some m) v told some none =
      fpick t (λ us. fsplit t $ feq_l t (λ is. fpick t (λ vss. fsplit t $ feq_l t (λ is'. fsplit t $ move t (1 ∷ []) $ drop t $
      peeks t memory.the_row (Is memory.the_row) (shows 𝓛 memory.the_row) m vss.0 (λ has.
      fsplit t $ move t (1 ∷ []) $ drop t $ fsplit t $ drop t $
      rewrite t 0 (λ (F : Fml). ‵ F) (at_units (m.1 / 16) m.0 told.1.0) refl $
      in_a_block t m.0 (λ p. room_for (units (m.1 / 16)) p) (id⊢ 𝓤 _) (λ b o at.
      rewrite t 0 (λ (j : ℕ). ‵ (froom (units (j / 16)) b o)) (ap (λ (u : Place). u.1) told.0) refl $
      let so = subst (λ (u : Place). HoldsBlock u n a × (u.1 < 2 ^ 64)) told.0 (told.1, has.0.0.1.1.1.0.1) in
      some b o (sym at ∙ ap (λ (u : Place). u.0) told.0) so.0 so.1
      (ap only is ∙ ap (λ (xs : List Val). live 1 (of_list xs)) (is' ∙ ap (λ (xs : List Val). xs ++ []) (lowers.val_is m vss.0 has))
      ∙ (λ i. live 1 (vcons (memory_val (at i) (told.0 i).1) vnil)))))))))
