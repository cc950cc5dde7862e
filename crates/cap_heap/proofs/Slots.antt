-- A `Slot` holds one machine value, which is reached through a `&` with the thread's token. Assumes
-- `Logic`.
use Rattle.std.proofs.Common.{◌≡◌, ℕ, List, [], ◌∷◌, refl}
use seplogic.Ra.Ura.{Ura}
use base.Logic.{sep, wand, apply∗}
use base.Fml.{Lft, Share, Fml, Incl-refl, ftrue, fsep, fex, fat, flft, ftok}
use types.Kit.{Item, Goal, Seq, Step, Soaks, step, ‵, raw, ◌⊛◌, later, ◌$◌, move, drop, use1, use2, use3, split, join, fsplit, fjoin, fpick, fpack, rewrite}
use types.Kit.{await}
use denote.Memory.{cell_at, hidden_shr, lone}
use Rattle.std.proofs.cell.Inside.{Good, round, wraps, unwraps}
use Rattle.cap_heap.specs.{inside.Slots.fields_at, Lending.IsGivenBack}
use denote.{Steps.nothing, Struct.Members.Member, RattleType.RattleType, RawPtr.Ptr, Opens.unhide, Param.layout}
use mir.{Syntax.Ty, Val.Val}
use base.{Fraction.full_share, Mask.every, Mask.less}
use types.{Logic.Logic, Logic.sem, Na.na_acc_in}
use Rattle.cap_heap.specs.contracts.memory.Memory as memory
use Rattle.cap_heap.specs.contracts.slot.Slot as slot
use Rattle.cap_heap.specs.contracts.slot.Slot.TheInside as inside
use Rattle.cap_heap.proofs.memory.Memory.TheLaws as memory_laws

abbrev Memory : RattleType
Memory = memory.the_row

abbrev held : Member
held = record { row = Memory; ty = layout Memory }

abbrev pub Fields : RattleType
Fields = inside.the_row

abbrev pub slot_type : Ty
slot_type = lone Fields.mir

module _ (whole : Ptr × ℕ) where
  abbrev kept : Fields.Denot → Fml
  kept i = fex (IsGivenBack whole i.memory) (λ _. ftrue)

  abbrev pub contents : List Val → Fml
  contents vs = fex Fields.Denot (λ i. fsep (Fields.own_val i vs) (kept i))

  module _ {M : Type 1} {𝓤 : Ura M} {𝓛 : Logic 𝓤} {K : Type 0} {Γ : List (Item 𝓤)} {G : Goal 𝓤 𝓛.H} where
    -- the fields are some memory for which `IsGivenBack` is true
    pub contents_out : K → (vs : List Val) → ((m : Ptr × ℕ) (v : Val) → IsGivenBack whole m → Good (layout Memory) v → vs ≡ round v ∷ []
        → Seq K 𝓛 (‵ (Memory.own_val m (v ∷ [])) ∷ Γ) G)
        → Seq K 𝓛 (‵ (contents vs) ∷ Γ) G
    contents_out t vs k = fpick t (λ i. fsplit t $ move t (1 ∷ []) $ fpick t (λ is. drop t $ unwraps held t ((memory_laws.the_row_laws).lawful 𝓛) []
        [] i.memory vs (λ v good e. k i.memory v is good e)))

    pub contents_in : K → (m : Ptr × ℕ) (v : Val) → IsGivenBack whole m → Step K 𝓛 (‵ (contents (round v ∷ [])) ∷ Γ) G (‵ (Memory.own_val m (v ∷ [])) ∷ Γ) G
    contents_in t m v is = step (λ s.
        let i : Fields.Denot = record { memory = m } in let vs : List Val = round v ∷ [] in
        use1 𝓛 (‵ (Fields.own_val i vs)) (wraps held 𝓛 [] [] m v) $ nothing t $ fpack t (IsGivenBack whole m) (λ _. ftrue) is $ move t (1 ∷ 0 ∷ []) $ fjoin t $
        fpack t Fields.Denot (λ j. fsep (Fields.own_val j vs) (kept j)) i $ s)

  module _ (b o : ℕ) where
    abbrev P : Fml
    P = fields_at Fields kept b o

    -- the way back to the reference and the thread's token
    abbrev pub Shut : {M : Type 1} {𝓤 : Ura M} (𝓛 : Logic 𝓤) → Lft → Share → Item 𝓤
    Shut {𝓤 = 𝓤} 𝓛 κ q = ‵ (ftok (less every (b, o))) ⊛ raw
        (wand 𝓤 (sep 𝓤 (sem 𝓛 P) (𝓛.A.tok (less every (b, o)))) (𝓛.H.⇛ (sep 𝓤 (𝓛.A.lft κ q) (𝓛.A.tok every))))

    module _ {M : Type 1} {𝓤 : Ura M} {𝓛 : Logic 𝓤} {K : Type 0} {Γ : List (Item 𝓤)} {G : Goal 𝓤 𝓛.H} where
      open 𝓛 use {H, A}

      pub opens_slot : K → Soaks G → {κ : Lft} {q : Share}
          → ((m : Ptr × ℕ) (v : Val) → IsGivenBack whole m → Good (layout Memory) v
          → Seq K 𝓛 (‵ (fat full_share slot_type b o (round v)) ∷ ‵ (Memory.own_val m (v ∷ [])) ∷ Shut 𝓛 κ q ∷ Γ) G)
          → Seq K 𝓛 (‵ (hidden_shr slot.the_row κ whole b o) ∷ ‵ (flft κ q) ∷ ‵ (ftok every) ∷ Γ) G
      opens_slot t z {κ} {q} k =
          unhide t $ use3 𝓛 (later (‵ P ⊛ Shut 𝓛 κ q)) (na_acc_in 𝓛 κ ((κ, q) ∷ []) every (b, o) P (Incl-refl κ) refl) $ await t z $ split t $
          fpick t (λ vs. fsplit t $ move t (1 ∷ []) $ contents_out t vs (λ m v is good e.
          rewrite t 1 (λ (us : List Val). ‵ (cell_at full_share Fields.mir us b o)) e refl $ move t (1 ∷ []) $
          use1 𝓛 (‵ (fat full_share slot_type b o (round v))) (𝓛.laws.raw_at full_share slot_type b o (round v)) $ k m v is good))

      pub shuts_slot : K → Soaks G → {κ : Lft} {q : Share} (m : Ptr × ℕ) (v : Val) → IsGivenBack whole m
          → Step K 𝓛 (‵ (flft κ q) ∷ ‵ (ftok every) ∷ Γ) G (‵ (fat full_share slot_type b o (round v)) ∷ ‵ (Memory.own_val m (v ∷ [])) ∷ Shut 𝓛 κ q ∷ Γ) G
      shuts_slot t z {κ} {q} m v is = step (λ s.
          use1 𝓛 (‵ (cell_at full_share Fields.mir (round v ∷ []) b o)) (𝓛.laws.at_raw full_share slot_type b o (round v)) $ move t (1 ∷ []) $
          contents_in t m v is $ move t (1 ∷ 0 ∷ []) $ fjoin t $
          fpack t (List Val) (λ us. fsep (cell_at full_share Fields.mir us b o) (contents us)) (round v ∷ []) $ move t (1 ∷ []) $ split t $ move t
          (2 ∷ 0 ∷ []) $ join t $
          use2 𝓛 (later (‵ (flft κ q) ⊛ ‵ (ftok every)))
          (apply∗ 𝓤 (sep 𝓤 (sem 𝓛 P) (A.tok (less every (b, o)))) (H.⇛ (sep 𝓤 (A.lft κ q) (A.tok every)))) $ await t z $ split t $ s)
