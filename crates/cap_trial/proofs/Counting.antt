-- `admits` at a call: what it is handed, and what its caller has of it. Assumes `Logic`.
use Rattle.std.proofs.Common.{◌≡◌, ℕ, Bool, List, [], ◌∷◌, refl, ap}
use seplogic.Ra.Ura.{Ura}
use mir.Val.{Val, vbool, vptr}
use base.Logic.{SProp, ent, sep, ex, guard, id⊢}
use base.Fml.{Lft, Share, ftrue, fsep, flft}
use prog.Memory.{Memory}
use prog.Routine.{Routine}
use types.Logic.{Logic, sem}
use contract.Monad.{Fun}
use denote.Memory.{hidden_shr}
use denote.Builtin.{bool}
use denote.Steps.{nothing, only}
use denote.Triple.{Statement.Contract, Spec.triple_of}
use types.Kit.{raw, ‵, ◌⊛◌, some, later, ◌$◌, ◌∵◌, !, qed, move, keep, use1, split, join, pick, fjoin, feq_i, feq_l, check, show, await, updating}
use types.Kit.{now as at_once, done}
use Rattle.cap_trial.specs.declared.allocator.Plan.{Plan}
use Rattle.cap_trial.specs.contracts.allocator.Plan as P
use Rattle.cap_trial.specs.contracts.allocator.admits as F

module _ {M : Type 1} {𝓤 : Ura M} (𝓛 : Logic 𝓤) (at_mem : Memory → SProp 𝓤) (run : Routine → Fun 𝓤) where
  abbrev pub Admits : Contract 𝓤
  Admits = triple_of 𝓛 F.signature (F.spec 𝓛 at_mem run)

  -- a plan that is lent, at a place in memory
  abbrev pub at_plan : Lft → Share → ℕ × ℕ → Plan → Admits.Ghost
  at_plan κ q place plan = (((κ, tt), (q, tt), tt, (record { ref_ptr = place; now = plan }, tt), (vptr place.0 place.1 ∷ [], tt)), tt)

module _ {M : Type 1} {𝓤 : Ura M} (𝓛 : Logic 𝓤) (at_mem : Memory → SProp 𝓤) (run : Routine → Fun 𝓤) (κ : Lft) (q : Share) (place : ℕ × ℕ) (plan : Plan) where
  open 𝓛 use {H, A}

  pub Admits-goes : ent 𝓤 (sep 𝓤 (sem 𝓛 (hidden_shr P.the_row κ plan place.0 place.1)) (A.lft κ q))
      ((Admits 𝓛 at_mem run).pre (at_plan 𝓛 at_mem run κ q place plan))
  Admits-goes =
      let address : List Val = vptr place.0 place.1 ∷ [] in
      qed 𝓛 (‵ (hidden_shr P.the_row κ plan place.0 place.1) ∷ ‵ (flft κ q) ∷ []) ∵
      -- the argument, and the end of the list of arguments
      feq_i ! (List Val) address address refl $ fjoin ! $ nothing ! $ move ! (1 ∷ []) $ fjoin ! $
      -- the token, and the end of the list of tokens
      nothing ! $ move ! (2 ∷ []) $ join ! $ join ! $
      -- nothing is required
      nothing ! $ move ! (1 ∷ []) $ done !

  -- it answers yes or no
  abbrev pub Said : Val → SProp 𝓤
  Said v = ex 𝓤 (λ (yes : Bool). guard 𝓤 (v ≡ vbool yes) (A.lft κ q))

  pub Admits-gives : (v : Val) → ent 𝓤 ((Admits 𝓛 at_mem run).post (at_plan 𝓛 at_mem run κ q place plan) v) (H.⇛ (Said v))
  Admits-gives v =
      qed 𝓛 (raw ((Admits 𝓛 at_mem run).post (at_plan 𝓛 at_mem run κ q place plan) v) ∷ []) ∵ updating ! $
      use1 𝓛 (later (some (λ (yes : Bool). ((‵ (flft κ q) ⊛ ‵ ftrue) ⊛ ‵ (bool.own_val yes (v ∷ []))) ⊛ some
      (λ (ws : Unit {0} × Unit {0}). ‵ (fsep ftrue ftrue) ⊛ ‵ ftrue)))) (id⊢ 𝓤 _) $ await ! tt $ pick ! (λ yes.
      split ! $ split ! $ move ! (1 ∷ []) $ feq_l ! (λ is. split ! $ at_once ! $ show ! (λ (y : Bool). guard 𝓤 (v ≡ vbool y) (A.lft κ q)) yes $ check
      ! (ap only is) $ keep ! (0 ∷ []) $ done !))
