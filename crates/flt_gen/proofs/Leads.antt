-- Code that grew in front still stands at its end; what its first instruction does; and where it leads: its answer from a place on.
use Rattle.flt_gen.proofs.Common.{◌≡◌, ℕ, ◌-◌, ◌≤◌, List, ◌∷◌, length, drop, Option, Some, refl, sym, ap, ◌∙◌, arith, Insn, State, Operation, plain, answer_of}
use Rattle.flt_gen.proofs.Common.{answer_after, answer_drop, code_of, does, does_if_known, option_map_or}
use Rattle.flt_bpf.{proofs.Codes.code_is, specs.Instructions.operation_of, specs.Machine.step}

-- a longer code is the same from the places of the shorter
pub record Extends (c d : List Insn) : Type 0 where
  pub longer : length c ≤ length d
  pub same : (place : ℕ) → place ≤ length c → drop (length d - place) d ≡ drop (length c - place) c

pub extends_none : (c : List Insn) → Extends c c
extends_none c = record { longer = omega arith; same = λ place l. refl }

pub extends_put : {c d : List Insn} (i : Insn) → Extends c d → Extends c (i ∷ d)
extends_put {d = d} i e = grind arith

-- by a constant operand or index
pub by_operand : {A : Type 0} (P : A → Type 0) (o : Option ℕ) (short : ℕ → A) (long : A) → ((k : ℕ) → o ≡ Some k → P (short k)) → P long
    → P (option_map_or short o long)
by_operand P o short long one all = grind arith

-- a state with the words of memory that programs may use
abbrev pub HasWords : State → Type 0
HasWords s = length s.memory ≡ 16

module _ (p : List ℕ) (n : ℕ) where
  -- what an instruction does in front of code
  pub run : (o : Operation) (i : Insn) (c : List Insn) (s : State) → i.code ≡ code_of o → answer_of (i ∷ c) p n 0 s ≡ answer_after (answer_of c p n)
      (does o i p n s)
  unfolding step
  run o i c s e = ap (λ x. answer_after (answer_of c p n) (does_if_known x i p n s)) (ap operation_of e ∙ code_is o)

  pub run_plain : (o : Operation) (k : ℕ) (c : List Insn) (s : State) → answer_of (plain o k ∷ c) p n 0 s ≡ answer_after (answer_of c p n)
      (does o (plain o k) p n s)
  run_plain o k c s = run o (plain o k) c s refl

  -- in each of some states the code gives this answer from its top on
  abbrev pub Tops : (State → Type 0) → List Insn → ℕ → Type 0
  Tops P c v = (s : State) → P s → answer_of c p n 0 s ≡ Some v

  -- the same from a place inside
  pub record Leads (P : State → Type 0) (c : List Insn) (place v : ℕ) : Type 0 where
    pub inside : place ≤ length c
    pub by : (s : State) → P s → answer_of c p n (length c - place) s ≡ Some v

  pub leads_top : {P : State → Type 0} (c : List Insn) (v : ℕ) → Tops P c v → Leads P c (length c) v
  leads_top c v h = grind arith

  -- it does so in more code
  pub leads_on : {P : State → Type 0} {c d : List Insn} {place v : ℕ} → Extends c d → Leads P c place v → Leads P d place v
  leads_on {c = c} {d = d} {place = place} e h = record {
    inside = omega (arith, h.inside, e.longer);
    by = λ s q. sym (answer_drop d p n (length d - place) s) ∙ ap (λ is. answer_of is p n 0 s) (e.same place h.inside)
        ∙ answer_drop c p n (length c - place) s ∙ h.by s q;
  }

  -- in fewer states
  pub leads_in : {P Q : State → Type 0} {c : List Insn} {place v : ℕ} → ((s : State) → Q s → P s) → Leads P c place v → Leads Q c place v
  leads_in f h = record { inside = h.inside; by = λ s q. h.by s (f s q) }

  -- with an answer that is the same
  pub leads_to : {P : State → Type 0} {c : List Insn} {place v w : ℕ} → v ≡ w → Leads P c place v → Leads P c place w
  leads_to e h = record { inside = h.inside; by = λ s q. h.by s q ∙ ap Some e }
