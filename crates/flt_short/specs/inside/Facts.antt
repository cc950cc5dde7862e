-- What is known of a packet p of original length n and of a run's state s: the abstract state
-- (`Known`) at a place, when it is true, and what the functions of `facts.rt` keep of that. `code`
-- and `k` are those of a load. Together, with what X holds at a load at X, they identify its value:
-- bytes of the packet, or its length. Elsewhere `k` is a state. `i` is an instruction.
use Rattle.std.specs.Prelude.{◌≡◌, ℕ, nat_lt, ◌+◌, ◌%◌, ◌^◌, ◌==◌, not, Bool, true, false}
use Rattle.std.specs.Prelude.{if◌then◌else◌, ◌&&◌, ◌||◌, ◌⊎◌, List, All, Option, Some, None, IfSome}
use Rattle.std.specs.{Option.option_map, Option.option_eq, Prelude.slice_get, Prelude.bit_and}
use Rattle.flt_bpf.specs.declared.operation.Operation.TheVariants.{LoadAbsolute, LoadIndirect, Load}
use Rattle.flt_bpf.specs.declared.operation.Operation.TheVariants.{LoadHeaderLength, Compute}
use Rattle.flt_bpf.specs.{Instructions.operation_of, declared.insn.Insn.Insn}
use Rattle.flt_bpf.specs.Machine.{field, header_length, test_holds, operand_value}
use Rattle.flt_bpf.specs.declared.{machine.State.State, operation.AluOperation.TheVariants.And}
use Rattle.flt_bpf.specs.declared.operation.Operand.{Operand, TheVariants.Constant}
use Rattle.flt_bpf.specs.declared.operation.{Operation.Operation, Test.Test, Width.Width}
use Rattle.flt_bpf.specs.declared.operation.Operation.TheVariants.{JumpIf, CopyToIndex}
use Rattle.flt_bpf.specs.declared.operation.Register.TheVariants.{Accumulator, Index}
use Rattle.flt_bpf.specs.declared.operation.Source.TheVariants.{Immediate, Length}
use Rattle.flt_bpf.specs.declared.operation.Width.TheVariants.{Byte}
use Rattle.flt_short.specs.declared.facts.{Claim.Claim, Fact.Fact, Field.Field, Held.Held}
use Rattle.flt_short.specs.declared.facts.Claim.TheVariants.{Nothing, Is, IsNot, IsOneOf}
use Rattle.flt_short.specs.declared.facts.{IndexValue.IndexValue, Known.Known}

-- whether the same is known of X in two states
abbrev pub same_index : IndexValue → IndexValue → Bool
same_index IndexValue.Unknown IndexValue.Unknown = true
same_index (IndexValue.HeaderLength a) (IndexValue.HeaderLength b) = a == b
same_index (IndexValue.Number a) (IndexValue.Number b) = a == b
same_index _ _ = false

-- whether two loads put the same into A
abbrev pub same_load : Field → Field → Bool
same_load f g = (f.code == g.code && f.k == g.k) && same_index f.index g.index

-- whether two fields are the same: values of the same load, with the same mask or both without one
abbrev pub same_field : Field → Field → Bool
same_field f g = same_load f g && option_eq ◌==◌ f.mask g.mask

-- whether a claim is `Nothing`
abbrev pub claims_nothing : Claim → Bool
claims_nothing Nothing = true
claims_nothing _ = false

-- whether a claim holds of a number
abbrev pub allows : Claim → ℕ → Bool
allows Nothing n = true
allows (Is a) n = n == a
allows (IsNot a) n = not (n == a)
allows (IsOneOf a b) n = n == a || n == b

-- the claim d is true of each number of which c is; and of one that isn't captured if c is
abbrev pub Implies : Claim → Claim → Type 0
Implies c d =
    ((n : ℕ) → allows c n ≡ true → allows d n ≡ true)
    × (claims_nothing c ≡ true → claims_nothing d ≡ true)

-- whether two values of A are the same value of the packet; nothing is known of two that are
-- `Unknown`
abbrev pub same_held : Held → Held → Bool
same_held (Held.Field f) (Held.Field g) = same_field f g
same_held (Held.AtIndex code k) (Held.AtIndex other j) = code == other && k == j
same_held _ _ = false

-- what X holds on both of two paths
abbrev pub common_index : IndexValue → IndexValue → IndexValue
common_index a b = if same_index a b then a else IndexValue.Unknown

-- whether A holds the field of a load, perhaps masked, so that its bytes are captured
abbrev pub holds_field : Held → Field → Bool
holds_field (Held.Field f) load = same_load f load
holds_field _ load = false

-- the value of A after a mask, by the value before; it is `Unknown` after two masks
abbrev pub masked_held : Held → ℕ → Held
masked_held (Held.Field f) m =
    elim f.mask [ None ↦ Held.Field (record f { mask = Some m }) | Some old ↦ Held.Unknown ]
masked_held _ m = Held.Unknown

-- what an instruction loads if it is a load, while X holds x
abbrev pub load_of : Insn → IndexValue → Field
load_of i x = record { code = i.code; k = i.k; index = x; mask = None }

-- the value of A after a load at X, which holds x
abbrev pub held_at : IndexValue → Insn → Held
held_at IndexValue.Unknown i = Held.AtIndex i.code i.k
held_at x i = Held.Field (load_of i x)

-- the value of A after an instruction, by the values of A and X before; it is known after a load of
-- the packet or of its length, and after a mask; a test keeps it, and after all others it is
-- `Unknown`
abbrev pub held_after : Option Operation → Held → IndexValue → Insn → Held
held_after (Some (LoadAbsolute width)) h x i = Held.Field (load_of i IndexValue.Unknown)
held_after (Some (Load Accumulator Length)) h x i = Held.Field (load_of i IndexValue.Unknown)
held_after (Some (LoadIndirect width)) h x i = held_at x i
held_after (Some (Compute And Constant)) h x i = masked_held h i.k
held_after (Some (JumpIf test operand)) h x i = h
held_after _ h x i = Held.Unknown

-- what is kept of X: a header's place, or a number, only if this is below 256
abbrev pub if_small : ℕ → IndexValue → IndexValue
if_small k x = if nat_lt k 256 then x else IndexValue.Unknown

-- what X holds after an instruction that isn't a test, by what it held before
abbrev pub index_after : Option Operation → IndexValue → Insn → IndexValue
index_after (Some LoadHeaderLength) x i = if_small i.k (IndexValue.HeaderLength i.k)
index_after (Some (Load Index Immediate)) x i = if_small i.k (IndexValue.Number i.k)
index_after (Some (Load Index source)) x i = IndexValue.Unknown
index_after (Some CopyToIndex) x i = IndexValue.Unknown
index_after _ x i = x

-- the state after an instruction that isn't a test; facts are about the packet, so they are kept
abbrev pub known_after : Option Operation → Known → Insn → Known
known_after op k i = record {
  held = held_after op k.held k.index i;
  index = index_after op k.index i;
  facts = k.facts;
}

-- the number that a load at X puts into A
abbrev pub loaded_at : Option Operation → List ℕ → ℕ → ℕ → Option ℕ
loaded_at (Some (LoadIndirect width)) p x k = field p ((x + k) % 2 ^ 32) width
loaded_at _ p x k = None

-- the number in X, by what put it there; None if that isn't known, or its header isn't captured
abbrev pub index_number : List ℕ → IndexValue → Option ℕ
index_number p IndexValue.Unknown = None
index_number p (IndexValue.HeaderLength k) = option_map header_length (field p k Byte)
index_number p (IndexValue.Number x) = Some x

-- the number at k bytes after X, which may be unknown
abbrev pub field_at : List ℕ → Option ℕ → ℕ → Width → Option ℕ
field_at p None k width = None
field_at p (Some x) k width = field p ((x + k) % 2 ^ 32) width

-- the number that a load with this operation takes from a fixed place, or at X, which holds x, or
-- that is the packet's length
abbrev pub loaded : Option Operation → List ℕ → ℕ → IndexValue → ℕ → Option ℕ
loaded (Some (LoadAbsolute width)) p n x k = field p k width
loaded (Some (Load Accumulator Length)) p n x k = Some n
loaded (Some (LoadIndirect width)) p n x k = field_at p (index_number p x) k width
loaded _ p n x k = None

-- a number, with only the bits of the mask if there is one
abbrev pub masked : Option ℕ → Option ℕ → Option ℕ
masked None number = number
masked (Some m) number = option_map (λ n. bit_and n m) number

-- the number that a field of the packet is; None if it isn't captured
abbrev pub value_of : List ℕ → ℕ → Field → Option ℕ
value_of p n f = masked f.mask (loaded (operation_of f.code) p n f.index f.k)

-- the bytes that a load takes are captured
abbrev pub IsThere : List ℕ → ℕ → Field → Type 0
IsThere p n f = (number : ℕ) × (loaded (operation_of f.code) p n f.index f.k ≡ Some number)

-- whether a claim is true of a number, or of one that isn't captured
abbrev pub is_said : Claim → Option ℕ → Bool
is_said c None = claims_nothing c
is_said c (Some n) = allows c n

-- a fact is true of the packet
abbrev pub Says : List ℕ → ℕ → Fact → Type 0
Says p n x = is_said x.claim (value_of p n x.field) ≡ true

-- A has the value that is known of it
abbrev pub HeldHolds : List ℕ → ℕ → Held → State → Type 0
HeldHolds p n Held.Unreached s = ⊥
HeldHolds p n Held.Unknown s = Unit {0}
HeldHolds p n (Held.Field f) s = value_of p n f ≡ Some s.accumulator
HeldHolds p n (Held.AtIndex code k) s = loaded_at (operation_of code) p s.index k ≡ Some s.accumulator

-- X, which is x, has the value that is known of it
abbrev pub IndexHolds : List ℕ → IndexValue → ℕ → Type 0
IndexHolds p IndexValue.Unknown x = Unit {0}
IndexHolds p held x = index_number p held ≡ Some x

-- what is known is true
pub record Holds (p : List ℕ) (n : ℕ) (k : Known) (s : State) : Type 0 where
  pub a : HeldHolds p n k.held s
  pub x : IndexHolds p k.index s.index
  pub facts : All (Says p n) k.facts

-- what is known at a place is true there; past the end nothing is known
abbrev pub HoldsAt : List ℕ → ℕ → List Known → ℕ → State → Type 0
HoldsAt p n seen place s = IfSome (slice_get seen place) (λ k. Holds p n k s)

-- z is true of a packet of which x is, or of which all of ys are
abbrev pub JoinsFact : Fact → List Fact → Fact → Type 0
JoinsFact x ys z = (p : List ℕ) (n : ℕ) → Says p n x ⊎ All (Says p n) ys → Says p n z

-- all of zs are true of a packet of which all of xs are, or all of ys
abbrev pub JoinsFacts : List Fact → List Fact → List Fact → Type 0
JoinsFacts xs ys zs = (p : List ℕ) (n : ℕ) → All (Says p n) xs ⊎ All (Says p n) ys → All (Says p n) zs

-- `new` joins the states k, in which A is h, and `came`
abbrev pub JoinsBy : Held → Known → Known → Known → Type 0
JoinsBy Held.Unreached k came new = new ≡ came
JoinsBy h k came new =
    (new.held ≡ (if same_held h came.held then h else Held.Unknown))
    × (new.index ≡ common_index k.index came.index)
    × JoinsFacts k.facts came.facts new.facts

-- `new` is true where k is, if whether the field is a number has this outcome
abbrev pub LearnsEqual : Known → Field → ℕ → Bool → Known → Type 0
LearnsEqual k f number outcome new = (p : List ℕ) (n v : ℕ) (s : State)
    → value_of p n f ≡ Some v → (v == number) ≡ outcome → Holds p n k s → Holds p n new s

-- `new` is true after a test that had this outcome, and before which k was
abbrev pub Learns : Known → Insn → Bool → Known → Type 0
Learns k i outcome new = (p : List ℕ) (n : ℕ) (s : State) (test : Test) (operand : Operand)
    → operation_of i.code ≡ Some (JumpIf test operand)
    → test_holds test s.accumulator (operand_value operand i.k s.index) ≡ outcome
    → Holds p n k s → Holds p n new s

-- what was known at each place is true still; at this one it is true in one more run, which comes
-- with the state k
pub record Arrives (k : Known) (place : ℕ) (old new : List Known) : Type 0 where
  pub keeps : (p : List ℕ) (n q : ℕ) (s : State) → HoldsAt p n old q s → HoldsAt p n new q s
  pub comes : (p : List ℕ) (n : ℕ) (s : State) → Holds p n k s → HoldsAt p n new place s
