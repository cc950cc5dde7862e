-- The walk over the nodes of an expression, from the last to the first, step by step as the code
-- goes. All of it makes the expression's `program_code` (`expression_walked` in proofs/Walking.antt).
use Rattle.flt_words.specs.declared.token.{Comparison.TheVariants.Equal, Join.Join, Join.TheVariants.And, Join.TheVariants.Or}
use Rattle.flt_gen.specs.inside.Code.{plain, emit_comparison, emit_field, accessor_offset, emit_accessor, computation, takes_constant, emit_operands, Block, block, emit_formula}
use Rattle.std.specs.Prelude.{ℕ, ◌+◌, List, [], ◌∷◌, length, drop, ◌-◌, if◌then◌else◌, Bool, Option, Some, None}
use Rattle.flt_bpf.specs.declared.{insn.Insn.Insn, operation.Register.TheVariants.Accumulator}
use Rattle.flt_bpf.specs.declared.operation.Operand.TheVariants.{Constant, IndexRegister}
use Rattle.flt_bpf.specs.declared.operation.Operation.TheVariants.{Load, Store, Negate}
use Rattle.flt_bpf.specs.declared.operation.Source.{Source, TheVariants.Immediate, TheVariants.Length}
use Rattle.flt_words.specs.declared.token.Protocol.{Protocol}
use Rattle.flt_ast.specs.declared.node.Node.{Node}
use Rattle.cap_octet.specs.declared.link.Link.{Link}
use Rattle.flt_gen.specs.{Formula.Formula, declared.group.Entry.Entry, inside.Relations.relation}
use Rattle.flt_gen.specs.{Numbers.width_of, Primitives.check_formula, Primitives.cast_formula, Primitives.sized_formula}
use Rattle.flt_gen.specs.declared.{code.Targets.Targets, waiting.LeftTruth.LeftTruth, waiting.Pending.Pending}
use Rattle.flt_gen.specs.declared.waiting.Waiting.{Waiting, TheVariants.Index, TheVariants.Left}
use Rattle.flt_gen.specs.inside.{Emitted.with_accessor, ProgramCode.emit_accessor_tests, ProgramCode.returns_code}
use Rattle.flt_gen.specs.inside.Group.{Group, no_group, is_empty, entry_formula, larger_group, group_formula}
use Rattle.std.specs.Option.{unwrap_or}

-- how far the walk has come: the code so far, the targets of the next truth, the word for the next
-- left operand; what waits, latest first; and the protocols of the relation's accessors, each once,
-- the one of the first word first
pub record Walk : Type 0 where
  pub code : List Insn
  pub to : Targets
  pub slot : ℕ
  pub truths : List LeftTruth
  pub numbers : List Waiting
  pub accessors : List Protocol
  -- members that are tested in front of the code, and whose code isn't there yet; and what the last
  -- node hands on to the next one
  pub group : Group
  pub pending : Pending

-- the places where a test goes on: if it holds, and if it doesn't
abbrev pub targets : ℕ → ℕ → Targets
targets hit miss = record { yes = hit; no = miss }

-- the place where an operand goes on whose right neighbour is entered at a place
abbrev pub left_targets : Join → Targets → ℕ → Targets
left_targets And to entry = targets entry to.no
left_targets Or to entry = targets to.yes entry

-- the targets after a truth that is entered at a place: for the left operand that waits; once none
-- waits, the program begins there
abbrev pub next_targets : List LeftTruth → ℕ → Targets
next_targets [] entry = targets entry entry
next_targets (t ∷ ts) entry = left_targets t.join t.to entry

-- the left operands that still wait after the latest one
abbrev pub others : List LeftTruth → List LeftTruth
others [] = []
others (t ∷ ts) = ts

-- a truth's code is emitted: the left operand that waits is next
abbrev pub finish_truth : Block → Walk → Walk
finish_truth e w = record w {
  code = e.code;
  to = next_targets w.truths e.entry;
  truths = others w.truths;
}

-- the operands of a relation are emitted: the tests of its accessors stand in front of them
abbrev pub finish_relation : Link → Walk → Walk
finish_relation link w =
    finish_truth (emit_accessor_tests link w.accessors (length w.code) w.to.no w.code)
    (record w { accessors = [] })

-- a number's code is emitted: the accessors whose index it is are complete, and then the left
-- operand that waits is next
abbrev pub finish_number : Link → List Waiting → Walk → Walk
finish_number link [] w = finish_relation link w
finish_number link (Index protocol ∷ ns) w =
    finish_number link ns (record w { numbers = ns; accessors = with_accessor protocol w.accessors })
finish_number link (Left slot ∷ ns) w = record w {
  code = plain (Store Accumulator) slot ∷ w.code;
  slot = slot;
  numbers = ns;
}

-- the walk with this code as the code so far
abbrev pub with_insns : List Insn → Walk → Walk
with_insns c w = record w { code = c }

-- a right operand is next, and the left one waits; the code after them finds both
abbrev pub begin_operands : ℕ → List Insn → Walk → Walk
begin_operands slot c w = record w {
  code = emit_operands slot c;
  slot = slot + 1;
  numbers = Left slot ∷ w.numbers;
}

-- the code of a formula is emitted
abbrev pub finish_formula : Link → Formula → Walk → Walk
finish_formula link f w = finish_truth (emit_formula link f w.to.yes w.to.no w.code) w

-- the left operand of a join waits for the right one, which is next
abbrev pub begin_left : Join → Walk → Walk
begin_left join w = record w { truths = record { join = join; to = w.to } ∷ w.truths }

-- if an or was the last node, its right operand is on its own: the left one waits for it
abbrev pub begin_right : Pending → Walk → Walk
begin_right Pending.Nothing w = w
begin_right Pending.Or w = record (begin_left Or w) { pending = Pending.Nothing }

-- the code of the group is emitted, unless it has no member, as the right operand of an or
abbrev pub flush_members : Link → Walk → Bool → Walk
flush_members link w none =
    let v = record w { group = no_group } in
    if none then v else finish_formula link (group_formula link w.group) (begin_left Or v)

-- the code of the group that waits is emitted, if it has members, and the group is empty then; if
-- an or was the last node, its left operand waits
abbrev pub flush_group : Link → Walk → Walk
flush_group link w =
    let v = begin_right w.pending w in flush_members link v (is_empty v.group.entries)

-- a member and those after it: they wait for one more if it is the right operand of an or
abbrev pub finish_group : Link → Walk → Group → Pending → Walk
finish_group link w group Pending.Or = record w { group = group; pending = Pending.Nothing }
finish_group link w group Pending.Nothing =
    finish_formula link (group_formula link group) (record w { group = no_group })

-- an entry after the group that waited: if it is the right operand of an or, it begins a group, if it
-- may be a member, and its left operand, which waits by now, is next; else it is on its own
abbrev pub emit_apart : Link → Entry → Walk → Pending → Option Group → Walk
emit_apart link e w Pending.Or (Some group) = record w { truths = others w.truths; group = group }
emit_apart link e w _ _ = finish_formula link (entry_formula link e) w

-- a value or a relation: a member of the group, if there is such a group, or else after it
abbrev pub emit_entry : Link → Entry → Walk → Option Group → Walk
emit_entry link e w None =
    let flushed = flush_group link w in
    emit_apart link e flushed w.pending (larger_group e flushed.group)
emit_entry link e w (Some group) = finish_group link w group w.pending

-- a member of the group that waits, or else after it
abbrev pub emit_member : Link → Entry → Walk → Walk
emit_member link e w = emit_entry link e w (larger_group e w.group)

-- `and` or `or`: its right operand is next. The left one of `and` waits; of `or` it waits only once
-- the right one is known to be no member of the group
abbrev pub emit_join : Link → Join → Walk → Walk
emit_join link Or w = record (begin_right w.pending w) { pending = Pending.Or }
emit_join link And w = begin_left And (flush_group link w)

-- a primitive, a negation or a comparison; any other node matches no packet
abbrev pub emit_truth_node : Link → Walk → Node → Walk
emit_truth_node link w (Node.Check protocol) = finish_formula link (check_formula link protocol) w
emit_truth_node link w (Node.Cast protocol c) = finish_formula link (cast_formula link protocol c) w
emit_truth_node link w (Node.Sized size n) = finish_formula link (sized_formula size n) w
emit_truth_node link w (Node.Compare comparison) =
    begin_operands 0 (emit_comparison comparison IndexRegister 0 w.to.yes w.to.no w.code) w
emit_truth_node link w Node.Not = record w { to = targets w.to.no w.to.yes }
emit_truth_node link w _ = finish_truth (block w.code w.to.no) w

-- a number, or the length of the packet, goes into A
abbrev pub emit_leaf : Link → Source → ℕ → Walk → Walk
emit_leaf link source n w =
    finish_number link w.numbers (with_insns (plain (Load Accumulator source) n ∷ w.code) w)

-- one more node, the one before those that were emitted
abbrev pub emit_node : Link → Walk → Node → Walk
emit_node link w (Node.Join join) = emit_join link join w
emit_node link w (Node.Qualified q v) = emit_member link (Entry.Value q v) w
emit_node link w (Node.Literal n) = emit_leaf link Immediate n w
emit_node link w (Node.Named n) = emit_leaf link Immediate n w
emit_node link w Node.Len = emit_leaf link Length 0 w
emit_node link w (Node.Load protocol size) = record w {
  code = emit_accessor link protocol (width_of size) w.code;
  numbers = Index protocol ∷ w.numbers;
}
emit_node link w Node.Negate = with_insns (plain Negate 0 ∷ w.code) w
emit_node link w (Node.Apply operator) =
    begin_operands w.slot (plain (computation operator IndexRegister) 0 ∷ w.code) w
emit_node link w n = emit_truth_node link (flush_group link w) n

-- an operator, a comparison or an accessor, and its right operand or index, a constant, at once;
-- none if the nodes are others, or the instruction may not have this constant
abbrev pub emit_both_nodes : Link → Walk → Node → Node → Option Walk
emit_both_nodes link w (Node.Apply operator) (Node.Literal k) =
    if takes_constant operator k
    then Some (with_insns (plain (computation operator Constant) k ∷ w.code) w)
    else None
emit_both_nodes link w (Node.Compare comparison) (Node.Literal k) =
    let v = flush_group link w in
    Some (with_insns (emit_comparison comparison Constant k v.to.yes v.to.no v.code) v)
emit_both_nodes link w (Node.Load p s) (Node.Literal k) =
    Some (finish_number link (Index p ∷ w.numbers)
    (with_insns (emit_field (accessor_offset link p k) (width_of s) w.code) w))
emit_both_nodes link w _ _ = None

-- the two returns are there, and nothing waits
abbrev pub start_walk : Walk
start_walk = record {
  code = returns_code;
  to = targets 2 1;
  slot = 0;
  truths = [];
  numbers = [];
  accessors = [];
  group = no_group;
  pending = Pending.Nothing;
}

-- two nodes, at once or one after the other
abbrev pub emit_pair : Link → Walk → Node → Node → Walk
emit_pair link w n right =
    unwrap_or (emit_both_nodes link w n right) (emit_node link (emit_node link w n) right)

-- the walk over nodes, the last first
abbrev pub emit_nodes : Link → Walk → List Node → Walk
emit_nodes link w [] = w
emit_nodes link w (Node.Compare Equal ∷ Node.Literal k ∷ Node.Load p s ∷ Node.Literal i ∷ ns) =
    emit_nodes link (emit_member link (relation p s i k) w) ns
emit_nodes link w (Node.Apply o ∷ Node.Literal k ∷ ns) =
    emit_nodes link (emit_pair link w (Node.Apply o) (Node.Literal k)) ns
emit_nodes link w (Node.Compare c ∷ Node.Literal k ∷ ns) =
    emit_nodes link (emit_pair link w (Node.Compare c) (Node.Literal k)) ns
emit_nodes link w (Node.Load p s ∷ Node.Literal k ∷ ns) =
    emit_nodes link (emit_pair link w (Node.Load p s) (Node.Literal k)) ns
emit_nodes link w (n ∷ ns) = emit_nodes link (emit_node link w n) ns

-- the instructions from the beginning of the program
abbrev pub insns_of : Walk → List Insn
insns_of w = drop (length w.code - w.to.yes) w.code
