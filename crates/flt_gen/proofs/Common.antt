-- The names that most proofs here cite, passed on from one place. Declares nothing.
pub use Rattle.std.proofs.Common.{◌≡◌, ℕ, ◌+◌, ◌<◌, List, [], ◌∷◌, ◌++◌, length, take, get_or, ap, ◌∙◌, add-one, reverse, zero, suc, ◌-◌, ◌≤◌, drop, Bool, true}
pub use Rattle.std.proofs.Common.{false, refl, arith, nat_lt, nat_le, ◌==◌, ◌&&◌, ◌||◌, max, if◌then◌else◌, Some, min, Option, None, ◌%◌, ◌^◌, sym, fold, ◌*◌}
pub use Rattle.std.proofs.Common.{ap₂, subst, bit_and, ◌/◌, cond, length-drop, length-take, ◌≢◌, not, count_by, map, ⊎_elim, get_or-drop, ◌↔◌, All, slice_index}
pub use Rattle.flt_ast.specs.Counts.{number_size, number_words, number_tests, truth_size, truth_words, truth_tests, bound_of, words_of, accessor_test_count}
pub use Rattle.flt_ast.specs.Tree.{NumberTree, literal, named, load, negated, applied, TruthTree, compared, denied, joined, Expression, empty, truth, check}
pub use Rattle.flt_bpf.specs.Machine.{does, does_if_known, field, big_endian_at, Goes, Lost, compute, operand_value, into, word_into, header_length, test_holds}
pub use Rattle.flt_bpf.specs.declared.operation.Operation.TheVariants.{LoadAbsolute, LoadIndirect, Load, Store, Compute, JumpIf, LoadHeaderLength, Negate, Jump}
pub use Rattle.flt_gen.specs.Elementary.{Yes, No, reading_of, with, under_mask, elementary_reads, type_test, MatchResult, compares, kind_test, Rejected, is_at}
pub use Rattle.flt_gen.specs.Formula.{Formula, Single, Compare, Both, Either, Except, Split, all_of, sides, both, either, negation, reads, guarded_formula}
pub use Rattle.flt_gen.specs.Primitives.{after, any_proto, mac_tests, check_formula, cast_formula, proto_formula, hosts_of_kind, hosts_formula, in_net}
pub use Rattle.flt_gen.specs.Primitives.{ip6_formula, ether_host, port_formula, value_formula, sized_formula, partial_mask, ip6_tests, address_places, port_is}
pub use Rattle.flt_gen.specs.inside.Code.{accessor_offset, Block, block, emit_all, plain, constant, computation, takes_constant, constant_operand}
pub use Rattle.flt_gen.specs.inside.Code.{branch_insn, emit_branch, emit_comparison, emit_field, emit_mask, emit_accessor, emit_number, at_top, emit_test}
pub use Rattle.flt_gen.specs.inside.Code.{emit_after, emit_formula, alu_operation, emit_base, is_loaded, left_by, emit_transport, emit_operands, emit_relation}
pub use Rattle.flt_gen.specs.inside.Emitted.{protocols_of, relation_formula, qualified_needed, is_empty, is_idle, capture_test, last_test, needed_tests}
pub use Rattle.flt_gen.specs.inside.Folding.{negated_constant, applied_constant, negated_number, applied_number, folded_number, joined_truth}
pub use Rattle.flt_gen.specs.inside.Group.{Group, no_group, interval, with_member, same_type, same_protocol, same_direction, goes_with, net_numbers}
pub use Rattle.flt_gen.specs.inside.Group.{member_of, group_and, larger_group, is_searched, has_addresses, numbers_of, several_formula, rows_formula}
pub use Rattle.flt_gen.specs.inside.Intervals.{no_interval, insert_ascending, extended, joined_from, joined_all, is_aligned, idle_bits, left_out, high_mask}
pub use Rattle.flt_gen.specs.inside.Walk.{Walk, finish_formula, emit_node, emit_both_nodes, emit_nodes, start_walk, insns_of, targets, finish_truth}
pub use Rattle.std.proofs.{Common.slice_get, Common.slice_set, Common.inl, Common.inr, lemmas.Nat.pow-add, lemmas.Nat.and_le_r, lemmas.Nat.pow_pos}
pub use Rattle.std.proofs.Math.{Nat.suc-mul, Nat.div-mul-le_self, Nat.lt-div-mul-add, Nat.le-div_iff_mul-le, Nat.mul-le-mul_right, Nat.pow-succ', Seq.take-suc}
pub use Rattle.std.proofs.lemmas.{Bool.and_parts, Bool.or_parts, Bool.cases_lt, Bool.Decides.nat_tests, List.Elements.All-cons, List.Elements.All-drop}
pub use Rattle.std.proofs.lemmas.List.{reverse-append, get_or-set_same, get_or-set_other, take_rest, Sums.sum_by-cons, Sums.sum_by-take-drop}
pub use Rattle.std.specs.Option.{option_map, option_map_or, unwrap_or}
pub use mathlib.Core.Bool.{and-false, or-false}
pub use Rattle.cap_octet.specs.{Link.network_offset, Link.link_of, Link.link_type, Link.type_offset, declared.link.Link.Link}
pub use Rattle.flt_ast.specs.{Counts.tests_of, Counts.nodes_of, inside.Nodes.number_onto, inside.Nodes.truth_onto, inside.Nodes.expr_onto}
pub use Rattle.flt_ast.specs.{Nets.first_bits, Nets.ip6_mask, Resolved.is_unfilled, Resolved.any_primitive, Resolved.some_primitive}
pub use Rattle.flt_ast.specs.{Nodes.number_nodes, Nodes.truth_nodes, Nodes.expr_nodes, Tree.cast, Tree.sized, Tree.bare, Tree.valued, Tree.qualified, Tree.len}
pub use Rattle.flt_ast.specs.declared.node.Node.{Node, TheVariants.Apply, TheVariants.Literal, TheVariants.Not, TheVariants.Check}
pub use Rattle.flt_ast.specs.declared.{qualifiers.CompleteQualifiers.CompleteQualifiers, qualifiers.Direction.Direction, value.Value.Value}
pub use Rattle.flt_bpf.specs.{Answer.answer_of, Answer.answer_after, Layout.is_branch, Layout.JUMP, Layout.HasNoJump, Layout.IsShort, Layout.JumpsAreNeeded}
pub use Rattle.flt_bpf.specs.Check.{operation_fault, unless, ends_in_return, IsValidUnlessLong}
pub use Rattle.flt_bpf.specs.{Instructions.code_of, declared.operation.Operation.Operation, declared.operation.Operation.TheVariants.CopyToIndex, Machine.start}
pub use Rattle.flt_bpf.specs.declared.{insn.Insn.Insn, machine.State.State, operation.Register.TheVariants.Accumulator, operation.Register.TheVariants.Index}
pub use Rattle.flt_bpf.specs.declared.operation.Operand.{Operand, TheVariants.Constant, TheVariants.IndexRegister}
pub use Rattle.flt_bpf.specs.declared.operation.Source.TheVariants.{Immediate, Memory, Length}
pub use Rattle.flt_bpf.specs.declared.operation.{Test.Test, Width.Width, Width.TheVariants.Word, Width.TheVariants.HalfWord, Width.TheVariants.Byte}
pub use Rattle.flt_bpf.proofs.Suffix.{answer_drop, valid_if_short, faultless_drop, ends_drop, machine_answers}
pub use Rattle.flt_gen.specs.{Correct.IsProgramOf, Numbers.accessor_tests, Numbers.width_of, Numbers.base, Numbers.number, Numbers.result_of, Numbers.accessors}
pub use Rattle.flt_gen.specs.{Counts.short_bound_of, Elementary.field_at, Elementary.field_reads, inside.Emitted.value_needed, inside.Emitted.without_protocol}
pub use Rattle.flt_gen.specs.{Formula.checked_formula, Primitives.port_between, Primitives.port_places, Primitives.ip_transport, Primitives.ip6_transport}
pub use Rattle.flt_gen.specs.{Laws.word_mask, Laws.frame_kind, Laws.carries_kind, Laws.carries, declared.group.Entry.Entry, declared.port.Transport.Transport}
pub use Rattle.flt_gen.specs.Reading.{formula, holds}
pub use Rattle.flt_gen.specs.declared.elementary.{Elementary.Elementary, Elementary.TheVariants.Outcome, Elementary.TheVariants.Field, FieldPlace.FieldPlace}
pub use Rattle.flt_gen.specs.declared.elementary.{FieldTest.FieldTest, FrameKind.FrameKind, Interval.Interval, Sides.Sides}
pub use Rattle.flt_gen.specs.declared.elementary.Offset.{Offset, TheVariants.Fixed, TheVariants.AfterHeader, TheVariants.AtIndex}
pub use Rattle.flt_gen.specs.inside.{Code.same_offset, Code.same_width, Code.same_mask, Intervals.cut, Intervals.without, Intervals.sought}
pub use Rattle.flt_gen.specs.inside.Counts.{first_ends, sought_tests, tests, test_count, nodes, words, place_loads, mask_loads, field_loads, test_loads, loads}
pub use Rattle.flt_gen.specs.inside.Folding.{folded_truth, folded_expression, with_negation, with_operator, with_folded, hold, put_back}
pub use Rattle.flt_gen.specs.inside.Group.{group_formula, or_any, or_group, grouped_formula, MOST_TOGETHER, FEWEST_RANGES}
pub use Rattle.flt_gen.specs.inside.ProgramCode.{emit_accessor_tests, expression_code, program_code, returns_code}
pub use Rattle.flt_gen.specs.inside.Search.{Numbers, field_test, most_in_turn, are_few, low_of, sought_formula, within_formula, index_of}
pub use Rattle.flt_gen.specs.inside.Walk.{finish_number, with_insns, flush_members, flush_group, emit_truth_node}
pub use Rattle.flt_words.specs.declared.token.{Comparison.Comparison, ValueType.ValueType, Operator.Operator}
pub use Rattle.flt_words.specs.declared.token.Comparison.TheVariants.{Equal, NotEqual, Less, AtMost, Greater, AtLeast}
pub use Rattle.flt_words.specs.declared.token.{Join.TheVariants.And, Join.TheVariants.Or, Side.TheVariants.Source, Side.TheVariants.Destination}
pub use Rattle.flt_words.specs.declared.token.Protocol.{Protocol, TheVariants.Ip, TheVariants.Tcp, TheVariants.Udp, TheVariants.Icmp, TheVariants.Ether}
pub use Rattle.flt_words.specs.declared.token.ValueType.TheVariants.{Host, Net, Port, PortRange, Proto}
