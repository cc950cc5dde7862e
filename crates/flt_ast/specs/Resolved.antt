-- The faults of a tree whose bare values have inherited qualifiers: a misfit, a value out of range,
-- bits outside a mask.
use Rattle.std.specs.Prelude.{◌≡◌, Bool, true, false, not, ◌&&◌, ◌||◌, is_some, Option, Some, None}
use Rattle.flt_words.specs.declared.fault.ExprFault.{ExprFault}
use Rattle.flt_ast.specs.Filled.{type_or_host, expr_inherited}
use Rattle.flt_ast.specs.Fits.{fit_of, is_misfit_fit, is_out_of_range_fit, is_net, is_proto, is_either, is_cast_misfit, is_size}
use Rattle.flt_ast.specs.Nets.{is_past_mask}
use Rattle.flt_ast.specs.Tree.{NumberTree, load, negated, applied, TruthTree, cast, bare, valued, qualified, compared, denied, joined, Expression, empty, truth}
use Rattle.flt_ast.specs.declared.node.Node.{Node}

-- some accessor in a number has a size other than 1, 2 and 4
abbrev pub has_wrong_size : NumberTree → Bool
has_wrong_size (load p s a) = has_wrong_size a || not (is_size s)
has_wrong_size (negated a) = has_wrong_size a
has_wrong_size (applied o a b) = has_wrong_size a || has_wrong_size b
has_wrong_size _ = false

-- what precedes a primitive's value, or `broadcast`, doesn't fit it (E7)
abbrev pub is_misfit : TruthTree → Bool
is_misfit (cast p c) = is_cast_misfit p c
is_misfit (valued q v) =
    is_misfit_fit (fit_of (type_or_host q) v q.protocol)
    || is_proto (type_or_host q) && is_some q.direction
is_misfit (qualified q v) =
    is_misfit_fit (fit_of q.value_type v q.protocol)
    || is_proto q.value_type && not (is_either q.direction)
is_misfit _ = false

-- a number of a primitive's value, or an accessor's size, is out of range (E8)
abbrev pub is_out_of_range : TruthTree → Bool
is_out_of_range (valued q v) = is_out_of_range_fit (fit_of (type_or_host q) v q.protocol)
is_out_of_range (qualified q v) = is_out_of_range_fit (fit_of q.value_type v q.protocol)
is_out_of_range (compared c a b) = has_wrong_size a || has_wrong_size b
is_out_of_range _ = false

-- a primitive's network has address bits that its mask doesn't have (E9)
abbrev pub has_bits_past_mask : TruthTree → Bool
has_bits_past_mask (valued q v) = is_net (type_or_host q) && is_past_mask v
has_bits_past_mask (qualified q v) = is_net q.value_type && is_past_mask v
has_bits_past_mask _ = false

-- the qualifiers of a value aren't complete yet
abbrev pub is_unfilled : TruthTree → Bool
is_unfilled (bare v) = true
is_unfilled (valued q v) = true
is_unfilled _ = false

-- some primitive of a truth has the property
abbrev pub any_primitive : (TruthTree → Bool) → TruthTree → Bool
any_primitive f (denied a) = any_primitive f a
any_primitive f (joined j a b) = any_primitive f a || any_primitive f b
any_primitive f a = f a

-- some primitive of an expression has the property
abbrev pub some_primitive : (TruthTree → Bool) → Expression → Bool
some_primitive f empty = false
some_primitive f (truth a) = any_primitive f a

-- the first of E7, E8 and E9 that applies to the whole tree
abbrev pub first_fault : Bool → Bool → Bool → Option ExprFault
first_fault true out_of_range past = Some ExprFault.QualifiersDoNotFit
first_fault false true past = Some ExprFault.ValueOutOfRange
first_fault false false true = Some ExprFault.BitsPastMask
first_fault false false false = None

-- the fault of a tree after its bare values have inherited, or none: the one with the lowest number
abbrev pub tree_fault : Expression → Option ExprFault
tree_fault e =
    first_fault (some_primitive is_misfit e) (some_primitive is_out_of_range e)
    (some_primitive has_bits_past_mask e)

-- the fault that `flt_lang::resolve` reports for an expression after its bare values have inherited
-- qualifiers, or none
abbrev pub fill_fault : Expression → Option ExprFault
fill_fault e = tree_fault (expr_inherited e)

-- a resolved tree: each value has all its qualifiers, and there is none of these faults
pub record IsResolved (e : Expression) : Type 0 where
  pub is_filled : some_primitive is_unfilled e ≡ false
  pub fits : some_primitive is_misfit e ≡ false
  pub in_range : some_primitive is_out_of_range e ≡ false
  pub in_mask : some_primitive has_bits_past_mask e ≡ false

-- what precedes a node's value, or `broadcast`, doesn't fit it (E7)
abbrev pub is_misfit_node : Node → Bool
is_misfit_node (Node.Cast p c) = is_misfit (cast p c)
is_misfit_node (Node.Valued q v) = is_misfit (valued q v)
is_misfit_node (Node.Qualified q v) = is_misfit (qualified q v)
is_misfit_node _ = false

-- a number of a node's value, or an accessor's size, is out of range (E8)
abbrev pub is_out_of_range_node : Node → Bool
is_out_of_range_node (Node.Valued q v) = is_out_of_range (valued q v)
is_out_of_range_node (Node.Qualified q v) = is_out_of_range (qualified q v)
is_out_of_range_node (Node.Load p s) = not (is_size s)
is_out_of_range_node _ = false

-- a node's network has address bits that its mask doesn't have (E9)
abbrev pub has_bits_past_mask_node : Node → Bool
has_bits_past_mask_node (Node.Valued q v) = has_bits_past_mask (valued q v)
has_bits_past_mask_node (Node.Qualified q v) = has_bits_past_mask (qualified q v)
has_bits_past_mask_node _ = false
