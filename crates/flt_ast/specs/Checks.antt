-- The faults of a resolved tree: a division by 0, too many words, too long a program.
use Rattle.std.specs.Prelude.{Bool, true, false, ◌&&◌, ◌||◌, ◌==◌, nat_lt, Option, Some, None}
use Rattle.flt_words.specs.declared.fault.ExprFault.{ExprFault}
use Rattle.flt_words.specs.declared.token.Operator.{Operator, TheVariants.Divide, TheVariants.Remainder}
use Rattle.flt_ast.specs.{Counts.words_of, Counts.bound_of, Resolved.some_primitive}
use Rattle.flt_ast.specs.Tree.{NumberTree, literal, load, negated, applied, TruthTree, compared, Expression}

-- whether an operator is a division or a remainder, whose right side mustn't be 0
abbrev pub is_division : Operator → Bool
is_division Divide = true
is_division Remainder = true
is_division _ = false

-- whether a number is literally 0
abbrev pub is_zero : NumberTree → Bool
is_zero (literal n) = n == 0
is_zero _ = false

-- whether some divisor in a number's tree is literally 0
abbrev pub has_zero_divisor : NumberTree → Bool
has_zero_divisor (load p s a) = has_zero_divisor a
has_zero_divisor (negated a) = has_zero_divisor a
has_zero_divisor (applied o a b) =
    has_zero_divisor a || (has_zero_divisor b || is_division o && is_zero b)
has_zero_divisor _ = false

-- whether some divisor in a primitive is literally 0; only comparisons have arithmetic
abbrev pub divides_by_zero : TruthTree → Bool
divides_by_zero (compared c a b) = has_zero_divisor a || has_zero_divisor b
divides_by_zero _ = false

-- the first of E10, E11 and E12 that applies to the whole tree
abbrev pub first_excess : Bool → Bool → Bool → Option ExprFault
first_excess true words long = Some ExprFault.DivisionByZero
first_excess false true long = Some ExprFault.TooManyWords
first_excess false false true = Some ExprFault.ProgramTooLong
first_excess false false false = None

-- the fault that `flt_lang::check` reports of a resolved tree, or none
abbrev pub check_fault : Expression → Option ExprFault
check_fault e =
    first_excess (some_primitive divides_by_zero e) (nat_lt 16 (words_of e))
    (nat_lt 32768 (bound_of e))
