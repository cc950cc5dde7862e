-- The trees that a text can have, and what it means that a text is read back as a tree.
use Rattle.std.specs.Prelude.{◌≡◌, ℕ, ◌<◌, ◌≤◌, ◌-◌, ◌%◌, ◌^◌, ◌==◌, Bool, true, ◌||◌, List, Some, None, Ok}
use Rattle.flt_words.specs.declared.token.Token.{Token}
use Rattle.flt_words.specs.Tokens.{Tokens}
use Rattle.flt_ast.specs.declared.value.Dotted.{Dotted}
use Rattle.flt_ast.specs.declared.value.NetMask.{NetMask}
use Rattle.flt_ast.specs.declared.value.NetMask.TheVariants as mask
use Rattle.flt_ast.specs.declared.value.Value.{Value}
use Rattle.flt_ast.specs.declared.value.Value.TheVariants as value
use Rattle.flt_ast.specs.Tree.{NumberTree, literal, len, named, load, negated, applied, TruthTree, check, cast, sized, bare, valued, qualified, compared, denied, joined, Expression, empty, truth}
use Rattle.flt_ast.specs.Filled.{fill_expression}
use Rattle.flt_ast.specs.Resolved.{fill_fault}
use Rattle.flt_lang.specs.Grammar.{IsReadAs, has_casts, is_accessor, stands_alone, kinds_of}

-- the numbers that have names
abbrev pub has_name : ℕ → Bool
has_name n =
    n == 0 || (n == 1 || (n == 2 || (n == 4 || (n == 8 || (n == 13 || (n == 16 || n == 32))))))

-- two to four parts of an IPv4 address, the missing ones 0
pub record IsDottedAddress (address parts : ℕ) : Type 0 where
  pub at_least_two : 2 ≤ parts
  pub at_most_four : parts ≤ 4
  pub small : address < 2 ^ 32
  pub missing : address % 256 ^ (4 - parts) ≡ 0

-- some word means these parts of an IPv4 address
abbrev pub IsWritableDotted : Dotted → Type 0
IsWritableDotted d = IsDottedAddress d.address d.parts

-- some text means this mask of a network
abbrev pub IsWritableMask : NetMask → Type 0
IsWritableMask mask.Unwritten = Unit {0}
IsWritableMask (mask.Prefix n) = n < 2 ^ 32
IsWritableMask (mask.Mask d) = IsWritableDotted d

-- some text means this value
abbrev pub IsWritableValue : Value → Type 0
IsWritableValue (value.Number n m) = (n < 2 ^ 32) × IsWritableMask m
IsWritableValue (value.Dotted d m) = IsWritableDotted d × IsWritableMask m
IsWritableValue (value.Ip6 a None) = a < 2 ^ 128
IsWritableValue (value.Ip6 a (Some n)) = (a < 2 ^ 128) × (n < 2 ^ 32)
IsWritableValue (value.Mac a) = a < 2 ^ 48
IsWritableValue (value.Range a b) = (a < 2 ^ 32) × (b < 2 ^ 32)

-- some text gives these numbers, names and protocols of arithmetic: an accessor has a protocol that
-- may precede a bracket
abbrev pub IsWritableNumber : NumberTree → Type 0
IsWritableNumber (literal n) = n < 2 ^ 32
IsWritableNumber len = Unit {0}
IsWritableNumber (named n) = has_name n ≡ true
IsWritableNumber (load p s a) = (is_accessor p ≡ true) × (s < 2 ^ 32) × IsWritableNumber a
IsWritableNumber (negated a) = IsWritableNumber a
IsWritableNumber (applied o a b) = IsWritableNumber a × IsWritableNumber b

-- some text gives these numbers, names, addresses and protocols of a truth; a protocol is by
-- itself, or before `broadcast` or `multicast`, only if the language allows that
abbrev pub IsWritableTruth : TruthTree → Type 0
IsWritableTruth (check p) = stands_alone p ≡ true
IsWritableTruth (cast None c) = Unit {0}
IsWritableTruth (cast (Some p) c) = has_casts p ≡ true
IsWritableTruth (sized s n) = n < 2 ^ 32
IsWritableTruth (bare v) = IsWritableValue v
IsWritableTruth (valued q v) = IsWritableValue v
IsWritableTruth (qualified q v) = IsWritableValue v
IsWritableTruth (compared c a b) = IsWritableNumber a × IsWritableNumber b
IsWritableTruth (denied a) = IsWritableTruth a
IsWritableTruth (joined j a b) = IsWritableTruth a × IsWritableTruth b

-- some text gives the numbers, names, addresses and protocols of a tree
abbrev pub IsWritable : Expression → Type 0
IsWritable empty = Unit {0}
IsWritable (truth a) = IsWritableTruth a

-- the text is an expression, and this tree after it is resolved
pub record IsReadBack (text : List ℕ) (e : Expression) : Type 0 where
  pub tokens : List Token
  pub are_tokens : Tokens text (Ok tokens)
  pub tree : Expression
  pub is_tree : IsReadAs (kinds_of tokens) tree
  pub no_fault : fill_fault tree ≡ None
  pub same : fill_expression tree ≡ e
