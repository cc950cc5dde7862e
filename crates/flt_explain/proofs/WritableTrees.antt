-- Each tree that is read from a text can be written, also after its qualifiers are completed.
use Rattle.flt_explain.proofs.Common.{arith, AllByRecursion, Protocol, Token, TokenKind, ValueType, Direction, Qualifiers, NetMask, Value, IsSpellable}
use Rattle.std.proofs.Common.{ℕ, List, Option, Ok}
use Rattle.flt_ast.specs.Tree.{NumberTree, TruthTree, denied, joined, Expression}
use Rattle.flt_ast.specs.Filled.{latest, with_inherited, complete, fill_expression}
use Rattle.flt_lang.specs.Values.{ReadsProtocol, ReadsDirection, ReadsType, ReadsQualifiers, qualifiers, ReadsMask, ReadsValue}
use Rattle.flt_lang.specs.Grammar.{Number, enclosed, of_load, of_sized_load, minus, single, chain, Truth, of_check, of_cast, of_protocol_cast, of_sized}
use Rattle.flt_lang.specs.Grammar.{of_valued, of_bare, relation, denial, enclosed_truth, term, terms, IsReadAs, kinds_of}
use Rattle.flt_explain.specs.Writable.{IsWritable, IsWritableMask, IsWritableNumber, IsWritableTruth, IsWritableValue}
use Rattle.{flt_words.specs.Tokens.Tokens, flt_explain.proofs.WritableTokens.all_spellable}

abbrev All : List TokenKind → Type 0
All kinds = AllByRecursion IsSpellable kinds

-- a number, and the tokens after it
from_number : {k : ℕ} {ts rest : List TokenKind} {a : NumberTree} → Number k ts a rest → All ts → IsWritableNumber a × All rest
from_number (enclosed inner) s = grind (arith, from_number inner s.1)
from_number (of_load is inner) s = grind (arith, from_number inner s.1.1)
from_number (of_sized_load is inner) s = grind (arith, from_number inner s.1.1)
from_number (minus inner) s = from_number inner s.1
from_number (single inner) s = from_number inner s
from_number (chain left level right) s =
    let first = from_number left s in
    grind (arith, from_number right first.1.1)
from_number _ s = (s.0, s.1)

-- a value
from_mask : {ts rest : List TokenKind} {m : NetMask} → ReadsMask ts m rest → All ts → IsWritableMask m × All rest
from_mask h0 s = grind arith

from_value : {ts rest : List TokenKind} {v : Value} → ReadsValue ts v rest → All ts → IsWritableValue v × All rest
from_value h0 s = grind (arith, from_mask)

past_protocol : {ts rest : List TokenKind} {p : Option Protocol} → ReadsProtocol ts p rest → All ts → All rest
past_protocol h0 s = grind arith

past_direction : {ts rest : List TokenKind} {d : Option Direction} → ReadsDirection ts d rest → All ts → All rest
past_direction h0 s = grind arith

past_type : {ts rest : List TokenKind} {k : Option ValueType} → ReadsType ts k rest → All ts → All rest
past_type h0 s = grind arith

past_qualifiers : {ts rest : List TokenKind} {q : Qualifiers} → ReadsQualifiers ts q rest → All ts → All rest
past_qualifiers (qualifiers p d k) s = past_type k (past_direction d (past_protocol p s))

-- a truth
from_truth : {k : ℕ} {ts rest : List TokenKind} {a : TruthTree} → Truth k ts a rest → All ts → IsWritableTruth a × All rest
from_truth (of_check is) s = (is, s.1)
from_truth of_cast s = (tt, s.1)
from_truth (of_protocol_cast is) s = (is, s.1.1)
from_truth of_sized s = (s.1.0, s.1.1)
from_truth (of_valued q written v) s = from_value v (past_qualifiers q s)
from_truth (of_bare v) s = from_value v s
from_truth (relation left right) s = grind (arith, from_number)
from_truth (denial inner) s = from_truth inner s.1
from_truth (enclosed_truth inner) s = grind (arith, from_truth inner s.1)
from_truth (term inner) s = from_truth inner s
from_truth (terms left right) s =
    let first = from_truth left s in
    grind (arith, from_truth right first.1.1)

from_tokens : {ts : List TokenKind} {e : Expression} → IsReadAs ts e → All ts → IsWritable e
from_tokens h0 s = grind (arith, from_truth)

-- once it is resolved
inherited_keeps : (a : TruthTree) (q : Qualifiers) → IsWritableTruth a → IsWritableTruth (complete (with_inherited q a))
inherited_keeps (denied a) q w = inherited_keeps a q w
inherited_keeps (joined j a b) q w = (inherited_keeps a q w.0, inherited_keeps b (latest q a) w.1)
inherited_keeps _ q w = w

filled_keeps : (e : Expression) → IsWritable e → IsWritable (fill_expression e)
filled_keeps e w = grind (arith, inherited_keeps)

pub writable : (text : List ℕ) (tokens : List Token) (tree : Expression) → Tokens text (Ok tokens) → IsReadAs (kinds_of tokens) tree
    → IsWritable (fill_expression tree)
writable text tokens tree are reads = filled_keeps tree (from_tokens reads (all_spellable are))
