-- The tokens of a resolved tree are read as that tree, so the meaning of an expression is read as
-- the expression.
use Rattle.std.proofs.Common.{◌≡◌, ℕ, refl, ap, Bool, true, false, ◌&&◌, not, is_some, List, [], ◌∷◌, Option, Some, None, ◌≤◌, lit≤, length}
use Rattle.flt_explain.proofs.Common.{suc, Operator, Protocol, TokenKind, ValueType, Direction, Qualifiers, NetMask, Value, arith, Other, or-true, or_parts}
use Rattle.flt_ast.specs.Tree.{NumberTree, literal, len, named, load, negated, applied, TruthTree, check, cast, sized, bare, valued, qualified, compared}
use Rattle.flt_ast.specs.Tree.{denied, joined, Expression, empty, truth}
use Rattle.flt_ast.specs.Filled.{latest, with_inherited, complete, completed_qualifiers, fill_expression}
use Rattle.flt_ast.specs.Resolved.{IsResolved, any_primitive, fill_fault, is_misfit, is_unfilled}
use Rattle.flt_lang.specs.Values.{ReadsProtocol, no_protocol, protocol, ReadsDirection, no_direction, one_side, source_first, of_type, ReadsQualifiers}
use Rattle.flt_lang.specs.Values.{qualifiers, ReadsMask, no_mask, prefix, dotted_mask, ReadsValue, number, dotted, ip6_prefix, range, ip6, mac}
use Rattle.flt_lang.specs.Grammar.{Number, of_literal, of_len, of_name, enclosed, of_sized_load, minus, chain, Truth, of_check, of_cast, of_protocol_cast}
use Rattle.flt_lang.specs.Grammar.{of_sized, of_valued, relation, denial, enclosed_truth, term, terms, IsReadAs, no_tokens, all_tokens, level}
use Rattle.flt_explain.specs.Explained.{mask_tokens, value_tokens, protocol_tokens, direction_tokens, qualifier_tokens, written_direction, written_side}
use Rattle.flt_explain.specs.Explained.{written_qualifiers, number_tokens, open_operand, close_operand, truth_tokens, explained_tokens, type_tokens}
use Rattle.flt_explain.specs.Explained.{explained_text}
use Rattle.flt_explain.specs.Writable.{IsWritable, IsWritableNumber, IsWritableTruth, IsReadBack, IsWritableMask, IsWritableValue}
use Rattle.flt_explain.proofs.TextTokens.{AreSpelled, lexes}
use Rattle.flt_words.specs.{declared.token.ValueType.TheVariants.Proto, Tokens.Tokens.short}
use Rattle.flt_lang.proofs.{Stacked.widened, ValuesBack.level_small}
use Rattle.flt_ast.specs.{declared.qualifiers.CompleteQualifiers.CompleteQualifiers, Fits.is_either, Fits.is_proto}
use Rattle.flt_words.specs.declared.token.TokenKind.TheVariants as token
use Rattle.flt_ast.specs.declared.qualifiers.Direction.TheVariants as direction
use Rattle.flt_ast.specs.declared.value.NetMask.TheVariants as mask
use Rattle.flt_ast.specs.declared.value.Value.TheVariants as value

any : {k : ℕ} {ts rest : List TokenKind} {a : NumberTree} → k ≤ 4 → Number k ts a rest → Number 4 ts a rest
any {k} small reads = grind (arith, widened)

operation : (o : Operator) {ts mid rest : List TokenKind} {a b : NumberTree} → Number 0 ts a (token.Operator o ∷ mid) → Number 0 mid b rest
    → Number 4 ts (applied o a b) rest
operation o left right = any (omega (arith, level_small o)) (chain (widened 0 (suc (level o)) _ _ _ (omega arith) left) refl
    (grind (arith, widened)))

-- a number is read
reads_number : (a : NumberTree) (rest : List TokenKind) → IsWritableNumber a → Number 0 (number_tokens a rest) a rest
reads_number (literal n) rest w = of_literal
reads_number len rest w = of_len
reads_number (named n) rest w = of_name
reads_number (load p s a) rest w = grind (arith, of_sized_load, any, reads_number a)
reads_number (negated a) rest w = enclosed (any (lit≤ tt) (minus (reads_number a _ w)))
reads_number (applied o a b) rest w = enclosed (operation o (reads_number a _ w.0) (reads_number b _ w.1))

-- a value is read
reads_mask : (m : NetMask) (rest : List TokenKind) → ReadsMask (mask_tokens m rest) m rest
reads_mask mask.Unwritten rest = no_mask
reads_mask (mask.Prefix n) rest = prefix
reads_mask (mask.Mask d) rest = dotted_mask

reads_value : (v : Value) (rest : List TokenKind) → ReadsValue (value_tokens v rest) v rest
reads_value (value.Number n m) rest = number (reads_mask m rest)
reads_value (value.Dotted d m) rest = dotted (reads_mask m rest)
reads_value (value.Ip6 a None) rest = ip6
reads_value (value.Ip6 a (Some n)) rest = ip6_prefix
reads_value (value.Mac a) rest = mac
reads_value (value.Range a b) rest = range

reads_protocol : (p : Option Protocol) (rest : List TokenKind) → ReadsProtocol (protocol_tokens p rest) p rest
reads_protocol p rest = grind (arith, no_protocol, protocol)

reads_direction : (d : Direction) (rest : List TokenKind) → ReadsDirection (direction_tokens d rest) (Some d) rest
reads_direction d rest = grind (arith, one_side, source_first)

reads_typed : (k : ValueType) (d : Direction) (p : Option Protocol) (ts rest : List TokenKind)
    → ReadsProtocol ts p (written_direction (written_side k d) (token.ValueType k ∷ rest))
    → ReadsQualifiers ts (record { protocol = p; direction = written_side k d; value_type = Some k }) rest
reads_typed Proto d p ts rest reads = qualifiers reads no_direction of_type
reads_typed _ d p ts rest reads = qualifiers reads (reads_direction d _) of_type

reads_qualifiers : (q : CompleteQualifiers) (rest : List TokenKind) → ReadsQualifiers (qualifier_tokens (written_qualifiers q) rest) (written_qualifiers q) rest
reads_qualifiers q rest = grind (arith, reads_typed, reads_protocol)

-- the tree that is read, before it is resolved
reread : TruthTree → TruthTree
reread (qualified q v) = valued (written_qualifiers q) v
reread (denied a) = denied (reread a)
reread (joined j a b) = joined j (reread a) (reread b)
reread a = a

-- a truth is read, as an operand or as the whole
Reads : Bool → List TokenKind → TruthTree → List TokenKind → Type 0
Reads true ts a rest = Truth 0 ts a rest
Reads false ts a rest = Truth 1 ts a rest

around : (operand : Bool) (rest : List TokenKind) {ts : List TokenKind} {a : TruthTree} → Truth 1 ts a (close_operand operand rest)
    → Reads operand (open_operand operand ts) a rest
unfolding Reads
around operand rest reads = grind (arith, enclosed_truth)

alone : (operand : Bool) {ts rest : List TokenKind} {a : TruthTree} → Truth 0 ts a rest → Reads operand ts a rest
unfolding Reads
alone operand reads = grind (arith, term)

reads_truth : (operand : Bool) (a : TruthTree) (rest : List TokenKind) → IsWritableTruth a → any_primitive is_unfilled a ≡ false
    → Reads operand (truth_tokens operand a rest) (reread a) rest
unfolding Reads reread
reads_truth operand (check p) rest w f = alone operand (of_check w)
reads_truth operand (cast None c) rest w f = alone operand of_cast
reads_truth operand (cast (Some p) c) rest w f = around operand rest (term (of_protocol_cast w))
reads_truth operand (sized s n) rest w f = around operand rest (term of_sized)
reads_truth operand (bare v) rest w f = cc
reads_truth operand (valued q v) rest w f = cc
reads_truth operand (qualified q v) rest w f = around operand rest (term (of_valued (reads_qualifiers q _) (or-true _) (reads_value v _)))
reads_truth operand (compared c a b) rest w f =
    around operand rest (term (relation (any (lit≤ tt) (reads_number a _ w.0)) (any (lit≤ tt) (reads_number b _ w.1))))
reads_truth operand (denied a) rest w f = grind (arith, around, term, denial, reads_truth true a)
reads_truth operand (joined j a b) rest w f =
    let parts = or_parts (any_primitive is_unfilled a) (any_primitive is_unfilled b) f in
    around operand rest (terms (term (reads_truth true a _ w.0 parts.0)) (reads_truth true b _ w.1 parts.1))

-- resolved, it is the tree
full_again : (k : ValueType) (p : Option Protocol) (d : Direction) → is_proto k && not (is_either d) ≡ false
    → completed_qualifiers (record { protocol = p; direction = written_side k d; value_type = Some k }) ≡ record { protocol = p; direction = d; value_type = k }
full_again k p d h = grind arith

filled_again : (q : Qualifiers) (a : TruthTree) → any_primitive is_unfilled a ≡ false → any_primitive is_misfit a ≡ false
    → complete (with_inherited q (reread a)) ≡ a
unfolding reread
filled_again q (bare v) f m = cc
filled_again q (valued p v) f m = cc
filled_again q (qualified p v) f m = grind (arith, or_parts, qualified, full_again)
filled_again q (denied a) f m = ap denied (filled_again q a f m)
filled_again q (joined j a b) f m =
    let fs = or_parts (any_primitive is_unfilled a) (any_primitive is_unfilled b) f in
    let ms = or_parts (any_primitive is_misfit a) (any_primitive is_misfit b) m in
    rw (filled_again q a fs.0 ms.0, filled_again (latest q (reread a)) b fs.1 ms.1) refl
filled_again q _ f m = refl

-- and has none of the faults
keeps : (g : TruthTree → Bool) → ((q : CompleteQualifiers) (v : Value) → g (qualified q v) ≡ false → g (valued (written_qualifiers q) v) ≡ false)
    → (q : Qualifiers) (a : TruthTree) → any_primitive is_unfilled a ≡ false → any_primitive g a ≡ false → any_primitive g (with_inherited q (reread a)) ≡ false
unfolding reread
keeps g same q (bare v) f h = cc
keeps g same q (valued p v) f h = cc
keeps g same q (qualified p v) f h = same p v h
keeps g same q (denied a) f h = keeps g same q a f h
keeps g same q (joined j a b) f h =
    let fs = or_parts (any_primitive is_unfilled a) (any_primitive is_unfilled b) f in
    let hs = or_parts (any_primitive g a) (any_primitive g b) h in
    rw (keeps g same q a fs.0 hs.0) (keeps g same (latest q (reread a)) b fs.1 hs.1)
keeps g same q _ f h = h

no_side : (k : ValueType) (d : Direction) → is_proto k && is_some (written_side k d) ≡ false
no_side k d = grind arith

fits_again : (q : CompleteQualifiers) (v : Value) → is_misfit (qualified q v) ≡ false → is_misfit (valued (written_qualifiers q) v) ≡ false
fits_again q v h = grind (arith, or_parts, no_side)

-- what the tokens of a tree are read as
pub record IsRereadAs (tokens : List TokenKind) (e : Expression) : Type 0 where
  pub tree : Expression
  pub is_tree : IsReadAs tokens tree
  pub no_fault : fill_fault tree ≡ None
  pub same : fill_expression tree ≡ e

faultless : (a : TruthTree) → IsResolved (truth a) → fill_fault (truth (reread a)) ≡ None
faultless a r = grind (arith, keeps, fits_again)

whole : (a : TruthTree) → IsWritableTruth a → any_primitive is_unfilled a ≡ false → Truth 1 (truth_tokens false a []) (reread a) []
unfolding Reads
whole a w f = reads_truth false a [] w f

pub reread_tokens : (e : Expression) → IsWritable e → IsResolved e → IsRereadAs (explained_tokens e) e
reread_tokens empty w r = grind (arith, empty, no_tokens)
reread_tokens (truth a) w r = record {
  tree = truth (reread a);
  is_tree = all_tokens (whole a w r.is_filled);
  no_fault = faultless a r;
  same = grind (arith, truth, filled_again);
}

-- the tokens of a number, at any depth of brackets
number_spelled : (a : NumberTree) (d : ℕ) (rest : List TokenKind) → IsWritableNumber a → AreSpelled d rest → AreSpelled d (number_tokens a rest)
number_spelled (load p z a) d rest w s = grind (arith, number_spelled a (suc d))
number_spelled (negated a) d rest w s = grind (arith, number_spelled a d)
number_spelled (applied o a b) d rest w s = grind (arith, number_spelled a d, number_spelled b d)
number_spelled _ d rest w s = (w, tt, s)

-- of a value, outside brackets
mask_spelled : (m : NetMask) (rest : List TokenKind) → IsWritableMask m → AreSpelled 0 rest → AreSpelled 0 (mask_tokens m rest)
mask_spelled m rest w s = grind arith

value_spelled : (v : Value) (rest : List TokenKind) → IsWritableValue v → AreSpelled 0 rest → AreSpelled 0 (value_tokens v rest)
value_spelled v rest w s = grind (arith, mask_spelled)

protocol_spelled : (p : Option Protocol) (rest : List TokenKind) → AreSpelled 0 rest → AreSpelled 0 (protocol_tokens p rest)
protocol_spelled p rest s = grind arith

direction_spelled : (d : Direction) (rest : List TokenKind) → AreSpelled 0 rest → AreSpelled 0 (direction_tokens d rest)
direction_spelled d rest s = grind arith

written_direction_spelled : (d : Option Direction) (rest : List TokenKind) → AreSpelled 0 rest → AreSpelled 0 (written_direction d rest)
written_direction_spelled d rest s = grind (arith, direction_spelled)

type_spelled : (k : Option ValueType) (rest : List TokenKind) → AreSpelled 0 rest → AreSpelled 0 (type_tokens k rest)
type_spelled k rest s = grind arith

qualifiers_spelled : (q : Qualifiers) (rest : List TokenKind) → AreSpelled 0 rest → AreSpelled 0 (qualifier_tokens q rest)
qualifiers_spelled q rest s = grind (arith, protocol_spelled, written_direction_spelled, type_spelled)

-- of a truth
closed_spelled : (operand : Bool) (rest : List TokenKind) → AreSpelled 0 rest → AreSpelled 0 (close_operand operand rest)
closed_spelled operand rest s = grind arith

opened_spelled : (operand : Bool) (rest : List TokenKind) → AreSpelled 0 rest → AreSpelled 0 (open_operand operand rest)
opened_spelled operand rest s = grind arith

truth_spelled : (operand : Bool) (a : TruthTree) (rest : List TokenKind) → IsWritableTruth a → AreSpelled 0 rest → AreSpelled 0 (truth_tokens operand a rest)
truth_spelled operand (check p) rest w s = (tt, tt, s)
truth_spelled operand (cast None c) rest w s = (tt, tt, s)
truth_spelled operand (cast (Some p) c) rest w s = grind (arith, opened_spelled, closed_spelled)
truth_spelled operand (sized z n) rest w s = grind (arith, opened_spelled, closed_spelled)
truth_spelled operand (bare v) rest w s = grind (arith, opened_spelled, value_spelled, closed_spelled)
truth_spelled operand (valued q v) rest w s = grind (arith, opened_spelled, qualifiers_spelled, value_spelled, closed_spelled)
truth_spelled operand (qualified q v) rest w s = grind (arith, opened_spelled, qualifiers_spelled, value_spelled, closed_spelled)
truth_spelled operand (compared c a b) rest w s = grind (arith, opened_spelled, number_spelled, closed_spelled)
truth_spelled operand (denied a) rest w s = grind (arith, opened_spelled, closed_spelled, truth_spelled true a)
truth_spelled operand (joined j a b) rest w s = grind (arith, opened_spelled, closed_spelled, truth_spelled true a, truth_spelled true b)

tokens_spelled : (e : Expression) → IsWritable e → AreSpelled 0 (explained_tokens e)
tokens_spelled e w = grind (arith, truth_spelled)

pub explained_back : (e : Expression) → IsWritable e → IsResolved e → length (explained_text e) ≤ 65536 → IsReadBack (explained_text e) e
explained_back e w r small =
    let cut = lexes (explained_tokens e) 0 Other [] refl (tokens_spelled e w) in
    grind (arith, reread_tokens, short)
