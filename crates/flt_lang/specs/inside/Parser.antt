-- The parser's steps over plain lists: the frames and the nodes are listed latest first.
use Rattle.std.specs.Prelude.{◌≡◌, ◌⊎◌, ℕ, suc, zero, ◌+◌, ◌-◌, ◌<◌, List, [], ◌∷◌, Option, Some}
use Rattle.std.specs.Prelude.{None, Result, Err, IfErr, IfOk, nat_le, length, if◌then◌else◌}
use Rattle.std.specs.Prelude.{option_and_then}
use Rattle.flt_words.specs.declared.fault.ExprFault.{ExprFault}
use Rattle.flt_words.specs.declared.token.Operator.TheVariants.{Subtract, Divide}
use Rattle.flt_words.specs.declared.token.{Protocol.Protocol, TokenKind.TokenKind}
use Rattle.flt_ast.specs.declared.{node.Node.Node, qualifiers.Qualifiers.Qualifiers}
use Rattle.flt_ast.specs.declared.value.{NetMask.NetMask, Value.Value}
use Rattle.flt_lang.specs.Grammar.{level, stands_alone, is_accessor, has_casts}
use Rattle.flt_lang.specs.declared.frame.{Frame.Frame, Operand.Operand, Sort.Sort}
use Rattle.flt_lang.specs.declared.primitive.ProtocolRole.{ProtocolRole}
use Rattle.flt_lang.specs.inside.Values.{qualifiers_of, value_of}

-- the parser's state: the frames that wait, and the nodes written
pub record ReaderState : Type 0 where
  pub frames : List Frame
  pub nodes : List Node

-- goes on with a value, if there is one
infixl 10 ◌>>=◌
abbrev pub ◌>>=◌ : {A B : Type 0} → Option A → (A → Option B) → Option B
o >>= f = option_and_then f o

-- how loosely a frame binds its operand: 0 is the tightest
abbrev pub precedence : Frame → ℕ
precedence Frame.Negate = 0
precedence (Frame.Apply o) = level o + 1
precedence (Frame.Compare c) = 5
precedence Frame.Not = 6
precedence (Frame.Join j) = 7
precedence _ = 9

-- the precedence of the loosest operand that the latest frame takes; without a frame, that of a
-- whole expression
abbrev pub operand_precedence : List Frame → ℕ
operand_precedence [] = 7
operand_precedence (Frame.Negate ∷ fs) = 0
operand_precedence (Frame.Apply o ∷ fs) = level o
operand_precedence (Frame.Compare c ∷ fs) = 4
operand_precedence (Frame.Not ∷ fs) = 6
operand_precedence (Frame.Join j ∷ fs) = 6
operand_precedence (Frame.Open ∷ fs) = 7
operand_precedence (Frame.Load p ∷ fs) = 4

-- how loosely the next token binds the operand before it; 1 for a token that can't follow an
-- operand
abbrev pub token_precedence : TokenKind → ℕ
token_precedence (TokenKind.Operator o) = level o + 1
token_precedence (TokenKind.Comparison c) = 5
token_precedence (TokenKind.Join j) = 7
token_precedence TokenKind.Close = 8
token_precedence TokenKind.CloseBracket = 8
token_precedence TokenKind.Colon = 8
token_precedence _ = 1

-- how loosely the next token binds the operand before it; at the end as for a closing one
abbrev pub next_precedence : List TokenKind → ℕ
next_precedence [] = 8
next_precedence (t ∷ ts) = token_precedence t

-- the mask of a number that means a network
abbrev pub prefix_mask : Option ℕ → NetMask
prefix_mask None = NetMask.Unwritten
prefix_mask (Some m) = NetMask.Prefix m

-- the nodes after an operand is used as a number; None if it can't be one
abbrev pub as_number : Operand → List Node → Option (List Node)
as_number Operand.Truth d = None
as_number Operand.Number d = Some d
as_number (Operand.Plain n) d = Some (Node.Literal n ∷ d)
as_number (Operand.Either n None) d = Some (Node.Literal n ∷ d)
as_number (Operand.Either n (Some m)) d =
    Some (Node.Apply Divide ∷ Node.Literal m ∷ Node.Literal n ∷ d)

-- the nodes after an operand is used as a truth; None if it can't be one
abbrev pub as_truth : Operand → List Node → Option (List Node)
as_truth Operand.Truth d = Some d
as_truth Operand.Number d = None
as_truth (Operand.Plain n) d = Some (Node.Bare (Value.Number n NetMask.Unwritten) ∷ d)
as_truth (Operand.Either n m) d = Some (Node.Bare (Value.Number n (prefix_mask m)) ∷ d)

-- the nodes after an operand is used as one of this sort; None if it can't be
abbrev pub as_sort : Sort → Operand → List Node → Option (List Node)
as_sort Sort.Truth x d = as_truth x d
as_sort Sort.Number x d = as_number x d

-- an operand that was read, and the nodes so far
abbrev pub Read : Type 0
Read = Operand × List Node

-- a node after those of its operands, with which it is the operand `y`; None if an operand was of
-- the other sort
abbrev pub after_node : Operand → Node → Option (List Node) → Option Read
after_node y n o = o >>= λ e. Some (y, n ∷ e)

-- the sort of a frame's operands; arbitrary for `(`, which takes either
abbrev pub sort_of : Frame → Sort
sort_of Frame.Not = Sort.Truth
sort_of (Frame.Join j) = Sort.Truth
sort_of Frame.Open = Sort.Truth
sort_of _ = Sort.Number

-- the node of a frame, and the operand that it makes; None if a token closes the frame
abbrev pub node_of : Frame → Option (Node × Operand)
node_of Frame.Negate = Some (Node.Negate, Operand.Number)
node_of (Frame.Apply o) = Some (Node.Apply o, Operand.Number)
node_of (Frame.Compare c) = Some (Node.Compare c, Operand.Truth)
node_of Frame.Not = Some (Node.Not, Operand.Truth)
node_of (Frame.Join j) = Some (Node.Join j, Operand.Truth)
node_of _ = None

-- a frame is completed with its last operand: the operand that they make together, and the nodes;
-- None if a token closes the frame, or the operand is of the other sort
abbrev pub fill_frame : Frame → Operand → List Node → Option Read
fill_frame f x d = node_of f >>= λ w. after_node w.1 w.0 (as_sort (sort_of f) x d)

-- the remaining frames, the operand that the others made, and the nodes
abbrev pub Reduced : Type 0
Reduced = List Frame × Operand × List Node

-- the frames that bind at least as tightly as m are completed, latest first; None if one can't be
abbrev pub reduce : ℕ → List Frame → Operand → List Node → Option Reduced
reduce m [] x d = Some ([], x, d)
reduce m (f ∷ fs) x d =
    if nat_le (precedence f) m then (fill_frame f x d >>= λ r. reduce m fs r.0 r.1)
    else Some (f ∷ fs, x, d)

-- the latest frame, if there is one, binds more loosely than m
abbrev pub IsLoose : ℕ → List Frame → Type 0
IsLoose m [] = Unit {0}
IsLoose m (f ∷ fs) = m < precedence f

-- the frames, the operand that was read (None if one must begin), and the nodes
abbrev pub State : Type 0
State = List Frame × Option Operand × List Node

-- how many tokens after the first are used, and the state after them
abbrev pub Begun : Type 0
Begun = ℕ × State

-- an operand once it has parentheses around it
abbrev pub enclosed_operand : Operand → Operand
enclosed_operand (Operand.Plain n) = Operand.Either n None
enclosed_operand x = x

-- a frame that waits for its right operand, after its left one of the same sort; None if the left
-- one is of the other sort, or the latest frame takes no operand that binds this loosely
abbrev pub after_operator : Frame → List Frame → Operand → List Node → Option Begun
after_operator f fs x d =
    if nat_le (precedence f) (operand_precedence fs) then
    (as_sort (sort_of f) x d >>= λ e. Some (0, (f ∷ fs, None, e))) else None

-- the latest frame, a load, takes its index and reads `size` bytes; `more` tokens after the first
-- are used. None if the latest frame isn't a load, or the index isn't a number.
abbrev pub after_load : ℕ → ℕ → List Frame → Operand → List Node → Option Begun
after_load more size (Frame.Load p ∷ fs) x d =
    as_number x d >>= λ e. Some (more, (fs, Some Operand.Number, Node.Load p size ∷ e))
after_load more size _ x d = None

-- the size of an accessor after its colon; None unless a number and then `]` follow
abbrev pub accessor_size : List TokenKind → Option ℕ
accessor_size (TokenKind.Number n ∷ TokenKind.CloseBracket ∷ ts) = Some n
accessor_size _ = None

-- the latest frame, a parenthesis, is closed; None if it isn't one
abbrev pub after_close : List Frame → Operand → List Node → Option Begun
after_close (Frame.Open ∷ fs) x d = Some (0, (fs, Some (enclosed_operand x), d))
after_close _ x d = None

-- the state after a token that follows an operand, and sometimes tokens after it; None if no such
-- token may follow
abbrev pub after_token_at : TokenKind → List TokenKind → List Frame → Operand → List Node
    → Option Begun
after_token_at (TokenKind.Operator o) ts fs x d = after_operator (Frame.Apply o) fs x d
after_token_at (TokenKind.Comparison c) ts fs x d = after_operator (Frame.Compare c) fs x d
after_token_at (TokenKind.Join j) ts fs x d = after_operator (Frame.Join j) fs x d
after_token_at TokenKind.Close ts fs x d = after_close fs x d
after_token_at TokenKind.CloseBracket ts fs x d = after_load 0 1 fs x d
after_token_at TokenKind.Colon ts fs x d = accessor_size ts >>= λ n. after_load 2 n fs x d
after_token_at _ ts fs x d = None

-- the state after the next token, which follows an operand
abbrev pub after_token : List TokenKind → List Frame → Operand → List Node → Option Begun
after_token [] fs x d = None
after_token (t ∷ ts) fs x d = after_token_at t ts fs x d

-- how many tokens after the first a primitive takes, its operand, and the nodes
abbrev pub Primitive : Type 0
Primitive = ℕ × Option Operand × List Node

-- a value with its qualifiers, and how many tokens after the first they are; None if no value
-- follows the qualifiers
abbrev pub valued_of : List TokenKind → Option (Qualifiers × Value × ℕ)
valued_of ts =
    let q = qualifiers_of ts in
    value_of q.1 >>= λ r. Some (q.0, r.0, length ts - length r.1 - 1)

-- a protocol by itself; None if there is none, or it may not be by itself
abbrev pub check_of : List TokenKind → List Node → Option Primitive
check_of (TokenKind.Protocol p ∷ ts) d =
    if stands_alone p then Some (0, Some Operand.Truth, Node.Check p ∷ d) else None
check_of _ d = None

-- this value with its qualifiers, or else a protocol by itself
abbrev pub valued_or : Option (Qualifiers × Value × ℕ) → List TokenKind → List Node
    → Option Primitive
valued_or (Some r) ts d = Some (r.2, Some Operand.Truth, Node.Valued r.0 r.1 ∷ d)
valued_or None ts d = check_of ts d

-- a value with its qualifiers, or else a protocol by itself
abbrev pub primitive : List TokenKind → List Node → Option Primitive
primitive ts d = valued_or (valued_of ts) ts d

-- a value without qualifiers; None if the tokens begin with none
abbrev pub bare_of : List TokenKind → List Node → Option Primitive
bare_of ts d =
    value_of ts >>= λ r. Some (length ts - length r.1 - 1, Some Operand.Truth, Node.Bare r.0 ∷ d)

-- a truth of one node, and how many tokens after the first it takes
abbrev pub one_node : List Node → Option (Node × ℕ) → Option Primitive
one_node d None = None
one_node d (Some r) = Some (r.1, Some Operand.Truth, r.0 ∷ d)

-- a primitive that was read, while these frames wait
abbrev pub with_frames : List Frame → Option Primitive → Option Begun
with_frames fs o = o >>= λ r. Some (r.0, (fs, r.1, r.2))

-- the role of a protocol, by the token after it
abbrev pub protocol_role : List TokenKind → ProtocolRole
protocol_role (t ∷ TokenKind.OpenBracket ∷ ts) = ProtocolRole.Bracket
protocol_role (t ∷ TokenKind.Cast c ∷ ts) = ProtocolRole.Cast c
protocol_role _ = ProtocolRole.Other

-- a protocol begins an operand: an accessor, a cast, or another primitive; None if it can't
abbrev pub protocol_begins : Protocol → ProtocolRole → List TokenKind → List Frame → List Node
    → Option Begun
protocol_begins p ProtocolRole.Bracket ts fs d =
    if is_accessor p then Some (1, (Frame.Load p ∷ fs, None, d)) else None
protocol_begins p (ProtocolRole.Cast c) ts fs d =
    if has_casts p then Some (1, (fs, Some Operand.Truth, Node.Cast (Some p) c ∷ d)) else None
protocol_begins p ProtocolRole.Other ts fs d = with_frames fs (primitive ts d)

-- a number begins an operand: a network with `mask D`, or a number that may become either sort
abbrev pub number_primitive : List TokenKind → List Node → Option Primitive
number_primitive (TokenKind.Number n ∷ TokenKind.Mask ∷ TokenKind.Dotted a p ∷ ts) d =
    bare_of (TokenKind.Number n ∷ TokenKind.Mask ∷ TokenKind.Dotted a p ∷ ts) d
number_primitive (TokenKind.Number n ∷ ts) d = Some (0, Some (Operand.Plain n), d)
number_primitive _ d = None

-- `less N` or `greater N`
abbrev pub sized_of : List TokenKind → List Node → Option Primitive
sized_of (TokenKind.Size s ∷ TokenKind.Number n ∷ ts) d =
    Some (1, Some Operand.Truth, Node.Sized s n ∷ d)
sized_of _ d = None

-- the state after the first tokens of an operand, of which this one is the first; None if no
-- operand begins with it
abbrev pub begin_at : TokenKind → List TokenKind → List Frame → List Node → Option Begun
begin_at (TokenKind.Protocol p) ts fs d = protocol_begins p (protocol_role ts) ts fs d
begin_at (TokenKind.Side s) ts fs d = with_frames fs (primitive ts d)
begin_at (TokenKind.ValueType k) ts fs d = with_frames fs (primitive ts d)
begin_at (TokenKind.Cast c) ts fs d = Some (0, (fs, Some Operand.Truth, Node.Cast None c ∷ d))
begin_at (TokenKind.Size s) ts fs d = with_frames fs (sized_of ts d)
begin_at (TokenKind.Number n) ts fs d = with_frames fs (number_primitive ts d)
begin_at (TokenKind.Dotted a p) ts fs d = with_frames fs (bare_of ts d)
begin_at (TokenKind.Ip6 a) ts fs d = with_frames fs (bare_of ts d)
begin_at (TokenKind.Mac a) ts fs d = with_frames fs (bare_of ts d)
begin_at (TokenKind.Range a b) ts fs d = with_frames fs (bare_of ts d)
begin_at TokenKind.Len ts fs d = Some (0, (fs, Some Operand.Number, Node.Len ∷ d))
begin_at (TokenKind.Name n) ts fs d = Some (0, (fs, Some Operand.Number, Node.Named n ∷ d))
begin_at TokenKind.Not ts fs d =
    if nat_le 6 (operand_precedence fs) then Some (0, (Frame.Not ∷ fs, None, d)) else None
begin_at (TokenKind.Operator Subtract) ts fs d = Some (0, (Frame.Negate ∷ fs, None, d))
begin_at TokenKind.Open ts fs d = Some (0, (Frame.Open ∷ fs, None, d))
begin_at _ ts fs d = None

-- the state after the first tokens of an operand; None if none begins here
abbrev pub begin : List TokenKind → List Frame → List Node → Option Begun
begin [] fs d = None
begin (t ∷ ts) fs d = begin_at t (t ∷ ts) fs d

-- a plain number, and the length of a prefix that follows it; None if one is missing
abbrev pub number_with_prefix : Operand → List TokenKind → Option (ℕ × ℕ)
number_with_prefix (Operand.Plain n) (TokenKind.Operator Divide ∷ TokenKind.Number m ∷ ts) =
    Some (n, m)
number_with_prefix _ _ = None

-- the state after the token that follows an operand (after a colon, after the size and the bracket
-- too), once the frames that bind at least as tightly as that token have taken the operand
abbrev pub next_of : List TokenKind → List Frame → Operand → List Node → Option Begun
next_of ts fs x d = reduce (next_precedence ts) fs x d >>= λ r. after_token ts r.0 r.1 r.2

-- a number takes the length of a prefix, if the latest frame takes a quotient; otherwise the state
-- is as after any operand
abbrev pub with_prefix : Option (ℕ × ℕ) → List TokenKind → List Frame → Operand → List Node
    → Option Begun
with_prefix (Some p) ts fs x d =
    if nat_le 1 (operand_precedence fs) then Some (1, (fs, Some (Operand.Either p.0 (Some p.1)), d))
    else next_of ts fs x d
with_prefix None ts fs x d = next_of ts fs x d

-- the state after what follows an operand: the length of a prefix, if the operand is a plain number
-- that takes one, or else the next token
abbrev pub after_operand : List TokenKind → List Frame → Operand → List Node → Option Begun
after_operand ts fs x d = with_prefix (number_with_prefix x ts) ts fs x d

-- the nodes of an operand that is the whole expression; None if it can't be a truth, or a frame
-- still waits for it
abbrev pub whole : List Frame → Operand → List Node → Option (List Node)
whole [] x d = as_truth x d
whole (f ∷ fs) x d = None

-- the nodes of the whole expression after the last token; None if the tokens end too early or
-- aren't a truth
abbrev pub finish : Option Operand → List Frame → List Node → Option (List Node)
finish None fs d = None
finish (Some x) fs d = reduce 8 fs x d >>= λ r. whole r.0 r.1 r.2

-- the nodes of the whole expression, if the remaining tokens can be read from this state, or None;
-- the first k of them are already used
abbrev pub run : List TokenKind → ℕ → List Frame → Option Operand → List Node → Option (List Node)
run [] k fs x d = finish x fs d
run (t ∷ ts) (suc k) fs x d = run ts k fs x d
run (t ∷ ts) zero fs None d = begin (t ∷ ts) fs d >>= λ r. run ts r.0 r.1.0 r.1.1 r.1.2
run (t ∷ ts) zero fs (Some x) d =
    after_operand (t ∷ ts) fs x d >>= λ r. run ts r.0 r.1.0 r.1.1 r.1.2

-- the nodes of the tree that tokens have, latest first; None if they have no tree; empty for no
-- tokens
abbrev pub nodes_of_tokens : List TokenKind → Option (List Node)
nodes_of_tokens [] = Some []
nodes_of_tokens (t ∷ ts) = run (t ∷ ts) 0 [] None []

-- why a reader fails: the tokens have no tree, or an allocation failed
abbrev pub IsReadFault : ExprFault → Type 0
IsReadFault fault = (fault ≡ ExprFault.NotAnExpression) ⊎ (fault ≡ ExprFault.Memory)

-- what a reader returns if the definition gives `given`: the same, made of what it returns; or why
-- it fails; that there is no tree only if nothing is given
pub record Reads {A B : Type 0} (given : Option B) (made : A → B)
    (result : Result A ExprFault) : Type 0 where
  pub ok : IfOk result (λ a. given ≡ Some (made a))
  pub none : result ≡ Err ExprFault.NotAnExpression → given ≡ None
  pub err : IfErr result IsReadFault

-- the same for a step, after which the reader's state is this
abbrev pub ReadsStep : Option Begun → ReaderState → Result (ℕ × Option Operand) ExprFault → Type 0
ReadsStep given reader result = Reads given (λ r. (r.0, (reader.frames, r.1, reader.nodes))) result
