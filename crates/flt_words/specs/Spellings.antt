-- The tokens that have a fixed spelling.
use Rattle.std.specs.Prelude.{ℕ, List, [], ◌∷◌, Bool, ◌&&◌, Option, Some, None, codes}
use Rattle.std.specs.Prelude.{if◌then◌else◌}
use Rattle.std.specs.Str.{bytes_eq}
use Rattle.flt_words.specs.declared.token.{Cast.Cast, Comparison.Comparison, Join.Join}
use Rattle.flt_words.specs.declared.token.{Operator.Operator, Protocol.Protocol, Side.Side}
use Rattle.flt_words.specs.declared.token.{Size.Size, TokenKind.TokenKind, ValueType.ValueType}

-- a table of spellings with their tokens
abbrev pub Spellings : Type 0
Spellings = List (List ℕ × TokenKind)

-- the token of a spelling in a table, letter for letter, or None
abbrev pub look_up : Spellings → List ℕ → Option TokenKind
look_up [] piece = None
look_up (entry ∷ table) piece = if bytes_eq entry.0 piece then Some entry.1 else look_up table piece

-- keywords, and from `tcpflags` on the names of header fields and TCP flags with their numbers
unfoldable pub keywords : Spellings
keywords =
    (codes "and", TokenKind.Join Join.And)
    ∷ (codes "or", TokenKind.Join Join.Or)
    ∷ (codes "not", TokenKind.Not)
    ∷ (codes "host", TokenKind.ValueType ValueType.Host)
    ∷ (codes "net", TokenKind.ValueType ValueType.Net)
    ∷ (codes "port", TokenKind.ValueType ValueType.Port)
    ∷ (codes "portrange", TokenKind.ValueType ValueType.PortRange)
    ∷ (codes "proto", TokenKind.ValueType ValueType.Proto)
    ∷ (codes "src", TokenKind.Side Side.Source)
    ∷ (codes "dst", TokenKind.Side Side.Destination)
    ∷ (codes "ether", TokenKind.Protocol Protocol.Ether)
    ∷ (codes "ip", TokenKind.Protocol Protocol.Ip)
    ∷ (codes "ip6", TokenKind.Protocol Protocol.Ip6)
    ∷ (codes "arp", TokenKind.Protocol Protocol.Arp)
    ∷ (codes "rarp", TokenKind.Protocol Protocol.Rarp)
    ∷ (codes "tcp", TokenKind.Protocol Protocol.Tcp)
    ∷ (codes "udp", TokenKind.Protocol Protocol.Udp)
    ∷ (codes "icmp", TokenKind.Protocol Protocol.Icmp)
    ∷ (codes "icmp6", TokenKind.Protocol Protocol.Icmp6)
    ∷ (codes "mask", TokenKind.Mask)
    ∷ (codes "len", TokenKind.Len)
    ∷ (codes "less", TokenKind.Size Size.Less)
    ∷ (codes "greater", TokenKind.Size Size.Greater)
    ∷ (codes "broadcast", TokenKind.Cast Cast.Broadcast)
    ∷ (codes "multicast", TokenKind.Cast Cast.Multicast)
    ∷ (codes "tcpflags", TokenKind.Name 13)
    ∷ (codes "tcp-fin", TokenKind.Name 1)
    ∷ (codes "tcp-syn", TokenKind.Name 2)
    ∷ (codes "tcp-rst", TokenKind.Name 4)
    ∷ (codes "tcp-push", TokenKind.Name 8)
    ∷ (codes "tcp-ack", TokenKind.Name 16)
    ∷ (codes "tcp-urg", TokenKind.Name 32)
    ∷ (codes "icmptype", TokenKind.Name 0)
    ∷ (codes "icmpcode", TokenKind.Name 1)
    ∷ []

-- `&&`, `||`, `!` and `==` are other spellings of `and`, `or`, `not` and `=`
unfoldable pub symbols : Spellings
symbols =
    (codes "&&", TokenKind.Join Join.And)
    ∷ (codes "||", TokenKind.Join Join.Or)
    ∷ (codes "!=", TokenKind.Comparison Comparison.NotEqual)
    ∷ (codes "==", TokenKind.Comparison Comparison.Equal)
    ∷ (codes "<=", TokenKind.Comparison Comparison.AtMost)
    ∷ (codes ">=", TokenKind.Comparison Comparison.AtLeast)
    ∷ (codes "<<", TokenKind.Operator Operator.ShiftLeft)
    ∷ (codes ">>", TokenKind.Operator Operator.ShiftRight)
    ∷ (codes "(", TokenKind.Open)
    ∷ (codes ")", TokenKind.Close)
    ∷ (codes "[", TokenKind.OpenBracket)
    ∷ (codes "]", TokenKind.CloseBracket)
    ∷ (codes "/", TokenKind.Operator Operator.Divide)
    ∷ (codes "!", TokenKind.Not)
    ∷ (codes "=", TokenKind.Comparison Comparison.Equal)
    ∷ (codes "<", TokenKind.Comparison Comparison.Less)
    ∷ (codes ">", TokenKind.Comparison Comparison.Greater)
    ∷ (codes "+", TokenKind.Operator Operator.Add)
    ∷ (codes "-", TokenKind.Operator Operator.Subtract)
    ∷ (codes "*", TokenKind.Operator Operator.Multiply)
    ∷ (codes "&", TokenKind.Operator Operator.And)
    ∷ (codes "|", TokenKind.Operator Operator.Or)
    ∷ (codes "%", TokenKind.Operator Operator.Remainder)
    ∷ (codes "^", TokenKind.Operator Operator.ExclusiveOr)
    ∷ []

-- the token of a word that is a keyword or a name; None if it is neither
abbrev pub keyword_of : List ℕ → Option TokenKind
keyword_of word = look_up keywords word

-- the token of a symbol; None if these bytes aren't one; the colon is a token of its own only
-- inside brackets
abbrev pub symbol_of : Bool → List ℕ → Option TokenKind
symbol_of inside piece =
    if inside && bytes_eq piece (codes ":") then Some TokenKind.Colon else look_up symbols piece
