-- The text of tokens: how each is spelled, and between which of them there are blanks.
use Rattle.std.specs.Prelude.{ℕ, ◌/◌, ◌%◌, ◌^◌, ◌==◌, Bool, true, false, ◌||◌, List, [], ◌∷◌, ◌++◌, map, codes, if◌then◌else◌}
use Rattle.std.specs.Fmt.{decimal, digit_glyph, digits}
use Rattle.std.specs.List.{join_with_byte}
use Rattle.flt_words.specs.declared.token.Cast.TheVariants.{Broadcast, Multicast}
use Rattle.flt_words.specs.declared.token.Comparison.TheVariants as comparison
use Rattle.flt_words.specs.declared.token.Join.TheVariants as join
use Rattle.flt_words.specs.declared.token.Operator.TheVariants as operator
use Rattle.flt_words.specs.declared.token.Protocol.TheVariants as protocol
use Rattle.flt_words.specs.declared.token.Side.TheVariants.{Source, Destination}
use Rattle.flt_words.specs.declared.token.Size.TheVariants as size
use Rattle.flt_words.specs.declared.token.TokenKind.{TokenKind}
use Rattle.flt_words.specs.declared.token.TokenKind.TheVariants as token
use Rattle.flt_words.specs.declared.token.ValueType.TheVariants.{Host, Net, Port, PortRange, Proto}
use Rattle.flt_explain.specs.declared.spelling.Following.{Following}
use Rattle.flt_explain.specs.declared.spelling.Following.TheVariants.{Other, Icmp, IcmpBracket}

-- the keyword or symbol of a token; empty for a number, a name or an address
abbrev pub fixed_spelling : TokenKind → List ℕ
fixed_spelling (token.Protocol protocol.Ether) = codes "ether"
fixed_spelling (token.Protocol protocol.Ip) = codes "ip"
fixed_spelling (token.Protocol protocol.Ip6) = codes "ip6"
fixed_spelling (token.Protocol protocol.Arp) = codes "arp"
fixed_spelling (token.Protocol protocol.Rarp) = codes "rarp"
fixed_spelling (token.Protocol protocol.Tcp) = codes "tcp"
fixed_spelling (token.Protocol protocol.Udp) = codes "udp"
fixed_spelling (token.Protocol protocol.Icmp) = codes "icmp"
fixed_spelling (token.Protocol protocol.Icmp6) = codes "icmp6"
fixed_spelling (token.Join join.And) = codes "and"
fixed_spelling (token.Join join.Or) = codes "or"
fixed_spelling token.Not = codes "not"
fixed_spelling (token.Side Source) = codes "src"
fixed_spelling (token.Side Destination) = codes "dst"
fixed_spelling (token.ValueType Host) = codes "host"
fixed_spelling (token.ValueType Net) = codes "net"
fixed_spelling (token.ValueType Port) = codes "port"
fixed_spelling (token.ValueType PortRange) = codes "portrange"
fixed_spelling (token.ValueType Proto) = codes "proto"
fixed_spelling (token.Size size.Less) = codes "less"
fixed_spelling (token.Size size.Greater) = codes "greater"
fixed_spelling (token.Cast Broadcast) = codes "broadcast"
fixed_spelling (token.Cast Multicast) = codes "multicast"
fixed_spelling token.Mask = codes "mask"
fixed_spelling token.Len = codes "len"
fixed_spelling (token.Comparison comparison.Equal) = codes "="
fixed_spelling (token.Comparison comparison.NotEqual) = codes "!="
fixed_spelling (token.Comparison comparison.Less) = codes "<"
fixed_spelling (token.Comparison comparison.AtMost) = codes "<="
fixed_spelling (token.Comparison comparison.Greater) = codes ">"
fixed_spelling (token.Comparison comparison.AtLeast) = codes ">="
fixed_spelling (token.Operator operator.Or) = codes "|"
fixed_spelling (token.Operator operator.And) = codes "&"
fixed_spelling (token.Operator operator.ShiftLeft) = codes "<<"
fixed_spelling (token.Operator operator.ShiftRight) = codes ">>"
fixed_spelling (token.Operator operator.Add) = codes "+"
fixed_spelling (token.Operator operator.Subtract) = codes "-"
fixed_spelling (token.Operator operator.Multiply) = codes "*"
fixed_spelling (token.Operator operator.Divide) = codes "/"
fixed_spelling (token.Operator operator.Remainder) = codes "%"
fixed_spelling (token.Operator operator.ExclusiveOr) = codes "^"
fixed_spelling token.Open = codes "("
fixed_spelling token.Close = codes ")"
fixed_spelling token.OpenBracket = codes "["
fixed_spelling token.CloseBracket = codes "]"
fixed_spelling token.Colon = codes ":"
fixed_spelling _ = []

-- the number 1 has two names: the code of ICMP, directly after `icmp[`, and else the FIN flag
abbrev pub name_of_number_one : Following → List ℕ
name_of_number_one IcmpBracket = codes "icmpcode"
name_of_number_one _ = codes "tcp-fin"

-- the name of a number; without a name it is in decimal
abbrev pub name_word : Following → ℕ → List ℕ
name_word following n =
    if n == 0 then codes "icmptype" else
    if n == 1 then name_of_number_one following else
    if n == 2 then codes "tcp-syn" else
    if n == 4 then codes "tcp-rst" else
    if n == 8 then codes "tcp-push" else
    if n == 13 then codes "tcpflags" else
    if n == 16 then codes "tcp-ack" else
    if n == 32 then codes "tcp-urg" else decimal n

-- the byte of an address at the position with this weight, a power of 256
abbrev pub octet : ℕ → ℕ → ℕ
octet weight address = address / weight % 256

-- the first two or three bytes of an IPv4 address, or all four
abbrev pub octets : ℕ → ℕ → List ℕ
octets address parts =
    if parts == 2 then octet (2 ^ 24) address ∷ octet (2 ^ 16) address ∷ [] else
    if parts == 3 then octet (2 ^ 24) address ∷ octet (2 ^ 16) address ∷ octet (2 ^ 8) address ∷ []
    else octet (2 ^ 24) address ∷ octet (2 ^ 16) address ∷ octet (2 ^ 8) address ∷ octet 1 address ∷ []

-- these parts of an IPv4 address in decimal, with points between them
unfoldable pub dotted_word : ℕ → ℕ → List ℕ
dotted_word address parts = join_with_byte 46 (map decimal (octets address parts))

-- a byte in two hexadecimal digits
abbrev pub hex_byte : ℕ → List ℕ
hex_byte n = digit_glyph false (n / 16) ∷ digit_glyph false (n % 16) ∷ []

-- the three bytes of half a MAC address
abbrev pub half_bytes : ℕ → List ℕ
half_bytes half = octet (2 ^ 16) half ∷ octet (2 ^ 8) half ∷ octet 1 half ∷ []

-- half a MAC address: three bytes, each in two hexadecimal digits, joined by colons
unfoldable pub bytes_text : ℕ → List ℕ
bytes_text half = join_with_byte 58 (map hex_byte (half_bytes half))

-- a MAC address: its six bytes, joined by colons
unfoldable pub mac_word : ℕ → List ℕ
mac_word address = bytes_text (address / 2 ^ 24) ++ 58 ∷ bytes_text (address % 2 ^ 24)

-- the group of half an IPv6 address at the position with this weight, a power of 65,536
abbrev pub group_at : ℕ → ℕ → ℕ
group_at weight half = half / weight % 65536

-- the four groups of half an IPv6 address
abbrev pub half_groups : ℕ → List ℕ
half_groups half =
    group_at (2 ^ 48) half ∷ group_at (2 ^ 32) half ∷ group_at (2 ^ 16) half
    ∷ group_at 1 half ∷ []

-- half an IPv6 address: four groups in hexadecimal, without leading zeros, joined by colons
unfoldable pub groups_text : ℕ → List ℕ
groups_text half = join_with_byte 58 (map (digits 16 false) (half_groups half))

-- an IPv6 address: its eight groups, joined by colons; none are left out for a `::`
unfoldable pub ip6_word : ℕ → List ℕ
ip6_word address = groups_text (address / 2 ^ 64) ++ 58 ∷ groups_text (address % 2 ^ 64)

-- the spelling of a token, by what precedes it
abbrev pub spelling : Following → TokenKind → List ℕ
spelling following (token.Number n) = decimal n
spelling following (token.Name n) = name_word following n
spelling following (token.Dotted a p) = dotted_word a p
spelling following (token.Range a b) = decimal a ++ (codes "-" ++ decimal b)
spelling following (token.Mac a) = mac_word a
spelling following (token.Ip6 a) = ip6_word a
spelling following t = fixed_spelling t

-- what precedes the token after `[`, by what precedes the `[`: after `icmp` it is `icmp[`
abbrev pub after_bracket : Following → Following
after_bracket Icmp = IcmpBracket
after_bracket _ = Other

-- what precedes the next token, by this token and what precedes it
abbrev pub next_after : Following → TokenKind → Following
next_after following (token.Protocol protocol.Icmp) = Icmp
next_after following token.OpenBracket = after_bracket following
next_after following _ = Other

-- whether no blank follows a token: `(`, `[`, `:` or `/`
abbrev pub joins_next : TokenKind → Bool
joins_next token.Open = true
joins_next token.OpenBracket = true
joins_next token.Colon = true
joins_next (token.Operator operator.Divide) = true
joins_next _ = false

-- whether no blank precedes a token: `)`, `[`, `]`, `:` or `/`
abbrev pub joins_previous : TokenKind → Bool
joins_previous token.Close = true
joins_previous token.OpenBracket = true
joins_previous token.CloseBracket = true
joins_previous token.Colon = true
joins_previous (token.Operator operator.Divide) = true
joins_previous _ = false

-- the blank between a token and the next one, if there is a next one and neither joins the other
abbrev pub gap : TokenKind → List TokenKind → List ℕ
gap t [] = []
gap t (u ∷ rest) = if joins_next t || joins_previous u then [] else codes " "

-- the text of tokens, by what precedes the first one: their spellings, with blanks between them
abbrev pub tokens_text : Following → List TokenKind → List ℕ
tokens_text following [] = []
tokens_text following (t ∷ rest) =
    spelling following t ++ (gap t rest ++ tokens_text (next_after following t) rest)
