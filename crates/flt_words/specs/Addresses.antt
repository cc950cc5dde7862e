-- Addresses in words: groups of digits that a separator joins.
use Rattle.std.specs.{Int.Digits.number_from_digits, List.AllByRecursion, List.join_with_byte}
use Rattle.std.specs.Prelude.{◌≡◌, ◌≤◌, ◌+◌, ◌-◌, ℕ, List, ◌++◌, map, length, replicate, codes}
use Rattle.std.specs.Str.Parse.{IsNumeral, digits_value}
use Rattle.flt_words.specs.{Numbers.WritesDecimal, declared.address.Group.Group}

-- the separator of a form's groups: a point, or a colon
abbrev pub separator_of : Group → ℕ
separator_of Group.Octet = 46
separator_of _ = 58

-- digits of a group's form: decimal up to 255 without leading zeros, one or two hexadecimal digits,
-- or one to four
abbrev pub IsGroup : Group → List ℕ → Type 0
IsGroup Group.Octet digits = (n : ℕ) × WritesDecimal digits n × (n ≤ 255)
IsGroup Group.Byte digits = IsNumeral 16 digits × (length digits ≤ 2)
IsGroup Group.Quad digits = IsNumeral 16 digits × (length digits ≤ 4)

-- the number that the digits of a group mean
abbrev pub group_value : Group → List ℕ → ℕ
group_value Group.Octet digits = digits_value 10 digits
group_value _ digits = digits_value 16 digits

-- the numbers that the digits of groups mean, in order
abbrev pub group_values : Group → List (List ℕ) → List ℕ
group_values form groups = map (group_value form) groups

-- the text is these groups, joined by their form's separator; the empty text has no groups
pub record AreGroups (form : Group) (text : List ℕ) (groups : List (List ℕ)) : Type 0 where
  pub joined : text ≡ join_with_byte (separator_of form) groups
  pub each : AllByRecursion (IsGroup form) groups

-- the word is two to four parts of an IPv4 address, the missing ones 0
pub record IsDotted (word : List ℕ) (address parts : ℕ) : Type 0 where
  pub groups : List (List ℕ)
  pub are : AreGroups Group.Octet word groups
  pub at_least_two : 2 ≤ length groups
  pub at_most_four : length groups ≤ 4
  pub count : parts ≡ length groups
  pub value : address
      ≡ number_from_digits 256 (group_values Group.Octet groups ++ replicate (4 - length groups) 0)

-- the word is this many groups of a form, and the address is the number that they mean in a base
pub record IsWholeAddress (form : Group) (base many : ℕ) (word : List ℕ)
    (address : ℕ) : Type 0 where
  pub groups : List (List ℕ)
  pub are : AreGroups form word groups
  pub all : length groups ≡ many
  pub value : address ≡ number_from_digits base (group_values form groups)

-- the word is the six bytes of a MAC address
abbrev pub IsMac : List ℕ → ℕ → Type 0
IsMac word address = IsWholeAddress Group.Byte 256 6 word address

-- the word is the eight groups of an IPv6 address
abbrev pub IsWholeIp6 : List ℕ → ℕ → Type 0
IsWholeIp6 word address = IsWholeAddress Group.Quad 65536 8 word address

-- the two texts are together at most seven groups of an IPv6 address, and the omitted ones between
-- them are 0
pub record AreIp6Ends (front back : List ℕ) (address : ℕ) : Type 0 where
  pub first : List (List ℕ)
  pub last : List (List ℕ)
  pub are_first : AreGroups Group.Quad front first
  pub are_last : AreGroups Group.Quad back last
  pub at_most_seven : length first + length last ≤ 7
  pub value : address
      ≡ number_from_digits 65536
      (group_values Group.Quad first
      ++ (replicate (8 - (length first + length last)) 0 ++ group_values Group.Quad last))

-- the word is an IPv6 address, in full or with one `::` for omitted groups
pub data IsIp6 : List ℕ → ℕ → Type 0 where
  whole : {word : List ℕ} {address : ℕ} → IsWholeIp6 word address → IsIp6 word address
  shortened : {front back : List ℕ} {address : ℕ} → AreIp6Ends front back address
      → IsIp6 (front ++ (codes "::" ++ back)) address
