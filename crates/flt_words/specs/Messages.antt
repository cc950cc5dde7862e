-- The texts of refusals.
use Rattle.std.specs.Fmt.{decimal}
use Rattle.std.specs.Prelude.{ℕ, List, ◌++◌, Option, Some, None, codes}
use Rattle.flt_words.specs.declared.fault.ExprFault.{ExprFault}

-- why a text is refused, without the place
abbrev pub text_of : ExprFault → List ℕ
text_of ExprFault.TooLong = codes "longer than 65536 bytes"
text_of (ExprFault.UnknownCharacter place) = codes "unknown character"
text_of (ExprFault.UnknownWord place) = codes "unknown word"
text_of (ExprFault.NumberTooLarge place) = codes "number too large"
text_of ExprFault.NotAnExpression = codes "not an expression"
text_of ExprFault.NestedTooDeep = codes "nested too deep"
text_of ExprFault.QualifiersDoNotFit = codes "qualifiers do not fit"
text_of ExprFault.ValueOutOfRange = codes "value out of range"
text_of ExprFault.BitsPastMask = codes "bits set past the mask"
text_of ExprFault.DivisionByZero = codes "division by zero"
text_of ExprFault.TooManyWords = codes "more than 16 words"
text_of ExprFault.ProgramTooLong = codes "program too long"
text_of ExprFault.Memory = codes "no memory"

-- the place of a text's fault, in bytes from 1; None if the refusal has no place
abbrev pub place_of : ExprFault → Option ℕ
place_of (ExprFault.UnknownCharacter place) = Some place
place_of (ExprFault.UnknownWord place) = Some place
place_of (ExprFault.NumberTooLarge place) = Some place
place_of _ = None

-- a text with its place, if it has one
abbrev pub with_place : List ℕ → Option ℕ → List ℕ
with_place text None = text
with_place text (Some place) = text ++ (codes " at " ++ decimal place)

-- the message about a refused text: what is wrong, and the place
abbrev pub message_of : ExprFault → List ℕ
message_of fault = with_place (text_of fault) (place_of fault)
