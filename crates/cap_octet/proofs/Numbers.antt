-- A number in bytes depends only on its own bytes, not on those after it.
use Rattle.std.proofs.Common.{◌≡◌, ℕ, ◌+◌, ◌≤◌, List, ◌++◌, length, arith, length-drop}
use Rattle.byteorder.specs.Numbers.{big_from-append, little_from-append}
use Rattle.cap_octet.specs.declared.number.Order.{Order, TheVariants.Little, TheVariants.Big}
use Rattle.{std.proofs.lemmas.List.drop-append-le, cap_octet.specs.Number.number_in}

pub number_in-append : (order : Order) (width : ℕ) (front more : List ℕ) (at : ℕ) → at + width ≤ length front
    → number_in order width (front ++ more) at ≡ number_in order width front at
unfolding number_in
number_in-append Little width front more at within =
    grind (arith, drop-append-le, little_from-append, length-drop)
number_in-append Big width front more at within =
    grind (arith, drop-append-le, big_from-append, length-drop)
