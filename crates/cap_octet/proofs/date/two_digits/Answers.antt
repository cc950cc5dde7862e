-- The table's pair of bytes is the number in two digits.
use Rattle.std.proofs.Common.{◌≡◌, ◌/◌, ◌%◌, refl, arith}
use Rattle.cap_octet.proofs.Dates.{pair_at}
use Rattle.cap_octet.proofs.date.two_digits.Goals as goal

pub returns : goal.returns
returns c =
    let pair = pair_at c.args.number c.requires in
    let tens : c.args.number / 10 % 10 ≡ c.args.number / 10 = omega arith in
    rw (pair.0, pair.1, tens) refl
