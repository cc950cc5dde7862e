-- A number below 10^10 has at most 10 digits.
use Rattle.std.proofs.Common.{◌≤◌, length, length-append, arith, rules}
use Rattle.std.proofs.lemmas.Fmt.{length-decimal-le}
use Rattle.flt_trace.proofs.line.Line.push_decimal.Goals as goal

pub push_all-requires : goal.push_all-requires
push_all-requires c = search (rules, length-decimal-le 10)

pub returns-clause-bound : goal.returns-clause-bound
returns-clause-bound c =
    let digits : length c.as_bytes.result.now ≤ 10 = search (rules, length-decimal-le 10) in
    grind (arith, length-append)
