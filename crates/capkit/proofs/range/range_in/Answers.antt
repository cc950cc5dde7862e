-- A range is read if and only if the word writes one.
use Rattle.capkit.proofs.Common.{◌≡◌, rules, Some, None, range_of}
use Rattle.capkit.proofs.WrittenRanges.{none_in, none_written, read_is_written}
use Rattle.capkit.proofs.range.range_in.Goals as goal

pub returns-in_err-first-clause-none : goal.returns-in_err-first-clause-none
returns-in_err-first-clause-none c =
    let none : None ≡ range_of c.args.word.now = search rules in
    none_in c.args.word.now c.from_residual.result none

pub returns-in_err-last-clause-none : goal.returns-in_err-last-clause-none
returns-in_err-last-clause-none c =
    let none : None ≡ range_of c.args.word.now = search rules in
    none_in c.args.word.now c.from_residual-in_err-last.result none

pub returns-then-is_range-clause-written : goal.returns-then-is_range-clause-written
returns-then-is_range-clause-written c =
    let read : range_of c.args.word.now ≡ Some (c.in_ok-first.first, c.in_ok-last.last) = search rules in
    read_is_written c.args.word.now _ read

pub returns-else-is_range-clause-none : goal.returns-else-is_range-clause-none
returns-else-is_range-clause-none c =
    let none : None ≡ range_of c.args.word.now = search rules in
    none_written c.args.word.now none
