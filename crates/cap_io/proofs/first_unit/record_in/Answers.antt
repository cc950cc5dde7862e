-- The first 16 bytes determine the record's header, and its data is complete or not.
use Rattle.cap_io.proofs.Common.{arith}
use Rattle.cap_io.proofs.FirstUnits.{record-begins, record-cut, record-few, record-refused}
use Rattle.cap_io.proofs.first_unit.record_in.Goals as goal

pub returns-in_default-clause-err : goal.returns-in_default-clause-err
returns-in_default-clause-err c = grind (arith, record-few)

pub returns-in-Err-clause-err : goal.returns-in-Err-clause-err
returns-in-Err-clause-err c =
    let first = c.in-Some.ensures.cases in
    record-refused c.args.head.now c.args.bytes.now c.in-Some.front.now c.in-Err.fault first.enough first.same c.in-Err.ensures.answer

pub returns-then-bytes-spans-clause-err : goal.returns-then-bytes-spans-clause-err
returns-then-bytes-spans-clause-err c = grind (arith, record-cut)

pub returns-clause-ok : goal.returns-clause-ok
returns-clause-ok c = search (arith, record-begins)
