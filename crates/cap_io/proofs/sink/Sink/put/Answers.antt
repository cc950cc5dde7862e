-- A packet is written, or refused for the first reason; after an error nothing more is written.
use Rattle.cap_io.proofs.{Common.arith, Common.captured, Texts.adds-broken, Texts.puts-tell, Texts.put-writes-tell}
use Rattle.cap_io.proofs.sink.Sink.put.Goals as goal

pub returns-in-Err-clause-bytes : goal.returns-in-Err-clause-bytes
returns-in-Err-clause-bytes g c = grind (arith, captured, put-writes-tell)

pub returns-in-Err-clause-answer : goal.returns-in-Err-clause-answer
returns-in-Err-clause-answer g c = grind (arith, captured, puts-tell, adds-broken)

pub returns-in_default-result : goal.returns-in_default-result
returns-in_default-result g c = grind (arith, captured, put-writes-tell, puts-tell)
