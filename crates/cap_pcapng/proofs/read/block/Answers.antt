-- A block is accepted, or fails the first of its body's checks.
use Rattle.std.proofs.Common.{◌≡◌, ◌-◌, arith, take, drop, IfErr, IfOk, Option, None, Some, subst}
use Rattle.cap_pcapng.proofs.{WholeBlocks.block_fault-body, WholeBlocks.own_checks, Common.Fault, Common.Block, Judged.judged-fault, Judged.judged-passes}
use Rattle.cap_pcapng.proofs.read.block.Goals as goal

pub returns-clause-refused : goal.returns-clause-refused
returns-clause-refused c =
    let frame = c.args.frame.now in
    let P : Option Fault → Type 0 = λ o. IfErr c.read_body.result (λ (fault : Fault). o ≡ Some fault) in
    subst P (block_fault-body frame c.args.bytes.now (omega arith) (omega arith) (omega arith))
    (judged-fault (own_checks frame (take (frame.length - 4 - 8) (drop 8 c.args.bytes.now))) c.read_body.result _ c.read_body.ensures.parts)

pub returns-clause-passes : goal.returns-clause-passes
returns-clause-passes c =
    let frame = c.args.frame.now in
    let P : Option Fault → Type 0 = λ o. IfOk c.read_body.result (λ (block : Block). o ≡ None) in
    subst P (block_fault-body frame c.args.bytes.now (omega arith) (omega arith) (omega arith))
    (judged-passes (own_checks frame (take (frame.length - 4 - 8) (drop 8 c.args.bytes.now))) c.read_body.result _ c.read_body.ensures.parts)
