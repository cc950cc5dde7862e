-- The tests of the accessors so far are in front.
use Rattle.flt_gen.proofs.Common.{◌≡◌, take, reverse, block, emit_accessor_tests}
use Rattle.flt_gen.proofs.number.emit_accessor_tests.Given as goal

abbrev pub invariant-loop-protocol : goal.invariant-loop-protocol
invariant-loop-protocol g l = emit_accessor_tests l.link (reverse (take l.protocol-index l.protocols)) l.to.yes l.to.no l.initial.code ≡ block l.code l.yes
