-- What is left to do leads to the same walk, and fewer and fewer accessors wait.
use Rattle.flt_gen.proofs.Common.{◌≡◌, length, finish_number}
use Rattle.flt_gen.proofs.walk.Walk.finish_number.Given as goal

abbrev pub invariant-waiting : goal.invariant-waiting
invariant-waiting g l = finish_number l.link l.self.numbers l.self ≡ finish_number l.link l.initial.self.numbers l.initial.self

abbrev pub decreases-waiting : goal.decreases-waiting
decreases-waiting g l = length l.self.numbers
