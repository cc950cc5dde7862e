-- The bytes so far and those of one more write are a prefix of all bytes.
use Rattle.std.proofs.Common.{rules, ℕ, ◌∙◌, arith}
use Rattle.cap_octet.proofs.{Common.length-take, Reading.written-again}
use Rattle.cap_octet.proofs.device.write_repeatedly.Goals as goal

pub loop-written-preserved : goal.loop-written-preserved
loop-written-preserved g c = record {
  within = search rules;
  failed = search rules;
  room = c.in-Ok.ensures.room ∙ c.loop-written.invariant.room;
  exact = λ t. written-again _ _ _ _ _ _ _ (c.loop-written.invariant.exact t) (c.in-Ok.ensures.exact t)
      (omega (arith, length-take {A = ℕ}, c.in-Ok.ensures.within));
}
