-- The bytes so far and those of one more read are the bytes of one longer read.
use Rattle.std.proofs.Common.{rules, ◌∙◌, arith}
use Rattle.cap_octet.proofs.Reading.{Takes-following, Takes-nothing, told-again}
use Rattle.cap_octet.proofs.device.read_full.Goals as goal

pub loop-count-preserved : goal.loop-count-preserved
loop-count-preserved g c = record {
  within = search rules;
  counted = search rules;
  bounded = search rules;
  failed = search rules;
  told = λ exact. told-again _ _ _ _ _ c.in_ok-n.n _ _ (c.in_ok-n.ensures.exact exact) c.in_ok-n.ensures.counted (c.loop-count.invariant.told exact);
  sure = c.in_ok-n.ensures.sure ∙ c.loop-count.invariant.sure;
  exact = λ exact. Takes-following _ _ _ _ c.loop-count.count _ c.in_ok-n.n _ _ (c.loop-count.invariant.exact exact)
      (c.in_ok-n.ensures.exact exact).taken (omega arith) (omega arith);
}

pub returns-then-n-eq0-clause-exact : goal.returns-then-n-eq0-clause-exact
returns-then-n-eq0-clause-exact g c = λ exact. Takes-nothing _ _ _ _ c.loop-count.count _ c.in_ok-n.n _ _ (c.loop-count.invariant.exact exact)
    (c.in_ok-n.ensures.exact exact) (omega arith) (omega arith) c.if-n-eq0.true (omega arith)
