-- The copies have the same texts, in the same order.
use Rattle.capkit.proofs.Common.{arith, common_steps}
use Rattle.capkit.proofs.files.copies_of_texts.Goals as goal

pub loop-name-init : goal.loop-name-init
loop-name-init c = grind (arith, common_steps)

pub loop-name-preserved : goal.loop-name-preserved
loop-name-preserved c = grind (arith, common_steps)

pub returns-clause-texts : goal.returns-clause-texts
returns-clause-texts c = grind (arith, common_steps)

pub returns-clause-count : goal.returns-clause-count
returns-clause-count c = grind (arith, common_steps)
