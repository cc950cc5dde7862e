-- A program without a fault is valid; for another one the call reports the number of the first
-- broken rule.
use Rattle.std.proofs.Common.{refl}
use Rattle.capkit_c.specs.Running.{passes, breaks}
use Rattle.capkit_c.proofs.running.capkit_check.Goals as goal

pub returns-in-Ok : goal.returns-in-Ok
returns-in-Ok c = passes c.in-Ok.ensures.valid refl

pub returns-in-Err : goal.returns-in-Err
returns-in-Err c = breaks c.in-Err.fault c.rule_number.ensures c.in-Err.ensures.refused
