-- If a repeated write stops, what is written so far is a prefix of the bytes.
use Rattle.std.proofs.Common.{arith, ℕ}
use Rattle.cap_octet.proofs.{Common.length-take, Reading.written-again}
use Rattle.cap_octet.proofs.device.write_all.Goals as goal

pub returns-in-Err-clause-exact : goal.returns-in-Err-clause-exact
returns-in-Err-clause-exact g c = λ tells.
    written-again _ _ _ _ _ _ _ (c.in-Ok.ensures.exact tells) (c.in-Err.ensures.exact tells) (omega (arith, length-take {A = ℕ}, c.in-Err.ensures.front))
