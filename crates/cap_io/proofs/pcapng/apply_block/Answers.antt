-- A block changes the section as its type says, or is refused.
use Rattle.cap_io.proofs.{Common.arith, Common.err_from_is_err_and, OwnFaults.adds-one}
use Rattle.cap_io.proofs.pcapng.apply_block.Goals as goal

pub returns-in_err-block_effect : goal.returns-in_err-block_effect
returns-in_err-block_effect g c = grind (arith, err_from_is_err_and)

pub returns-in_err-push-in-Interface : goal.returns-in_err-push-in-Interface
returns-in_err-push-in-Interface g c =
    let p = err_from_is_err_and c.from_residual-in_err-push-in-Interface.result c.from_residual-in_err-push-in-Interface.ensures.1 in
    let push = c.in_err-push-in-Interface.ensures in
    rw (p.1, p.2) (record {
      section = c.push.ensures.section;
      ok = tt;
      err =
          adds-one _ _ _ _ _ (rw c.in-Interface.is at c.in_ok-block_effect.ensures.ok) push.no_memory;
      kept = push.kept;
    })

pub returns-in_ok-push-in-Interface : goal.returns-in_ok-push-in-Interface
returns-in_ok-push-in-Interface g c = grind arith

pub returns-in-Packet : goal.returns-in-Packet
returns-in-Packet g c = grind arith

pub returns-in-Nothing : goal.returns-in-Nothing
returns-in-Nothing g c = grind arith
