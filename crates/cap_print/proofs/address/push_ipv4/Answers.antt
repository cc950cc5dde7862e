-- Four numbers with points between them are the address.
use Rattle.std.proofs.Common.{append_assoc}
use Rattle.cap_print.specs.Addresses.{ipv4_text}
use Rattle.cap_print.proofs.address.push_ipv4.Goals as goal

pub returns-clause-value : goal.returns-clause-value
unfolding ipv4_text
returns-clause-value c =
    rw (
      c.push_decimal-4.ensures.value,
      c.push-3.ensures,
      c.push_decimal-3.ensures.value,
      c.push-2.ensures,
      c.push_decimal-2.ensures.value,
      c.push.ensures,
      c.push_decimal.ensures.value,
    ) (simp append_assoc)
