-- Each turn appends a colon and a group; after seven of them the address is complete.
use Rattle.std.proofs.Common.{◌≡◌, [], ◌∷◌, length, ap, refl, add-one, append_assoc, length-append, arith}
use Rattle.cap_print.specs.Addresses.{ipv6_text}
use Rattle.cap_print.proofs.address.push_ipv6.Goals as goal

pub loop-i-preserved : goal.loop-i-preserved
loop-i-preserved c = record {
  bound = omega (arith, ap length c.push.ensures, length-append c.loop-i.text (58 ∷ []));
  value =
      rw (add-one c.loop-i.i, c.push_hex_group-in-loop-i.ensures.value, c.network_u16-in-loop-i.ensures, c.push.ensures, c.loop-i.invariant.value)
      (simp append_assoc);
}

pub returns-clause-value : goal.returns-clause-value
unfolding ipv6_text
returns-clause-value c =
    let all : c.loop-i.i ≡ 7 = omega arith in
    rw (c.loop-i.invariant.value, all) refl
