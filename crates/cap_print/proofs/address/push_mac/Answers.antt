-- Each turn appends a colon and a byte; after five of them the address is complete.
use Rattle.std.proofs.Common.{◌≡◌, [], ◌∷◌, length, ap, refl, add-one, append_assoc, length-append, arith}
use Rattle.cap_print.specs.Addresses.{mac_text}
use Rattle.cap_print.proofs.address.push_mac.Goals as goal

pub loop-i-preserved : goal.loop-i-preserved
loop-i-preserved c = record {
  bound = omega (arith, ap length c.push.ensures, length-append c.loop-i.text (58 ∷ []));
  value =
      rw (add-one c.loop-i.i, c.push_hex_two-in-loop-i.ensures.value, c.push.ensures, c.loop-i.invariant.value) (simp append_assoc);
}

pub returns-clause-value : goal.returns-clause-value
unfolding mac_text
returns-clause-value c =
    let all : c.loop-i.i ≡ 5 = omega arith in
    rw (c.loop-i.invariant.value, all) refl
