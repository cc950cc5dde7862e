-- Each turn puts the last remaining digit before the others.
use Rattle.std.proofs.Common.{◌-◌, false, ap, arith, rules}
use Rattle.flt_trace.proofs.Hexadecimal.{fewer, has_room, put_more}
use Rattle.std.{proofs.lemmas.List.drop_all, specs.Fmt.digits, specs.Fmt.digits_onto}
use Rattle.flt_trace.proofs.line.put_hex.Goals as goal

pub loop-rest-init : goal.loop-rest-init
unfolding digits
loop-rest-init c = record {
  inside = omega arith;
  eight = c.told-digits;
  small = search rules;
  value = ap (digits_onto 64 16 false c.args.number) (drop_all 8 c.args.digits.now (grind arith));
}

pub loop-rest-preserved : goal.loop-rest-preserved
loop-rest-preserved c = grind (arith, has_room, fewer, put_more)

pub returns-clause-value : goal.returns-clause-value
returns-clause-value c = grind arith
