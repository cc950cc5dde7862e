-- The parts so far are groups, and the number is theirs.
use Rattle.std.proofs.Common.{◌≡◌, ◌≤◌, ◌<◌, ◌^◌, length, map}
use Rattle.flt_words.proofs.Common.{IsGroup, group_values, base_of}
use Rattle.std.specs.{Int.Digits.number_from_digits, List.AllByRecursion}
use Rattle.flt_words.proofs.address.parse_groups.Given as goal

abbrev pub invariant-loop-digits : goal.invariant-loop-digits
invariant-loop-digits l = record {
  can_next : (goal.iterator-loop-digits).can_next l.digits-iterator;
  is_finite : (goal.iterator-loop-digits).is_finite l.digits-iterator;
  upper_bound : l.count ≤ 8;
  count : l.count ≡ length l.yielded;
  each : AllByRecursion (IsGroup l.form) (map (λ x. x.now) l.yielded);
  value : l.value ≡ number_from_digits (base_of l.form) (group_values l.form (map (λ x. x.now) l.yielded));
  small : l.value < base_of l.form ^ l.count;
}
