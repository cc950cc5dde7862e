-- A text is at most one list of groups.
use Rattle.{std.proofs.Common.arith, flt_words.proofs.AddressValues.same_groups}
use Rattle.flt_words.proofs.address.parse_whole.Goals as goal

pub returns-then-joined-many : goal.returns-then-joined-many
returns-then-joined-many c = search (arith, same_groups)
