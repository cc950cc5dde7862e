-- The address is cut at its first two colons.
use Rattle.std.proofs.Common.{arith, ◌+◌, drop, take}
use Rattle.flt_words.proofs.Common.{take_rest, AreIp6Ends, IsIp6, whole}
use Rattle.flt_words.proofs.DoubleColons.{ends_from_ip6, ip6_from_ends, match_along, whole_from_ip6}
use Rattle.flt_words.proofs.address.parse_ip6.Goals as goal

pub returns-in-Some : goal.returns-in-Some
returns-in-Some c =
    let word = c.args.word.now in
    let found = c.in-Some.ensures in
    match_along (AreIp6Ends (take c.in-Some.at word) (drop (c.in-Some.at + 2) word)) (IsIp6 word) _ (λ a. ip6_from_ends c.in-Some.at found.0 found.1)
    (λ a. ends_from_ip6 c.in-Some.at found.1 found.2) (rw take_rest at c.parse_shortened_ip6.ensures)

pub returns-in-None : goal.returns-in-None
returns-in-None c = search (arith, match_along, whole, whole_from_ip6)
