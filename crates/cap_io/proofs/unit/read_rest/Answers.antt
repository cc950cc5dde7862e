-- The bytes that are read follow those at hand, which don't change.
use Rattle.std.proofs.Common.{rules, ◌≡◌, ◌-◌, ◌≤◌, ℕ, List, ◌++◌, length, take, drop, length-append, length-drop, take-append-drop}
use Rattle.cap_io.proofs.Common.{arith, append-nil, drop_at, length-take-le, Takes}
use Rattle.std.proofs.lemmas.{List.drop_all, List.take-append-le, Slice.overwrites, Slice.take-put_mid}
use Rattle.cap_io.proofs.unit.read_rest.Goals as goal

-- a part of the buffer that is filled has the first bytes that weren't read
filled : (unread unread' whole filling following : List ℕ) (front part size count : ℕ) → front ≤ size → length whole ≡ size → part ≡ size - front
    → length (take part (drop front whole)) ≤ count
    → Takes unread (take part (drop front whole)) count unread' filling → count ≤ part
    → unread ≡ drop front (take size ((take front whole ++ (filling ++ drop part (drop front whole))) ++ following)) ++ unread'
filled unread unread' whole filling following front part size count within long part_is full takes least =
    grind (arith, length-take-le, length-drop, drop_all, append-nil, take-append-le, length-append, take-put_mid, drop_at, take-append-drop)

pub returns-clause-same : goal.returns-clause-same
returns-clause-same g c = search (rules, overwrites)

pub returns-clause-ok : goal.returns-clause-ok
returns-clause-ok g c = search (rules, length-append, length-drop, length-take-le, filled)
