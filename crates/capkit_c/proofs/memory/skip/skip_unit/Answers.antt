-- What was found on copies; a refused unit is handed on.
use Rattle.capkit_c.proofs.Common.{◌≡◌, ◌++◌, arith, declared_in, drop, front_of, length-take-le, subst, sym, take, NoUnit, Some}
use Rattle.capkit_c.proofs.Skips.{all_taken, found, known_alike, refused_alike, room_left, untouched}
use Rattle.capkit_c.proofs.memory.skip.skip_unit.Goals as goal

pub skip_refused-requires : goal.skip_refused-requires
skip_refused-requires c =
    let t = c.args.table.now in
    let f = c.file_state-form.result in
    let count = c.known_interface_count-count.result in
    let is = c.file_state-form.ensures in
    let counts = c.known_interface_count-count.ensures.counts in
    let fits = c.known_interface_count-count.ensures.fits in
    let same = untouched c.args.reader.now t f count is counts fits c.next_unit.new.table
    (c.next_unit.ensures.full (all_taken c.args.reader.now t f count is counts fits c.known_interface_count-count.ensures.bare)) in
    subst (λ s. front_of (declared_in c.args.reader.now s) (drop c.args.reader.now.offset c.args.capture.now) ≡ NoUnit (Some c.in-Fault.fault))
    (sym same) (refused_alike c.args.capture.now c.args.reader.now c.next_unit.new.reader t (take count t) c.next_unit.new.table _
    c.next_unit.new.packet c.next_unit.result c.in-Fault.fault (known_alike c.args.reader.now t f count is counts fits)
    c.next_unit.ensures.left c.in-Fault.is)

pub returns-in-Fault : goal.returns-in-Fault
returns-in-Fault c = grind (arith, untouched, all_taken)

pub returns-then-count-table : goal.returns-then-count-table
returns-then-count-table c = grind (arith, untouched, all_taken, length-take-le, room_left, known_alike)

pub returns-else-count-table : goal.returns-else-count-table
returns-else-count-table c = grind (arith, untouched, all_taken, length-take-le, found, known_alike)

pub returns-in_default : goal.returns-in_default
returns-in_default c =
    let t = c.args.table.now in
    let f = c.file_state-form.result in
    let count = c.known_interface_count-count.result in
    let is = c.file_state-form.ensures in
    let counts = c.known_interface_count-count.ensures.counts in
    let fits = c.known_interface_count-count.ensures.fits in
    let same = untouched c.args.reader.now t f count is counts fits c.next_unit.new.table
    (c.next_unit.ensures.full (all_taken c.args.reader.now t f count is counts fits c.known_interface_count-count.ensures.bare)) in
    let size = length-take-le count t fits in
    found c.args.capture.now c.args.reader.now c.next_unit.new.reader t (take count t) c.next_unit.new.table (c.next_unit.new.table ++ drop count t) _
    c.next_unit.new.packet c.next_unit.result (known_alike c.args.reader.now t f count is counts fits) c.next_unit.ensures.same
    c.next_unit.ensures.left (omega arith) (λ none. absurd (c.in_default.not-NoRoom none)) c.in_default.not-Fault same
