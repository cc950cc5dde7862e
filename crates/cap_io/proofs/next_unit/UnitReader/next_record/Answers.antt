-- The next record is the file's next unit, or fails as that unit does.
use Rattle.cap_io.proofs.Came.{fields_came, fields_refused, fields-has_memory, no_room, data_missing, record_came, record-takes}
use Rattle.cap_io.proofs.CapturesCame.{moves-ended, moves-failed, moves-then, no-error, reads-no_unit}
use Rattle.cap_io.proofs.OwnFaults.{own-fields, own-unfailed}
use Rattle.std.proofs.Common.{rules, true, Ok, sym, ◌∙◌, [], ◌≡◌, ◌+◌, length, take, refl}
use Rattle.cap_io.proofs.Common.{checked_err, arith, take_at, err_from_is_err_and}
use Rattle.cap_io.proofs.next_unit.UnitReader.next_record.Goals as goal

pub returns-in_err-found : goal.returns-in_err-found
returns-in_err-found g c =
    let p = err_from_is_err_and c.from_residual-in_err-found.result c.from_residual-in_err-found.ensures.1 in
    rw (p.1, p.2) (reads-no_unit g.I.Input c.args.self.now [] _ _
    (grind (arith, moves-ended, own-unfailed, own-fields, checked_err))
    (λ t. rw c.requires (fields_refused _ _ _ c.read_front.new.front _ _ (rw c.if-not-branch.false at (c.in_ok-read_front.ensures.ok t))
    c.read_front.auto.front c.read_record.ensures.answer c.in_err-found.was))
    (refl, refl) (omega arith) (λ most. most)
    (grind (arith, fields-has_memory)))

pub returns-in_err-make_room : goal.returns-in_err-make_room
returns-in_err-make_room g c =
    let p = err_from_is_err_and c.from_residual-in_err-make_room.result c.from_residual-in_err-make_room.ensures.1 in
    rw (p.1, p.2, c.in_err-make_room.ensures.memory.0)
    (reads-no_unit g.I.Input c.args.self.now [] _ _ (grind (arith, moves-ended))
    (λ t. rw c.requires (no_room _ _ _ c.read_front.new.front (rw c.if-not-branch.false at (c.in_ok-read_front.ensures.ok t)) c.read_front.auto.front))
    (refl, refl) (c.make_room.ensures.grown) (grind arith)
    (λ e t. rw c.requires (record-takes c.args.head.now _ _ c.read_front.new.front c.in_ok-found.found _ _ refl
    (rw c.if-not-branch.false at (c.in_ok-read_front.ensures.ok t)) c.read_front.auto.front
    (fields_came _ _ _ _ c.read_record.ensures.answer c.in_ok-found.was) c.in_err-make_room.ensures.memory.1)))

pub returns-in_err-read_rest : goal.returns-in_err-read_rest
returns-in_err-read_rest g c =
    let size : length c.read_rest.new.buffer ≡ c.make_room.new.buffer.len = c.read_rest.auto.buffer ∙ c.as_mut_slice.ensures.len in
    let p = err_from_is_err_and c.from_residual-in_err-read_rest.result c.from_residual-in_err-read_rest.ensures.1 in
    rw (p.1, p.2) (reads-no_unit g.I.Input c.args.self.now [] _ _
    (grind (arith, moves-failed, moves-then))
    (λ t. rw c.requires (data_missing _ _ _ _ c.read_front.new.front c.in_ok-found.found _ _ (search rules)
    (rw c.if-not-branch.false at (c.in_ok-read_front.ensures.ok t)) c.read_front.auto.front
    (fields_came _ _ _ _ c.read_record.ensures.answer c.in_ok-found.was) (omega (arith, c.in_ok-found.ensures.short)) (c.in_err-read_rest.ensures.err t)))
    (refl, refl) (grind (arith, take_at))
    (grind (arith, take_at))
    (λ e. absurd (c.in_err-read_rest.ensures.memory e)))

pub returns : goal.returns
returns g c =
    let size : length c.read_rest.new.buffer ≡ c.make_room.new.buffer.len = c.read_rest.auto.buffer ∙ c.as_mut_slice.ensures.len in
    let moves = moves-then true (Ok tt) (sym c.read_front.auto.front) (rw c.if-not-branch.false at c.in_ok-read_front.ensures.moves)
    c.in_ok-read_rest.ensures.moves in
    rw c.record_spans-self.ensures (record {
      moves = grind arith;
      sized = (grind (arith, take_at));
      consistent = rw c.requires tt;
      known = rw c.requires tt;
      ok = λ t. rw c.requires
          (record_came _ _ _ _ c.read_front.new.front (take (16 + c.in_ok-found.found.captured) c.read_rest.new.buffer) _ c.in_ok-found.found _
          (rw c.if-not-branch.false at (c.in_ok-read_front.ensures.ok t)) c.read_front.auto.front
          (fields_came _ _ _ _ c.read_record.ensures.answer c.in_ok-found.was) refl (search rules) c.in_ok-read_rest.ensures.same
          (c.in_ok-read_rest.ensures.ok t) (rw (take_at c.read_rest.new.buffer _ c.make_room.new.buffer.len size) refl));
      err = tt;
      kept = tt;
      grown = grind (arith, take_at);
      bounded = grind (arith, take_at);
      fits = grind (arith, take_at);
      memory = λ e. absurd (no-error e);
    })
