-- The block that is read is the file's next unit, or fails as that unit does.
use Rattle.cap_io.proofs.BlocksCame.{adds-describes, block-exceeds, block_came, entry_refused, frame-has_memory, frame_refused, front_says, no_room_for_block}
use Rattle.cap_io.proofs.BlocksCame.{rest_of_block, whole_came}
use Rattle.cap_io.proofs.CapturesCame.{block-takes, first-again, has-section, interface-takes, interfaces-held, interfaces-kept, order-held, packet-block}
use Rattle.cap_io.proofs.CapturesCame.{passed-block, no-error, moves-failed, reads-no_unit, refused-block, section-fits, small-following}
use Rattle.std.proofs.Common.{rules, ◌≡◌, length, take, ap, refl, sym, ◌∙◌}
use Rattle.cap_io.proofs.Common.{arith, take_at, err_from_is_err_and, PcapngFile}
use Rattle.cap_pcapng.specs.Effect.{section_of}
use Rattle.cap_io.proofs.{OwnFaults.entry-adds, OwnFaults.entry-own, Units.held_length-le}
use Rattle.cap_io.specs.{inside.Reading.known_first_link, inside.Reading.section_before, Capture.first_link_after, Reading.declared_by}
use Rattle.cap_io.proofs.next_unit.UnitReader.read_block.Goals as goal

pub returns-in_err-found : goal.returns-in_err-found
returns-in_err-found g c =
    let p = err_from_is_err_and c.from_residual.result c.from_residual.ensures.1 in
    rw (p.1, p.2) (reads-no_unit g.I.Input c.args.self.now c.args.front.now _ _ (search rules)
    (λ t. refused-block c.args.self.now.file c.args.self.now.table c.args.front.now _ _ _ c.told-front c.requires.begins
    (frame_refused (section_before c.args.self.now.file c.args.self.now.table) c.order.result c.args.front.now _ _ _
    (order-held c.args.self.now.file c.args.self.now.table ∙ sym c.order.ensures) c.told-front c.frame.ensures.answer c.in_err-found.was))
    (refl, refl) (omega arith) (λ most. most)
    (λ e. absurd (frame-has_memory c.order.result c.args.front.now _ _ c.frame.ensures.answer c.in_err-found.was e)))

pub returns-in_err-make_room : goal.returns-in_err-make_room
returns-in_err-make_room g c =
    let p = err_from_is_err_and c.from_residual-in_err-make_room.result c.from_residual-in_err-make_room.ensures.1 in
    rw (p.1, p.2, c.in_err-make_room.ensures.memory.0) (reads-no_unit g.I.Input c.args.self.now c.args.front.now _ _ (search rules)
    (λ t. refused-block c.args.self.now.file c.args.self.now.table c.args.front.now _ _ _ c.told-front c.requires.begins
    (grind (arith, no_room_for_block)))
    (refl, refl) (c.make_room.ensures.grown) (grind arith)
    (λ e t. block-takes c.args.self.now.file c.args.self.now.table c.args.front.now _ _ (omega (arith, c.told-front)) c.requires.begins
    (block-exceeds (section_before c.args.self.now.file c.args.self.now.table) c.order.result c.args.front.now _ c.in_ok-found.found _
    (order-held c.args.self.now.file c.args.self.now.table ∙ sym c.order.ensures) c.told-front
    (front_says c.order.result c.args.front.now _ c.in_ok-found.found c.frame.ensures.answer c.in_ok-found.was) c.in_err-make_room.ensures.memory.1)))

pub returns-in_err-read_rest : goal.returns-in_err-read_rest
returns-in_err-read_rest g c =
    let size : length c.read_rest.new.buffer ≡ c.make_room.new.buffer.len = c.read_rest.auto.buffer ∙ c.as_mut_slice.ensures.len in
    let p = err_from_is_err_and c.from_residual-in_err-read_rest.result c.from_residual-in_err-read_rest.ensures.1 in
    rw (p.1, p.2) (reads-no_unit g.I.Input c.args.self.now c.args.front.now _ _ (moves-failed _ c.in_err-read_rest.ensures.moves c.in_ok-found.ensures.longest)
    (λ t. refused-block c.args.self.now.file c.args.self.now.table c.args.front.now _ _ _ c.told-front c.requires.begins
    (rest_of_block (section_before c.args.self.now.file c.args.self.now.table) c.order.result c.args.front.now _ _ c.in_ok-found.found _
    (order-held c.args.self.now.file c.args.self.now.table ∙ sym c.order.ensures) c.told-front
    (front_says c.order.result c.args.front.now _ c.in_ok-found.found c.frame.ensures.answer c.in_ok-found.was) c.in_ok-found.ensures.longest
    (c.in_err-read_rest.ensures.err t)))
    (refl, refl) (grind (arith, take_at))
    (grind (arith, take_at))
    (λ e. absurd (c.in_err-read_rest.ensures.memory e)))

pub apply_block-requires-clause-section : goal.apply_block-requires-clause-section
apply_block-requires-clause-section g c = grind (arith, section-fits)

pub returns-in-Err : goal.returns-in-Err
returns-in-Err g c =
    let size : length c.read_rest.new.buffer ≡ c.make_room.new.buffer.len = c.read_rest.auto.buffer ∙ c.as_mut_slice.ensures.len in
    let moves = c.in_ok-read_rest.ensures.moves in
    let own = entry-own _ _ _ c.in-Err.fault c.in-Err.ensures.err in
    reads-no_unit g.I.Input c.args.self.now c.args.front.now _ _ (grind arith)
    (λ t. refused-block c.args.self.now.file c.args.self.now.table c.args.front.now _ _ _ c.told-front c.requires.begins
    (entry_refused (section_before c.args.self.now.file c.args.self.now.table) c.order.result c.args.self.now.table _ _ _ _ c.in_ok-found.found _
    (order-held c.args.self.now.file c.args.self.now.table ∙ sym c.order.ensures)
    (grind (arith, interfaces-held))
    c.in_ok-found.ensures.shortest c.in_ok-found.ensures.longest
    (omega (arith, c.in_ok-make_room.ensures.room, c.deref.ensures.len, ap length c.deref.ensures.value))
    (whole_came c.order.result c.args.front.now _ _ (take c.in_ok-found.found.length c.read_rest.new.buffer) _ c.in_ok-found.found c.told-front
    (front_says c.order.result c.args.front.now _ c.in_ok-found.found c.frame.ensures.answer c.in_ok-found.was)
    (rw (take_at c.read_rest.new.buffer _ c.make_room.new.buffer.len size) refl) c.in_ok-read_rest.ensures.same (c.in_ok-read_rest.ensures.ok t))
    (ap (take c.in_ok-found.found.length) c.deref.ensures.value) c.in-Err.ensures.err))
    (refl, c.in-Err.ensures.kept)
    (grind (arith, take_at))
    (grind (arith, take_at))
    (λ e t. interface-takes c.args.self.now.file c.args.self.now.table c.args.front.now _ _ (omega (arith, c.told-front)) c.requires.begins
    (adds-describes (section_before c.args.self.now.file c.args.self.now.table) c.order.result c.args.self.now.table _ _ _ _ c.in_ok-found.found
    (order-held c.args.self.now.file c.args.self.now.table ∙ sym c.order.ensures)
    (grind (arith, interfaces-held)) c.in_ok-found.ensures.shortest
    (omega (arith, c.in_ok-make_room.ensures.room, c.deref.ensures.len, ap length c.deref.ensures.value))
    (whole_came c.order.result c.args.front.now _ _ (take c.in_ok-found.found.length c.read_rest.new.buffer) _ c.in_ok-found.found c.told-front
    (front_says c.order.result c.args.front.now _ c.in_ok-found.found c.frame.ensures.answer c.in_ok-found.was)
    (rw (take_at c.read_rest.new.buffer _ c.make_room.new.buffer.len size) refl) c.in_ok-read_rest.ensures.same (c.in_ok-read_rest.ensures.ok t))
    (ap (take c.in_ok-found.found.length) c.deref.ensures.value) (entry-adds _ _ _ c.in-Err.fault c.in-Err.ensures.err e)))

pub returns-in-Ok-Some : goal.returns-in-Ok-Some
returns-in-Ok-Some g c =
    let size : length c.read_rest.new.buffer ≡ c.make_room.new.buffer.len = c.read_rest.auto.buffer ∙ c.as_mut_slice.ensures.len in
    let moves = c.in_ok-read_rest.ensures.moves in
    let frame = c.in_ok-found.found in
    let enters = rw c.in-Ok-Some.field-0-is at c.in-Ok-Some.ensures.ok in
    let stays = interfaces-kept frame c.args.self.now.table c.apply_block.new.table _ c.in-Ok-Some.packet enters in
    let says = front_says c.order.result c.args.front.now _ frame c.frame.ensures.answer c.in_ok-found.was in
    let small = small-following _ _ (length c.args.front.now) frame.length c.told-front moves.counted c.in_ok-found.ensures.shortest moves.bounded
    c.requires.bounded in
    record {
      moves = grind arith;
      sized = (grind arith);
      consistent = rw stays c.requires.consistent;
      known = grind (arith, has-section);
      ok = λ t. packet-block c.args.self.now.file c.args.self.now.table c.apply_block.new.table c.args.front.now _ _ _ frame.order frame.length
          c.in-Ok-Some.packet c.requires.begins
          (omega (arith, c.in_ok-make_room.ensures.room, c.deref.ensures.len, ap length c.deref.ensures.value)) c.requires.consistent enters.fits.0 stays
          (block_came (section_before c.args.self.now.file c.args.self.now.table) c.order.result c.args.self.now.table c.apply_block.new.table _ _ _ _
          frame _ (order-held c.args.self.now.file c.args.self.now.table ∙ sym c.order.ensures)
          (grind (arith, interfaces-held)) c.in_ok-found.ensures.shortest
          (omega (arith, c.in_ok-make_room.ensures.room, c.deref.ensures.len, ap length c.deref.ensures.value))
          (whole_came c.order.result c.args.front.now _ _ (take frame.length c.read_rest.new.buffer) _ frame c.told-front says
          (rw (take_at c.read_rest.new.buffer _ c.make_room.new.buffer.len size) refl) c.in_ok-read_rest.ensures.same (c.in_ok-read_rest.ensures.ok t))
          (ap (take frame.length) c.deref.ensures.value) enters);
      err = tt;
      kept = tt;
      grown = grind (arith, take_at);
      bounded = grind (arith, take_at);
      fits = omega (
        arith,
        enters.fits.0,
        held_length-le (declared_by c.args.self.now.file c.args.self.now.table)
            (declared_by c.args.self.now.file c.apply_block.new.table) c.in-Ok-Some.packet.size,
        c.in_ok-make_room.ensures.room,
        c.deref.ensures.len,
        ap length c.deref.ensures.value,
      );
      memory = λ e. absurd (no-error e);
    }

pub returns-in-Ok-None : goal.returns-in-Ok-None
returns-in-Ok-None g c =
    let size : length c.read_rest.new.buffer ≡ c.make_room.new.buffer.len = c.read_rest.auto.buffer ∙ c.as_mut_slice.ensures.len in
    let moves = c.in_ok-read_rest.ensures.moves in
    let frame = c.in_ok-found.found in
    let enters = rw c.in-Ok-None.field-0-is at c.in-Ok-None.ensures.ok in
    let says = front_says c.order.result c.args.front.now _ frame c.frame.ensures.answer c.in_ok-found.was in
    let small = small-following _ _ (length c.args.front.now) frame.length c.told-front moves.counted c.in_ok-found.ensures.shortest moves.bounded
    c.requires.bounded in
    rw (c.first_link_type-link.ensures frame.order, c.first_link.ensures) (record {
      moves = grind arith;
      sized = (omega (arith, c.in_ok-found.ensures.shortest), small);
      consistent = (grind (arith, first-again));
      known = tt;
      ok = λ t. passed-block c.args.self.now.file c.args.self.now.table c.apply_block.new.table c.args.front.now _ _ _ frame.order frame.length
          c.requires.begins
          (omega (arith, c.in_ok-make_room.ensures.room, c.deref.ensures.len, ap length c.deref.ensures.value))
          (block_came (section_before c.args.self.now.file c.args.self.now.table) c.order.result c.args.self.now.table c.apply_block.new.table _ _ _ _
          frame _ (order-held c.args.self.now.file c.args.self.now.table ∙ sym c.order.ensures)
          (grind (arith, interfaces-held)) c.in_ok-found.ensures.shortest
          (omega (arith, c.in_ok-make_room.ensures.room, c.deref.ensures.len, ap length c.deref.ensures.value))
          (whole_came c.order.result c.args.front.now _ _ (take frame.length c.read_rest.new.buffer) _ frame c.told-front says
          (rw (take_at c.read_rest.new.buffer _ c.make_room.new.buffer.len size) refl) c.in_ok-read_rest.ensures.same (c.in_ok-read_rest.ensures.ok t))
          (ap (take frame.length) c.deref.ensures.value) enters);
      err = tt;
      kept = tt;
      grown = grind (arith, take_at);
      bounded = grind (arith, take_at);
      fits = omega (
        arith,
        held_length-le (declared_by c.args.self.now.file c.args.self.now.table)
            (PcapngFile (first_link_after (known_first_link c.args.self.now.file) (section_of frame.order c.apply_block.new.table))
            (section_of frame.order c.apply_block.new.table)) frame.length,
        c.in_ok-make_room.ensures.room,
        c.deref.ensures.len,
        ap length c.deref.ensures.value,
      );
      memory = λ e. absurd (no-error e);
    })
