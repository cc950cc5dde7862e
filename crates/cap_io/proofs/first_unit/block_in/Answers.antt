-- The first 12 bytes, and then the whole block, determine what the bytes begin with.
use Rattle.std.proofs.Common.{sym, ap, ◌∙◌, ◌≡◌, Ok, subst, ℕ, List, Option}
use Rattle.cap_io.proofs.FirstUnits.{block-begins, block-none, block-refused, block_cut, frame_fails, framed}
use Rattle.cap_io.specs.{inside.Reading.section_before, Capture.first_link_after}
use Rattle.cap_io.proofs.{Common.Order, Common.checked, CapturesCame.order-held, BlocksCame.FrontSays}
use Rattle.cap_pcapng.specs.{Effect.section_of, Effect.interfaces_after, Frame.frame_fault, Frame.frame_in}
use Rattle.cap_io.proofs.first_unit.block_in.Goals as goal

pub returns-in-Err-clause-err : goal.returns-in-Err-clause-err
returns-in-Err-clause-err g c =
    let known = g.T.Interfaces.list c.args.table.now in
    let first = c.in-Some.ensures.cases in
    λ some. block-none c.args.file.now known c.args.bytes.now c.in-Err.fault c.requires.begins some
    (frame_fails (section_before c.args.file.now known) c.order.result c.args.bytes.now c.in-Some.front.now c.in-Err.fault
    (order-held c.args.file.now known ∙ sym c.order.ensures) first.enough first.same c.in-Err.ensures.answer)

pub returns-then-bytes-size-clause-err : goal.returns-then-bytes-size-clause-err
returns-then-bytes-size-clause-err g c =
    let known = g.T.Interfaces.list c.args.table.now in
    let first = c.in-Some.ensures.cases in
    let F : Option Order → Type 0 = λ o. FrontSays o c.args.bytes.now c.in-Ok.frame in
    λ some. block-none c.args.file.now known c.args.bytes.now _ c.requires.begins some
    (block_cut (section_before c.args.file.now known) c.args.bytes.now c.in-Ok.frame first.enough
    (subst F (c.order.ensures ∙ sym (order-held c.args.file.now known)) (framed c.order.result c.args.bytes.now c.in-Some.front.now c.in-Ok.frame first.enough
    first.same c.in-Ok.ensures.answer)) c.if-bytes-size.true)

pub returns-in-Ok-block_effect-clause-ok : goal.returns-in-Ok-block_effect-clause-ok
returns-in-Ok-block_effect-clause-ok g c =
    let known = g.T.Interfaces.list c.args.table.now in
    let first = c.in-Some.ensures.cases in
    let frame = c.in-Ok.frame in
    let front : List ℕ = c.in-Some.front.now in
    let effect = c.in-Ok-block_effect.effect in
    let A : Option Order → Type 0 = λ o. Ok frame ≡ checked (frame_fault o front) (frame_in o front) in
    block-begins c.args.file.now known c.args.bytes.now front frame effect c.first_link_with-link.result c.requires.begins c.requires.bare first.enough
    first.same (subst A c.order.ensures c.in-Ok.ensures.answer) c.in-Ok.ensures.shortest c.if-bytes-size.false c.in-Ok.ensures.longest
    c.in-Ok-block_effect.ensures.ok c.in-Ok-block_effect.ensures.lies
    (c.first_link_with-link.ensures frame.order
    ∙ ap (λ link. first_link_after link (section_of frame.order (interfaces_after effect known))) c.first_link.ensures)

pub returns-in-Err-block_effect-clause-err : goal.returns-in-Err-block_effect-clause-err
returns-in-Err-block_effect-clause-err g c =
    let known = g.T.Interfaces.list c.args.table.now in
    let first = c.in-Some.ensures.cases in
    let frame = c.in-Ok.frame in
    let front : List ℕ = c.in-Some.front.now in
    let A : Option Order → Type 0 = λ o. Ok frame ≡ checked (frame_fault o front) (frame_in o front) in
    λ some. block-refused c.args.file.now known c.args.bytes.now front frame c.in-Err-block_effect.fault c.requires.begins c.requires.bare
    first.enough first.same (subst A c.order.ensures c.in-Ok.ensures.answer) c.in-Ok.ensures.shortest c.if-bytes-size.false c.in-Err-block_effect.ensures.err
