-- The first 12 bytes determine the frame, or the form is refused.
use Rattle.std.proofs.Common.{◌≡◌, List, Option, Some, arith, refl, ℕ}
use Rattle.cap_octet.specs.declared.{fault.Fault.TheVariants.Truncated, number.Order.Order}
use Rattle.cap_io.proofs.{BlocksCame.FrontSays, FirstUnits.block_cut, FirstUnits.framed}
use Rattle.cap_pcapng.specs.declared.frames.Frame.{Frame}
use Rattle.capkit_c.proofs.Skips.{frame_refused, refuses}
use Rattle.capkit_c.proofs.memory.skip.whole_frame.Goals as goal

-- the same for a section before the block
says : (order : Option Order) (section : Option Order) (text : List ℕ) (frame : Frame) → order ≡ section → FrontSays section text frame
    → FrontSays order text frame
says order section text frame is said = grind arith

pub returns-in-Err : goal.returns-in-Err
returns-in-Err c =
    let first = c.in-Some.ensures.cases in
    λ before is. frame_refused before (Some c.args.order) c.args.text.now c.in-Some.first.now c.in-Err.field-0 is first.enough first.same
    c.in-Err.ensures.answer

pub returns-then-text-size : goal.returns-then-text-size
returns-then-text-size c =
    let short = c.if-text-size.true in
    let first = c.in-Some.ensures.cases in
    let said = framed (Some c.args.order) c.args.text.now c.in-Some.first.now c.in-Ok.frame first.enough first.same c.in-Ok.ensures.answer in
    λ before is. refuses before c.args.text.now Truncated (block_cut before c.args.text.now c.in-Ok.frame first.enough
    (says _ (Some c.args.order) c.args.text.now c.in-Ok.frame is said) (omega (arith, short))) refl

pub returns : goal.returns
returns c =
    let there = c.if-text-size.false in
    let first = c.in-Some.ensures.cases in
    let said = framed (Some c.args.order) c.args.text.now c.in-Some.first.now c.in-Ok.frame first.enough first.same c.in-Ok.ensures.answer in (
      c.in-Ok.ensures.shortest,
      omega (arith, there),
      λ before is. let s = says _ (Some c.args.order) c.args.text.now c.in-Ok.frame is said in record { passes = s.passes; says = s.says },
    )
