-- Each turn writes the next step, and goes on to the one after it.
use Rattle.std.proofs.Common.{arith, ◌+◌, ◌<◌, length, ◌∙◌, ap, subst}
use Rattle.flt_bpf.proofs.Steps.{goes_inside, sound_at}
use Rattle.flt_trace.proofs.Tracing.{Standing, standing_first, standing_last, standing_next, written_more, written_none}
use Rattle.{std.proofs.lemmas.Option.slice_get-get_or, flt_bpf.specs.inside.Flow.reach_next, flt_trace.proofs.walk.trace.Goals.In-Further}
use Rattle.flt_trace.proofs.walk.trace.Goals as goal

pub places-init : goal.places-init
places-init c = record {
  standing = subst (λ s. Standing c.args.insns.now c.args.packet.now c.args.len 0 s 0) (grind arith) (standing_first _ _ _ c.requires);
  written = written_none _ _ _ _;
}

pub execute-requires-clause-sound : goal.execute-requires-clause-sound
execute-requires-clause-sound c = grind (arith, sound_at, slice_get-get_or)

pub returns-in-End : goal.returns-in-End
returns-in-End c =
    let at = c.places.invariant.standing in
    let written = written_more _ _ _ _ _ _ _ c.places.count c.places.invariant.written at.here c.put_step.ensures in
    grind (arith, slice_get-get_or, standing_last)

inside : (c : In-Further) → c.places.place + 1 + c.in-Further.further < length c.args.insns.now
inside c = grind (arith, goes_inside, slice_get-get_or)

pub overflow_add-place : goal.overflow_add-place
overflow_add-place c = grind (arith, inside)

pub overflow_add-place-in-Further : goal.overflow_add-place-in-Further
overflow_add-place-in-Further c = grind (arith, inside)

pub places-preserved : goal.places-preserved
places-preserved c =
    let at = c.places.invariant.standing in
    let there = slice_get-get_or c.args.insns.now c.places.place _ at.inside in
    record {
      standing = standing_next _ _ _ c.places.place c.places.state c.execute.new.state c.places.count c.in-Further.further _ c.requires at there
          (c.execute.ensures ∙ ap (λ t. reach_next t c.execute.new.state) c.in-Further.is);
      written = grind (arith, written_more);
    }
