-- The step that is written for a place and a state.
use Rattle.std.specs.Prelude.{ℕ}
use Rattle.flt_bpf.specs.declared.machine.State.{State}
use Rattle.flt_trace.specs.declared.walk.Step.{Step}

-- the step of a run that is before a place in a state
abbrev pub step_at : ℕ → State → Step
step_at place s = record {
  place = place;
  accumulator = s.accumulator;
  index = s.index;
  memory = s.memory;
}
