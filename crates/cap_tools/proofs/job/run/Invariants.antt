-- The job is in a state that its steps reach from its start.
use Rattle.cap_tools.proofs.Common.{◌≡◌, IsTrue, None, Assignment, Call, first_job, job_left, room_by}
use Rattle.cap_tools.proofs.Runs.{Begun, Under}
use Rattle.cap_tools.proofs.job.run.Given as goal

abbrev pub invariant-loop-status : goal.invariant-loop-status
invariant-loop-status g l = record {
  undone : l.initial.job.done ≡ None → l.job.done ≡ None;
  room : room_by l.job.state ≡ room_by l.initial.job.state;
  exact : IsTrue g.I.Input.tells → IsTrue g.O.Output.tells → (asked : Assignment) (call : Call) → l.initial.job ≡ first_job asked call
      → Begun asked call → Under asked call l.job;
}

abbrev pub decreases-loop-status : goal.decreases-loop-status
decreases-loop-status g l = job_left l.job
