-- Each link type so far has a right program, which hasn't run.
use Rattle.std.proofs.Common.{◌≡◌, All, take}
use Rattle.flt_bpf.specs.Content.{Content}
use Rattle.cap_filter.specs.Programs.{AreMade}
use Rattle.cap_filter.proofs.compiled.make_programs.Given as goal

abbrev pub invariant-loop-link : goal.invariant-loop-link
invariant-loop-link g l = record {
  made : AreMade l.tree.expr (take l.link-index l.links) l.programs.items;
  fresh : All (λ (program : Content). program.spent ≡ 0) l.programs.items;
}
