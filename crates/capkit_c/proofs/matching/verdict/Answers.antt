-- The program runs on the bytes of the packet; if it is valid, its run breaks no rule.
use Rattle.std.proofs.Common.{◌≡◌, ◌∙◌, List, ℕ, ap, drop, length, subst, sym, take}
use Rattle.flt_bpf.specs.Machine.{Answered, machine}
use Rattle.flt_trace.proofs.ByRules.{same_run, valid_meets_none}
use Rattle.flt_trace.specs.RunByRules.{run_end}
use Rattle.capkit_c.specs.{Running.answers, inside.Matching.IsKnown}
use Rattle.capkit_c.proofs.matching.verdict.Goals as goal

pub returns-in-Valid : goal.returns-in-Valid
returns-in-Valid c =
    let insns = c.args.insns.now in
    let len = c.args.packet.now.original in
    let bytes : List ℕ = take c.args.packet.now.captured (drop c.args.packet.now.at c.args.capture.now) in
    let valid = subst (λ known. IsKnown insns known) c.in-Valid.is c.requires in
    let runs : machine insns bytes len (length insns) ≡ Answered c.run_insns.result.0 c.run_insns.result.1 =
    ap (λ b. machine insns b len (length insns)) (sym c.bytes_at-bytes.ensures) ∙ c.run_insns.ensures.answer in
    record { steps = c.run_insns.result.1; runs = answers (same_run insns bytes len (valid_meets_none insns bytes len valid) ∙ ap run_end runs) runs }
