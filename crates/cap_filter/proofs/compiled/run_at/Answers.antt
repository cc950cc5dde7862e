-- The program at a place runs as the machine does, and the others don't change.
use Rattle.std.proofs.{Common.◌≡◌, Common.subst, lemmas.List.get_or_default}
use Rattle.cap_octet.specs.Packet.{captured}
use Rattle.flt_bpf.specs.{Content.Content, Machine.Answered}
use Rattle.cap_filter.{specs.Programs.met_on, proofs.Filters.set-ran}
use Rattle.cap_filter.proofs.compiled.run_at.Goals as goal

pub returns-clause-answer : goal.returns-clause-answer
returns-clause-answer g c = λ d.
    subst (λ (program : Content). met_on (captured c.args.packet.now) program.insns ≡ Answered c.run.result.0 c.run.result.1)
    (get_or_default c.args.programs.now c.args.place c.index-programs-place.result d c.requires) c.run.ensures.answer

pub returns-clause-ran : goal.returns-clause-ran
returns-clause-ran g c =
    set-ran c.args.place (captured c.args.packet.now) c.args.programs.now c.index-programs-place.result c.run.new.program c.run.result.0 c.run.result.1
    c.requires c.run.ensures.answer c.run.ensures.insns c.run.ensures.spent
