-- The first unit is a file header or a section header, or the file is refused.
use Rattle.std.proofs.Common.{rules, ◌∙◌}
use Rattle.cap_io.proofs.CapturesCame.{no-error, ReadsUnit-following, reads-no_unit, header_passed, rest_of_front}
use Rattle.cap_io.proofs.{Common.arith, Common.err_from_is_err_and, Came.first_of, Came.joined_front, Came.section_of_bytes}
use Rattle.cap_io.proofs.next_unit.UnitReader.read_first_unit.Goals as goal

pub returns-in_err-read_rest : goal.returns-in_err-read_rest
returns-in_err-read_rest g c =
    let p = err_from_is_err_and c.from_residual-in_err-read_rest.result c.from_residual-in_err-read_rest.ensures.1 in
    grind (arith, reads-no_unit, rest_of_front)

pub read_block-requires-clause-begins : goal.read_block-requires-clause-begins
read_block-requires-clause-begins g c = grind (arith, section_of_bytes, first_of)

pub returns : goal.returns
returns g c =
    let first = c.in_ok-first.ensures.moves in
    let rest = c.in_ok-read_rest.ensures.moves in
    ReadsUnit-following g.I.Input c.args.self.now c.read_rest.new.input c.read_rest.new.buffer _ _
    (search rules) (search rules) (rest.sure ∙ first.sure) (λ t. rest.told t ∙ first.told t) (λ some. search rules)
    (λ t. joined_front _ _ _ c.in_ok-first.first c.read_rest.new.buffer 12 (search rules) (c.in_ok-first.ensures.ok t) c.in_ok-read_rest.ensures.same
    (c.in_ok-read_rest.ensures.ok t))
    c.read_block.ensures

pub returns-then-not-begins_section : goal.returns-then-not-begins_section
returns-then-not-begins_section g c = grind (arith, header_passed, no-error)
