-- The header that is read is that of the file, or the first check that fails is reported.
use Rattle.cap_io.proofs.Common.{arith, err_from_is_err_and}
use Rattle.std.proofs.Common.{rules, refl, not}
use Rattle.cap_io.proofs.Came.{first_of, no_magic, none_if_not, rest_of_header, joined_front, header-has_memory, header_came, header_refused, section_of_bytes}
use Rattle.cap_io.proofs.pcap.read_header.Goals as goal

pub returns-then-is_none-clause-err : goal.returns-then-is_none-clause-err
returns-then-is_none-clause-err g c = λ t.
    no_magic _ _ c.args.first.now refl (search rules) c.requires
    (grind (arith, none_if_not, not))

pub returns-in_err-read_rest-clause-err : goal.returns-in_err-read_rest-clause-err
returns-in_err-read_rest-clause-err g c =
    let p = err_from_is_err_and c.from_residual.result c.from_residual.ensures.1 in
    rw (p.1, p.2) (λ t. rest_of_header _ _ _ c.args.first.now _ 24 refl refl (search rules) c.requires (grind (arith, not)) (c.in_err-read_rest.ensures.err t))

pub returns-clause-ok : goal.returns-clause-ok
returns-clause-ok g c =
    header_came g.I.Input.tells _ _ c.read_rest.new.buffer _
    (λ t. joined_front _ _ _ c.args.first.now c.read_rest.new.buffer 24 (search rules) refl c.in_ok-read_rest.ensures.same (c.in_ok-read_rest.ensures.ok t))
    (search rules) c.read_head.ensures

pub returns-clause-err : goal.returns-clause-err
returns-clause-err g c =
    let front = first_of c.args.first.now c.read_rest.new.buffer 24 (search rules) c.in_ok-read_rest.ensures.same in
    header_refused g.I.Input.tells _ _ c.read_rest.new.buffer _
    (λ t. joined_front _ _ _ c.args.first.now c.read_rest.new.buffer 24 (search rules) refl c.in_ok-read_rest.ensures.same (c.in_ok-read_rest.ensures.ok t))
    (search rules) (grind (arith, section_of_bytes)) c.read_head.ensures

pub returns-clause-memory : goal.returns-clause-memory
returns-clause-memory g c = grind (arith, header-has_memory)
