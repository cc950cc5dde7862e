-- A block has the effect of its type, or fails the first of its checks.
use Rattle.std.proofs.Common.{◌∙◌, sym, ap, subst}
use Rattle.cap_pcapng.specs.{Block.Parts, Block.parts_of, Effect.IsBlockFault, Effect.LieAsSaid}
use Rattle.cap_pcapng.proofs.{Common.Fault, Entered.enhanced_enters, Entered.enhanced_room, Entered.refused_by_itself, Entered.simple_enters}
use Rattle.cap_pcapng.proofs.effect.block_effect.Goals as goal

pub enhanced_packet_spans-requires : goal.enhanced_packet_spans-requires
enhanced_packet_spans-requires g c =
    let e = c.in-Ok-Enhanced.ensures in
    enhanced_room c.args.frame.now c.args.bytes.now c.in-Ok-Enhanced.block c.requires.whole c.requires.shortest
    (sym (ap parts_of c.in-Ok-Enhanced.field-0-is) ∙ e.parts) e.passes

pub returns-in-Ok-clause-ok : goal.returns-in-Ok-clause-ok
returns-in-Ok-clause-ok g c =
    let e = c.in-Ok-Enhanced.ensures in
    enhanced_enters c.args.frame.now (g.T.Interfaces.list c.args.table.now) c.args.bytes.now c.in-Ok-Enhanced.block c.in-Ok.spans
    c.requires.whole c.requires.shortest (sym (ap parts_of c.in-Ok-Enhanced.field-0-is) ∙ e.parts) e.passes c.in-Ok.ensures

pub returns-in-Ok-simple_packet_spans-clause-ok : goal.returns-in-Ok-simple_packet_spans-clause-ok
returns-in-Ok-simple_packet_spans-clause-ok g c =
    let e = c.in-Ok-Simple.ensures in
    simple_enters c.args.frame.now (g.T.Interfaces.list c.args.table.now) c.args.bytes.now c.in-Ok-Simple.block c.in-Ok-simple_packet_spans.spans
    c.requires.whole c.requires.shortest (sym (ap parts_of c.in-Ok-Simple.field-0-is) ∙ e.parts) e.passes c.in-Ok-simple_packet_spans.ensures

pub returns-in-Ok-clause-lies : goal.returns-in-Ok-clause-lies
returns-in-Ok-clause-lies g c =
    let P : Parts → Type 0 = λ parts. LieAsSaid parts c.in-Ok.spans in
    subst P (sym (ap parts_of c.in-Ok-Enhanced.field-0-is) ∙ c.in-Ok-Enhanced.ensures.parts) c.in-Ok.ensures.1.lies

pub returns-in-Ok-simple_packet_spans-clause-lies : goal.returns-in-Ok-simple_packet_spans-clause-lies
returns-in-Ok-simple_packet_spans-clause-lies g c =
    let P : Parts → Type 0 = λ parts. LieAsSaid parts c.in-Ok-simple_packet_spans.spans in
    subst P (sym (ap parts_of c.in-Ok-Simple.field-0-is) ∙ c.in-Ok-Simple.ensures.parts) (c.in-Ok-simple_packet_spans.ensures.1 c.args.frame.now.order).lies

pub returns-in-Err-clause-err : goal.returns-in-Err-clause-err
returns-in-Err-clause-err g c =
    let P : Fault → Type 0 = λ fault. IsBlockFault c.args.frame.now (g.T.Interfaces.list c.args.table.now) c.args.bytes.now fault in
    subst P (sym c.fault_in_full_table.ensures)
    (refused_by_itself c.args.frame.now (g.T.Interfaces.list c.args.table.now) c.args.bytes.now c.in-Err.fault c.requires.whole c.requires.shortest
    c.in-Err.ensures.refused)
