-- The parts, joined, are the interface block.
use Rattle.std.proofs.Common.{◌≡◌, ◌++◌, ◌-◌, List, ℕ, take, drop, replicate, refl, sym, ◌∙◌}
use Rattle.cap_pcapng.specs.Encoding.{name_text}
use Rattle.cap_pcapng.proofs.WrittenBlocks.{interface_joined, named, unnamed}
use Rattle.cap_pcapng.proofs.write.put_interface_parts.Goals.{then-is_empty, else-is_empty}
use Rattle.cap_pcapng.proofs.write.put_interface_parts.Goals as goal

pub put-requires : goal.put-requires
put-requires g c =
    let name : List ℕ = c.args.packet.now.name.now in
    let padding = c.padding_after-padding.ensures in
    let name_is : (take (7 - c.if-is_empty.start) (drop c.if-is_empty.start c.option_header-option.result))
    ++ (name ++ replicate c.padding_after-padding.result 0) ≡ name_text name = elim c.if-is_empty.branch [
      | then-is_empty w ↦ rw w.start-is (unnamed _ name (sym c.is_empty.ensures ∙ w.if-is_empty.true) padding.padded)
      | else-is_empty w ↦ rw w.start-is (named _ name _ (sym c.is_empty.ensures ∙ w.if-is_empty.false) padding.padded c.option_header-option.ensures)
    ] in
    let it = interface_joined c.args.packet.now.link c.args.packet.now.snap c.padding_after-padding.result name c.interface_header-head.result
    (take (7 - c.if-is_empty.start) (drop c.if-is_empty.start c.option_header-option.result)) c.interface_end-end.result
    padding.short name_is c.interface_header-head.ensures c.interface_end-end.ensures in
    c.requires _ _ _ it.0 it.1

pub returns : goal.returns
returns g c =
    let name : List ℕ = c.args.packet.now.name.now in
    let padding = c.padding_after-padding.ensures in
    let name_is : (take (7 - c.if-is_empty.start) (drop c.if-is_empty.start c.option_header-option.result))
    ++ (name ++ replicate c.padding_after-padding.result 0) ≡ name_text name = elim c.if-is_empty.branch [
      | then-is_empty w ↦ rw w.start-is (unnamed _ name (sym c.is_empty.ensures ∙ w.if-is_empty.true) padding.padded)
      | else-is_empty w ↦ rw w.start-is (named _ name _ (sym c.is_empty.ensures ∙ w.if-is_empty.false) padding.padded c.option_header-option.ensures)
    ] in
    let it = interface_joined c.args.packet.now.link c.args.packet.now.snap c.padding_after-padding.result name c.interface_header-head.result
    (take (7 - c.if-is_empty.start) (drop c.if-is_empty.start c.option_header-option.result)) c.interface_end-end.result
    padding.short name_is c.interface_header-head.ensures c.interface_end-end.ensures in
    record { shown = _; shows = refl; parts = _; joins = it.0; size = _; sized = it.1; left = _; leaves = refl; met = c.put.ensures }
