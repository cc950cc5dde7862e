-- The line is made of the names of all formats and link types.
use Rattle.capkit.proofs.Common.{◌∙◌, ap, map, with_shapes, line_without_commands, IfOk-weaker, Names}
use Rattle.cap_octet.specs.{Format.all_formats, Link.all_links}
use Rattle.capkit.proofs.arguments.whole_line.Goals as goal

pub returns : goal.returns
unfolding all_formats all_links
returns c =
    let formats = Names c.as_slice.result in
    let links = Names c.as_slice-2.result in
    IfOk-weaker c.line_with_commands.result _ _ (λ command is. (
      formats,
      links,
      ap (map (λ name. name.now)) c.as_slice.ensures,
      ap (map (λ name. name.now)) c.as_slice-2.ensures,
      is ∙ ap (with_shapes line_without_commands) (c.commands.ensures _),
    )) c.line_with_commands.ensures
