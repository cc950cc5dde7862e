-- A known link type has its link, and a text of blanks is compiled for Ethernet.
use Rattle.std.proofs.Common.{ap, sym, ◌∙◌}
use Rattle.cap_octet.specs.Link.{link_of}
use Rattle.capkit_c.specs.Compiling.{of_link_type, of_any}
use Rattle.capkit_c.proofs.compiling.link_for.Goals as goal

pub returns-in-Some-clause-found : goal.returns-in-Some-clause-found
returns-in-Some-clause-found c =
    of_link_type (ap link_of (sym c.file_link_type.ensures) ∙ sym c.of_link_type.ensures ∙ c.in-Some.is)

pub returns-in-None-clause-found : goal.returns-in-None-clause-found
returns-in-None-clause-found c =
    of_any (ap link_of (sym c.file_link_type.ensures) ∙ sym c.of_link_type.ensures ∙ c.in-None.is)
    (sym c.are_blanks.ensures ∙ c.if-are_blanks.true)
