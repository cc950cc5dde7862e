-- The interface is added to the table, or there is no room for it.
use Rattle.std.proofs.Common.{◌≡◌, ◌≤◌, ◌∙◌, ◌+◌, ◌++◌, ◌∷◌, [], List, ap, arith, length, refl, sym}
use Rattle.cap_io.specs.Capture.{PcapngFile, first_link_after}
use Rattle.cap_io.specs.declared.file_state.FileState.TheVariants as form
use Rattle.cap_pcapng.specs.{Effect.section_of, Interface.Described, Interface.description_of}
use Rattle.capkit_c.specs.{Layout.first_interfaces, Layout.most_known, Skipping.finds_no_room, Skipping.goes_past}
use Rattle.capkit_c.proofs.{Leaves.declared_after, Leaves.is_after, Skips.one_more}
use Rattle.capkit_c.proofs.memory.skip.skip_interface.Goals as goal

pub returns-then-count-table : goal.returns-then-count-table
returns-then-count-table c =
    let known = most_known c.args.reader.now (length c.args.table.now) in
    let count = c.known_interfaces-count.ensures in
    let full = c.if-count-table.true in
    let more = one_more known c.args.table.now (description_of c.args.interface.now) (omega arith) in
    finds_no_room _ c.requires.unit c.requires.there (omega (arith, more, count.value, full)) refl refl

pub returns : goal.returns
returns c =
    let t = c.args.table.now in
    let t' = c.append_interface.new.table in
    let count = c.known_interfaces-count.result in
    let counted = c.known_interfaces-count.ensures in
    let following : List Described = first_interfaces (count + 1) t' in
    let i = description_of c.args.interface.now in
    let fits = c.requires.fits in
    let room = c.if-count-table.false in
    let same = c.append_interface.ensures.same in
    let there = c.requires.there in
    let added : first_interfaces (most_known c.args.reader.now (length t)) t ++ i ∷ [] ≡ following = ap (λ n. first_interfaces n t ++ i ∷ [])
    (sym counted.value) ∙ sym c.append_interface.ensures.put in
    let order = c.args.order in
    let r' = c.new_at.result in
    let new = c.new_at.ensures in
    let inside : count + 1 ≤ length t' = omega (arith, counted.fits, room, same) in
    let most : count + 1 ≤ 256 = omega (arith, counted.value, fits) in
    goes_past _ c.requires.unit
    (ap (λ (l : List Described). PcapngFile (first_link_after c.args.first (section_of order l)) (section_of order l)) added
    ∙ ap (λ link. PcapngFile link (section_of order following))
    (ap (λ (l : List Described). first_link_after c.args.first (section_of order l)) c.append_interface.ensures.put
    ∙ sym (c.first_link_with-link.ensures order))
    ∙ declared_after (form.Pcapng order c.first_link_with-link.result) r' t' (count + 1) new.form new.interfaces inside most)
    (is_after c.args.capture.now c.args.frame.now.length c.args.reader.now r' t' (form.Pcapng order c.first_link_with-link.result) (count + 1)
    new.offset there c.requires.some new.form new.link new.interfaces inside most) same
