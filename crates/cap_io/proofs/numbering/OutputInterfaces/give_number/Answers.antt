-- A known interface keeps its number, and a new one gets the next.
use Rattle.std.proofs.Common.{◌≡◌, map, not, refl, sym, ap, ◌∙◌, rules, Some}
use Rattle.cap_io.proofs.Common.{option_map, captured, interface_in, HasNumber, InterfaceNumber}
use Rattle.cap_io.proofs.Interfaces.{same_interface, among-keys, number-keys, insert-keys, few-following, first-following, place-of-last}
use Rattle.{std.proofs.lemmas.Option.slice_get-map, cap_io.specs.Text.interface_of}
use Rattle.cap_io.proofs.numbering.OutputInterfaces.give_number.Goals as goal

pub returns-clause-number : goal.returns-clause-number
returns-clause-number g c =
    let i = interface_of (captured c.args.packet.now) in
    let last = c.self.inside.last_number in
    let there =
    slice_get-map interface_in c.self.inside.keys.keys last
    ∙ ap (option_map interface_in) (sym c.in-Some.ensures.key)
    ∙ ap Some (same_interface (interface_in c.in-Some.key.now) i (sym c.is_key_of.ensures ∙ c.if-is_key_of.true)) in
    place-of-last c.args.self.now last i (rw c.self.view_is at c.self.invariant.1) (rw c.self.view_is at there)

pub returns-in_default-clause-number : goal.returns-in_default-clause-number
returns-in_default-clause-number g c =
    let keys = c.in_default.self-inside.keys.keys in
    let is : map interface_in keys ≡ c.args.self.now = search rules in (
      refl,
      rw (c.of.ensures, is) at (sym (among-keys keys c.of.result) ∙ c.in_default-2.ensures.absent),
      ap (map interface_in) c.in_default-2.ensures.err ∙ is,
    )

pub returns-2-clause-number : goal.returns-2-clause-number
returns-2-clause-number g c =
    let keys = c.in_default.self-inside.keys.keys in
    let is : map interface_in keys ≡ c.args.self.now = search rules in
    let place : InterfaceNumber = record { number = c.in-Ok.index; is_new = c.in-Ok.is_new } in
    let has : HasNumber (map interface_in keys) (interface_in c.of.result) place (map interface_in c.insert_full.new.self.keys) =
    record {
      number = c.in-Ok.ensures.index ∙ number-keys keys c.of.result;
      is_new = c.in-Ok.ensures.added ∙ ap not (among-keys keys c.of.result);
      interfaces = ap (map interface_in) c.in-Ok.ensures.keys ∙ insert-keys keys c.of.result;
    } in
    rw (c.of.ensures, is) at has

pub returns-2-clause-fits : goal.returns-2-clause-fits
returns-2-clause-fits g c =
    let i = interface_of (captured c.args.packet.now) in
    let new = map interface_in c.insert_full.new.self.keys in
    let place : InterfaceNumber = record { number = c.in-Ok.index; is_new = c.in-Ok.is_new } in
    few-following c.args.self.now new i place (rw c.self.view_is at c.self.invariant.0) c.requires (search rules) (returns-2-clause-number g c)

pub invariant_of-self-2 : goal.invariant_of-self-2
invariant_of-self-2 g c =
    let i = interface_of (captured c.args.packet.now) in
    let new = map interface_in c.insert_full.new.self.keys in
    let place : InterfaceNumber = record { number = c.in-Ok.index; is_new = c.in-Ok.is_new } in (
      returns-2-clause-fits g c,
      first-following c.args.self.now new i place (returns-2-clause-number g c),
    )
