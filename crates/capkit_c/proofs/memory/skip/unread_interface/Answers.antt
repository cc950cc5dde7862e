-- Link type and snap length are those in the block's body.
use Rattle.std.proofs.Common.{◌≡◌, ◌∙◌, ◌-◌, ap, ap₂, arith, drop, refl, sym, take}
use Rattle.cap_octet.specs.Number.{u16_in, u32_in}
use Rattle.cap_pcapng.specs.Block.{InterfaceParts, body_in, parts_in_body}
use Rattle.capkit_c.proofs.memory.skip.unread_interface.Goals as goal

pub returns : goal.returns
returns c =
    let order = c.args.frame.now.order in
    let text = drop 8 c.args.text.now in
    let body = body_in c.args.frame.now c.args.text.now in
    let long : c.args.frame.now.length - 4 - 8 ≡ c.args.frame.now.length - 12 = omega arith in
    let link = c.u16_at.ensures ∙ ap (λ n. u16_in order (take n text) 0) long in
    let snap = c.u32_at.ensures ∙ ap (λ n. u32_in order (take n text) 4) long in
    record {
      described = refl;
      order = order;
      options = drop 8 body;
      parts = ap (λ kind. parts_in_body kind order body) c.in-Interface.is ∙ ap₂ (λ l s. InterfaceParts l s order (drop 8 body)) (sym link) (sym snap);
    }
