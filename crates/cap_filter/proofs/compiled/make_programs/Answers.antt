-- The programs so far and the next one are right, and haven't run.
use Rattle.std.proofs.Common.{◌≡◌, ◌++◌, ◌∷◌, [], All, List, sym, subst}
use Rattle.std.proofs.lemmas.List.{take_more}
use Rattle.flt_bpf.specs.Content.{Content}
use Rattle.cap_octet.specs.declared.{link.Link.Link, link.Link.TheVariants.Ether}
use Rattle.cap_filter.{specs.Programs.AreMade, proofs.Filters.fresh-put, proofs.Filters.made-put}
use Rattle.cap_filter.proofs.compiled.make_programs.Goals as goal

pub loop-link-preserved : goal.loop-link-preserved
loop-link-preserved g c =
    let More : List Link → Type 0 = λ links. AreMade c.args.tree.now.expr links (c.loop-link.programs.items ++ c.in_ok-program.program ∷ []) in
    let Fresh : List Content → Type 0 = λ programs. All (λ (program : Content). program.spent ≡ 0) programs in
    rw (c.in_ok-push.ensures.items) (record {
      made = subst More (sym (take_more c.args.links.now c.loop-link.link-index Ether c.loop-link-test.true))
          (made-put c.args.tree.now.expr _ c.loop-link.programs.items _ c.in_ok-program.program c.loop-link.invariant.made
          (record { valid = rw c.insns.ensures.insns at c.insns.ensures.valid; right = c.in_ok-program.ensures.decides }));
      fresh = fresh-put c.loop-link.programs.items c.in_ok-program.program c.loop-link.invariant.fresh c.in_ok-program.ensures.fresh;
    })
