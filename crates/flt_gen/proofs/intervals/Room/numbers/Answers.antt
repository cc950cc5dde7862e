-- The intervals are joined, cut and put.
use Rattle.flt_gen.proofs.Common.{◌∙◌, refl, ap, left_out, map, cut, without}
use Rattle.flt_gen.proofs.intervals.Room.numbers.Goals as goal

pub returns : goal.returns
returns g c =
    let a = c.args in let last = c.left_out-last.ensures ∙ ap (λ is. left_out a.is_masked a.first is) (c.deref.ensures.value ∙ c.in_ok-join_touching.ensures) in
    let joined = c.deref-2.ensures.value ∙ c.in_ok-join_touching.ensures in
    let all = c.in_ok-put_cut.ensures.all ∙ ap (λ is. map (cut c.left_out-last.result) is) joined in
    let others = c.in_ok-put_cut.ensures.others ∙ ap (λ is. without c.cut-first.result (map (cut c.left_out-last.result) is)) joined in
    rw (c.high_mask.ensures, c.deref-3.ensures.value, c.deref-4.ensures.value, others, all, c.cut-first.ensures, last) refl
