-- The greatest height is one more than the words of memory.
use Rattle.std.proofs.Common.{◌≡◌, ◌+◌, ap, ◌∙◌, arith, fold}
use Rattle.flt_lang.proofs.{Common.words_of, Common.climb, Counting.climb_whole, counts.words_in.Goals.After-most_waiting}
use Rattle.flt_lang.proofs.counts.words_in.Given as given
use Rattle.flt_lang.proofs.counts.words_in.Goals as goal

highest_is : (g : given.Over) (c : After-most_waiting g) → c.most_waiting.result ≡ 1 + words_of c.args.expr.now
highest_is g c =
    c.most_waiting.ensures ∙ ap (λ l. (fold climb (0, 1) l).1) c.deref.ensures.value
    ∙ ap (λ s. s.1) (climb_whole c.expr.inside.nodes.items c.expr.invariant) ∙ ap (λ t. 1 + words_of t) c.expr.view_is

pub overflow_sub-result : goal.overflow_sub-result
overflow_sub-result g c = omega (arith, highest_is g (goal.at.overflow_sub-result g c).After-most_waiting)

pub returns : goal.returns
returns g c = omega (arith, highest_is g (goal.at.returns g c).After-most_waiting)
