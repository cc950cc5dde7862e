-- A search of the tree finds the mark if and only if the window has it.
use Rattle.std.proofs.Common.{[], arith, ◌≡◌, ◌∙◌, get_or, ◌-◌, ◌<◌, ◌≤◌, length}
use Rattle.cap_process.specs.inside.Index.{links_at, mark_at}
use Rattle.std.proofs.lemmas.{List.get_or_default, Option.slice_get-get_or}
use Rattle.cap_process.proofs.{Trees.ended, Trees.least, Trees.past_top, Trees.top_of, Indexes.head_small, Marks.got, Marks.is_there}
use Rattle.cap_process.proofs.window.Window.contains.Goals as goal

pub loop-step-init : goal.loop-step-init
loop-step-init g c =
    let inside : c.hash_of-hash.result < length c.self.inside.heads.items = omega (arith, c.self.invariant.wide) in
    let head : c.index.result.now ≡ get_or c.self.inside.heads.items c.hash_of-hash.result 0 = c.index.ensures ∙ get_or_default _ _ _ 0 inside in
    rw (head, c.len-limit.ensures.len, c.hash_of-hash.ensures.value)
    (record { way = c.self.invariant.index.trees c.args.mark.now; lacks = λ j low high. absurd (omega arith); within = omega arith })

pub returns-then-is_same_mark : goal.returns-then-is_same_mark
returns-then-is_same_mark g c =
    let step = least c.loop-step.invariant.way in
    let inside : c.loop-step.limit - c.loop-step.step < length c.self.inside.marks.items = omega (arith, c.loop-step.invariant.within, step) in
    let equal = got c.self.inside.marks.items (c.loop-step.limit - c.loop-step.step) c.args.mark.now _ _ c.get.ensures c.unwrap.ensures
    ∙ c.is_same_mark.ensures.0 c.if-is_same_mark.true in
    rw (← c.self.view_is) (grind arith)

pub loop-step-smaller : goal.loop-step-smaller
loop-step-smaller g c = grind (arith, least)

pub loop-step-preserved : goal.loop-step-preserved
loop-step-preserved g c =
    let w = c.self.inside in
    let top = c.loop-step.limit - c.loop-step.step in
    let here : mark_at w.marks.items top ≡ c.unwrap.result.now = got w.marks.items top _ _ _ c.get.ensures c.unwrap.ensures in
    let links : links_at w.links.items top ≡ c.unwrap-in-loop-step.result.now =
    got w.links.items top _ _ _ c.get-in-loop-step.ensures c.unwrap-in-loop-step.ensures in
    let t = top_of c.loop-step.invariant.way c.loop-step-test.true in
    grind (arith, least, past_top)

pub returns : goal.returns
returns g c =
    let ms = c.self.inside.marks.items in
    let none = ended c.loop-step.invariant.way c.loop-step-test.false c.loop-step.invariant.lacks in
    rw (← c.self.view_is)
    ((λ is. absurd cc), (λ has. absurd (none has.0 (omega arith) has.1 (get_or_default ms has.0 _ c.args.mark.now has.1 ∙ has.2))))

pub overflow_sub-step : goal.overflow_sub-step
overflow_sub-step g c =
    let small : c.index.result.now ≤ c.self.inside.newest =
    head_small _ _ _ _ _ c.self.invariant.index.small (omega (arith, c.self.invariant.wide)) c.index.ensures in
    omega (arith, small)

pub unwrap-requires : goal.unwrap-requires
unwrap-requires g c =
    let step = least c.loop-step.invariant.way in
    is_there _ _ (c.get.ensures ∙ slice_get-get_or c.self.inside.marks.items (c.loop-step.limit - c.loop-step.step)
    (record { length = 0; digest = [] }) (omega (arith, c.loop-step.invariant.within, step)))
