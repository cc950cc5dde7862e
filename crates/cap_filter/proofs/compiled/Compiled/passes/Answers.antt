-- A packet is kept if the program of its link type accepts it, and only that program's count of
-- instructions grows.
use Rattle.std.proofs.Common.{sym, ◌∙◌}
use Rattle.cap_octet.specs.Packet.{captured}
use Rattle.cap_filter.proofs.Filters.{bounded-ran, answers-at, answers-none, place-within, put-back, reading-spends, sound-ran}
use Rattle.cap_filter.proofs.compiled.Compiled.passes.Goals as goal

pub returns-in_default-clause-answers : goal.returns-in_default-clause-answers
returns-in_default-clause-answers g c =
    rw (← c.self.view_is) (answers-none _ _ (captured c.args.packet.now) c.self.invariant (sym c.program_place.ensures ∙ c.in_default.is))

pub run_at-answer-requires : goal.run_at-answer-requires
run_at-answer-requires g c =
    rw c.deref_mut.ensures.value (place-within _ _ c.args.packet.now.link _ c.self.invariant (sym c.program_place.ensures ∙ c.in-Some.is))

pub invariant_of-self : goal.invariant_of-self
invariant_of-self g c =
    rw (put-back _ c.in-Some.place (captured c.args.packet.now) _ _ _ c.deref_mut.ensures.value c.deref_mut.ensures.len c.run_at-answer.ensures.ran)
    (sound-ran _ _ (captured c.args.packet.now) c.in-Some.place c.self.invariant)

pub returns-clause-answers : goal.returns-clause-answers
returns-clause-answers g c =
    rw (← c.self.view_is) (answers-at _ _ (captured c.args.packet.now) _ _ _ c.self.invariant (sym c.program_place.ensures ∙ c.in-Some.is)
    (rw c.deref_mut.ensures.value at c.run_at-answer.ensures.answer))

pub returns-in_default-clause-spends : goal.returns-in_default-clause-spends
returns-in_default-clause-spends g c =
    rw (← c.self.view_is) (sym (reading-spends _ _ (captured c.args.packet.now) _ c.self.invariant (sym c.program_place.ensures ∙ c.in_default.is)))

pub returns-clause-spends : goal.returns-clause-spends
returns-clause-spends g c =
    rw (← c.self.view_is) (put-back _ c.in-Some.place (captured c.args.packet.now) _ _ _ c.deref_mut.ensures.value c.deref_mut.ensures.len
    c.run_at-answer.ensures.ran ∙ sym (reading-spends _ _ (captured c.args.packet.now) _ c.self.invariant (sym c.program_place.ensures ∙ c.in-Some.is)))

pub returns-clause-bounded : goal.returns-clause-bounded
returns-clause-bounded g c =
    rw (
      ← c.self.view_is,
      put-back _ c.in-Some.place (captured c.args.packet.now) _ _ _ c.deref_mut.ensures.value c.deref_mut.ensures.len
          c.run_at-answer.ensures.ran,
    )
    (bounded-ran _ _ c.in-Some.place (captured c.args.packet.now) c.self.invariant)
