-- The first step reads the filter, or compiles.
use Rattle.cap_tools.proofs.CommandStarts.{made-no-step, taken-fresh, untaken}
use Rattle.cap_tools.proofs.Common.{Some, string_bytes, sym, ◌∙◌, ap, subst, option_map, Compiles, ReadsFilter, asked_by, preparing_of, JobView, MakesStep}
use Rattle.cap_tools.proofs.job.Job.prepare.Goals as goal

pub returns-in-None : goal.returns-in-None
returns-in-None g c = absurd (c.requires (ap (λ (v : JobView). v.preparing) (sym c.self.view_is) ∙ ap (option_map preparing_of)
    (sym c.take.ensures.value ∙ c.in-None.is)))

pub start_filtering-requires-clause-fresh : goal.start_filtering-requires-clause-fresh
start_filtering-requires-clause-fresh g c =
    taken-fresh _ _ _ c.self.view_is (made-no-step _ _ (ReadsFilter (asked_by c.in-Some-Filter.print)) c.self.view_is c.self.invariant
    (ap (option_map preparing_of) (sym c.take.ensures.value ∙ c.in-Some-Filter.is ∙ ap Some c.in-Some-Filter.field-0-is)))

pub returns-in-Some-Filter : goal.returns-in-Some-Filter
returns-in-Some-Filter g c =
    let P : JobView → Type 0 = λ v. MakesStep g.I.Input.tells g.O.Output.tells g.E.Output.tells v c.start_filtering.result c.start_filtering.new.self in
    subst P (untaken _ _ (Some (ReadsFilter (asked_by c.in-Some-Filter.print))) c.self.view_is
    (ap (option_map preparing_of) (sym c.take.ensures.value ∙ c.in-Some-Filter.is ∙ ap Some c.in-Some-Filter.field-0-is))) c.start_filtering.ensures

pub compile-requires-clause-fresh : goal.compile-requires-clause-fresh
compile-requires-clause-fresh g c =
    taken-fresh _ _ _ c.self.view_is (made-no-step _ _ (Compiles (string_bytes c.in-Some-Listing.compile.expr) c.in-Some-Listing.compile.link)
    c.self.view_is c.self.invariant
    (ap (option_map preparing_of) (sym c.take.ensures.value ∙ c.in-Some-Listing.is ∙ ap Some c.in-Some-Listing.field-0-is))).0

pub compile-requires-clause-text : goal.compile-requires-clause-text
compile-requires-clause-text g c =
    (made-no-step _ _ (Compiles (string_bytes c.in-Some-Listing.compile.expr) c.in-Some-Listing.compile.link) c.self.view_is c.self.invariant
    (ap (option_map preparing_of) (sym c.take.ensures.value ∙ c.in-Some-Listing.is ∙ ap Some c.in-Some-Listing.field-0-is))).1

pub returns-in-Some-Listing : goal.returns-in-Some-Listing
returns-in-Some-Listing g c =
    let P : JobView → Type 0 = λ v. MakesStep g.I.Input.tells g.O.Output.tells g.E.Output.tells v c.compile.result c.compile.new.self in
    subst P (untaken _ _ (Some (Compiles (string_bytes c.in-Some-Listing.compile.expr) c.in-Some-Listing.compile.link)) c.self.view_is
    (ap (option_map preparing_of) (sym c.take.ensures.value ∙ c.in-Some-Listing.is ∙ ap Some c.in-Some-Listing.field-0-is))) c.compile.ensures
