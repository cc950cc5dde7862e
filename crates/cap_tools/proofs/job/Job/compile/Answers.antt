-- A compilation writes the listing, or refuses the expression, in its only step.
use Rattle.cap_tools.proofs.CommandStarts.{first-step, lists-some, refused-step}
use Rattle.cap_tools.proofs.Common.{inr, ap, string_bytes, spent_in, Compiles}
use Rattle.cap_filter.specs.{Expressions.IsTextFault, declared.filter.Refusal.TheVariants.Expression}
use Rattle.cap_tools.proofs.job.Job.compile.Goals as goal

pub returns-in-Ok : goal.returns-in-Ok
returns-in-Ok g c =
    first-step g.I.Input.tells g.O.Output.tells g.E.Output.tells (Compiles (string_bytes c.args.compile.now.expr) c.args.compile.now.link)
    c.args.self.now c.list.result c.list.new.self c.requires.fresh
    (λ to. lists-some g.E.Output.tells _ c.args.compile.now.link c.in-Ok.program.insns _ c.args.self.now c.list.new.self c.list.result
    (rw c.as_str.ensures.value at c.in-Ok.ensures.compiled) (c.list.ensures.exact to)) c.list.ensures.keeps
    (record { inputs = c.list.ensures.reads.inputs; decided = c.list.ensures.reads.decided; unspent = ap spent_in c.list.ensures.reads.programs })

pub returns-in-Err : goal.returns-in-Err
returns-in-Err g c =
    refused-step g.I.Input.tells g.O.Output.tells g.E.Output.tells (Compiles (string_bytes c.args.compile.now.expr) c.args.compile.now.link)
    (Expression c.in-Err.fault) c.args.self.now c.refuse.result c.refuse.new.self c.requires.fresh c.refuse.ensures.done c.refuse.ensures.refused
    (λ refuses to. inr (record { fault = c.in-Err.fault; why = rw c.as_str.ensures.value at c.in-Err.ensures.refused; refuses = refuses }))
    c.refuse.ensures.keeps
