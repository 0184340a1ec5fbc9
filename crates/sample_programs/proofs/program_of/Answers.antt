use Rattle.std.proofs.Common.{◌≡◌, ◌∙◌, IfOk, Some, sym, subst}
use Rattle.task_syntax.specs.Valid.{IsValid}
use Rattle.task_syntax.specs.declared.program.Program.{Program}
use Rattle.std.proofs.lemmas.Option.{none-some, same_Some}
use Rattle.sample_programs.proofs.program_of.Goals as goal

pub returns-in-Some-clause-found : goal.returns-in-Some-clause-found
returns-in-Some-clause-found c p short spelled valid =
    let same = same_Some c.in-Some.program p (sym c.in-Some.is ∙ c.in_ok-program.ensures.found p spelled) in
    subst (λ (q : Program). IfOk c.valid.result (λ found. found ≡ Some q)) same (c.valid.ensures.found (subst IsValid (sym same) valid))

pub returns-in-None-clause-found : goal.returns-in-None-clause-found
returns-in-None-clause-found c p short spelled valid = absurd (none-some p (sym c.in-None.is ∙ c.in_ok-program.ensures.found p spelled))
