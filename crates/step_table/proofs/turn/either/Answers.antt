use Rattle.step_table.proofs.turn.either.Goals as goal
use Rattle.std.proofs.Common.{◌∙◌, ◌+◌, ◌<◌, ◌++◌, Option, length, sym, ap, subst}
use Rattle.step_table.specs.declared.turn.Turn.{Turn}
use Rattle.step_table.specs.Turns.{turn_of}
use Rattle.step_table.proofs.TurnFacts.{turn-mine, append-none}

pub returns-in-Some : goal.returns-in-Some
returns-in-Some c =
    turn-mine c.in-Some.turn c.args.other (subst (λ (t : Option Turn). length (turn_of c.args.other) + length (turn_of t) < 2) c.in-Some.is c.requires)
    ∙ ap (λ (t : Option Turn). turn_of c.args.other ++ turn_of t) (sym c.in-Some.is)

pub returns-in-None : goal.returns-in-None
returns-in-None c = sym (append-none (turn_of c.args.other)) ∙ ap (λ (t : Option Turn). turn_of c.args.other ++ turn_of t) (sym c.in-None.is)
