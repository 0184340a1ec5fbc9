use Rattle.step_table.proofs.pass.Pass.named.Goals as goal
use Rattle.std.proofs.Common.{◌∙◌, List, slice_get, sym, ap}
use Rattle.table_core.specs.Holdings.{RootSays}
use Rattle.step_table.specs.Turns.{turn_of}
use Rattle.step_table.specs.Passes.{view}
use Rattle.step_table.proofs.TurnFacts.{turn-head, turn-none}

pub returns-in-Some : goal.returns-in-Some
returns-in-Some c = λ asked e.
    let pass = c.args.self.now in
    c.at.ensures ∙ ap (λ (l : List RootSays). slice_get l c.args.root) (turn-head c.in-Some.turn (view pass).turn asked (ap turn_of (sym c.in-Some.is) ∙ pass.turns) e)

pub returns-in-None : goal.returns-in-None
returns-in-None c = λ asked e. let pass = c.args.self.now in absurd (turn-none (view pass).turn asked (ap turn_of (sym c.in-None.is) ∙ pass.turns) e)
