use Rattle.step_table.proofs.roots.with.Goals as goal
use Rattle.std.proofs.Common.{rules, ◌≡◌, ◌∙◌, List, [], ◌∷◌, Option, length, sym, ap, arith}
use Rattle.table_core.specs.Holdings.{RootSays}
use Rattle.table_core.specs.RecordViews.{turned}
use Rattle.step_table.specs.declared.turn.Turn.{Turn}
use Rattle.step_table.specs.Turns.{turn_of, says_of}
use Rattle.step_table.proofs.TurnFacts.{turn-head, turn-none, taken-few}

pub with-requires : goal.with-requires
with-requires c =
    let t = c.in-Some.turn in let long : length t.named ≡ 16 = search rules in
    let same = turn-head t (turn_of c.args.turn) c.requires.0 (ap turn_of (sym c.in-Some.is)) c.requires.1 in
    omega (arith, long, taken-few t.named t.asked (omega (arith, ap length same, c.requires.2, long)))

pub returns-in-Some : goal.returns-in-Some
returns-in-Some c = ap (λ (l : List RootSays). l ∷ []) c.with.ensures ∙ ap (λ (t : Option Turn). turned (says_of c.args.named) (turn_of t)) (sym c.in-Some.is)

pub returns-in-None : goal.returns-in-None
returns-in-None c = absurd (turn-none (turn_of c.args.turn) c.requires.0 (ap turn_of (sym c.in-None.is)) c.requires.1)
