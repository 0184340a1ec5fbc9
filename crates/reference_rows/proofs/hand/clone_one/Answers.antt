use Rattle.std.proofs.Common.{◌∙◌, ◌∷◌, ℕ, ap}
use Rattle.table_core.specs.declared.view.View.{View}
use Rattle.step_table.specs.Passes.{view}
use Rattle.reference_rows.proofs.HandFacts.{hand-more}
use Rattle.reference_rows.proofs.hand.clone_one.Goals as goal

pub returns-clause-hand : goal.returns-clause-hand
returns-clause-hand g c =
    let old = view c.args.pass.now in let moved = c.clone_future-new.ensures.future.view_is in
    hand-more c.args.hand.now.futures c.args.hand.now.own old (view c.clone_future-new.new.pass) c.requires.hand (ap (λ (v : View). v.runs) moved) c.args.unit c.requires.unit
    (ap (λ (v : View). v.futures) moved ∙ ap (λ (u : ℕ). u ∷ old.futures) c.of-future.ensures) (ap (λ (v : View). v.done) moved)
