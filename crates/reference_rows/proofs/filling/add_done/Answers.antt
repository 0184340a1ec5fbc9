use Rattle.std.proofs.Common.{◌∙◌, ◌∷◌, ℕ, sym, ap, rules}
use Rattle.step_table.specs.Passes.{view}
use Rattle.reference_rows.specs.Hands.{over_at}
use Rattle.reference_rows.proofs.HandFacts.{records-more}
use Rattle.reference_rows.proofs.filling.add_done.Goals as goal

pub returns-clause-hand : goal.returns-clause-hand
returns-clause-hand g c =
    let made = c.in-Some.ensures.done in let old = view c.args.pass.now in let same = c.unit-unit.ensures in
    records-more c.args.hand.now.futures c.args.hand.now.own old (view c.done_record.new.pass) c.requires.hand c.unit-unit.result c.in-Some.finishing (search rules) (made.unit_is ∙ sym same)
    (made.futures_are ∙ ap (λ (u : ℕ). u ∷ old.futures) (sym same)) (made.done_is ∙ ap (λ (u : ℕ). over_at u ∷ old.done) (sym same))
