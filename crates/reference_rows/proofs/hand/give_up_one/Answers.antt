use Rattle.std.proofs.Common.{◌∙◌, ℕ, refl, sym, ap, rules}
use Rattle.record_core.specs.Counting.{dropped}
use Rattle.table_core.specs.RecordViews.{is_done_at}
use Rattle.table_core.specs.declared.view.View.{View}
use Rattle.step_table.specs.Passes.{view, plan}
use Rattle.reference_rows.proofs.HandFacts.{own-at, hand-given, may-give, retiring-there, unit-near}
use Rattle.reference_rows.proofs.hand.give_up_one.Goals as goal

pub give_up-requires-clause-may : goal.give_up-requires-clause-may
give_up-requires-clause-may c =
    let there = own-at c.args.hand.now.own c.args.unit _ c.in-Some.finishing (search rules) (sym c.replace.ensures.value ∙ c.in-Some.is) in
    let has = c.requires.hand.records.owns c.args.unit c.in-Some.finishing there in
    may-give (plan c.args.shared.now) c.args.unit c.in-Some.finishing.unit (view c.args.pass.now) has.0 (unit-near (plan c.args.shared.now) c.args.unit c.requires.unit) has.1

pub retire-block-requires-clause-hand : goal.retire-block-requires-clause-hand
retire-block-requires-clause-hand c =
    let there = own-at c.args.hand.now.own c.args.unit _ c.in-Some.finishing (search rules) (sym c.replace.ensures.value ∙ c.in-Some.is) in
    let has = c.requires.hand.records.owns c.args.unit c.in-Some.finishing there in
    let gave = c.in-Some-give_up.ensures.view in
    retiring-there (plan c.args.shared.now) c.args.unit c.in-Some.finishing.unit c.in-Some-give_up.retiring.unit gave.found (view c.args.pass.now) (view c.give_up.new.pass) has.0
    (unit-near (plan c.args.shared.now) c.args.unit c.requires.unit) gave.last_is.unit_is (gave.last_is.exactly.0 refl) gave.view_is

pub returns-in-None-clause-hand : goal.returns-in-None-clause-hand
returns-in-None-clause-hand c =
    let there = own-at c.args.hand.now.own c.args.unit _ c.in-Some.finishing (search rules) (sym c.replace.ensures.value ∙ c.in-Some.is) in
    let has = c.requires.hand.records.owns c.args.unit c.in-Some.finishing there in
    let old = view c.args.pass.now in let gave = c.in-None.ensures.view.view_is in
    rw c.replace.ensures.after
    (hand-given c.args.hand.now.futures c.args.hand.now.own old (view c.give_up.new.pass) c.requires.hand (ap (λ (v : View). v.runs) gave) c.args.unit (ap (λ (v : View). v.futures) gave)
    (ap (λ (v : View). v.done) gave ∙ ap (λ (u : ℕ). dropped (is_done_at u) old.done) has.0))

pub returns-in-Some-give_up-clause-hand : goal.returns-in-Some-give_up-clause-hand
returns-in-Some-give_up-clause-hand c =
    let there = own-at c.args.hand.now.own c.args.unit _ c.in-Some.finishing (search rules) (sym c.replace.ensures.value ∙ c.in-Some.is) in
    let has = c.requires.hand.records.owns c.args.unit c.in-Some.finishing there in
    let old = view c.args.pass.now in let gave = c.in-Some-give_up.ensures.view.view_is in
    let retired = c.retire-block.ensures.block.view_is in let released = c.release_block.ensures.view.view_is in
    rw c.replace.ensures.after
    (hand-given c.args.hand.now.futures c.args.hand.now.own old (view c.release_block.new.pass) c.requires.hand (ap (λ (v : View). v.runs) released ∙ ap (λ (v : View). v.runs) retired ∙ ap (λ (v : View). v.runs) gave)
    c.args.unit (ap (λ (v : View). v.futures) released ∙ ap (λ (v : View). v.futures) retired ∙ ap (λ (v : View). v.futures) gave)
    (ap (λ (v : View). v.done) released ∙ ap (λ (v : View). v.done) retired ∙ ap (λ (v : View). v.done) gave ∙ ap (λ (u : ℕ). dropped (is_done_at u) old.done) has.0))
