use Rattle.wait_rows.proofs.hand.finish_one.Goals as goal
use Rattle.std.proofs.Common.{◌∙◌, Some, List, refl, sym, ap, subst, arith}
use Rattle.std.specs.Prelude.{slice_set}
use Rattle.step_table.specs.Passes.{view}
use Rattle.wait_rows.specs.declared.stage.Stage.{Stage}
use Rattle.wait_rows.specs.declared.stage.Stage.TheVariants as stage
use Rattle.wait_rows.specs.Hands.{HasHand}
use Rattle.wait_rows.proofs.FoundFacts.{at-index}
use Rattle.wait_rows.proofs.ListsFacts.{may-finish, hand-finished, put-back}

pub finish-done-requires-clause-may : goal.finish-done-requires-clause-may
finish-done-requires-clause-may c =
    let g = c.args.shared.now.setup.plan in let hand = c.args.hand.now in
    let at = at-index hand.stages.items c.args.list c.index_mut.result.now (omega (arith, c.requires.list, hand.stages.ok)) c.index_mut.ensures.value in
    may-finish g hand.owners.items hand.stages.items c.args.list c.in-Running.started (view c.args.pass.now) c.requires.hand.lists
    (at ∙ ap Some (sym c.replace.ensures.value ∙ c.in-Running.is))

pub returns-in-Running-clause-hand : goal.returns-in-Running-clause-hand
returns-in-Running-clause-hand c =
    let g = c.args.shared.now.setup.plan in let hand = c.args.hand.now in
    let at = at-index hand.stages.items c.args.list c.index_mut.result.now (omega (arith, c.requires.list, hand.stages.ok)) c.index_mut.ensures.value in
    subst (λ (x : Stage). HasHand g hand.waiting.items hand.back.items hand.owners.items (slice_set (slice_set hand.stages.items c.args.list x) c.args.list (stage.Done c.finish-done.result)) (view c.finish-done.new.pass)) (sym c.replace.ensures.after)
    (hand-finished g hand.waiting.items hand.back.items hand.owners.items hand.stages.items c.args.list c.in-Running.started _ c.args.pass.now c.finish-done.new.pass c.finish-done.result c.requires.hand
    (at ∙ ap Some (sym c.replace.ensures.value ∙ c.in-Running.is)) c.finish-done.ensures.done)

pub returns-in_default : goal.returns-in_default
returns-in_default c =
    let hand = c.args.hand.now in
    let at = at-index hand.stages.items c.args.list c.index_mut.result.now (omega (arith, c.requires.list, hand.stages.ok)) c.index_mut.ensures.value in
    record {
      table = c.requires.table;
      hand = subst (λ (l : List Stage). HasHand c.args.shared.now.setup.plan hand.waiting.items hand.back.items hand.owners.items l (view c.args.pass.now))
          (sym (put-back hand.stages.items c.args.list c.replace.new.dest c.replace.result (at ∙ ap Some (sym c.replace.ensures.value)))) c.requires.hand;
      count = refl;
    }
