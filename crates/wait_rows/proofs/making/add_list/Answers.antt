use Rattle.wait_rows.proofs.making.add_list.Goals as goal
use Rattle.std.proofs.Common.{[], ◌∷◌, ◌++◌, sym, ap, subst}
use Rattle.step_table.specs.Passes.{view}
use Rattle.wait_rows.specs.declared.stage.Owner.{Owner}
use Rattle.wait_rows.specs.declared.stage.Stage.TheVariants as stage
use Rattle.wait_rows.specs.Making.{AllRun}
use Rattle.wait_rows.proofs.HandFacts.{hand-moved}
use Rattle.wait_rows.proofs.MakingFacts.{still-maker, hand-listed, all-listed}

pub returns-in-Ok-clause-maker : goal.returns-in-Ok-clause-maker
returns-in-Ok-clause-maker g c =
    still-maker c.args.shared.now.setup c.in_ok-started.started c.args.maker.now c.in_ok-started.future.unit (view c.args.pass.now) (view c.running_record.new.pass) c.in_ok-started.ensures.run c.requires.maker

pub returns-in-Ok-clause-hand : goal.returns-in-Ok-clause-hand
returns-in-Ok-clause-hand g c =
    let setup = c.args.shared.now.setup in let hand = c.args.hand.now in let w = view c.running_record.new.pass in let s = c.in_ok-started.started in
    let owner : Owner = record { future = c.in_ok-started.future; task = c.number-task.result } in
    let put = c.in-Ok.ensures in record {
      is_hand = hand-moved setup.plan w hand.waiting.items c.put_list.new.hand.waiting.items hand.back.items c.put_list.new.hand.back.items (hand.owners.items ++ owner ∷ []) c.put_list.new.hand.owners.items
          (hand.stages.items ++ stage.Running s ∷ []) c.put_list.new.hand.stages.items (ap (λ v. v.items) put.same.0) (ap (λ v. v.items) put.same.1) put.owners put.stages
          (hand-listed setup hand.waiting.items hand.back.items hand.owners.items hand.stages.items (view c.args.pass.now) w c.requires.hand.is_hand s owner c.requires.hand.all_run c.in_ok-started.ensures.run c.number-task.ensures);
      all_run = subst AllRun (sym put.stages) (all-listed s hand.stages.items c.requires.hand.all_run);
    }
