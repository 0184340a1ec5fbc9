use Rattle.wait_rows.proofs.making.add_waiting.Goals as goal
use Rattle.std.proofs.Common.{◌<◌, [], ◌∷◌, ◌++◌, length, sym, ap, subst, arith}
use Rattle.step_table.specs.Passes.{view}
use Rattle.wait_rows.specs.declared.stage.Waiting.{Waiting}
use Rattle.wait_rows.specs.Making.{AllRun}
use Rattle.wait_rows.proofs.FoundFacts.{at-index}
use Rattle.wait_rows.proofs.HandFacts.{hand-moved}
use Rattle.wait_rows.proofs.MakingFacts.{hand-waits}

pub waiting_record-requires-clause-behind : goal.waiting_record-requires-clause-behind
waiting_record-requires-clause-behind g c =
    let hand = c.args.hand.now in let lists = c.requires.hand.is_hand.lists in
    let low : c.args.list < length hand.owners.items = omega (arith, c.requires.list, hand.stages.ok, lists.count) in
    let at = at-index hand.owners.items c.args.list c.index-owner.result.now low c.index-owner.ensures in
    (c.index-owner.result.now.future.unit, lists.sights c.args.list c.index-owner.result.now at)

pub returns-in-Ok-clause-hand : goal.returns-in-Ok-clause-hand
returns-in-Ok-clause-hand g c =
    let setup = c.args.shared.now.setup in let hand = c.args.hand.now in let w = view c.waiting_record.new.pass in let lists = c.requires.hand.is_hand.lists in
    let low : c.args.list < length hand.owners.items = omega (arith, c.requires.list, hand.stages.ok, lists.count) in
    let at = at-index hand.owners.items c.args.list c.index-owner.result.now low c.index-owner.ensures in
    let waiting : Waiting = record { waiter = c.in-Some.waiter; list = c.args.list } in
    let made = c.in-Some.ensures.record in
    let put = c.in-Ok.ensures in record {
      is_hand = hand-moved setup.plan w (hand.waiting.items ++ waiting ∷ []) c.put_waiting.new.hand.waiting.items hand.back.items c.put_waiting.new.hand.back.items hand.owners.items c.put_waiting.new.hand.owners.items
          hand.stages.items c.put_waiting.new.hand.stages.items put.waiting (ap (λ v. v.items) put.back) (ap (λ v. v.items) put.same.0) (ap (λ v. v.items) put.same.1)
          (hand-waits setup hand.waiting.items hand.back.items hand.owners.items hand.stages.items (view c.args.pass.now) w c.requires.hand.is_hand waiting c.index-owner.result.now made.0 at made.1
          c.in-Some.ensures.sound);
      all_run = subst AllRun (sym (ap (λ v. v.items) put.same.1)) c.requires.hand.all_run;
    }
