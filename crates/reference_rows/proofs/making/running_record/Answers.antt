use Rattle.std.proofs.Common.{refl, subst}
use Rattle.step_table.specs.Passes.{view, plan}
use Rattle.step_table.specs.TakingSteps.{TakesRecord}
use Rattle.reference_rows.proofs.MakingFacts.{runs}
use Rattle.reference_rows.proofs.making.running_record.Goals as goal

pub returns-in-Ok-clause-run : goal.returns-in-Ok-clause-run
returns-in-Ok-clause-run g c =
    let ready = c.in_ok-ready.ready in let t = c.in-Ok.ensures in
    let taken = subst (λ u. TakesRecord c.args.shared.now.setup u ready c.ready_record.new.pass c.in-Ok.started c.take_ready.new.pass) c.unit.ensures t.taken in
    runs c.args.shared.now.setup c.requires.maker.plain.0 c.in_ok-ready.future.unit ready.number ready c.ready_record.new.pass c.take_ready.new.pass c.in-Ok.started (view c.args.pass.now)
    c.in_ok-ready.ensures.record refl taken t.sound.after
