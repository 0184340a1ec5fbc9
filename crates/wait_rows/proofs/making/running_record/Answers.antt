use Rattle.wait_rows.proofs.making.running_record.Goals as goal
use Rattle.std.proofs.Common.{ℕ, subst}
use Rattle.step_table.specs.Passes.{view}
use Rattle.step_table.specs.TakingSteps.{TakesRecord}
use Rattle.wait_rows.proofs.MakingFacts.{runs-made}

pub returns-in-Ok-clause-run : goal.returns-in-Ok-clause-run
returns-in-Ok-clause-run g c =
    let setup = c.args.shared.now.setup in let ready = c.in-Some.ready in let old = c.ready_record.new.pass in let new = c.take_ready.new.pass in
    let taken = subst (λ (u : ℕ). TakesRecord setup u ready old c.in-Ok.started new) c.unit.ensures c.in-Ok.ensures.taken in
    runs-made setup c.in-Some.future.unit ready (view c.args.pass.now) old new c.in-Ok.started c.in-Some.ensures.record taken c.in-Ok.ensures.sound.after
