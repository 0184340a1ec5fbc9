use Rattle.std.proofs.Common.{option_copied, inl, inr, refl}
use Rattle.std.proofs.lemmas.Result.{err_from_is_err_and}
use Rattle.ktask_cli.specs.Ready.{valid_under, columns_under}
use Rattle.tool_words.specs.Choice.{run_seen}
use Rattle.ktask_cli.specs.Order.{order_of}
use Rattle.ktask_cli.proofs.RunEnded.{run_ended}
use Rattle.ktask_cli.proofs.Causes.{Pairs, Behind}
use Rattle.ktask_cli.proofs.Plans.{goes_on, stops_both, judges, stops}
use Rattle.ktask_cli.proofs.run.fetch_and_run.Goals as goal

pub returns-in_err-checked-clause-follows : goal.returns-in_err-checked-clause-follows
returns-in_err-checked-clause-follows g c = let p = err_from_is_err_and c.from_residual.result c.from_residual.ensures.1 in
    rw (p.1, p.2) (stops_both (valid_under c.args.run.now.program.now) (Behind (option_copied c.args.run.now.columns)) _ _ _ c.in_err-checked.ensures)

pub returns-in_err-columns-clause-follows : goal.returns-in_err-columns-clause-follows
returns-in_err-columns-clause-follows g c = let p = err_from_is_err_and c.from_residual-in_err-columns.result c.from_residual-in_err-columns.ensures.1 in
    rw (p.1, p.2) (goes_on (valid_under c.args.run.now.program.now) (Behind (option_copied c.args.run.now.columns)) _ _ _ c.in_ok-checked.checked _ c.in_ok-checked.ensures
    (stops (columns_under (option_copied c.args.run.now.columns)) (Pairs c.in_ok-checked.checked) _ _ _ c.in_err-columns.ensures))

pub returns-in-Err-clause-follows : goal.returns-in-Err-clause-follows
returns-in-Err-clause-follows g c = goes_on (valid_under c.args.run.now.program.now) (Behind (option_copied c.args.run.now.columns)) _ _ _ c.in_ok-checked.checked _ c.in_ok-checked.ensures
    (judges (columns_under (option_copied c.args.run.now.columns)) (Pairs c.in_ok-checked.checked) _ _ c.in_ok-columns.columns _ c.in_ok-columns.ensures (inl refl))

pub returns-in-Ok-clause-follows : goal.returns-in-Ok-clause-follows
returns-in-Ok-clause-follows g c = goes_on (valid_under c.args.run.now.program.now) (Behind (option_copied c.args.run.now.columns)) _ _ _ c.in_ok-checked.checked _ c.in_ok-checked.ensures
    (judges (columns_under (option_copied c.args.run.now.columns)) (Pairs c.in_ok-checked.checked) _ _ c.in_ok-columns.columns _ c.in_ok-columns.ensures (inr refl))

pub returns-in-Ok-clause-run : goal.returns-in-Ok-clause-run
returns-in-Ok-clause-run g c =
    run_ended (order_of (run_seen c.args.run.now) (c.in_ok-checked.checked, c.in_ok-columns.columns)) c.in_ok-checked.checked c.in_ok-columns.columns _ c.in-Ok.end
    refl refl c.run_plan-plan.ensures.plan
    (record {
      formed = c.run_plan-plan.ensures.formed;
      sound = c.in-Ok.ensures.sound;
      faithful = c.in-Ok.ensures.faithful;
      answers = c.in-Ok.ensures.answers;
      complete = c.in-Ok.ensures.complete;
      counts = c.in-Ok.ensures.counts;
    })
