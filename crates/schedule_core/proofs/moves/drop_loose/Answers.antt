use Rattle.std.proofs.Common.{refl}
use Rattle.std.specs.Option.{option_to_list}
use Rattle.step_table.specs.Passes.{view}
use Rattle.schedule_core.proofs.MovedTasks.{may-look, may-drop_loose, drops-loose, left-in-step}
use Rattle.schedule_core.proofs.moves.drop_loose.Goals as goal

pub see_frame-requires : goal.see_frame-requires
see_frame-requires c = (c.requires.table, (refl, may-look c.args.shared.now.setup c.args.running.now (view c.args.pass.now) c.requires.loose.in_step c.requires.loose.single))

pub drop_if-requires-clause-may : goal.drop_if-requires-clause-may
drop_if-requires-clause-may c =
    may-drop_loose c.args.shared.now.setup c.args.running.now (option_to_list c.args.unit) (view c.args.pass.now) c.requires.loose (view c.see_frame.new.pass) c.see_frame.ensures.seen c.see_frame.ensures.sound.after

pub returns-clause-dropped : goal.returns-clause-dropped
returns-clause-dropped c =
    drops-loose c.args.shared.now.setup c.args.running.now (option_to_list c.args.unit) (view c.args.pass.now) c.requires.loose (view c.see_frame.new.pass) c.see_frame.ensures.seen (view c.drop_if.new.pass) c.drop_if.ensures.dropped

pub returns-clause-in_step : goal.returns-clause-in_step
returns-clause-in_step c =
    left-in-step c.args.shared.now.setup c.args.running.now (option_to_list c.args.unit) (view c.args.pass.now) c.requires.loose (view c.see_frame.new.pass) c.see_frame.ensures.seen (view c.drop_if.new.pass) c.drop_if.ensures.dropped
