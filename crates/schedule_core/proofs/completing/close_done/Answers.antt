use Rattle.std.proofs.Common.{refl}
use Rattle.future_refs.proofs.Dropping.{has-back}
use Rattle.schedule_core.proofs.Completions.{may-give, retires-last, closes-none, closes-some}
use Rattle.schedule_core.proofs.completing.close_done.Goals as goal

pub live_down-requires-clause-may : goal.live_down-requires-clause-may
live_down-requires-clause-may c = let m = c.requires.may in record { done = m.done; at = m.at; closed = m.closed; counted = m.counted }

pub give_up-requires-clause-may : goal.give_up-requires-clause-may
give_up-requires-clause-may c = may-give c.args.shared.now.setup.plan c.args.finishing.unit c.args.pass.now c.live_down.new.pass c.requires.may c.live_down.ensures.count

pub retire-block-requires-clause-hand : goal.retire-block-requires-clause-hand
retire-block-requires-clause-hand c =
    retires-last c.args.shared.now.setup.plan c.args.finishing.unit c.live_down.new.pass c.give_up.new.pass c.args.finishing c.in-Some.retiring c.requires.may.at.near refl c.in-Some.ensures.view

pub release_block-requires-clause-hand : goal.release_block-requires-clause-hand
release_block-requires-clause-hand c =
    has-back c.args.shared.now.setup.plan c.in-Some.retiring c.give_up.new.pass c.retire-block.result c.retire-block.new.pass c.retire-block.ensures.block

pub returns-in-None-clause-closed : goal.returns-in-None-clause-closed
returns-in-None-clause-closed c =
    closes-none c.args.finishing.unit c.args.pass.now c.live_down.new.pass c.give_up.new.pass c.args.finishing refl c.live_down.ensures.count c.in-None.ensures.view

pub returns-in-Some-clause-closed : goal.returns-in-Some-clause-closed
returns-in-Some-clause-closed c =
    closes-some c.args.shared.now.setup.plan c.args.finishing.unit c.args.pass.now c.live_down.new.pass c.give_up.new.pass c.retire-block.new.pass c.release_block.new.pass c.args.finishing c.in-Some.retiring c.retire-block.result refl
    c.live_down.ensures.count c.in-Some.ensures.view c.retire-block.ensures.block c.release_block.ensures.view
