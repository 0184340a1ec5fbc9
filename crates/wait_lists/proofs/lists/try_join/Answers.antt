use Rattle.wait_lists.proofs.lists.try_join.Goals as goal
use Rattle.step_table.specs.Passes.{view}
use Rattle.wait_lists.proofs.JoinFacts.{may-push}

pub push_head-requires-clause-may : goal.push_head-requires-clause-may
push_head-requires-clause-may c =
    let linked = c.link.ensures.view in
    may-push c.args.shared.now.setup.plan c.args.future.now.unit c.args.waiter.unit linked.found c.args.seen (view c.args.pass.now) (view c.link.new.pass) c.requires.may linked.view_is

pub returns-clause-sound : goal.returns-clause-sound
returns-clause-sound c = record { before = c.link.ensures.sound.before; after = c.push_head.ensures.sound.after }
