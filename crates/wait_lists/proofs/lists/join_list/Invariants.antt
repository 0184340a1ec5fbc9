use Rattle.std.proofs.Common.{◌≡◌}
use Rattle.step_table.specs.Passes.{view, IsSame}
use Rattle.step_table.specs.Sound.{AreSound}
use Rattle.wait_lists.proofs.JoinFacts.{IsJoining, tries_left}
use Rattle.wait_lists.proofs.lists.join_list.Given as goal

abbrev pub invariant-tries : goal.invariant-tries
invariant-tries l = record {
  same : IsSame l.fn.pass l.pass;
  sound : AreSound l.shared.setup (view l.fn.pass) (view l.pass);
  waiter : l.waiter ≡ l.fn.waiter;
  joining : IsJoining l.shared.setup.plan l.predecessor.unit l.fn.waiter.unit (view l.fn.pass) (view l.pass) l.seen;
}

abbrev pub decreases-tries : goal.decreases-tries
decreases-tries l = tries_left l.shared.setup.plan l.seen
