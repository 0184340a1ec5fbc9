use Rattle.ktask_cli.specs.RunStatus.{is_null, is_limit, is_trap}
use Rattle.ktask_cli.proofs.RootsSeen.{IsSeenUpTo}
use Rattle.ktask_cli.proofs.run_status.status_of_ends.Given as goal

abbrev pub invariant-roots : goal.invariant-roots
invariant-roots g l = record {
  null : IsSeenUpTo is_null (g.E.Ended.seen l.end).roots l.at l.null;
  limit : IsSeenUpTo is_limit (g.E.Ended.seen l.end).roots l.at l.limit;
  trap : IsSeenUpTo is_trap (g.E.Ended.seen l.end).roots l.at l.trap;
}
