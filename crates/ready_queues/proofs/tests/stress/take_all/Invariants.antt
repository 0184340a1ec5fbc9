use Rattle.ready_queues.proofs.tests.stress.take_all.Given as goal

abbrev pub invariant-loop : goal.invariant-loop
invariant-loop g l = g.Q.ReadyStore.is_pass l.store l.qpass
