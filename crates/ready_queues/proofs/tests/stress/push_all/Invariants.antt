use Rattle.ready_queues.proofs.tests.stress.push_all.Given as goal

abbrev pub invariant-loop-number : goal.invariant-loop-number
invariant-loop-number g l = g.Q.ReadyStore.is_pass l.store l.qpass
