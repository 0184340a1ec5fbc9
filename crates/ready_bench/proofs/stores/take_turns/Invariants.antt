use Rattle.ready_bench.proofs.stores.take_turns.Given as goal

abbrev pub invariant-loop-round : goal.invariant-loop-round
invariant-loop-round g l = g.Q.ReadyStore.is_pass l.store l.qpass
