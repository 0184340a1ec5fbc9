use Rattle.std.proofs.Common.{All}
use Rattle.ready_bench.proofs.stores.passes.Given as goal

abbrev pub invariant-loop-pass : goal.invariant-loop-pass
invariant-loop-pass g l =
    g.Q.ReadyStore.is_pass l.store l.last × g.Q.ReadyStore.may_split l.last
    × All (λ q. g.Q.ReadyStore.is_pass l.store q) l.passes.items
