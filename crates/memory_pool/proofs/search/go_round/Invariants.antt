use Rattle.std.proofs.Common.{◌<◌}
use Rattle.step_table.specs.Passes.{view, plan}
use Rattle.memory_pool.proofs.Searching.{OnlySees}
use Rattle.memory_pool.proofs.Sounding.{SoundSince}
use Rattle.memory_pool.proofs.GoingRound.{LiesAhead, SawSoFar}
use Rattle.memory_pool.proofs.search.go_round.Given as goal

abbrev pub invariant-loop-turn : goal.invariant-loop-turn
invariant-loop-turn g l =
    let p = plan l.shared in let n = p.geometry.superblocks in
    OnlySees l.fn.pass l.pass × (l.superblock < n) × LiesAhead n l.start l.turn l.superblock × SawSoFar p l.class l.changes l.start l.turn (view l.fn.pass).looks (view l.pass).looks l.empty
    × SoundSince l.shared.setup l.turn (view l.fn.pass) (view l.pass)
