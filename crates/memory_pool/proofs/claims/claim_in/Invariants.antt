use Rattle.std.proofs.Common.{◌≡◌, ◌<◌}
use Rattle.step_table.specs.Passes.{view}
use Rattle.memory_pool.proofs.Searching.{OnlySees}
use Rattle.memory_pool.proofs.Sounding.{SoundSince}
use Rattle.memory_pool.proofs.claims.claim_in.Given as goal

abbrev pub invariant-loop : goal.invariant-loop
invariant-loop g l =
    (goal.iterator-loop g).can_next l.iterator' × (goal.iterator-loop g).is_finite l.iterator' × OnlySees l.fn.pass l.pass × (l.reserved ≡ l.fn.reserved) × (l.bit < l.room)
    × SoundSince l.shared.setup 0 (view l.fn.pass) (view l.pass)
