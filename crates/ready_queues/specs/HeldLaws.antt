-- What a pass of the store under a lock tells.
use Rattle.std.proofs.Common.{length, Option, Some, None, arith, ap, sym, ◌∙◌}
use Rattle.ready_queues.specs.declared.mutex_ready.MutexReady.{MutexReady}
use Rattle.ready_queues.specs.declared.mutex_ready.MutexPass.{MutexPass}
use Rattle.ready_queues.specs.declared.mutex_ready.Look.{Look}
use Rattle.ready_queues.specs.Moments.{Moment, IsSameLook, AsMany, IsInTime, IsConsistent}
use Rattle.ready_queues.specs.Held.{TellsHeld, IsMomentOf, held}
use Rattle.ready_queues.specs.Entries.{entries_at}
use Rattle.std.specs.Prelude.{IsSomeAnd}

-- no moment after the pass's number is told of
pub seen_in_time : (s : MutexReady) (q : MutexPass) → IsInTime q.number (TellsHeld q)
seen_in_time s q m told = omega (arith, told.0)

module _ (m n : Moment) (same : IsSameLook m n) where
  -- two moments of one look at one queue hold the same
  of_one_look : (last : Option Look) → IsSomeAnd last (IsMomentOf m) → IsSomeAnd last (IsMomentOf n) → AsMany m n
  of_one_look None told again = absurd told
  of_one_look (Some look) told again = (
    ap length (told.2 ∙ ap (λ p. entries_at p (held look.before.value p)) same.1 ∙ sym again.2),
    ap length (told.3 ∙ ap (λ p. entries_at p (held look.after.value p)) same.1 ∙ sym again.3),
  )

-- of one queue at one moment one number of entries is told
pub one_look : (s : MutexReady) (q : MutexPass) → IsConsistent (TellsHeld q)
one_look s q m n told again same = of_one_look m n same q.last told.1 again.1
