-- What a call under the lock tells follows from what the locked queues were and became.
use Rattle.std.proofs.Common.{◌≡◌, ℕ, ◌<◌, [], Option, Some, None, arith, ap, sym, refl, ◌∙◌}
use Rattle.std.specs.Prelude.{IsSomeAnd, ⊤, Result, Ok, Err, OnOk, OnErr, IfErr, IfSome, IfNone}
use Rattle.task_syntax.specs.declared.value.Priority.{Priority}
use Rattle.ready_queues.specs.declared.entry.Entry.{Entry}
use Rattle.ready_queues.specs.declared.mutex_ready.Queues.{Queues}
use Rattle.ready_queues.specs.declared.mutex_ready.Look.{Look}
use Rattle.ready_queues.specs.declared.mutex_ready.MutexPass.{MutexPass}
use Rattle.ready_queues.specs.Entries.{entries_at, IsAbove}
use Rattle.ready_queues.specs.Moments.{Moment, WasPushed, WasTaken, WasFull, WasEmpty, InCall, EachWasEmpty, TellsPush, TellsTake}
use Rattle.ready_queues.specs.Held.{held, room, Gains, Loses, Refuses, IsDry, Notes, IsLookAt, IsMomentOf, TellsHeld}
use Rattle.ready_queues.proofs.EntryFacts.{entries_at-snoc, length-entries_at, above_differs}

module _ (pass now : MutexPass) (old new : Queues) (notes : Notes pass now old new) where
  -- the moment at which the queue of a priority was looked at
  moment_at : Priority → Moment
  moment_at p = record {
    number = now.number;
    priority = p;
    lane = 0;
    capacity = room old p;
    before = entries_at p (held old p);
    after = entries_at p (held new p);
  }

  -- a look at these queues is a look at this moment
  looked : (p : Priority) (last : Option Look) → IsSomeAnd last (IsLookAt old new) → IsSomeAnd last (IsMomentOf (moment_at p))
  unfolding moment_at
  looked p None look = absurd look
  looked p (Some l) look =
      (refl, sym (ap (λ q. room q p) look.0), sym (ap (λ q. entries_at p (held q p)) look.0), sym (ap (λ q. entries_at p (held q p)) look.1))

  -- what holds at the moment of one queue was told in this call
  told : (p : Priority) (fact : Moment → Type 0) → fact (moment_at p) → InCall 1 pass.number (TellsHeld now) fact
  unfolding moment_at
  told p fact holds = (moment_at p, (refl, looked p now.last notes.look), omega (arith, notes.number), omega arith, holds)

  told_push : (entry : Entry) → Gains old new entry → InCall 1 pass.number (TellsHeld now) (WasPushed entry)
  unfolding moment_at
  told_push entry gains =
      told entry.priority (WasPushed entry) (refl, ap (entries_at entry.priority) gains.here ∙ entries_at-snoc entry (held old entry.priority))

  told_full : (p : Priority) → Refuses old new p → InCall 1 pass.number (TellsHeld now) (WasFull p)
  unfolding moment_at
  told_full p refuses =
      told p (WasFull p) (refl, length-entries_at p (held old p) ∙ refuses.full, ap (entries_at p) (refuses.same.all p))

  told_take : (entry : Entry) → Loses old new entry → InCall 1 pass.number (TellsHeld now) (WasTaken entry)
  unfolding moment_at
  told_take entry loses = told entry.priority (WasTaken entry) (refl, ap (entries_at entry.priority) loses.front)

  -- a queue that was empty and stayed so is told to be empty
  told_empty : (p : Priority) (lane : ℕ) → lane < 1 → held old p ≡ [] → held new p ≡ held old p
      → InCall 1 pass.number (TellsHeld now) (WasEmpty p lane)
  unfolding moment_at
  told_empty p lane first empty stays =
      told p (WasEmpty p lane) (refl, omega arith, ap (entries_at p) empty, ap (entries_at p) (stays ∙ empty))

  told_higher : (entry : Entry) → Loses old new entry
      → EachWasEmpty 1 pass.number (TellsHeld now) (λ p. IsAbove p entry.priority)
  told_higher entry loses p lane above first =
      told_empty p lane first (loses.higher p above) (loses.change.others p (above_differs p entry.priority above))

  told_dry : IsDry old new → EachWasEmpty 1 pass.number (TellsHeld now) (λ p. ⊤)
  told_dry dry p lane any first = told_empty p lane first (dry.empty p) (dry.same.all p)

  -- what a push tells, by its answer
  pub told_by_push : (entry : Entry) (pushed : Result (Unit {0}) Entry) → OnOk pushed (Gains old new entry) → IfErr pushed (λ back. back ≡ entry)
      → OnErr pushed (Refuses old new entry.priority) → TellsPush 1 pass.number (TellsHeld now) entry pushed
  told_by_push entry (Ok _) gains same refuses = told_push entry gains
  told_by_push entry (Err back) gains same refuses = (same, told_full entry.priority refuses)

  -- what a take tells, by its answer
  pub told_by_take : (taken : Option Entry) → IfSome taken (Loses old new) → IfNone taken (IsDry old new)
      → TellsTake 1 pass.number (TellsHeld now) taken
  told_by_take None loses dry = told_dry dry
  told_by_take (Some entry) loses dry = (told_take entry loses, told_higher entry loses)
