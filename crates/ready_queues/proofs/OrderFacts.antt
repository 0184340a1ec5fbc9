-- Two takes, one after the other.
use Rattle.std.proofs.Common.{ℕ, ◌≤◌, Option, Some, None, sym, subst, arith}
use Rattle.std.specs.Prelude.{⊤}
use Rattle.task_syntax.specs.declared.value.Priority.{Priority}
use Rattle.ready_queues.specs.declared.entry.Entry.{Entry}
use Rattle.ready_queues.specs.Entries.{IsAbove}
use Rattle.ready_queues.specs.Moments.{Moment, WasTaken, WasEmpty, Rose, InCall, EachWasEmpty, TellsTake, IsInTime}
use Rattle.ready_queues.specs.Order.{CameBetween, KeepsOrder}

-- what is above what is above or at a number is above it
rose_over : (low mid high : ℕ) → low ≤ mid → Rose mid high → Rose low high
rose_over low mid high below rose = omega (arith, below, rose)

-- what is above what is above a number is above it
rose_twice : (low mid high : ℕ) → Rose low mid → Rose mid high → Rose low high
rose_twice low mid high rose again = omega (arith, rose, again)

module _ {P : Type 0} (saw : P → Moment → Type 0) (number : P → ℕ) (in_time : (q : P) → IsInTime (number q) (saw q))
    (lanes begun : ℕ) (mid now : P) (rose : Rose begun (number mid)) where
  -- what was told in the second call was told after the first began
  since_first : (fact : Moment → Type 0) → InCall lanes (number mid) (saw now) fact → InCall lanes begun (saw now) fact
  since_first fact (m, told, after, lane, holds) = (m, told, rose_twice begun (number mid) m.number rose after, lane, holds)

  -- the same of what a take tells, by its answer
  pub told_since : (taken : Option Entry) → TellsTake lanes (number mid) (saw now) taken → TellsTake lanes begun (saw now) taken
  told_since None told = λ p lane any first. since_first (WasEmpty p lane) (told p lane any first)
  told_since (Some entry) told =
      (since_first (WasTaken entry) told.0, λ p lane above first. since_first (WasEmpty p lane) (told.1 p lane above first))

  -- an entry whose queue was empty in the first call, and that was taken in the second
  came_between : (which : Priority → Type 0) (entry : Entry) → which entry.priority → EachWasEmpty lanes begun (saw mid) which
      → InCall lanes (number mid) (saw now) (WasTaken entry) → CameBetween saw begun now entry
  came_between which entry is each (n, told, after, lane, taken) =
      let e = each n.priority n.lane (subst which (sym taken.0) is) lane in
      (mid, e.0, n, e.1, told, e.2, rose_over e.0.number (number mid) n.number (in_time mid e.0 e.1) after, e.4, taken)

  -- what two takes tell, by their answers
  pub told_in_order : (first second : Option Entry) → TellsTake lanes begun (saw mid) first
      → TellsTake lanes (number mid) (saw now) second → KeepsOrder saw begun now first second
  told_in_order first None told again = tt
  told_in_order None (Some entry) told again = λ over. came_between (λ p. ⊤) entry tt told again.0
  told_in_order (Some first) (Some entry) told again = λ over. came_between (λ p. IsAbove p first.priority) entry over told.1 again.0
