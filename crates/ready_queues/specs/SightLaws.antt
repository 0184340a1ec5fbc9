-- Laws of what a pass of the store without a lock tells.
use Rattle.std.specs.Prelude.{◌≡◌, length, List, [], ◌∷◌, ◌++◌, true}
use Rattle.std.proofs.Common.{arith, ap, sym, ◌∙◌, subst, inl, inr}
use Rattle.task_syntax.specs.declared.value.Priority.{Priority}
use Rattle.ready_queues.specs.declared.entry.Entry.{Entry}
use Rattle.ready_queues.specs.declared.entry.Item.{Item}
use Rattle.ready_queues.specs.declared.account.Hand.{Hand}
use Rattle.ready_queues.specs.declared.ruled_ready.Found.{Found}
use Rattle.ready_queues.specs.declared.ruled_ready.Found.TheVariants.{Nothing, Put, Full, Took, Dry}
use Rattle.ready_queues.specs.declared.ruled_ready.RuledReady.{RuledReady}
use Rattle.ready_queues.specs.declared.ruled_ready.RuledPass.{RuledPass}
use Rattle.ready_queues.specs.Account.{Agrees}
use Rattle.ready_queues.specs.Entries.{entries_at, rank, IsAbove}
use Rattle.ready_queues.specs.Moments.{Moment, AsMany, IsInTime, IsConsistent}
use Rattle.ready_queues.specs.Sights.{hand_of, room_of, IsFound, Tells}

-- the only pass of a queue knows what it holds: what it pushed is what it took, and then that
abbrev pub SoleKnows : Type 0
SoleKnows = (hand : Hand) (items : List Item) → Agrees hand items → hand.alone ≡ true → hand.pushed ≡ hand.took ++ items

-- no moment after the pass's number is told of
pub told_in_time : (s : RuledReady) (q : RuledPass) → IsInTime q.number (Tells s q)
told_in_time s q m told = omega (arith, told.number)

module _ (v : Hand) (m n : Moment) (priority : m.priority ≡ n.priority) (room : m.capacity ≡ n.capacity) where
  -- two lists that are the same items, at priorities that are the same
  held_alike : m.before ≡ entries_at m.priority v.held → n.before ≡ entries_at n.priority v.held → m.before ≡ n.before
  held_alike told again = told ∙ ap (λ p. entries_at p v.held) priority ∙ sym again

  -- a queue is not of its own priority and of a lower one
  not_above : (p : Priority) → m.priority ≡ p → IsAbove n.priority p → ⊥
  not_above p own above = let e : rank n.priority ≡ rank p = ap rank (sym priority ∙ own) in omega (arith, e)

  not_above' : (p : Priority) → n.priority ≡ p → IsAbove m.priority p → ⊥
  not_above' p own above = let e : rank m.priority ≡ rank p = ap rank (priority ∙ own) in omega (arith, e)

  -- what a take found of one queue is one number of entries
  taken_alike : (entry : Entry) → IsFound (Took entry) v m → IsFound (Took entry) v n → AsMany m n
  taken_alike entry (inl told) (inl again) =
      let before = held_alike told.1 again.1 in
      (ap length before, omega (arith, ap length told.0.1, ap length before, ap length again.0.1))
  taken_alike entry (inl told) (inr again) = absurd (not_above entry.priority told.0.0 again.0)
  taken_alike entry (inr told) (inl again) = absurd (not_above' entry.priority again.0.0 told.0)
  taken_alike entry (inr told) (inr again) = (ap length (told.1 ∙ sym again.1), ap length (told.2 ∙ sym again.2))

  -- what one call found of one queue is one number of entries
  found_alike : (found : Found) → IsFound found v m → IsFound found v n → AsMany m n
  found_alike Nothing told again = absurd told
  found_alike (Put entry) told again =
      let before = held_alike told.1 again.1 in
      (ap length before, ap length (told.0.1 ∙ ap (λ l. l ++ entry ∷ []) before ∙ sym again.0.1))
  found_alike (Full p) told again =
      let before = told.1 ∙ room ∙ sym again.1 in (before, ap length told.2 ∙ before ∙ sym (ap length again.2))
  found_alike (Took entry) told again = taken_alike entry told again
  found_alike Dry told again = (ap length (told.0 ∙ sym again.0), ap length (told.1 ∙ sym again.1))

-- of one queue at one moment one number of entries is told
pub told_alike : (s : RuledReady) (q : RuledPass) → IsConsistent (Tells s q)
told_alike s q m n told again same =
    found_alike (hand_of q m.priority) m n same.1 (told.capacity ∙ ap (room_of s) same.1 ∙ sym again.capacity) q.found told.found
    (subst (λ p. IsFound q.found (hand_of q p) n) (sym same.1) again.found)
