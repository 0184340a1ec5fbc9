-- What a call without a lock tells follows from what its queues told.
use Rattle.std.proofs.Common.{◌≡◌, ℕ, ◌+◌, ◌-◌, ◌^◌, min, List, [], ◌∷◌, ◌++◌, ap, sym, refl, ◌∙◌, subst, inl, inr, arith}
use Rattle.std.specs.Prelude.{⊤}
use Rattle.crossbeam_queue.specs.Fifo.{Held}
use Rattle.task_syntax.specs.declared.value.Priority.{Priority}
use Rattle.task_syntax.specs.declared.value.Priority.TheVariants.{High, Regular, Low}
use Rattle.ready_queues.specs.declared.entry.Entry.{Entry}
use Rattle.ready_queues.specs.declared.entry.Item.{Item}
use Rattle.ready_queues.specs.declared.account.Hand.{Hand}
use Rattle.ready_queues.specs.declared.ruled_ready.Found.{Found}
use Rattle.ready_queues.specs.declared.ruled_ready.Found.TheVariants.{Nothing, Put, Full, Took, Dry}
use Rattle.ready_queues.specs.declared.ruled_ready.RuledReady.{RuledReady}
use Rattle.ready_queues.specs.declared.ruled_ready.RuledPass.{RuledPass}
use Rattle.ready_queues.specs.Account.{Agrees, Pushes, Takes, parted}
use Rattle.ready_queues.specs.Entries.{item_of, entries_at, IsAbove}
use Rattle.ready_queues.specs.Moments.{Moment, WasPushed, WasTaken, WasFull, WasEmpty, InCall, EachWasEmpty}
use Rattle.ready_queues.specs.Sights.{hand_of, room_of, PushesOne, TakesOne, SawEmpty, SawEmptyAbove, SawFull, SawAllEmpty, IsNoted, IsFound, IsAgreed, Tells}
use Rattle.ready_queues.proofs.AccountFacts.{agrees_parted}
use Rattle.ready_queues.proofs.EntryFacts.{entries_at-snoc, length-entries_at}

-- each queue was seen to be empty, whatever its priority
each_empty : (q : RuledPass) → SawAllEmpty q → (p : Priority) → SawEmpty q p
each_empty q all High = all.high
each_empty q all Regular = all.regular
each_empty q all Low = all.low

-- the pass now is that of the call, with the next number and what the call found
module _ (s : RuledReady) (begun : ℕ) (now : RuledPass) (rose : now.number ≡ min (begun + 1) (2 ^ 64 - 1)) where
  -- what the queue of a priority held, before and after
  moment_at : Priority → List Entry → List Entry → Moment
  moment_at p before after = record {
    number = now.number;
    priority = p;
    lane = 0;
    capacity = room_of s p;
    before = before;
    after = after;
  }

  -- a moment that was found is told of in this call
  told : (p : Priority) (before : List Entry) (items : List Item) (fact : Moment → Type 0) → Agrees (hand_of now p) items
      → IsFound now.found (hand_of now p) (moment_at p before (entries_at p items)) → fact (moment_at p before (entries_at p items))
      → InCall 1 begun (Tells s now) fact
  unfolding moment_at
  told p before items fact agreed found holds = (
    moment_at p before (entries_at p items),
    record { number = refl; lane = refl; capacity = refl; agreed = (items, refl, agreed); found = found },
    omega (arith, rose),
    omega arith,
    holds,
  )

  pub told_push : (entry : Entry) (v : Hand) → now.found ≡ Put entry → Pushes v (item_of entry) (hand_of now entry.priority)
      → InCall 1 begun (Tells s now) (WasPushed entry)
  unfolding moment_at
  told_push entry v found (items, is, agreed) =
      let p = entry.priority in
      let pushed : WasPushed entry (moment_at p (entries_at p items) (entries_at p (items ++ item_of entry ∷ []))) = (refl, entries_at-snoc entry items) in
      told p (entries_at p items) (items ++ item_of entry ∷ []) (WasPushed entry) agreed
      (subst (λ f. IsFound f (hand_of now p) (moment_at p (entries_at p items) (entries_at p (items ++ item_of entry ∷ [])))) (sym found)
      (pushed, ap (λ (h : Hand). entries_at p h.held) (sym is)))
      pushed

  pub told_full : (p : Priority) → now.found ≡ Full p → SawFull s now p → InCall 1 begun (Tells s now) (WasFull p)
  unfolding moment_at
  told_full p found (items, long, agreed) =
      let full : WasFull p (moment_at p (entries_at p items) (entries_at p items)) = (refl, length-entries_at p items ∙ long, refl) in
      told p (entries_at p items) items (WasFull p) agreed
      (subst (λ f. IsFound f (hand_of now p) (moment_at p (entries_at p items) (entries_at p items))) (sym found) full)
      full

  pub told_take : (entry : Entry) (v : Hand) → now.found ≡ Took entry → Takes v (item_of entry) (hand_of now entry.priority)
      → InCall 1 begun (Tells s now) (WasTaken entry)
  unfolding moment_at
  told_take entry v found (rest, is, agreed) =
      let p = entry.priority in
      let taken : WasTaken entry (moment_at p (entry ∷ entries_at p rest) (entries_at p rest)) = (refl, refl) in
      told p (entry ∷ entries_at p rest) rest (WasTaken entry) agreed
      (subst (λ f. IsFound f (hand_of now p) (moment_at p (entry ∷ entries_at p rest) (entries_at p rest))) (sym found)
      (inl (taken, ap (λ (h : Hand). entries_at p h.held) (sym is))))
      taken

  pub told_higher : (entry : Entry) → now.found ≡ Took entry → SawEmptyAbove now entry.priority
      → EachWasEmpty 1 begun (Tells s now) (λ p. IsAbove p entry.priority)
  unfolding moment_at
  told_higher entry found empty p lane above first =
      told p [] [] (WasEmpty p lane) (empty p above)
      (subst (λ f. IsFound f (hand_of now p) (moment_at p [] [])) (sym found) (inr (above, refl, refl)))
      (refl, omega arith, refl, refl)

  pub told_dry : now.found ≡ Dry → SawAllEmpty now → EachWasEmpty 1 begun (Tells s now) (λ p. ⊤)
  unfolding moment_at
  told_dry found empty p lane any first =
      told p [] [] (WasEmpty p lane) (each_empty now empty p)
      (subst (λ f. IsFound f (hand_of now p) (moment_at p [] [])) (sym found) (refl, refl))
      (refl, omega arith, refl, refl)

-- the pass after a call keeps what the pass knew when the queues had told it, with the next number and what was found
module _ (s : RuledReady) (old mid now : RuledPass) (found : Found) (same : mid.number ≡ old.number)
    (noted : IsNoted mid now found) where
  rose : now.number ≡ min (old.number + 1) (2 ^ 64 - 1)
  rose = ap (λ (q : RuledPass). q.number) noted ∙ ap (λ n. min (n + 1) (2 ^ 64 - 1)) same

  is_found : now.found ≡ found
  is_found = ap (λ (q : RuledPass). q.found) noted

  hands : (p : Priority) → hand_of now p ≡ hand_of mid p
  hands High = ap (λ (q : RuledPass). hand_of q High) noted
  hands Regular = ap (λ (q : RuledPass). hand_of q Regular) noted
  hands Low = ap (λ (q : RuledPass). hand_of q Low) noted

  empty : (p : Priority) → SawEmpty mid p → SawEmpty now p
  empty p saw = subst (λ (h : Hand). Agrees h []) (sym (hands p)) saw

  pub noted_push : (entry : Entry) → found ≡ Put entry → PushesOne entry old mid → InCall 1 old.number (Tells s now) (WasPushed entry)
  noted_push entry e pushes =
      told_push s old.number now rose entry (hand_of old entry.priority) (is_found ∙ e)
      (subst (λ (h : Hand). Pushes (hand_of old entry.priority) (item_of entry) h) (sym (hands entry.priority)) pushes.here)

  pub noted_full : (p : Priority) → found ≡ Full p → SawFull s mid p → InCall 1 old.number (Tells s now) (WasFull p)
  noted_full p e full =
      told_full s old.number now rose p (is_found ∙ e) (subst (λ (h : Hand). Held (room_of s p) (Agrees h)) (sym (hands p)) full)

  pub noted_take : (entry : Entry) → found ≡ Took entry → TakesOne entry old mid → InCall 1 old.number (Tells s now) (WasTaken entry)
  noted_take entry e takes =
      told_take s old.number now rose entry (hand_of old entry.priority) (is_found ∙ e)
      (subst (λ (h : Hand). Takes (hand_of old entry.priority) (item_of entry) h) (sym (hands entry.priority)) takes.here)

  pub noted_higher : (entry : Entry) → found ≡ Took entry → SawEmptyAbove mid entry.priority
      → EachWasEmpty 1 old.number (Tells s now) (λ p. IsAbove p entry.priority)
  noted_higher entry e saw = told_higher s old.number now rose entry (is_found ∙ e) (λ p above. empty p (saw p above))

  pub noted_dry : found ≡ Dry → SawAllEmpty mid → EachWasEmpty 1 old.number (Tells s now) (λ p. ⊤)
  noted_dry e saw =
      told_dry s old.number now rose (is_found ∙ e)
      (record { high = empty High saw.high; regular = empty Regular saw.regular; low = empty Low saw.low })

-- what was found by a hand was found by what is left of it
found_parted : (found : Found) (v : Hand) (m : Moment) → IsFound found v m → IsFound found (parted v) m
found_parted Nothing v m told = told
found_parted (Put entry) v m told = told
found_parted (Full p) v m told = told
found_parted (Took entry) v m told = told
found_parted Dry v m told = told

-- what holds of each priority
by_priority : (P : Priority → Type 0) → P High → P Regular → P Low → (p : Priority) → P p
by_priority P high regular low High = high
by_priority P high regular low Regular = regular
by_priority P high regular low Low = low

-- the first pass of a split tells what was told
pub told_parted : (s : RuledReady) (q r : RuledPass) (m : Moment) → r.number ≡ q.number → r.found ≡ q.found
    → hand_of r High ≡ parted (hand_of q High) → hand_of r Regular ≡ parted (hand_of q Regular) → hand_of r Low ≡ parted (hand_of q Low)
    → Tells s q m → Tells s r m
told_parted s q r m number found high regular low told =
    let hands = by_priority (λ p. hand_of r p ≡ parted (hand_of q p)) high regular low in
    let v : Hand = hand_of q m.priority in
    let agreed : IsAgreed (parted v) m = (told.agreed.0, told.agreed.1, agrees_parted v told.agreed.0 told.agreed.2) in
    record {
      number = told.number ∙ sym number;
      lane = told.lane;
      capacity = told.capacity;
      agreed = subst (λ (h : Hand). IsAgreed h m) (sym (hands m.priority)) agreed;
      found = subst (λ (y : Found × Hand). IsFound y.0 y.1 m) (λ i. (sym found i, sym (hands m.priority) i)) (found_parted q.found v m told.found);
    }
