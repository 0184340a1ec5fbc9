-- What is popped is the first of the highest queue that has one.
use Rattle.std.proofs.Common.{◌≡◌, ℕ, Option, Some, None, List, [], ◌∷◌, drop, slice_get, refl, sym, ap, ◌∙◌}
use Rattle.std.proofs.lemmas.Option.{none-some, same_Some}
use Rattle.circular_buffer.specs.Buffer.{Buffer, buffer}
use Rattle.run_model.specs.State.{first_queued}
use Rattle.plain_records.specs.Ready.{Takes, ready_of}

-- the first of the high queue
high_items : (items : List ℕ) (capacity : ℕ) (regular low : Buffer ℕ) (unit : ℕ) → Some unit ≡ slice_get items 0
    → Takes (ready_of (buffer items capacity) regular low) (Some unit) (ready_of (buffer (drop 1 items) capacity) regular low)
high_items [] capacity regular low unit e = absurd (none-some unit (sym e))
high_items (x ∷ xs) capacity regular low unit e = (record { high = xs; regular = regular.items; low = low.items }, ap (λ y. Some (y, record { high = xs; regular = regular.items; low = low.items })) (same_Some x unit (sym e)), refl)

pub high_taken : (high regular low new : Buffer ℕ) (unit : ℕ) → Some unit ≡ slice_get high.items 0 → new ≡ buffer (drop 1 high.items) high.capacity
    → Takes (ready_of high regular low) (Some unit) (ready_of new regular low)
high_taken high regular low new unit e after = rw after (high_items high.items high.capacity regular low unit e)

-- where nothing is popped, nothing was there, and nothing changes
none_there : (items : List ℕ) → None ≡ slice_get items 0 → items ≡ []
none_there [] e = refl
none_there (x ∷ xs) e = absurd (none-some x e)

same_buffer : (b new : Buffer ℕ) → b.items ≡ [] → new ≡ buffer (drop 1 b.items) b.capacity → new ≡ b
same_buffer b new none after = after ∙ ap (λ items. buffer (drop 1 items) b.capacity) none ∙ ap (λ items. buffer items b.capacity) (sym none)

-- the first of the regular queue, where the high one is empty
regular_items : (items : List ℕ) (capacity : ℕ) (high low : Buffer ℕ) (unit : ℕ) → high.items ≡ [] → Some unit ≡ slice_get items 0
    → Takes (ready_of high (buffer items capacity) low) (Some unit) (ready_of high (buffer (drop 1 items) capacity) low)
regular_items [] capacity high low unit none e = absurd (none-some unit (sym e))
regular_items (x ∷ xs) capacity high low unit none e = (record { high = high.items; regular = xs; low = low.items }, front, refl)
  where
    front : first_queued high.items (x ∷ xs) low.items ≡ Some (unit, record { high = high.items; regular = xs; low = low.items })
    front = rw none (ap (λ y. Some (y, record { high = []; regular = xs; low = low.items })) (same_Some x unit (sym e)))

pub regular_taken : (high regular low new_high new : Buffer ℕ) (unit : ℕ) → None ≡ slice_get high.items 0 → new_high ≡ buffer (drop 1 high.items) high.capacity
    → Some unit ≡ slice_get regular.items 0 → new ≡ buffer (drop 1 regular.items) regular.capacity → Takes (ready_of high regular low) (Some unit) (ready_of new_high new low)
regular_taken high regular low new_high new unit none after_high e after =
    rw (after, same_buffer high new_high (none_there high.items none) after_high) (regular_items regular.items regular.capacity high low unit (none_there high.items none) e)

-- what is popped of the low queue, where the others are empty
low_items : (items : List ℕ) (capacity : ℕ) (high regular : Buffer ℕ) (result : Option ℕ) → high.items ≡ [] → regular.items ≡ [] → result ≡ slice_get items 0
    → Takes (ready_of high regular (buffer items capacity)) result (ready_of high regular (buffer (drop 1 items) capacity))
low_items [] capacity high regular None none none_too e = (front, refl)
  where
    front : first_queued high.items regular.items [] ≡ None
    front = rw (none, none_too) refl
low_items [] capacity high regular (Some unit) none none_too e = absurd (none-some unit (sym e))
low_items (x ∷ xs) capacity high regular None none none_too e = absurd (none-some x e)
low_items (x ∷ xs) capacity high regular (Some unit) none none_too e = (record { high = high.items; regular = regular.items; low = xs }, front, refl)
  where
    front : first_queued high.items regular.items (x ∷ xs) ≡ Some (unit, record { high = high.items; regular = regular.items; low = xs })
    front = rw (none, none_too) (ap (λ y. Some (y, record { high = []; regular = []; low = xs })) (same_Some x unit (sym e)))

pub low_taken : (high regular low new_high new_regular new : Buffer ℕ) (result : Option ℕ) → None ≡ slice_get high.items 0 → new_high ≡ buffer (drop 1 high.items) high.capacity
    → None ≡ slice_get regular.items 0 → new_regular ≡ buffer (drop 1 regular.items) regular.capacity → result ≡ slice_get low.items 0 → new ≡ buffer (drop 1 low.items) low.capacity
    → Takes (ready_of high regular low) result (ready_of new_high new_regular new)
low_taken high regular low new_high new_regular new result none after_high none_too after_regular e after =
    rw (after, same_buffer high new_high (none_there high.items none) after_high, same_buffer regular new_regular (none_there regular.items none_too) after_regular)
    (low_items low.items low.capacity high regular result (none_there high.items none) (none_there regular.items none_too) e)
