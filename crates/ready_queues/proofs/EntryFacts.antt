-- Entries and the items that stand for them.
use Rattle.std.proofs.Common.{◌≡◌, ◌≢◌, length, List, [], ◌∷◌, ◌++◌, arith, ap, refl, suc}
use Rattle.task_syntax.specs.declared.value.Priority.{Priority}
use Rattle.ready_queues.specs.declared.entry.Entry.{Entry}
use Rattle.ready_queues.specs.declared.entry.Item.{Item}
use Rattle.ready_queues.specs.Entries.{entries_at, entry_at, item_of, rank, IsAbove}

-- an item more at the back is an entry more at the back
pub entries_at-snoc : (entry : Entry) (items : List Item)
    → entries_at entry.priority (items ++ item_of entry ∷ []) ≡ entries_at entry.priority items ++ entry ∷ []
entries_at-snoc entry [] = refl
entries_at-snoc entry (x ∷ xs) = ap (λ l. entry_at entry.priority x ∷ l) (entries_at-snoc entry xs)

-- there are as many entries as items
pub length-entries_at : (p : Priority) (items : List Item) → length (entries_at p items) ≡ length items
length-entries_at p [] = refl
length-entries_at p (x ∷ xs) = ap (λ n. suc n) (length-entries_at p xs)

-- a higher priority is another one
pub above_differs : (p q : Priority) → IsAbove p q → p ≢ q
above_differs p q above same = let e : rank p ≡ rank q = ap rank same in absurd (omega arith)
