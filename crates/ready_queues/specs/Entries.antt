-- Entries, and the items that stand for them in a queue.
use Rattle.std.specs.Prelude.{ℕ, ◌<◌, List, map}
use Rattle.task_syntax.specs.declared.value.Priority.{Priority}
use Rattle.task_syntax.specs.declared.value.Priority.TheVariants.{High, Regular, Low}
use Rattle.ready_queues.specs.declared.entry.Entry.{Entry}
use Rattle.ready_queues.specs.declared.entry.Item.{Item}

-- how many priorities are higher
abbrev pub rank : Priority → ℕ
rank High = 0
rank Regular = 1
rank Low = 2

-- the first priority is higher than the second
abbrev pub IsAbove : Priority → Priority → Type 0
IsAbove higher lower = rank higher < rank lower

abbrev pub item_of : Entry → Item
item_of entry = record { unit = entry.unit; number = entry.number }

abbrev pub entry_at : Priority → Item → Entry
entry_at priority item = record { unit = item.unit; number = item.number; priority = priority }

-- what a queue of this priority holds, as entries
abbrev pub entries_at : Priority → List Item → List Entry
entries_at priority items = map (entry_at priority) items
