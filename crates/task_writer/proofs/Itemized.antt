-- Lines as items and as rows, each with its number.
use Rattle.task_writer.proofs.Vocabulary.{ℕ, ◌+◌, List, [], ◌∷◌, Row, What, Item, Word, item_at}

-- the lines as items, the first on line `at`
abbrev pub items_at : ℕ → List What → List Item
items_at at [] = []
items_at at (w ∷ ws) = record { line = at; what = w } ∷ items_at (at + 1) ws

-- lines of words as rows, the first on line `at`
abbrev pub numbered : ℕ → List (List Word) → List Row
numbered at [] = []
numbered at (line ∷ lines) = record { line = at; words = line } ∷ numbered (at + 1) lines

-- what holds of no items, and of one more before others, holds of all
pub by-items : (P : List Item → Type 0) → P [] → ((line : ℕ) (w : What) (items : List Item) → P items → P (item_at line w ∷ items)) → (items : List Item) → P items
by-items P none step [] = none
by-items P none step (item ∷ items) = step item.line item.what items (by-items P none step items)
