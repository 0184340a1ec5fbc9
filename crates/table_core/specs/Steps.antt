-- What a step tells of the view.
use Rattle.std.specs.Prelude.{◌≡◌, ℕ, ◌/◌, ◌%◌, ◌^◌, ◌⊎◌, List, ◌∷◌}
use Rattle.atomic_table.specs.Table.{Me}
use Rattle.table_core.specs.Addresses.{Addr, state}
use Rattle.table_core.specs.Holdings.{Placing}
use Rattle.table_core.specs.declared.view.View.{View}

-- a compare and exchange: the new view where it found the word that it expected, and else the old one
abbrev pub Tried : ℕ → View → View → ℕ → View → Type 0
Tried expected old won found new = (found ≡ expected → new ≡ won) × (¬ (found ≡ expected) → new ≡ old)

-- a bit of a word is set: the new view where it was clear, and else the old one
abbrev pub WonBit : ℕ → View → View → ℕ → View → Type 0
WonBit b old won found new = (found / 2 ^ (b % 64) % 2 ≡ 0 → new ≡ won) × (found / 2 ^ (b % 64) % 2 ≡ 1 → new ≡ old)

-- the record at u has a number from now on: its state word and its frame
abbrev pub placing : ℕ → ℕ → List ℕ → Placing
placing u word words = record { unit = u; word = word; words = words }

-- A step adds nothing to what the pass placed, or one placing: then it has written that state word.
abbrev pub LogsWritten : Addr → ℕ → View → View → Type 0
LogsWritten a written old new = (new.placings ≡ old.placings) ⊎ ((u : ℕ) × (words : List ℕ) × (a ≡ state u) × (new.placings ≡ placing u written words ∷ old.placings))

-- What every step leaves, whatever its kind: the pass has as many parts as before, and has seen one step more, the word with the
-- number that was found there.
abbrev pub SteppedAt : Addr → ℕ → View → View → Type 0
SteppedAt a found old new = (new.parts ≡ old.parts) × (new.seen ≡ (a, found) ∷ old.seen)

-- besides, what it placed it has written
abbrev pub Stepped : Addr → ℕ → ℕ → View → View → Type 0
Stepped a found written old new = (new.parts ≡ old.parts) × (new.seen ≡ (a, found) ∷ old.seen) × LogsWritten a written old new

-- what a step at this word tells of a seat that holds no slot
abbrev pub Tells : Addr → (ℕ → View → Type 0) → Me (Unit {0}) View → ℕ → Me (Unit {0}) View → Type 0
Tells a told old found new = told found new.0 × SteppedAt a found old.0 new.0 × (new.1 ≡ old.1)

-- the same of a store, which tells the number written and not the one found
abbrev pub TellsStored : Addr → (ℕ → View → Type 0) → Me (Unit {0}) View → ℕ → Me (Unit {0}) View → Type 0
TellsStored a told old written new = told written new.0 × ((found : ℕ) × Stepped a found written old.0 new.0) × (new.1 ≡ old.1)
