-- What a pass keeps in words of its own of the looks that it made.
use Rattle.std.specs.Prelude.{◌≡◌, ◌≢◌, ℕ, ◌-◌, List, [], ◌∷◌, Option, Some, None, cond, ◌==◌, length, take, slice_index}
use Rattle.table_core.specs.Holdings.{Look}
use Rattle.table_core.specs.declared.view.View.{View}
use Rattle.step_table.specs.declared.last_looks.LastLook.{LastLook}
use Rattle.step_table.specs.declared.last_looks.LastLooks.{LastLooks}

-- of looks, the newest first, those made since the last null answer: so many of the oldest are older
abbrev pub recent : ℕ → List Look → List Look
recent old looks = take (length looks - old) looks

-- the newest of these looks at superblock i
abbrev pub newest : ℕ → List Look → Option Look
newest i [] = None
newest i (l ∷ looks) = cond (l.superblock == i) (Some l) (newest i looks)

-- what is kept of superblock i is this look
abbrev pub Keeps : LastLooks → ℕ → Look → Type 0
Keeps last i l = (slice_index last.words i ≡ l.word) × (slice_index last.classes i ≡ l.class)

-- of each superblock the newest of the recent looks is kept
abbrev pub KeepsNewest : LastLooks → ℕ → List Look → Type 0
KeepsNewest last old looks = (i : ℕ) (l : Look) → newest i (recent old looks) ≡ Some l → Keeps last i l

-- where the pass looked at superblock i since its last null answer, this is its newest look there
abbrev pub IsNewest : ℕ → View → LastLook → Type 0
IsNewest i v told = (l : Look) → newest i (recent v.old_looks v.looks) ≡ Some l → (told.word ≡ l.word) × (told.class ≡ l.class)

-- the look at superblock i is kept in place of the one before it, and the others stay
pub record Replaces (i word class : ℕ) (old new : LastLooks) : Type 0 where
  pub word_is : slice_index new.words i ≡ word
  pub class_is : slice_index new.classes i ≡ class
  pub others : (j : ℕ) → j ≢ i → (slice_index new.words j ≡ slice_index old.words j) × (slice_index new.classes j ≡ slice_index old.classes j)
