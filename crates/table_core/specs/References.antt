-- Who refers to a record, what its reference word is, and that each frame fits into its record's block.
use Rattle.std.specs.Prelude.{◌≡◌, ℕ, ◌+◌, ◌*◌, ◌<◌, ◌≤◌, List, Bool, true, false, cond, ◌==◌, ◌&&◌, nat_le, slice_index}
use Rattle.record_core.specs.Sums.{total, below}
use Rattle.record_core.specs.Counting.{one_if, times}
use Rattle.kt_words.specs.declared.plan.Plan.{Plan}
use Rattle.kt_words.specs.StateWords.{phase_of}
use Rattle.kt_words.specs.SuperWords.{class_of}
use Rattle.kt_words.specs.Capacity.{block_units}
use Rattle.task_syntax.specs.declared.program.Program.{Program}
use Rattle.frame_code.specs.Names.{named}
use Rattle.frame_code.specs.Frames.{frame_length}
use Rattle.table_core.specs.Addresses.{units_of}
use Rattle.table_core.specs.Pool.{superblock_of}
use Rattle.table_core.specs.Lists.{Each}
use Rattle.table_core.specs.Holdings.{Run}

-- a record that waits or is ready: its frame is saved in its block
abbrev pub is_saved : ℕ → Bool
is_saved word = nat_le 2 (phase_of word) && nat_le (phase_of word) 3

-- one that waits, is ready or runs
abbrev pub is_live : ℕ → Bool
is_live word = nat_le 2 (phase_of word) && nat_le (phase_of word) 4

-- one that may be referred to: it waits, is ready, runs or is done
abbrev pub is_record : ℕ → Bool
is_record word = nat_le 2 (phase_of word) && nat_le (phase_of word) 5

-- The references of a pass, by unit: those in its hand, the scheduler's own ones of its done records, and the records of which
-- it gave up the last.
pub record Bag : Type 0 where
  pub futures : List ℕ
  pub done : List ℕ
  pub retiring : List ℕ

module _ (p : Program) (states counts roots : ℕ → ℕ) (frames : ℕ → ℕ → ℕ) where
  -- how often the saved frame of record r names the record u
  abbrev pub saved_in : ℕ → ℕ → ℕ
  saved_in u r = cond (is_saved (states r)) (times u (named p (frames r))) 0

  -- how many root words say that the root has the record u
  abbrev pub roots_at : ℕ → ℕ
  roots_at u = below (λ r. one_if (roots r == u + 1)) 16

  -- how many root words, words of saved frames and references in hands name the record u
  abbrev pub places_in : Plan → List Bag → ℕ → ℕ
  places_in g bags u = roots_at u + below (saved_in u) (units_of g) + total (λ b. times u b.futures) bags

  -- the scheduler's own reference, which it has until it gives the record up
  abbrev pub own_in : List Bag → ℕ → ℕ
  own_in bags u = one_if (is_live (states u)) + total (λ b. times u b.done) bags

  pub record IsReferred (g : Plan) (bags : List Bag) : Type 0 where
    -- the reference word is the number of the places that name the record, and the scheduler's own reference
    pub counted : (u : ℕ) → u < units_of g → is_record (states u) ≡ true → counts u ≡ places_in g bags u + own_in bags u
    -- what is no such record is named nowhere
    pub unnamed : (u : ℕ) → u < units_of g → is_record (states u) ≡ false → places_in g bags u + own_in bags u ≡ 0
    -- a record without a reference is in one hand, which is to retire it; no other is
    pub last : (u : ℕ) → u < units_of g → total (λ b. times u b.retiring) bags ≡ cond (is_record (states u)) (one_if (counts u == 0)) 0
    -- nothing outside the table is named, but by a root word, of which the part on roots says that
    pub inside : (u : ℕ) → units_of g ≤ u → below (saved_in u) (units_of g) + total (λ b. times u b.futures) bags + own_in bags u + total (λ b. times u b.retiring) bags ≡ 0

-- a saved frame lies inside its record's block, and the frame of a running record fits into it
pub record FramesFit (p : Program) (g : Plan) (states supers : ℕ → ℕ) (frames : ℕ → ℕ → ℕ) (vs : List (List Run)) : Type 0 where
  pub saved : (u : ℕ) → u < units_of g → is_saved (states u) ≡ true → frame_length p (frames u 0) ≤ 8 * block_units (class_of (supers (superblock_of g u)))
  pub running : Each (Each (λ (r : Run). frame_length p (slice_index r.words 0) ≤ 8 * block_units r.class)) vs
