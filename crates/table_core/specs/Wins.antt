-- How often places were reserved and settled, by whom, and what that says of a word that was seen.
use Rattle.std.specs.Prelude.{◌≡◌, ℕ, ◌+◌, ◌<◌, ◌≤◌, min, List, cond, ◌==◌}
use Rattle.record_core.specs.Sums.{total, below}
use Rattle.kt_words.specs.declared.plan.Plan.{Plan}
use Rattle.record_core.specs.Counting.{one_if}
use Rattle.kt_words.specs.SuperWords.{count_of, class_of, ever_of, most_ever}
use Rattle.table_core.specs.Lists.{Each, hit}
use Rattle.table_core.specs.Holdings.{Place, Look}

-- what a pass reserved and what it settled
pub record Won : Type 0 where
  pub wins : List Place
  pub settles : List Place

-- how many of these are of this superblock and class
abbrev pub at_place : ℕ → ℕ → List Place → ℕ
at_place i c = total (λ r. hit r.superblock r.class i c)

-- how many are of this superblock, of any class
abbrev pub at_superblock : ℕ → List Place → ℕ
at_superblock i = total (λ r. one_if (r.superblock == i))

pub record WinsSound (g : Plan) (supers : ℕ → ℕ) (vs : List Won) : Type 0 where
  -- all wins less all settles are the count of a superblock, under its class, and nothing under another
  pub counts : (i c : ℕ) → i < g.geometry.superblocks
      → total (λ v. at_place i c v.wins) vs ≡ cond (class_of (supers i) == c) (count_of (supers i)) 0 + total (λ v. at_place i c v.settles) vs
  -- the reservations ever made of it are all wins there, as far as its word can count
  pub ever : (i : ℕ) → i < g.geometry.superblocks → ever_of (supers i) ≡ min (total (λ v. at_superblock i v.wins) vs) most_ever

-- what a pass reserved, and its looks
pub record Looked : Type 0 where
  pub wins : List Place
  pub looks : List Look

-- A look of a pass with these wins of its own. The count that it saw is at most what the pass itself had then, which is its wins
-- less its settles of that time, and what the others reserved since the start.
pub record IsLook (g : Plan) (supers : ℕ → ℕ) (vs : List Looked) (own : List Place) (l : Look) : Type 0 where
  pub near : l.superblock < g.geometry.superblocks
  pub class_fits : class_of l.word ≤ 3
  pub count : count_of l.word + l.settles + at_place l.superblock (class_of l.word) own
      ≤ l.wins + total (λ v. at_place l.superblock (class_of l.word) v.wins) vs
  -- the reservations ever made do not get fewer
  pub ever : ever_of l.word ≤ ever_of (supers l.superblock)
  pub count_ever : count_of l.word ≤ ever_of l.word

abbrev pub LooksSound : Plan → (ℕ → ℕ) → List Looked → Type 0
LooksSound g supers vs = Each (λ v. Each (IsLook g supers vs v.wins) v.looks) vs

-- all reservations ever made are at most the accepted tasks and what hands still have without a number or cleared so
abbrev pub EversSound : Plan → (ℕ → ℕ) → ℕ → List ℕ → Type 0
EversSound g supers tasks vs = below (λ i. ever_of (supers i)) g.geometry.superblocks ≤ tasks + total (λ n. n) vs
