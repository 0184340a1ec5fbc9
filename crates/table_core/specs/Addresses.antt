-- The words of the table by what they are, and where each of them lies.
use Rattle.std.specs.Prelude.{ℕ, zero, suc, ◌+◌, ◌*◌, ◌/◌, List, [], ◌∷◌, Bool, cond, ◌==◌, ◌&&◌, nat_lt, slice_index}
use Rattle.kt_words.specs.declared.plan.Plan.{Plan}

pub data Addr : Type 0 where
  -- of a superblock: its word, and each 64 of its bits
  super : ℕ → Addr
  bits : ℕ → ℕ → Addr
  -- of a unit: the header of a record there
  state : ℕ → Addr
  refs : ℕ → Addr
  head : ℕ → Addr
  next : ℕ → Addr
  task : ℕ → Addr
  outcome : ℕ → Addr
  -- one of 8 words for each unit, all units side by side
  arena : ℕ → Addr
  root : ℕ → Addr
  -- of a number: 0 its task, 1 its predecessor's task, 2 its start, 3 the finish of its task, 4 the cause
  journal : ℕ → ℕ → Addr
  evidence : ℕ → Addr
  -- 0 drawn, 1 live, 2 stamp, 3 nulls, 4 spill, 5 the class of the evidence
  sum : ℕ → Addr

abbrev pub units_of : Plan → ℕ
units_of g = g.geometry.superblocks * g.geometry.units

-- the words lie kind after kind
abbrev pub kind : Addr → ℕ
kind (super i) = 0
kind (bits i j) = 1
kind (state u) = 2
kind (refs u) = 3
kind (head u) = 4
kind (next u) = 5
kind (task u) = 6
kind (outcome u) = 7
kind (arena k) = 8
kind (root r) = 9
kind (journal n j) = 10
kind (evidence i) = 11
kind (sum k) = 12

-- the row of its kind in which a word stands, and its column
abbrev pub major : Addr → ℕ
major (super i) = i
major (bits i j) = i
major (state u) = u
major (refs u) = u
major (head u) = u
major (next u) = u
major (task u) = u
major (outcome u) = u
major (arena k) = k
major (root r) = r
major (journal n j) = n
major (evidence i) = i
major (sum k) = k

abbrev pub minor : Addr → ℕ
minor (super i) = 0
minor (bits i j) = j
minor (state u) = 0
minor (refs u) = 0
minor (head u) = 0
minor (next u) = 0
minor (task u) = 0
minor (outcome u) = 0
minor (arena k) = 0
minor (root r) = 0
minor (journal n j) = j
minor (evidence i) = 0
minor (sum k) = 0

-- the words that hold the bits of a superblock, at least one
abbrev pub bit_words : Plan → ℕ
bit_words g = (g.geometry.units + 63) / 64

-- How many rows each kind has, and of how many words. The words of superblocks and the totals are 64 bytes apart, so that no
-- two share a line of a cache. Numbers are counted from 1: row 0 of the journal is in no use.
abbrev pub rows : Plan → List ℕ
rows g = g.geometry.superblocks ∷ g.geometry.superblocks ∷ units_of g ∷ units_of g ∷ units_of g ∷ units_of g ∷ units_of g ∷ units_of g
    ∷ (8 * units_of g) ∷ 16 ∷ (g.limit + 1) ∷ g.geometry.superblocks ∷ 6 ∷ []

abbrev pub widths : Plan → List ℕ
widths g = 8 ∷ bit_words g ∷ 1 ∷ 1 ∷ 1 ∷ 1 ∷ 1 ∷ 1 ∷ 1 ∷ 1 ∷ 5 ∷ 1 ∷ 8 ∷ []

-- where the rows of a kind begin
abbrev pub start : List ℕ → List ℕ → ℕ → ℕ
start [] ws k = 0
start (r ∷ rs) [] k = 0
start (r ∷ rs) (w ∷ ws) zero = 0
start (r ∷ rs) (w ∷ ws) (suc k) = r * w + start rs ws k

abbrev pub address : Plan → Addr → ℕ
address g a = start (rows g) (widths g) (kind a) + (slice_index (widths g) (kind a) * major a + minor a)

-- the number of words of a table
abbrev pub words_of : Plan → ℕ
words_of g = start (rows g) (widths g) 13

-- the table has this word
abbrev pub is_there : Plan → Addr → Bool
is_there g a = nat_lt (major a) (slice_index (rows g) (kind a)) && nat_lt (minor a) (slice_index (widths g) (kind a))

abbrev pub is_same : Addr → Addr → Bool
is_same a b = (kind a == kind b) && ((minor a == minor b) && (major a == major b))

-- the words of a table, by what they are
abbrev pub Mem : Type 0
Mem = Addr → ℕ

-- the same of the words as they lie; a word that the table has not is 0
abbrev pub mem_of : Plan → List ℕ → Mem
mem_of g ws a = cond (is_there g a) (slice_index ws (address g a)) 0

-- one word is written
abbrev pub put : Mem → Addr → ℕ → Mem
put m a n b = cond (is_same a b) n (m b)

-- word j of the frame of the record at u
abbrev pub frame : ℕ → ℕ → Addr
frame u j = arena (8 * u + j)

abbrev pub frame_in : Mem → ℕ → ℕ → ℕ
frame_in m u j = m (frame u j)
