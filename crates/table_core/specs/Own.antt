-- In whose hand a record is, and what a pass knows of the words of its own records.
use Rattle.std.specs.Prelude.{◌≡◌, ℕ, ◌+◌, ◌*◌, ◌≤◌, List, [], ◌∷◌, Bool, true, false, cond, ◌==◌, ◌&&◌, ◌||◌, nat_le, nat_lt, Option, Some, None}
use Rattle.record_core.specs.Sums.{total}
use Rattle.record_core.specs.Counting.{one_if}
use Rattle.kt_words.specs.declared.plan.Plan.{Plan}
use Rattle.kt_words.specs.Capacity.{block_units}
use Rattle.kt_words.specs.SuperWords.{class_of}
use Rattle.kt_words.specs.StateWords.{phase_of, number_of}
use Rattle.table_core.specs.Addresses.{Addr, Mem, super, state, refs, head, next, task, outcome, arena, root, bits, journal, evidence, sum, is_same, units_of}
use Rattle.table_core.specs.Pool.{superblock_of}
use Rattle.table_core.specs.Lists.{Each}
use Rattle.table_core.specs.Holdings.{Made, Run, Done}

-- a pass's own records, and what it knows of their words
pub record Hands : Type 0 where
  pub made : List Made
  pub runs : List Run
  pub done : List Done
  pub known : List (Addr × ℕ)

abbrev pub made_at : ℕ → List Made → ℕ
made_at u = total (λ r. one_if (r.unit == u))

abbrev pub runs_at : ℕ → List Run → ℕ
runs_at u = total (λ r. one_if (r.unit == u))

abbrev pub done_at : ℕ → List Done → ℕ
done_at u = total (λ d. one_if (d.unit == u))

-- what is known of a word: the newest that is there
abbrev pub known_in : Addr → List (Addr × ℕ) → Option ℕ
known_in a [] = None
known_in a (x ∷ xs) = cond (is_same x.0 a) (Some x.1) (known_in a xs)

-- word k of the arena is one of the block at u with so many units
abbrev pub is_inside : ℕ → ℕ → ℕ → Bool
is_inside u units k = nat_le (8 * u) k && nat_lt k (8 * (u + units))

-- the word is of the record at u, whose block has so many units
abbrev pub is_word_of : ℕ → ℕ → Addr → Bool
is_word_of u units (super i) = false
is_word_of u units (bits i j) = false
is_word_of u units (state w) = w == u
is_word_of u units (refs w) = w == u
is_word_of u units (head w) = w == u
is_word_of u units (next w) = w == u
is_word_of u units (task w) = w == u
is_word_of u units (outcome w) = w == u
is_word_of u units (arena k) = is_inside u units k
is_word_of u units (root r) = false
is_word_of u units (journal n j) = false
is_word_of u units (evidence i) = false
is_word_of u units (sum k) = false

-- the word is of its frame, or its result
abbrev pub is_result_of : ℕ → ℕ → Addr → Bool
is_result_of u units (outcome w) = w == u
is_result_of u units (arena k) = is_inside u units k
is_result_of u units a = false

abbrev pub any : {A : Type 0} → (A → Bool) → List A → Bool
any p [] = false
any p (x ∷ xs) = p x || any p xs

-- A pass's own words: all words of its records that are made, and the frames and results of those that run. No other pass
-- writes them.
abbrev pub is_own : List Made → List Run → Addr → Bool
is_own made runs a = any (λ (r : Made). is_word_of r.unit (block_units r.class) a) made || any (λ (r : Run). is_result_of r.unit (block_units r.class) a) runs

-- a word of a record, by the words of its kind; another word is no record's
abbrev pub word_in : (states counts heads nexts tasks results arenas : ℕ → ℕ) → Addr → ℕ
word_in states counts heads nexts tasks results arenas (super i) = 0
word_in states counts heads nexts tasks results arenas (bits i j) = 0
word_in states counts heads nexts tasks results arenas (state u) = states u
word_in states counts heads nexts tasks results arenas (refs u) = counts u
word_in states counts heads nexts tasks results arenas (head u) = heads u
word_in states counts heads nexts tasks results arenas (next u) = nexts u
word_in states counts heads nexts tasks results arenas (task u) = tasks u
word_in states counts heads nexts tasks results arenas (outcome u) = results u
word_in states counts heads nexts tasks results arenas (arena k) = arenas k
word_in states counts heads nexts tasks results arenas (root r) = 0
word_in states counts heads nexts tasks results arenas (journal n j) = 0
word_in states counts heads nexts tasks results arenas (evidence i) = 0
word_in states counts heads nexts tasks results arenas (sum k) = 0

abbrev pub record_words : Mem → Addr → ℕ
record_words m = word_in (λ u. m (state u)) (λ u. m (refs u)) (λ u. m (head u)) (λ u. m (next u)) (λ u. m (task u)) (λ u. m (outcome u)) (λ k. m (arena k))

-- 1 where the record at u, a unit of the table, is in this phase
abbrev pub is_in : Plan → (ℕ → ℕ) → ℕ → ℕ → ℕ
is_in g states phase u = cond (nat_lt u (units_of g)) (one_if (phase_of (states u) == phase)) 0

pub record OwnSound (g : Plan) (supers states : ℕ → ℕ) (words : Addr → ℕ) (vs : List Hands) : Type 0 where
  -- a record that is made or runs is in one hand, one that is done at most; hands have no others
  pub made : (u : ℕ) → total (λ h. made_at u h.made) vs ≡ is_in g states 1 u
  pub running : (u : ℕ) → total (λ h. runs_at u h.runs) vs ≡ is_in g states 4 u
  pub done : (u : ℕ) → total (λ h. done_at u h.done) vs ≤ is_in g states 5 u
  -- the class and the number that a hand keeps are those of the words
  pub classes : Each (λ h. Each (λ (r : Made). r.class ≡ class_of (supers (superblock_of g r.unit))) h.made) vs
  pub run_classes : Each (λ h. Each (λ (r : Run). r.class ≡ class_of (supers (superblock_of g r.unit))) h.runs) vs
  pub numbers : Each (λ h. Each (λ (r : Run). r.number ≡ number_of (states r.unit)) h.runs) vs
  -- what a pass knows of a word is so, and the word is its own
  pub known : Each (λ h. (a : Addr) (n : ℕ) → known_in a h.known ≡ Some n → (words a ≡ n) × (is_own h.made h.runs a ≡ true)) vs
