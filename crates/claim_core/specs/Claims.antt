-- What a bitset that reserves by count is seen as, and the words in which its contracts speak.
use Rattle.std.specs.Prelude.{◌≡◌, ℕ, ◌<◌, ◌≤◌, Bool, true, false, Some, List, slice_get, count_by}

-- how many bits are reserved, and each bit in its order, true where it is set
pub record Claims : Type 0 where
  pub count : ℕ
  pub set : List Bool

-- how many bits are set
abbrev pub set_count : List Bool → ℕ
set_count set = count_by (λ bit. bit) set

abbrev pub IsSet : List Bool → ℕ → Type 0
IsSet set bit = slice_get set bit ≡ Some true

abbrev pub IsClear : List Bool → ℕ → Type 0
IsClear set bit = slice_get set bit ≡ Some false

-- this bit is clear, and each bit below it is set
pub record IsLowestClear (set : List Bool) (bit : ℕ) : Type 0 where
  pub clear : IsClear set bit
  pub below : (other : ℕ) → other < bit → IsSet set other

-- at most 512 bits, no more reserved than there are bits, and no more set than are reserved
pub record IsWithin (bits : ℕ) (claims : Claims) : Type 0 where
  pub few : bits ≤ 512
  pub most : claims.count ≤ bits
  pub least : set_count claims.set ≤ claims.count
