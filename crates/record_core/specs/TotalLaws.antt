-- Laws of the sum over a list.
use Rattle.std.specs.Prelude.{◌≡◌, ◌≢◌, ℕ, ◌+◌, ◌*◌, ◌≤◌, Some, List, [], ◌∷◌, ◌++◌, length, map, sum_by, slice_get, slice_set}
use Rattle.std.specs.List.{remove}
use Rattle.std.specs.Option.{option_map_or}
use Rattle.record_core.specs.Sums.{total, below, without}

-- the sum is that of the library, which goes from the left
abbrev pub TotalIsSum : Type 0 → Type 0
TotalIsSum X = (f : X → ℕ) (xs : List X) → total f xs ≡ sum_by f xs

-- one member changes
abbrev pub TotalSet : Type 0 → Type 0
TotalSet X = (f : X → ℕ) (xs : List X) (place : ℕ) (old new : X) → slice_get xs place ≡ Some old
    → total f (slice_set xs place new) + f old ≡ total f xs + f new

-- two members change
abbrev pub TotalSetTwo : Type 0 → Type 0
TotalSetTwo X = (f : X → ℕ) (xs : List X) (place place' : ℕ) (old new old' new' : X) → place ≢ place'
    → slice_get xs place ≡ Some old → slice_get xs place' ≡ Some old'
    → total f (slice_set (slice_set xs place new) place' new') + f old + f old' ≡ total f xs + f new + f new'

-- one is added at the end, and a whole list is
abbrev pub TotalSnoc : Type 0 → Type 0
TotalSnoc X = (f : X → ℕ) (xs : List X) (x : X) → total f (xs ++ x ∷ []) ≡ total f xs + f x

abbrev pub TotalAppend : Type 0 → Type 0
TotalAppend X = (f : X → ℕ) (xs ys : List X) → total f (xs ++ ys) ≡ total f xs + total f ys

-- the members are those of another list under a function
abbrev pub TotalMap : Type 0 → Type 0 → Type 0
TotalMap X Y = (f : Y → ℕ) (g : X → Y) (xs : List X) → total f (map g xs) ≡ total (λ x. f (g x)) xs

-- one member is dropped; the list is then what the library's `remove` leaves
abbrev pub TotalWithout : Type 0 → Type 0
TotalWithout X = (f : X → ℕ) (xs : List X) (place : ℕ) (old : X) → slice_get xs place ≡ Some old
    → total f (without xs place) + f old ≡ total f xs

abbrev pub WithoutRemoves : Type 0 → Type 0
WithoutRemoves X = (xs : List X) (place : ℕ) → without xs place ≡ remove xs place

-- what is true of each member is true of the sum
abbrev pub TotalLe : Type 0 → Type 0
TotalLe X = (f g : X → ℕ) (xs : List X) → ((place : ℕ) (x : X) → slice_get xs place ≡ Some x → f x ≤ g x) → total f xs ≤ total g xs

abbrev pub TotalSame : Type 0 → Type 0
TotalSame X = (f g : X → ℕ) (xs : List X) → ((place : ℕ) (x : X) → slice_get xs place ≡ Some x → f x ≡ g x) → total f xs ≡ total g xs

abbrev pub TotalBounded : Type 0 → Type 0
TotalBounded X = (f : X → ℕ) (bound : ℕ) (xs : List X) → ((place : ℕ) (x : X) → slice_get xs place ≡ Some x → f x ≤ bound) → total f xs ≤ bound * length xs

-- each member is at most the sum, and any two members together are
abbrev pub TotalMember : Type 0 → Type 0
TotalMember X = (f : X → ℕ) (xs : List X) (place : ℕ) (x : X) → slice_get xs place ≡ Some x → f x ≤ total f xs

abbrev pub TotalTwoMembers : Type 0 → Type 0
TotalTwoMembers X = (f : X → ℕ) (xs : List X) (place place' : ℕ) (x x' : X) → place ≢ place'
    → slice_get xs place ≡ Some x → slice_get xs place' ≡ Some x' → f x + f x' ≤ total f xs

-- the sum over the places of the list
abbrev pub TotalByPlace : Type 0 → Type 0
TotalByPlace X = (f : X → ℕ) (xs : List X) → total f xs ≡ below (λ place. option_map_or f (slice_get xs place) 0) (length xs)

-- the sum of sums
abbrev pub TotalPlus : Type 0 → Type 0
TotalPlus X = (f g : X → ℕ) (xs : List X) → total (λ x. f x + g x) xs ≡ total f xs + total g xs

-- rows and columns of a table have one sum
abbrev pub TotalOfBelow : Type 0 → Type 0
TotalOfBelow X = (f : X → ℕ → ℕ) (xs : List X) (n : ℕ) → total (λ x. below (f x) n) xs ≡ below (λ k. total (λ x. f x k) xs) n
