-- The names of a well formed program are short.
use Rattle.std.proofs.Common.{◌≡◌, ℕ, ◌<◌, ◌≤◌, true, not, ◌&&◌, nat_le, List, length, get_or, Some, slice_get, refl, subst}
use Rattle.std.proofs.lemmas.Option.{slice_get_read}
use Rattle.std.specs.List.{list_all}
use Rattle.std.proofs.lemmas.Bool.{leb-true}
use Rattle.task_syntax.specs.Names.{is_name, begins_with_letter, is_name_byte, is_reserved}
use Rattle.task_syntax.specs.Form.{IsWellFormed}
use Rattle.task_syntax.proofs.Bools.{both}
use Rattle.task_syntax.specs.declared.program.Kind.{Kind}
use Rattle.task_syntax.specs.declared.program.Root.{Root}
use Rattle.task_syntax.specs.declared.program.Program.{Program}

-- a name is at most 24 bytes
name_short : (word : List ℕ) → is_name word ≡ true → length word ≤ 24
name_short word h = let a = both (begins_with_letter word && list_all is_name_byte word && nat_le (length word) 24) (not (is_reserved word)) h in
    let b = both (begins_with_letter word && list_all is_name_byte word) (nat_le (length word) 24) a.0 in
    leb-true (length word) 24 b.1

-- the name of a root
pub root_short : (p : Program) → IsWellFormed p → (at : ℕ) (root : Root) → slice_get p.roots at ≡ Some root → length root.name ≤ 24
root_short p formed at root is = name_short root.name (formed.roots at root is).name

-- the name of a kind
pub kind_short : (p : Program) → IsWellFormed p → (at : ℕ) (kind : Kind) → slice_get p.kinds at ≡ Some kind → length kind.name ≤ 24
kind_short p formed at kind is = name_short kind.name (formed.kinds at kind is).name

-- a kind has at most 255 variables
pub variables_fit : (p : Program) → IsWellFormed p → (at : ℕ) (kind : Kind) → slice_get p.kinds at ≡ Some kind → length kind.variables ≤ 255
variables_fit p formed at kind is = (formed.kinds at kind is).variables_fit

-- the item that a loop reads stands at its place
pub item_there : {X : Type 0} (slice items : List X) (at : ℕ) (item : X) → slice ≡ items → at < length slice → item ≡ get_or slice at item → slice_get items at ≡ Some item
item_there slice items at item same within is = subst (λ xs. slice_get xs at ≡ Some item) same (slice_get_read slice (length slice) at item refl within is)
